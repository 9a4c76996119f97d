-- The lent buffers as one struct: what they hold, the state table read as numbers. Assumes nothing.
use Rattle.std.specs.Prelude.{◌≡◌, ◌*◌, replicate, pos}
use Rattle.records.specs.Table.{zero_state, numbers_of}
use Rattle.encoding.specs.Limits.{max_states, max_variables, max_clauses}
use Rattle.checker.specs.Checked.{max_work, Lent, lent}
use Rattle.checker.specs.declared.Lent as code
use Rattle.checker.specs.declared.Buffers as owner

abbrev pub held : code.Lent → Lent
held b = lent (numbers_of b.states.now) b.words.now b.clauses.now b.values.now b.work.now

-- the references are still those that were lent
pub record SameLoans (b b' : code.Lent) : Type 0 where
  pub states : b'.states.ghost_name ≡ b.states.ghost_name
  pub words : b'.words.ghost_name ≡ b.words.ghost_name
  pub clauses : b'.clauses.ghost_name ≡ b.clauses.ghost_name
  pub values : b'.values.ghost_name ≡ b.values.ghost_name
  pub work : b'.work.ghost_name ≡ b.work.ghost_name

-- the buffers of a caller that is lent none: what they hold, and that they are all 0 at first
abbrev pub owned : owner.Buffers → Lent
owned b = lent (numbers_of b.states) b.words b.clauses b.values b.work

abbrev pub own : Lent
own = lent (numbers_of (replicate max_states zero_state)) (replicate max_variables 0) (replicate (3 * max_clauses) (pos 0)) (replicate max_variables 0) (replicate max_work 0)
