-- What the methods of an assignment promise one another besides. Only `branching` cites this besides. Assumes nothing.
use Rattle.std.specs.Prelude.{◌≡◌, Bool, length}
use Rattle.clauses.specs.Clause.{Clause}
use Rattle.propagation.specs.Propagation.{Heard}
use Rattle.propagation.specs.declared.assignment.Assignment.{Assignment}

-- the formula is the same, and what was lent is still lent
pub record Keeps (s s' : Assignment) : Type 0 where
  pub formula : s'.formula ≡ s.formula
  pub values : s'.values.ghost_name ≡ s.values.ghost_name
  pub truth : s'.truth.ghost_name ≡ s.truth.ghost_name
  pub trail : s'.trail.ghost_name ≡ s.trail.ghost_name
  pub long : length s'.trail.now ≡ length s.trail.now

-- the clauses P were heeded
abbrev pub Heeds : (Clause → Type 0) → Assignment → Assignment → Bool → Type 0
Heeds P s s' calmly = Heard s.formula.clauses.now P s.top s.values.now s.trail.now s'.top s'.values.now s'.trail.now calmly
