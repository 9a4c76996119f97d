-- The words and the two lists as one struct. Assumes nothing.
use Rattle.std.specs.Prelude.{ℕ, ◌≡◌, length}
use Rattle.encoding.specs.Index as lists
use Rattle.encoding.specs.declared.index.Index.{Index}

-- the two lists are those of the first n words
abbrev pub Holds : ℕ → Index → Type 0
Holds n x = lists.Indexed n x.words.now x.finder.now x.own.now

-- the three references are still those that were lent, and the words are as many
pub record SameLoans (x y : Index) : Type 0 where
  pub words : y.words.ghost_name ≡ x.words.ghost_name
  pub finder : y.finder.ghost_name ≡ x.finder.ghost_name
  pub own : y.own.ghost_name ≡ x.own.ghost_name
  pub long : length y.words.now ≡ length x.words.now
