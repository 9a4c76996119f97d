-- The parts of a node as its record has them. Assumes nothing.
use Rattle.std.specs.Prelude.{ℕ, ◌+◌, ◌<◌, ◌≡◌, List}
use Rattle.book.specs.Rulebook.{number16}
use Rattle.book.specs.declared.Record.{Record}

-- "A node record is four 2-byte numbers: kind, first, second, relation.": those from byte p on
pub record Parts (bs : List ℕ) (p : ℕ) (r : Record) : Type 0 where
  pub kind : (r.kind ≡ number16 bs p) × (r.kind < 65536)
  pub first : (r.first ≡ number16 bs (p + 2)) × (r.first < 65536)
  pub second : (r.second ≡ number16 bs (p + 4)) × (r.second < 65536)
  pub relation : (r.relation ≡ number16 bs (p + 6)) × (r.relation < 65536)
