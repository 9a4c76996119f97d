-- A draft: the words and the clauses of a build, as the code holds them together. Only the code and its proofs look here. Assumes nothing.
use Rattle.std.specs.Prelude.{ℕ, ◌≡◌, List, length}
use Rattle.records.specs.declared.State.{State}
use Rattle.records.specs.Table.{numbers_of}
use Rattle.encoding.specs.Holds.{SameLoans}
use Rattle.encoding.specs.Shows.{Buffers, buffers}
use Rattle.encoding.specs.declared.draft.Draft.{Draft}

-- the words, and the three buffers: the states beside a draft
abbrev pub words_in : Draft → List ℕ
words_in d = d.index.now.words.now

abbrev pub held : List State → Draft → Buffers
held ss d = buffers (numbers_of ss) (words_in d) d.clauses.now

-- the references are still those that were lent, and their lists are as long
abbrev pub SameDraft : Draft → Draft → Type 0
SameDraft x y = (y.index.ghost_name ≡ x.index.ghost_name) × SameLoans x.index.now y.index.now × (y.clauses.ghost_name ≡ x.clauses.ghost_name) × (length y.clauses.now ≡ length x.clauses.now)
