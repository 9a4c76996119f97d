-- What the check promises: its answer and every buffer by equality with `checked`, and beside that what the answer means, over truth in structures
-- (demands 2 and 3 of the mission). Assumes nothing.
use Rattle.std.specs.Prelude.{ℕ, ◌+◌, ◌^◌, ◌≤◌, ◌<◌, ◌≡◌, ◌↔◌, List}
use Rattle.logic.specs.Table.{Node}
use Rattle.logic.specs.Truth.{Holds}
use Rattle.logic.specs.Finite.{Finite, State, structure, Nowhere, Somewhere}
use Rattle.book.specs.Rulebook.{book, accepted}
use Rattle.book.specs.declared.Header.{Header}
use Rattle.structure.specs.Evaluation.{lies}
use Rattle.meaning.specs.Answers.{Answer, C}
use Rattle.checker.specs.Checked.{Lent, checked, told}
use Rattle.std.specs.Prelude.{Result}
use Rattle.book.specs.declared.refusal.NoAnswer.{NoAnswer}
use Rattle.checker.specs.declared.Answer as code

-- the structure that lies in the buffers after the answer a
abbrev pub found : Answer → Lent → Finite
found a o = lies a.states a.variables o.states o.words o.values

-- of an accepted book, its table `ns` and the node that is its formula, answered by 1, 2 or 3
pub record Meant (ns : List Node) (root budget : ℕ) (a : Answer) (o : Lent) : Type 0 where
  -- "A yes brings a Kripke structure whose first state makes the formula true by the published truth definition."
  pub yes_true : a.number ≡ 1 → (first : State (found a o)) × (first.0 ≡ 1) × Holds (structure (found a o)) ns root first
  -- after a no, no finite structure makes it true at any state
  pub no_nowhere : a.number ≡ 2 → Nowhere ns root
  -- "With budget B the answer is stopped exactly if C is above B."
  pub stopped : a.number ≡ 3 ↔ budget < C ns root
  -- "Otherwise the count reported is C, and the answer is yes exactly if some finite Kripke structure makes the formula true at some state, else no."
  pub count : C ns root ≤ budget → a.count ≡ C ns root
  pub yes_exactly : C ns root ≤ budget → a.number ≡ 1 ↔ Somewhere ns root
  -- "With v variables, C is at most 2^v − 1."
  pub few : C ns root + 1 ≤ 2 ^ a.variables

-- of a book's bytes, a budget and the buffers o that were lent: the answer r and the buffers o' that are left
pub record Promised (bs : List ℕ) (budget : ℕ) (o o' : Lent) (r : Result code.Answer NoAnswer) : Type 0 where
  pub answer : told r ≡ (checked bs budget o).answer
  pub lent : o' ≡ (checked bs budget o).lent
  pub means : (h : Header) (ns : List Node) → book bs ≡ accepted h ns → (told r).number ≤ 3 → Meant ns h.root budget (told r) o'
