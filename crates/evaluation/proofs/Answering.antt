-- The answers of an evaluation, case by case: what the tests and the book's reading make of `judged` and `left`. Assumes nothing.
use Prim.Native.Nat.{ℕ}
use native.Mathlib.Omega.{arith}
use mathlib.Core.Path.{◌≡◌, refl, sym}
use mathlib.Core.Bool.{Bool, true, false, cond}
use mathlib.Core.List.{List}
use lib.ListN.{length}
use Rattle.std.specs.Prelude.{Result, Ok, Err, IsErrAnd}
use Rattle.ground.specs.Buffer.{cleared}
use Rattle.logic.specs.Finite.{evaluate}
use Rattle.book.specs.Rulebook.{refused, book, table_of}
use Rattle.book.specs.Told as reading
use Rattle.book.specs.declared.Header.{Header}
use Rattle.book.specs.declared.refusal.Refusal as book
use Rattle.book.specs.declared.refusal.Refusal.TheVariants.{Short, Ranges, Extent, Node}
use Rattle.book.specs.declared.refusal.NoAnswer.{NoAnswer}
use Rattle.book.specs.declared.refusal.NoAnswer.TheVariants.{Lent, Refused}
use Rattle.records.proofs.Tables.{length-numbers_of}
use Rattle.structure.specs.Evaluation.{judgement, told, work_size, on_structure, after_book, all_fit, judged, left, Evaluated}
use Rattle.structure.specs.Held.{numbers, lies_in}
use Rattle.structure.specs.declared.Structure.{Structure}
use Rattle.structure.proofs.Sizes.{all_in}
use Rattle.evaluation.specs.Nodes.{fits, Room}

told-holds : (b : Bool) → told (Ok b) ≡ cond b (judgement 1 0) (judgement 2 0)
unfolding told
told-holds true = refl
told-holds false = refl

module _ (bs : List ℕ) (s : Structure) (work : List ℕ) where
  abbrev Answers : List ℕ → Result Bool NoAnswer → Type 0
  Answers = Evaluated bs (numbers s) s.states_count s.words.now s.variables_count s.values.now work

  -- 10
  pub answers_lent : false ≡ fits s (length work) → Answers work (Err Lent)
  unfolding judged left told all_fit
  answers_lent e = record { tells = rw (← e); leaves = rw (← e) }

  module _ (fit : true ≡ fits s (length work)) where
    -- 11 to 14
    refuses : (e : book.Refusal) (k i : ℕ) → told (Err (Refused e)) ≡ judgement k i → book bs ≡ refused k i → Answers work (Err (Refused e))
    unfolding judged left on_structure after_book all_fit
    refuses e k i t q = record { tells = rw (← fit, q) t; leaves = rw (← fit, q) }

    handed_on : (e : book.Refusal) → reading.told bs (Err e) ≡ book bs → Answers work (Err (Refused e))
    unfolding reading.told told
    handed_on Short q = refuses Short 11 0 refl (sym q)
    handed_on Ranges q = refuses Ranges 12 0 refl (sym q)
    handed_on Extent q = refuses Extent 13 0 refl (sym q)
    handed_on (Node i) q = refuses (Node i) 14 i refl (sym q)

    pub answers_refused : (e : book.Refusal) → reading.told bs (Err e) ≡ book bs → (r : Result Bool NoAnswer) → IsErrAnd r (λ n. n ≡ Refused e) → Answers work r
    answers_refused e q (Ok b) h = absurd h
    answers_refused e q (Err n) h = rw h (handed_on e q)

    pub room : Room s work
    unfolding all_fit
    room =
        let p = all_in bs (numbers s) s.states_count s.words.now s.variables_count s.values.now work (sym fit) in
        record { first = p.0; few = p.1; records = omega (arith, p.2, length-numbers_of s.states.now); words = p.3; rows = p.4 }

    -- 1 and 2
    pub answers_holds : (h : Header) → reading.told bs (Ok h) ≡ book bs → (holds : Bool) (work' : List ℕ)
        → (holds ≡ evaluate (lies_in s) (table_of bs) h.root 1) × (work' ≡ cleared 0 work_size work) → Answers work' (Ok holds)
    unfolding judged left on_structure after_book all_fit reading.told
    answers_holds h q holds work' r = record { tells = rw (← fit, ← q, ← r.0) (told-holds holds); leaves = rw (← fit, ← q) r.1 }
