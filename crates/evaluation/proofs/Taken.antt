-- A table of numbers is judged by its first 512 whole records: of a shorter one they are all its records, and 10 is given alike; of a longer one an
-- evaluation reads no more. Assumes nothing.
use Prim.Native.Nat.{ℕ, zero, suc, min, ◌*◌, ◌/◌, ◌≤◌, ◌<◌}
use native.Mathlib.Omega.{arith}
use native.Mathlib.Decide.{dec_lt}
use mathlib.Core.Path.{◌≡◌, refl, sym, ap, ◌∙◌}
use mathlib.Core.Bool.{Bool, true, false}
use mathlib.Core.List.{List, [], ◌∷◌}
use borrow.Author.Tests.{lt-leb, le-leb}
use lib.Dec.{leb}
use lib.ListN.{length, take}
use lib.Seq.{length-take-le}
use Rattle.std.specs.Prelude.{Result}
use Rattle.ground.specs.Buffer.{filled}
use Rattle.book.specs.declared.refusal.NoAnswer.{NoAnswer}
use Rattle.encoding.specs.Build.{Record}
use Rattle.encoding.specs.Limits.{max_states}
use Rattle.records.specs.declared.State.{State}
use Rattle.records.specs.Table.{zero_state, rows, numbers_of}
use Rattle.records.proofs.Tables.{numbers_of_first}
use Rattle.structure.specs.Evaluation.{records_in, states_fit, all_fit, judged, left, Evaluated}
use Rattle.structure.proofs.Sizes.{all_in}

next-record : (n : ℕ) → 3 * suc n ≡ suc (suc (suc (3 * n)))
next-record n = omega arith

pub records_taken : (n m : ℕ) (st : List ℕ) → n ≤ m → records_in n (take (3 * m) st) ≡ records_in n st
unfolding records_in
records_taken zero m st h = refl
records_taken (suc n) zero st h = absurd (omega arith)
records_taken (suc n) (suc m) [] h = rw (next-record m) refl
records_taken (suc n) (suc m) (p ∷ []) h = rw (next-record m) refl
records_taken (suc n) (suc m) (p ∷ r ∷ []) h = rw (next-record m) refl
records_taken (suc n) (suc m) (p ∷ r ∷ k ∷ st) h = rw (next-record m) (ap (λ (l : List Record). record { parent = p; relation = r; maker = k } ∷ l) (records_taken n m st (omega arith)))

module _ (st : List ℕ) (m : ℕ) (most : m ≡ min (length st / 3) max_states) where
  pub length_taken : length (take (3 * m) st) ≡ 3 * m
  length_taken = length-take-le (3 * m) st (omega arith)

  -- the size test is the same
  pub long_taken : leb (3 * max_states) (length (take (3 * m) st)) ≡ leb (3 * max_states) (length st)
  long_taken = rw length_taken (go (dec_lt (length st) (3 * max_states)))
    where
      go : Dec (length st < 3 * max_states) → leb (3 * max_states) (3 * m) ≡ leb (3 * max_states) (length st)
      go (yes p) = lt-leb (3 * max_states) (3 * m) (omega arith) ∙ sym (lt-leb (3 * max_states) (length st) p)
      go (no p) = le-leb (3 * max_states) (3 * m) (omega arith) ∙ sym (le-leb (3 * max_states) (length st) (omega arith))

  module _ (bs : List ℕ) (n : ℕ) (ws : List ℕ) (v : ℕ) (vs work : List ℕ) where
    pub fit_taken : all_fit bs (take (3 * m) st) n ws v vs work ≡ all_fit bs st n ws v vs work
    unfolding all_fit states_fit
    fit_taken = rw long_taken refl

    lies_taken : all_fit bs (take (3 * m) st) n ws v vs work ≡ true → records_in n (take (3 * m) st) ≡ records_in n st
    lies_taken e = records_taken n m st (omega (arith, (all_in bs (take (3 * m) st) n ws v vs work e).2, length_taken))

    pub judged_taken : judged bs (take (3 * m) st) n ws v vs work ≡ judged bs st n ws v vs work
    unfolding judged
    judged_taken = go (all_fit bs (take (3 * m) st) n ws v vs work) refl
      where
        go : (b : Bool) → all_fit bs (take (3 * m) st) n ws v vs work ≡ b → judged bs (take (3 * m) st) n ws v vs work ≡ judged bs st n ws v vs work
        go true e = rw (sym fit_taken ∙ e, e, lies_taken e) refl
        go false e = rw (sym fit_taken ∙ e, e) refl

    pub left_taken : left bs (take (3 * m) st) n ws v vs work ≡ left bs st n ws v vs work
    unfolding left
    left_taken = rw fit_taken refl

    evaluated : (work' : List ℕ) (r : Result Bool NoAnswer) → Evaluated bs (take (3 * m) st) n ws v vs work work' r → Evaluated bs st n ws v vs work work' r
    evaluated work' r e = record { tells = rw judged_taken at e.tells; leaves = rw left_taken at e.leaves }

    -- an evaluation over these records, published to a table
    pub taken_evaluated : (old new : List State) (work' : List ℕ) (r : Result Bool NoAnswer) → new ≡ filled zero_state m (rows st) old
        → Evaluated bs (numbers_of (take m new)) n ws v vs work work' r → Evaluated bs st n ws v vs work work' r
    taken_evaluated old new work' r f e = evaluated work' r (rw (f, numbers_of_first m st old (omega arith)) at e)
