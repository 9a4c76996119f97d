-- A table is judged by its first 512 records, as its numbers are: of a shorter one they are all its records, and 10 is given alike; of a longer one an
-- evaluation reads no more. Assumes nothing.
use Prim.Native.Nat.{ℕ, min, ◌*◌, ◌/◌, ◌≤◌}
use native.Mathlib.Omega.{arith}
use mathlib.Core.Path.{◌≡◌, sym, ap, ◌∙◌}
use mathlib.Core.Bool.{true}
use mathlib.Core.List.{List}
use lib.Dec.{leb}
use lib.ListN.{length, take}
use Rattle.encoding.specs.Limits.{max_states}
use Rattle.structure.specs.Evaluation.{records_in, all_fit, judged, left}
use Rattle.structure.proofs.Sizes.{all_in}
use Rattle.evaluation.proofs.Taken as numbers
use Rattle.records.specs.declared.State.{State}
use Rattle.records.specs.Table.{numbers_of}
use Rattle.records.proofs.Tables.{length-numbers_of, take-numbers_of}
use Rattle.host.specs.Called.{Judged}

-- how many records are read of k
pub most_read : (k : ℕ) → (min max_states k ≤ k) × (3 * min max_states k ≤ 3 * max_states)
most_read k = (omega arith, omega arith)

records_taken : (n m : ℕ) (t : List State) → n ≤ m → records_in n (numbers_of (take m t)) ≡ records_in n (numbers_of t)
records_taken n m t h = ap (records_in n) (sym (take-numbers_of m t)) ∙ numbers.records_taken n m (numbers_of t) h

module _ (t : List State) where
  abbrev m : ℕ
  m = min max_states (length t)

  most : m ≡ min (length (numbers_of t) / 3) max_states
  most = omega (arith, length-numbers_of t)

  -- the numbers of the records that are read
  first : take (3 * m) (numbers_of t) ≡ numbers_of (take m t)
  first = take-numbers_of m t

  length_taken : length (numbers_of (take m t)) ≡ 3 * m
  length_taken = ap length (sym first) ∙ numbers.length_taken (numbers_of t) m most

  -- the size test is the same
  long_taken : leb (3 * max_states) (length (numbers_of (take m t))) ≡ leb (3 * max_states) (length (numbers_of t))
  long_taken = ap (λ (st : List ℕ). leb (3 * max_states) (length st)) (sym first) ∙ numbers.long_taken (numbers_of t) m most

  module _ (bs : List ℕ) (n : ℕ) (ws : List ℕ) (v : ℕ) (vs work : List ℕ) where
    fit_taken : all_fit bs (numbers_of (take m t)) n ws v vs work ≡ all_fit bs (numbers_of t) n ws v vs work
    fit_taken = ap (λ (st : List ℕ). all_fit bs st n ws v vs work) (sym first) ∙ numbers.fit_taken (numbers_of t) m most bs n ws v vs work

    lies_taken : all_fit bs (numbers_of (take m t)) n ws v vs work ≡ true → records_in n (numbers_of (take m t)) ≡ records_in n (numbers_of t)
    lies_taken e = records_taken n m t (omega (arith, (all_in bs (numbers_of (take m t)) n ws v vs work e).2, length_taken))

    judged_taken : judged bs (numbers_of (take m t)) n ws v vs work ≡ judged bs (numbers_of t) n ws v vs work
    judged_taken = ap (λ (st : List ℕ). judged bs st n ws v vs work) (sym first) ∙ numbers.judged_taken (numbers_of t) m most bs n ws v vs work

    left_taken : left bs (numbers_of (take m t)) n ws v vs work ≡ left bs (numbers_of t) n ws v vs work
    left_taken = ap (λ (st : List ℕ). left bs st n ws v vs work) (sym first) ∙ numbers.left_taken (numbers_of t) m most bs n ws v vs work

    -- the promise, of an evaluation over the first records
    pub judges : (work' : List ℕ) (r : ℕ) → Judged bs (numbers_of (take m t)) n ws v vs work work' r → Judged bs (numbers_of t) n ws v vs work work' r
    judges work' r j = record { number = rw judged_taken at j.number; leaves = rw left_taken at j.leaves }
