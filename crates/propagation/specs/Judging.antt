-- Document 01, "The search", as the code reads clauses: off a table of truths, by weights. What the functions inside the crate promise one another, in the
-- words of `Search`; only `branching` cites this besides. Assumes nothing.
use Rattle.std.specs.Prelude.{◌≡◌, Bool, cond, List, [], ◌∷◌, ℕ, zero, suc, ◌+◌, ◌-◌, ◌*◌, ◌≤◌, ◌<◌, length, get_or, ℤ, pos, negsuc, nat_abs, eqb, ltb}
use Rattle.clauses.specs.Clause.{Clause, three}
use Rattle.search.specs.Search.{value, met, says, Says, quiet, fails, forces}
use Rattle.propagation.specs.Ready.{Ready}
use Rattle.propagation.specs.declared.formula.Formula.{Formula}
use Rattle.propagation.specs.declared.clause.Told.{Told}
use Rattle.propagation.specs.declared.clause.Told.TheVariants.{Quiet, Fails, Forces}

-- ---- the table of truths
-- where a literal stands in it: the unused place 0 in the middle, variables up from there, their negations down
unfoldable pub slot_of : ℤ → ℕ
slot_of (pos n) = 4096 + n
slot_of (negsuc n) = 4095 - n

-- a value as the table has it: 1 unassigned, 4 true, 0 false
unfoldable pub weight : ℕ → ℕ
weight zero = 1
weight (suc zero) = 4
weight (suc (suc n)) = 0

-- w has the value of each literal under the marks a
pub record Mirrors (a w : List ℕ) : Type 0 where
  pub size : length w ≡ 8192
  pub small : length a < 4096
  pub is : (l : ℤ) → nat_abs l ≤ length a → get_or w (slot_of l) 0 ≡ weight (value a l)

-- w is the table of marks a, over whose variables the clauses are
pub record Shown (cl : List ℤ) (many : ℕ) (a w : List ℕ) : Type 0 where
  pub ready : Ready cl many (length a)
  pub mirrors : Mirrors a w

-- w is the table of some marks
abbrev pub Table : List ℤ → ℕ → List ℕ → Type 0
Table cl many w = (a : List ℕ) × Shown cl many a w

-- w is the table of the marks a of a formula's variables
abbrev pub Shows : Formula → List ℕ → List ℕ → Type 0
Shows F w a = (length a ≡ F.variables) × Mirrors a w

-- ---- a clause
-- the i-th, counting from 0
abbrev pub clause_at : List ℤ → ℕ → Clause
clause_at cl i = three (get_or cl (3 * i) (pos 0)) (get_or cl (3 * i + 1) (pos 0)) (get_or cl (3 * i + 2) (pos 0))

-- a literal's weight, or 0 if it stands in the clause already
abbrev pub counted : ℕ → Bool → ℕ
counted w same = cond same 0 w

-- what a clause says, by the weights of its three literals and whether two of them are the same; what is forced by its place in the clause. The sum over the
-- different literals is above 1 where one is true or two are unassigned, and 0 where all are false.
unfoldable pub judged : ℕ → ℕ → ℕ → Bool → Bool → Bool → Told
judged u v w xy xz yz =
    cond (ltb 1 (u + counted v xy + counted (counted w xz) yz)) Quiet
    (cond (eqb (u + counted v xy + counted (counted w xz) yz) 0) Fails
    (cond (eqb u 1) (Forces 0) (cond (eqb v 1) (Forces 1) (Forces 2))))

-- what is told of a clause
unfoldable pub told : Clause → Told → Says
told c Quiet = quiet
told c Fails = fails
told c (Forces k) = forces (get_or c k (pos 0))

abbrev pub placed : Clause → Told → Type 0
placed c Quiet = Unit {0}
placed c Fails = Unit {0}
placed c (Forces k) = k < length c

pub record Tells (c : Clause) (r : Told) (s : Says) : Type 0 where
  pub is : told c r ≡ s
  pub at : placed c r

-- under whatever marks the table shows
abbrev pub weights_of : List ℕ → Clause → List ℕ
weights_of a c = weight (value a (get_or c 0 (pos 0))) ∷ weight (value a (get_or c 1 (pos 0))) ∷ weight (value a (get_or c 2 (pos 0))) ∷ []

abbrev pub Weighs : Clause → List ℕ → List ℕ → Type 0
Weighs c w r = (a : List ℕ) → Shown c 1 a w → r ≡ weights_of a c

abbrev pub Judges : Clause → List ℕ → Told → Type 0
Judges c w r = (a : List ℕ) → Shown c 1 a w → Tells c r (says a c)

abbrev pub JudgesMet : Clause → List ℕ → Bool → Type 0
JudgesMet c w r = (a : List ℕ) → Shown c 1 a w → r ≡ met a c
