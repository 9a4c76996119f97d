-- Document 01, "The search", node by node: what is left to do, one step of it, and a run within a budget. Nothing outside the crate cites this.
-- Assumes nothing.
use Rattle.std.specs.Prelude.{◌≡◌, Option, Some, None, cond, List, [], ◌∷◌, map, ℕ, suc, ◌+◌, ◌-◌, ◌%◌, ◌≤◌, ◌<◌, eqb, length, replicate, ℤ}
use Rattle.clauses.specs.Clause.{Clause, triples}
use Rattle.search.specs.Search.{zeros, Run, sat, unsat, plus, node, nodes}
use Rattle.branching.specs.declared.branch.Verdict.{Verdict}
use Rattle.branching.specs.declared.branch.Verdict.TheVariants.{Yes as VerdictYes, No as VerdictNo}
use Rattle.branching.specs.declared.Outcome.{Outcome}
use Rattle.branching.specs.declared.Outcome.TheVariants.{Yes, No, Stopped}
use Rattle.propagation.specs.Unmet.{Counts}
use Rattle.propagation.specs.Trail.{noted, Branch, second, pending, AllSaved}
use Rattle.propagation.specs.Propagation.{Started}

-- a node, with depth enough
unfoldable pub node_of : List Clause → List ℕ → Run
node_of cs a = node (suc (zeros a)) cs a

abbrev pub on_fail : Run → (ℕ → Run) → Run
on_fail (sat b n) f = sat b n
on_fail (unsat n) f = f n

-- a run and then the pending branches, until one ends in yes
unfoldable pub finished : List Clause → Run → List Branch → Run
finished cs R [] = R
finished cs R (d ∷ P) = on_fail R (λ n. plus n (finished cs (node_of cs (second d)) P))

-- all that is left to do: the node at hand, and the branches pending on its trail
abbrev pub whole : List ℤ → List ℕ → List ℕ → ℕ → Run
whole cl a t n = finished (triples cl) (node_of (triples cl) a) (pending a t n)

-- the place above the branch that the last of n entries notes; 0 at the root
unfoldable pub above : List ℕ → ℕ → ℕ
above t n = cond (eqb n 0) 0 (noted t (n - 1) + 1)

-- one node more: it is the last, or the rest is left to do; u is then the number of unmet clauses, and for each pending branch it is saved in s
pub record Further (cl : List ℤ) (n : ℕ) (a t a' t' s : List ℕ) (k u : ℕ) : Type 0 where
  pub is : whole cl a t n ≡ plus 1 (whole cl a' t' k)
  pub room : k + zeros a' ≤ n + zeros a
  pub started : Started cl a' t' k
  pub saved : AllSaved cl s (pending a' t' k)
  pub counts : Counts cl a' u

abbrev pub Stepped : List ℤ → ℕ → List ℕ → List ℕ → List ℕ → List ℕ → List ℕ → ℕ → ℕ → Option Verdict → Type 0
Stepped cl n a t a' t' s k u (Some VerdictYes) = whole cl a t n ≡ sat a' 1
Stepped cl n a t a' t' s k u (Some VerdictNo) = whole cl a t n ≡ unsat 1
Stepped cl n a t a' t' s k u None = Further cl n a t a' t' s k u

-- a run R within a budget: the marks at a yes, and the count
abbrev pub Ran : Run → ℕ → List ℕ → Outcome → Type 0
Ran R budget a' (Yes n) = (n ≤ budget) × (R ≡ sat a' n)
Ran R budget a' (No n) = (n ≤ budget) × (R ≡ unsat n)
Ran R budget a' (Stopped n) = (n ≡ budget) × (budget < nodes R)

-- what is left of the marks: the values of a yes, or none
abbrev pub left_by : Outcome → List ℕ → List ℕ
left_by (Yes n) a = map (λ x. x % 2) a
left_by (No n) a = replicate (length a) 0
left_by (Stopped n) a = replicate (length a) 0
