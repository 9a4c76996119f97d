-- From what the search promises to an answer with its totals. Assumes nothing.
use Prim.Native.Nat.{ℕ, ◌*◌}
use mathlib.Core.Path.{◌≡◌, refl, ap, ◌∙◌}
use mathlib.Core.Bool.{Bool, true, false, cond}
use mathlib.Core.List.{List, ◌++◌}
use lib.IntN.{ℤ}
use lib.ListN.{length, take, drop, replicate}
use lib.Seq.{length-take-le}
use Rattle.clauses.specs.Clause.{triples}
use Rattle.encoding.specs.declared.counts.Build.{Build}
use Rattle.search.specs.Search.{Run, sat, unsat, run, nodes, finishes, left}
use Rattle.branching.specs.Answered as search
use Rattle.branching.specs.Answered.{Answered}
use Rattle.branching.specs.declared.Outcome.{Outcome}
use Rattle.branching.specs.declared.Outcome.TheVariants as o
use Rattle.meaning.specs.Answers.{verdict}
use Rattle.std.specs.Prelude.{Ok}
use Rattle.checker.specs.Checked.{ended, ended_by, told}
use Rattle.checker.specs.declared.Answer as code
use Rattle.checker.specs.Steps.{run_of, decided, space, Decided, Searchable}

told-answer : (b : Build) (budget : ℕ) (R : Run) → ended_by b (search.answer budget R) ≡ decided budget b R
unfolding decided search.answer search.verdict verdict nodes
told-answer b budget (sat a n) = go (finishes budget (sat a n))
  where
    go : (f : Bool) → ended_by b (cond f (o.Yes n) (o.Stopped budget)) ≡ ended (cond f 1 3) b (cond f n budget)
    go true = refl
    go false = refl
told-answer b budget (unsat n) = go (finishes budget (unsat n))
  where
    go : (f : Bool) → ended_by b (cond f (o.No n) (o.Stopped budget)) ≡ ended (cond f 2 3) b (cond f n budget)
    go true = refl
    go false = refl

module _ {b : Build} {budget : ℕ} {cs : List ℤ} {vs wk vs₁ wk₁ : List ℕ} {x : Outcome} (ready : Searchable b cs vs wk)
    (found : Answered (take (3 * b.clauses) cs) (take b.variables vs) (take (space b) wk) budget vs₁ wk₁ x) where
  long : length (take b.variables vs) ≡ b.variables
  long = length-take-le b.variables vs ready.values

  run_is : run (length (take b.variables vs)) (triples (take (3 * b.clauses) cs)) ≡ run_of b cs
  run_is = ap (λ (v : ℕ). run v (triples (take (3 * b.clauses) cs))) long

  -- of whatever tells what came of the search
  pub search_decided : {r : code.Answer} → told (Ok r) ≡ ended_by b x → Decided b budget cs vs wk (vs₁ ++ drop b.variables vs) (wk₁ ++ drop (space b) wk) r
  search_decided tells =
      record {
        answer = tells ∙ ap (ended_by b) (found.gives ∙ ap (search.answer budget) run_is) ∙ told-answer b budget (run_of b cs);
        values = ap (λ (l : List ℕ). l ++ drop b.variables vs) (found.leaves ∙ ap (λ (v : ℕ). left budget v (run v (triples (take (3 * b.clauses) cs)))) long);
        work = ap (λ (l : List ℕ). l ++ drop (space b) wk) (found.clears ∙ ap (λ (k : ℕ). replicate k 0) (length-take-le (space b) wk ready.work));
      }
