use mathlib.Core.Path.{◌≡◌, ap, subst, ◌∙◌}
use Prim.Native.Nat.{ℕ}
use lib.ListN.{length, replicate}
use Rattle.clauses.specs.Clause.{triples}
use Rattle.search.specs.Search.{Run, run}
use Rattle.branching.specs.Nodes.{Ran}
use Rattle.branching.proofs.Whole.{run_is}
use Rattle.branching.proofs.Answers.{answer-ran}
use Rattle.branching.proofs.search.Goals as goal

pub returns : goal.returns
returns c =
    let v = length c.args.values.now in
    let R = run v (triples c.args.clauses.now) in
    let a = c.run-outcome.new.values in
    let none : c.fill.new.self ≡ replicate v 0 = c.fill.ensures.after (λ y e. e) in
    let ran : Ran R c.args.budget a c.run-outcome.result =
    subst (λ (X : Run). Ran X c.args.budget a c.run-outcome.result) (run_is (triples c.args.clauses.now) v c.fill.new.self none) c.run-outcome.ensures in
    let y = answer-ran c.args.budget v R a (c.run-outcome.auto.values ∙ c.fill.auto.self) c.run-outcome.result ran in
    record {
      gives = y.0;
      leaves = c.leave.ensures ∙ y.1;
      clears = c.fill-2.ensures.after (λ y e. e) ∙ ap (λ (n : ℕ). replicate n 0) c.link.auto.links;
    }
