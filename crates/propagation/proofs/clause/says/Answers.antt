-- It judges by the weights of the literals and by which of them are the same.
use mathlib.Core.Path.{◌≡◌, sym, ap, subst, ◌∙◌}
use mathlib.Core.List.{List}
use Prim.Native.Nat.{ℕ}
use native.Mathlib.Omega.{arith}
use lib.Dec.{eqb}
use lib.ListN.{length, get_or}
use mir.Syntax.{w16}
use mir.Val.{of_z}
use Rattle.clauses.specs.Clause.{Clause}
use Rattle.search.specs.Search.{same_literal, says}
use Rattle.propagation.specs.Judging.{Shown, judged, Tells}
use Rattle.propagation.specs.declared.clause.Told.{Told}
use Rattle.propagation.proofs.Literals.{same_bits}
use Rattle.propagation.proofs.Triples.{at, fits-at}
use Rattle.propagation.proofs.Judged.{judged_of, weights_light, judged-says}
use Rattle.propagation.proofs.clause.says.Goals as goal
use Rattle.propagation.proofs.clause.says.Goals.{After-judge}

-- what was judged, under marks that the table shows

module _ (c : After-judge) where
  abbrev d : Clause
  d = c.args.c

  same : (j k : ℕ) → eqb (of_z w16 (at d j)) (of_z w16 (at d k)) ≡ same_literal (at d j) (at d k)
  same j k = let f = fits-at d (length c.requires.0) 1 c.requires.1.ready in same_bits (at d j) (at d k) (f j) (f k)

  is-judged : (a : List ℕ) → Shown d 1 a c.args.truth.now → c.judge.result ≡ judged_of a (at d 0) (at d 1) (at d 2)
  is-judged a S =
      c.judge.ensures
      ∙ ap (λ (r : List ℕ). judged (get_or r 0 0) (get_or r 1 0) (get_or r 2 0) (eqb (of_z w16 (at d 0)) (of_z w16 (at d 1))) (eqb (of_z w16 (at d 0)) (of_z w16 (at d 2))) (eqb (of_z w16 (at d 1)) (of_z w16 (at d 2)))) (c.weights-s.ensures a S)
      ∙ simp (same 0 1, same 0 2, same 1 2)

pub judge-requires : goal.judge-requires
judge-requires c = omega (arith, weights_light c.requires.0 c.args.c c.weights-s.result (c.weights-s.ensures c.requires.0 c.requires.1))

pub returns : goal.returns
returns c = λ a S. subst (λ (r : Told). Tells (d c) r (says a (d c))) (sym (is-judged c a S)) (judged-says a (d c) S.ready.long)
