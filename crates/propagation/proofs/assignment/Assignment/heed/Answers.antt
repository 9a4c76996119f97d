use mathlib.Core.Path.{◌≡◌, sym, ap, subst, ◌∙◌}
use mathlib.Core.Logic.{inl}
use mathlib.Core.Bool.{true}
use mathlib.Core.List.{List}
use Prim.Native.Nat.{ℕ, ◌+◌, ◌*◌, ◌≤◌, ◌<◌}
use native.Mathlib.Omega.{arith}
use lib.ListN.{length, get_or, set}
use lib.IntN.{ℤ, pos, nat_abs}
use Rattle.clauses.specs.Clause.{Clause}
use Rattle.clauses.proofs.Signs.{read, again}
use Rattle.ground.proofs.Tests.{true-false}
use Rattle.search.specs.Search.{value, place, mark, make_true, says, quiet, forces}
use Rattle.search.proofs.Clauses.{says-forces}
use Rattle.propagation.specs.Judging.{clause_at, told}
use Rattle.propagation.specs.Trail.{entry_for}
use Rattle.propagation.specs.Propagation.{Every, Heard}
use Rattle.propagation.proofs.Triples.{literal-at, clause_in}
use Rattle.propagation.proofs.Moves.{less, moved_none, moved-forced, forced-waits}
use Rattle.propagation.proofs.States.{inside_by}
use Rattle.propagation.proofs.assignment.Assignment.heed.Goals as goal
use Rattle.propagation.proofs.assignment.Assignment.heed.Goals.{After-literal_at, After-told, In-Forces}

module _ (c : After-told) where
  abbrev cl : List ℤ
  cl = c.args.self.now.formula.clauses.now

  abbrev a : List ℕ
  a = c.args.self.now.values.now

  abbrev t : List ℕ
  t = c.args.self.now.trail.now

  abbrev d : Clause
  d = clause_at cl c.args.i

  member : Every cl d
  member = clause_in cl c.args.i (omega (arith, c.requires, c.args.self.now.formula.ready.long))

-- the literal at k of the clause is forced
module _ (c : In-Forces) where
  abbrev E : After-told
  E = (goal.at.In-Forces c).After-told

  abbrev l : ℤ
  l = get_or (d E) c.in-Forces.k (pos 0)

  in-clause : c.in-Forces.k < 3
  in-clause = c.in-Forces.ensures.at

  forced : says (a E) (d E) ≡ forces l
  unfolding told
  forced = sym c.in-Forces.ensures.is

  low : nat_abs l ≤ length (a E)
  low = omega (arith, ap nat_abs (literal-at (cl E) c.args.i c.in-Forces.k in-clause), c.args.self.now.formula.ready.range (3 * c.args.i + c.in-Forces.k), c.args.self.now.over)

  room : c.args.self.now.top < length (t E)
  room = omega (arith, less (cl E) c.args.self.now.top (a E) (t E) (inside_by c.args.self.now) (d E) (member E) l forced, c.args.self.now.room)

  -- and is then made true

  forces-it : (a' t' : List ℕ) → a' ≡ make_true (a E) l → t' ≡ set (t E) c.args.self.now.top (entry_for (place l) (mark l))
      → Heard (cl E) (λ x. x ≡ d E) c.args.self.now.top (a E) (t E) (c.args.self.now.top + 1) a' t' true
  forces-it a' t' e f =
      rw (e, f)
      record {
        moved = moved-forced (cl E) c.args.self.now.top (a E) (t E) (inside_by c.args.self.now) (d E) (member E) l forced room c.args.self.now.mirrors.small;
        calmed = λ q x g. rw g (forced-waits (cl E) c.args.self.now.top (a E) (t E) (inside_by c.args.self.now) (d E) (member E) l forced room c.args.self.now.mirrors.small);
        failing = λ q. true-false q;
      }

-- after it was read
module _ (R : After-literal_at) where
  plain : read R.literal_at.result ≡ l (goal.at.After-literal_at R).In-Forces
  plain =
      let c = (goal.at.After-literal_at R).In-Forces in
      ap read (R.literal_at.ensures ∙ ap (λ (x : Clause). get_or x R.in-Forces.k (pos 0)) R.clause_at-c.ensures)
      ∙ again (l c) (omega (arith, low c, R.args.self.now.mirrors.small))

pub literal_at-requires : goal.literal_at-requires
literal_at-requires c = let F = (goal.at.literal_at-requires c).In-Forces in (in-clause F, subst (λ (x : Clause). nat_abs (get_or x c.in-Forces.k (pos 0)) < 4096) (sym c.clause_at-c.ensures) (omega (arith, low F, c.args.self.now.mirrors.small)))

pub make_true-requires : goal.make_true-requires
make_true-requires c =
    let R = (goal.at.make_true-requires c).After-literal_at in
    let F = (goal.at.make_true-requires c).In-Forces in (
      subst (λ (y : ℤ). nat_abs y ≤ length c.args.self.now.values.now) (sym (plain R)) (low F),
      ap (value c.args.self.now.values.now) (plain R) ∙ (says-forces (a (E F)) (d (E F)) (l F) (forced F)).open_l,
    )

pub returns-in-Quiet-clause-heard : goal.returns-in-Quiet-clause-heard
unfolding told
returns-in-Quiet-clause-heard c =
    let E = (goal.at.returns-in-Quiet-clause-heard c).After-told in
    let silent : says (a E) (d E) ≡ quiet = sym c.in-Quiet.ensures.is in
    record { moved = moved_none (cl E) c.args.self.now.top (a E) (t E); calmed = λ q x e. inl (ap (says (a E)) e ∙ silent); failing = λ q. true-false q }

pub returns-in-Fails-clause-heard : goal.returns-in-Fails-clause-heard
unfolding told
returns-in-Fails-clause-heard c =
    let E = (goal.at.returns-in-Fails-clause-heard c).After-told in
    record { moved = moved_none (cl E) c.args.self.now.top (a E) (t E); calmed = λ q. true-false (sym q); failing = λ q. (d E, member E, sym c.in-Fails.ensures.is) }

pub returns-in-Forces-clause-heard : goal.returns-in-Forces-clause-heard
returns-in-Forces-clause-heard c =
    let R = (goal.at.returns-in-Forces-clause-heard c).After-literal_at in
    let F = (goal.at.returns-in-Forces-clause-heard c).In-Forces in
    rw c.make_true.ensures.top
    (forces-it F _ _ (c.make_true.ensures.marks ∙ ap (make_true (a (E F))) (plain R))
    (c.make_true.ensures.notes ∙ ap (λ (x : ℤ). set (t (E F)) c.args.self.now.top (entry_for (place x) (mark x))) (plain R)))
