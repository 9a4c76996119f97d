-- What `find` says of the numbers in the range.
use Rattle.std.proofs.Common.{◌≡◌, ℕ, ◌≤◌, ◌<◌, arith, rules, tests, true, false, List, MatchOption}
use Rattle.std.specs.Prelude.{Option, Some, None}
use Rattle.std.proofs.lemmas.Iterator.{first_from_Range}
use Rattle.book.specs.Rulebook.{node_at}
use Rattle.book.specs.Told.{is_some, Kept}
use Rattle.book.specs.declared.Header.{Header}
use Rattle.book.proofs.lowest_bad.Goals as goal

module _ (bs : List ℕ) (h : Header) (n : ℕ) where
  from_zero : (r : Option ℕ)
      → MatchOption r ((k : ℕ) → 0 ≤ k → k < n → is_some (node_at bs h k) ≡ true)
      (λ i. (0 ≤ i) × (i < n) × (is_some (node_at bs h i) ≡ false) × ((k : ℕ) → 0 ≤ k → k < i → is_some (node_at bs h k) ≡ true))
      → MatchOption r (Kept bs h n) (λ i. (i < n) × (is_some (node_at bs h i) ≡ false) × Kept bs h i)
  from_zero None f = λ k q. f k (omega arith) q
  from_zero (Some i) f = (f.1, f.2, λ k q. f.3 k (omega arith) q)

pub returns : goal.returns
returns c =
    let a = c.args in
    from_zero a.book.now a.h a.h.nodes c.find.result
    (first_from_Range _ _ _ _ (λ i. is_some (node_at a.book.now a.h i) ≡ false) (λ i. is_some (node_at a.book.now a.h i) ≡ true) c.find.ensures.ran
    (λ x q k. search (rules, tests))
    (λ x q k. (search rules, search (rules, tests))))
