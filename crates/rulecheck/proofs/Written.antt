-- One write after another. Assumes nothing.
use Rattle.std.specs.declared.option.Option.{Option}
use Rattle.std.proofs.Common.{ℕ, zero, suc, ◌≡◌, ◌+◌, ◌-◌, ◌<◌, true, false, cond, List, [], ◌++◌, refl, sym, ap, ◌∙◌, subst, arith, length, length-append, take, drop, get_or, append_assoc, take-append-drop, Result, Ok, Err, OnErr, append-nil, add-one}
use Rattle.std.specs.List.{flat_map}
use Rattle.std.proofs.lemmas.List.{flat_map_more}
use Rattle.std.proofs.lemmas.List.Concat.{flat_map-append}
use lib.Seq.{take-suc, take-append-le, take-append-add}
use Rattle.std.specs.Io.KnownBytes.{Appends}
use Rattle.streams.specs.Writing.{Begins}
use Rattle.std.proofs.KnownBytes.{Appends-nil, Appends-trans}
use Rattle.structure.specs.Marks.{on}
use Rattle.rulecheck.specs.Lines.{spaced, begun, marked}

pub appends_more : (a b c : Option (List ℕ)) (xs ys zs : List ℕ) → Appends a b xs → Appends b c ys → zs ≡ xs ++ ys → Appends a c zs
appends_more a b c xs ys zs p q e = rw e (Appends-trans a b c xs ys p q)

-- a beginning of the first text, or the first and a beginning of what follows, is a beginning of both
pub begins_first : (a b : Option (List ℕ)) (xs ys : List ℕ) → Begins a b xs → Begins a b (xs ++ ys)
begins_first a b xs ys p =
    let same : take p.n xs ≡ take p.n (xs ++ ys) = sym (take-append-le p.n xs ys (omega (arith, p.short))) in
    record { n = p.n; short = omega (arith, p.short, length-append xs ys); written = subst (Appends a b) same p.written }

pub begins_then : (a b c : Option (List ℕ)) (xs ys : List ℕ) → Appends a b xs → Begins b c ys → Begins a c (xs ++ ys)
begins_then a b c xs ys p q = record { n = length xs + q.n; short = omega (arith, q.short, length-append xs ys); written = subst (Appends a c) (sym (take-append-add xs ys q.n)) (Appends-trans a b c xs (take q.n ys) p q.written) }

pub on_err : {A E P : Type 0} (r : Result A E) → P → OnErr r P
on_err (Ok x) p = tt
on_err (Err e) p = p

-- a word and the numbers so far
begun_more : (word ns : List ℕ) (i : ℕ) → i < length ns → begun word (take (suc i) ns) ≡ begun word (take i ns) ++ spaced (get_or ns i 0)
begun_more word ns i h = ap (begun word) (take-suc ns i 0 h) ∙ sym (flat_map_more spaced word (take i ns) (get_or ns i 0))

pub begun_next : (a b c : Option (List ℕ)) (word ns : List ℕ) (i : ℕ) → i < length ns → Appends a b (begun word (take i ns)) → Appends b c (spaced (get_or ns i 0)) → Appends a c (begun word (take (i + 1) ns))
begun_next a b c word ns i h p q = rw (add-one, begun_more word ns i h) (Appends-trans a b c (begun word (take i ns)) (spaced (get_or ns i 0)) p q)

pub begun_stops : (a b c : Option (List ℕ)) (word ns : List ℕ) (i : ℕ) → i < length ns → Appends a b (begun word (take i ns)) → Begins b c (spaced (get_or ns i 0)) → Begins a c (begun word ns)
begun_stops a b c word ns i h p q =
    let some : Begins a c (begun word (take (suc i) ns)) = rw (begun_more word ns i h) (begins_then a b c (begun word (take i ns)) (spaced (get_or ns i 0)) p q) in
    let whole : begun word (take (suc i) ns) ++ flat_map spaced (drop (suc i) ns) ≡ begun word ns =
    append_assoc word (flat_map spaced (take (suc i) ns)) (flat_map spaced (drop (suc i) ns)) ∙ ap (λ l. word ++ l) (sym (flat_map-append spaced (take (suc i) ns) (drop (suc i) ns)) ∙ ap (flat_map spaced) (take-append-drop (suc i) ns)) in
    subst (Begins a c) whole (begins_first a c (begun word (take (suc i) ns)) (flat_map spaced (drop (suc i) ns)) some)

-- the texts of marked places, one after another
module _ (marks : List ℕ) (text : ℕ → List ℕ) where
  pub marked_none : marked marks text 0 ≡ []
  unfolding marked
  marked_none = refl

  pub marked_put : (a b c : Option (List ℕ)) (n : ℕ) → on marks n ≡ true → Appends a b (marked marks text n) → Appends b c (text n) → Appends a c (marked marks text (n + 1))
  unfolding marked
  marked_put a b c n e p q = rw (add-one, e) (Appends-trans a b c (marked marks text n) (text n) p q)

  pub marked_passed : (a b : Option (List ℕ)) (n : ℕ) → on marks n ≡ false → Appends a b (marked marks text n) → Appends a b (marked marks text (n + 1))
  unfolding marked
  marked_passed a b n e p = rw (add-one, e, append-nil) p

  marked_later : (a c : Option (List ℕ)) (k n : ℕ) → Begins a c (marked marks text n) → Begins a c (marked marks text (n + k))
  unfolding marked
  marked_later a c zero n p = let e : n + 0 ≡ n = omega arith in rw e p
  marked_later a c (suc k) n p = let e : n + suc k ≡ suc (n + k) = omega arith in rw e (begins_first a c (marked marks text (n + k)) (cond (on marks (n + k)) (text (n + k)) []) (marked_later a c k n p))

  -- an error at one: what is to come is not begun
  pub marked_stops : (a b c : Option (List ℕ)) (n m : ℕ) → n < m → on marks n ≡ true → Appends a b (marked marks text n) → Begins b c (text n) → Begins a c (marked marks text m)
  unfolding marked
  marked_stops a b c n m h e p q =
      let here : Begins a c (marked marks text (suc n)) = rw e (begins_then a b c (marked marks text n) (text n) p q) in
      let same : suc n + (m - suc n) ≡ m = omega arith in
      subst (λ (k : ℕ). Begins a c (marked marks text k)) same (marked_later a c (m - suc n) (suc n) here)

pub ruleset marks_written = (Appends-nil, marked_none, marked_put, marked_passed)
