-- Records and their numbers: each place of the one is three places of the other, and a loop that goes over the places lays the one out as the other.
-- Assumes nothing.
use Prim.Native.Nat.{ℕ, zero, suc, ◌+◌, ◌*◌, ◌≤◌, ◌<◌}
use native.Mathlib.Omega.{arith}
use native.Mathlib.Decide.{ℕ_discrete}
use mathlib.Core.Path.{◌≡◌, refl, sym, ap, ◌∙◌}
use mathlib.Core.Bool.{Bool, true, false}
use mathlib.Core.List.{List, [], ◌∷◌, ◌++◌, append_assoc}
use lib.Dec.{T, leb}
use lib.ListN.{length, get_or, set, take, drop, replicate, length-set, length-append, length-replicate}
use lib.Seq.{get_or-set_same, get_or-set_other, take-nil, drop-nil, take_at, take-append-le, length-take-le}
use mir.Facts.{leb_yes, yes_leb}
use Rattle.ground.specs.Buffer.{filled}
use Rattle.ground.proofs.Buffers.{Laid, Kept, is-filled, kept_set, filled-laid, filled-kept, length-filled}
use Rattle.records.specs.declared.State.{State}
use Rattle.records.specs.Table.{zero_state, row_at, row_put, rows, numbers_of}

-- one place more is laid
laid-set : {A : Type 0} (z : A) (n : ℕ) (xs buf : List A) (x : A) → n < length buf → x ≡ get_or xs n z → Laid z n xs buf → Laid z (n + 1) xs (set buf n x)
laid-set z n xs buf x h is laid i j = go (ℕ_discrete i n)
  where
    go : Dec (i ≡ n) → get_or (set buf n x) i z ≡ get_or xs i z
    go (yes q) = rw q (get_or-set_same buf n x z h ∙ is)
    go (no q) = get_or-set_other buf n i x z q ∙ laid i (omega arith)

-- nothing is laid yet, and one place more
pub filled_none : {A : Type 0} (z : A) (xs old : List A) → old ≡ filled z 0 xs old
unfolding filled
filled_none z xs old = refl

pub filled_next : {A : Type 0} (z : A) (n : ℕ) (xs old buf : List A) (x : A) → n < length old → buf ≡ filled z n xs old → x ≡ get_or xs n z → set buf n x ≡ filled z (n + 1) xs old
filled_next z n xs old buf x h b is =
    let long : length buf ≡ length old = ap length b ∙ length-filled z n xs old (omega arith) in
    let front : Laid z n xs buf = rw b (filled-laid z n xs old) in
    let rest : Kept z n old buf = rw b (filled-kept z n xs old) in
    is-filled z (n + 1) xs old (set buf n x) (omega arith) (length-set buf n x ∙ long)
    (laid-set z n xs buf x (omega (arith, long)) is front)
    (kept_set z (n + 1) old buf x n (omega arith) (λ i q. rest i (omega arith)))

-- what was filled fills another buffer alike
pub refilled : {A : Type 0} (z : A) (n : ℕ) (xs old new : List A) → filled z n (filled z n xs old) new ≡ filled z n xs new
unfolding filled
refilled {A} z n xs old new =
    let front = take n (xs ++ replicate n z) in
    let size : length front ≡ n = length-take-le n (xs ++ replicate n z) (rw (length-append, length-replicate) (omega arith)) in
    ap (λ (l : List A). l ++ drop n new) (ap (take n) (append_assoc front (drop n old) (replicate n z)) ∙ take_at front (drop n old ++ replicate n z) n size)

-- what stands at a place
next_row : (i k : ℕ) → 3 * suc i + k ≡ suc (suc (suc (3 * i + k)))
next_row i k = omega arith

next-rows : (i : ℕ) → 3 * suc i ≡ suc (suc (suc (3 * i)))
next-rows i = omega arith

pub get_or_rows : (xs : List ℕ) (i : ℕ) → 3 * i + 3 ≤ length xs → get_or (rows xs) i zero_state ≡ row_at xs i
unfolding rows
get_or_rows [] i h = absurd (omega arith)
get_or_rows (p ∷ []) i h = absurd (omega arith)
get_or_rows (p ∷ r ∷ []) i h = absurd (omega arith)
get_or_rows (p ∷ r ∷ m ∷ xs) zero h = refl
get_or_rows (p ∷ r ∷ m ∷ xs) (suc i) h = rw (next_row i 1, next_row i 2, next-rows i) (get_or_rows xs i (omega arith))

pub row_at-numbers_of : (ss : List State) (i : ℕ) → row_at (numbers_of ss) i ≡ get_or ss i zero_state
unfolding numbers_of
row_at-numbers_of [] i = refl
row_at-numbers_of (s ∷ ss) zero = refl
row_at-numbers_of (s ∷ ss) (suc i) = rw (next_row i 1, next_row i 2, next-rows i) (row_at-numbers_of ss i)

-- lengths, and there and back
pub length-numbers_of : (ss : List State) → length (numbers_of ss) ≡ 3 * length ss
unfolding numbers_of
length-numbers_of [] = refl
length-numbers_of (s ∷ ss) = let e = length-numbers_of ss in omega arith

pub leb_numbers_of : (n : ℕ) (ss : List State) → leb (3 * n) (length (numbers_of ss)) ≡ leb n (length ss)
leb_numbers_of n ss = rw (length-numbers_of ss) (go (leb (3 * n) (3 * length ss)) (leb n (length ss)) (λ t. let h = leb_yes t in yes_leb {a = n} {b = length ss} (omega arith)) (λ t. let h = leb_yes t in yes_leb {a = 3 * n} {b = 3 * length ss} (omega arith)))
  where
    go : (a b : Bool) → (T a → T b) → (T b → T a) → a ≡ b
    go true true p q = refl
    go true false p q = absurd (p tt)
    go false true p q = absurd (q tt)
    go false false p q = refl

pub length-rows : (xs : List ℕ) (n : ℕ) → 3 * n ≤ length xs → n ≤ length (rows xs)
unfolding rows
length-rows xs zero h = omega arith
length-rows [] (suc n) h = absurd (omega arith)
length-rows (p ∷ []) (suc n) h = absurd (omega arith)
length-rows (p ∷ r ∷ []) (suc n) h = absurd (omega arith)
length-rows (p ∷ r ∷ m ∷ xs) (suc n) h = let e = length-rows xs n (omega arith) in omega arith

pub rows-numbers_of : (ss : List State) → rows (numbers_of ss) ≡ ss
unfolding rows numbers_of
rows-numbers_of [] = refl
rows-numbers_of (s ∷ ss) = ap (λ (l : List State). s ∷ l) (rows-numbers_of ss)

-- a table is its numbers
pub numbers_of_inj : (s t : List State) → numbers_of s ≡ numbers_of t → s ≡ t
numbers_of_inj s t e = sym (rows-numbers_of s) ∙ ap rows e ∙ rows-numbers_of t

pub numbers_of-rows : (xs : List ℕ) (n : ℕ) → length xs ≡ 3 * n → numbers_of (rows xs) ≡ xs
unfolding rows numbers_of
numbers_of-rows [] n h = refl
numbers_of-rows (p ∷ []) n h = absurd (omega arith)
numbers_of-rows (p ∷ r ∷ []) n h = absurd (omega arith)
numbers_of-rows (p ∷ r ∷ m ∷ xs) zero h = absurd (omega arith)
numbers_of-rows (p ∷ r ∷ m ∷ xs) (suc n) h = ap (λ (l : List ℕ). p ∷ r ∷ m ∷ l) (numbers_of-rows xs n (omega arith))

-- one record more is put
pub row_next : (n : ℕ) (ss : List State) (old buf : List ℕ) (s : State) → 3 * n + 3 ≤ length old → buf ≡ filled 0 (3 * n) (numbers_of ss) old → s ≡ get_or ss n zero_state → row_put buf n s ≡ filled 0 (3 * (n + 1)) (numbers_of ss) old
row_next n ss old buf s h b is =
    let at : s ≡ row_at (numbers_of ss) n = is ∙ sym (row_at-numbers_of ss n) in
    let e : 3 * (n + 1) ≡ 3 * n + 1 + 1 + 1 = omega arith in
    let f : 3 * n + 2 ≡ 3 * n + 1 + 1 = omega arith in
    let maker : s.maker ≡ get_or (numbers_of ss) (3 * n + 1 + 1) 0 = ap (λ (r : State). r.maker) at ∙ ap (λ (k : ℕ). get_or (numbers_of ss) k 0) f in
    let one : set buf (3 * n) s.parent ≡ filled 0 (3 * n + 1) (numbers_of ss) old = filled_next 0 (3 * n) (numbers_of ss) old buf s.parent (omega arith) b (ap (λ (r : State). r.parent) at) in
    let two : set (set buf (3 * n) s.parent) (3 * n + 1) s.relation ≡ filled 0 (3 * n + 1 + 1) (numbers_of ss) old = filled_next 0 (3 * n + 1) (numbers_of ss) old (set buf (3 * n) s.parent) s.relation (omega arith) one (ap (λ (r : State). r.relation) at) in
    rw (e, f) (filled_next 0 (3 * n + 1 + 1) (numbers_of ss) old (set (set buf (3 * n) s.parent) (3 * n + 1) s.relation) s.maker (omega arith) two maker)

-- Where the first n records have been gathered, the first 3 × n numbers are theirs.
pub take-numbers_of : (n : ℕ) (ss : List State) → take (3 * n) (numbers_of ss) ≡ numbers_of (take n ss)
unfolding numbers_of
take-numbers_of zero ss = refl
take-numbers_of (suc n) [] = take-nil (3 * suc n)
take-numbers_of (suc n) (s ∷ ss) = rw (next-rows n) (ap (λ (l : List ℕ). s.parent ∷ s.relation ∷ s.maker ∷ l) (take-numbers_of n ss))

pub gathered_numbers : (n : ℕ) (ss : List State) (old : List ℕ) → n ≤ length ss → take (3 * n) (filled 0 (3 * n) (numbers_of ss) old) ≡ numbers_of (take n ss)
unfolding filled
gathered_numbers n ss old h =
    let long : 3 * n ≤ length (numbers_of ss) = rw (length-numbers_of ss) (omega arith) in
    let size : length (numbers_of (take n ss)) ≡ 3 * n = length-numbers_of (take n ss) ∙ ap (λ (k : ℕ). 3 * k) (length-take-le n ss h) in
    rw (take-append-le (3 * n) (numbers_of ss) (replicate (3 * n) 0) long, take-numbers_of n ss) (take_at (numbers_of (take n ss)) (drop (3 * n) old) (3 * n) size)

-- Publishing the first n records of a list of numbers fills the first 3 × n numbers of the table.
numbers_of-append : (ss ts : List State) → numbers_of (ss ++ ts) ≡ numbers_of ss ++ numbers_of ts
unfolding numbers_of
numbers_of-append [] ts = refl
numbers_of-append (s ∷ ss) ts = ap (λ (l : List ℕ). s.parent ∷ s.relation ∷ s.maker ∷ l) (numbers_of-append ss ts)

drop-numbers_of : (n : ℕ) (ss : List State) → drop (3 * n) (numbers_of ss) ≡ numbers_of (drop n ss)
unfolding numbers_of
drop-numbers_of zero ss = refl
drop-numbers_of (suc n) [] = drop-nil (3 * suc n)
drop-numbers_of (suc n) (s ∷ ss) = rw (next-rows n) (drop-numbers_of n ss)

take-rows : (n : ℕ) (xs : List ℕ) → 3 * n ≤ length xs → numbers_of (take n (rows xs)) ≡ take (3 * n) xs
unfolding rows numbers_of
take-rows zero xs h = refl
take-rows (suc n) [] h = absurd (omega arith)
take-rows (suc n) (p ∷ []) h = absurd (omega arith)
take-rows (suc n) (p ∷ r ∷ []) h = absurd (omega arith)
take-rows (suc n) (p ∷ r ∷ m ∷ xs) h = rw (next-rows n) (ap (λ (l : List ℕ). p ∷ r ∷ m ∷ l) (take-rows n xs (omega arith)))

pub numbers_of_first : (n : ℕ) (xs : List ℕ) (t : List State) → 3 * n ≤ length xs → numbers_of (take n (filled zero_state n (rows xs) t)) ≡ take (3 * n) xs
unfolding filled
numbers_of_first n xs t h =
    let long = length-rows xs n h in
    rw (take-append-le n (rows xs) (replicate n zero_state) long, take_at (take n (rows xs)) (drop n t) n (length-take-le n (rows xs) long)) (take-rows n xs h)

pub numbers_of_published : (n : ℕ) (xs : List ℕ) (t : List State) → 3 * n ≤ length xs → numbers_of (filled zero_state n (rows xs) t) ≡ filled 0 (3 * n) xs (numbers_of t)
unfolding filled
numbers_of_published n xs t h =
    rw (take-append-le n (rows xs) (replicate n zero_state) (length-rows xs n h), numbers_of-append (take n (rows xs)) (drop n t), take-rows n xs h, ← drop-numbers_of n t, take-append-le (3 * n) xs (replicate (3 * n) 0) h) refl
