-- From what the check promises and what was read to what is printed. Assumes nothing.
use Rattle.std.proofs.Common.{ℕ, Bool, true, false, cond, eqb, ◌≡◌, ◌<◌, ◌≤◌, List, ◌++◌, sym, ap, ◌∙◌, subst, length, take, arith, length-take-le, take_all, append-nil, IfSome, None, Some}
use Rattle.std.specs.declared.option.Option.{Option}
use Rattle.std.specs.Io.KnownBytes.{Consumes, IsAtEnd}
use Rattle.std.proofs.KnownBytes.{Appends-nil}
use Rattle.streams.specs.Writing.{Begins}
use Rattle.meaning.specs.Answers.{Answer}
use lib.Seq.{take_at}
use native.Mathlib.Decide.{dec_lt}
use Rattle.checker.specs.Checked.{Lent, leaving, told, checked}
use Rattle.checker.specs.Meant.{Promised}
use Rattle.std.specs.Prelude.{Result}
use Rattle.book.specs.declared.refusal.NoAnswer.{NoAnswer}
use Rattle.checker.specs.declared.Answer as code
use Rattle.records.specs.declared.State.{State}
use Rattle.records.specs.Table.{numbers_of}
use Rattle.structure.specs.declared.Structure.{Structure}
use Rattle.checker.specs.Lending.{own}
use Rattle.rulecheck.specs.Lines.{lines_of, structure_lines}
use Rattle.rulecheck.specs.Printed.{printed, printed_after, printed_of, printed_for}

pub told_printed : (bs : List ℕ) (o o' : Lent) (a : Result code.Answer NoAnswer) → o ≡ own → Promised bs 1000000 o o' a → printed_of bs ≡ printed_after (leaving (told a) o')
unfolding printed_of
told_printed bs o o' a e p = ap (λ (k : Lent). printed_after (checked bs 1000000 k)) (sym e) ∙ sym (λ i. printed_after (leaving (p.answer i) (p.lent i)))

pub whole_read : (old new : Option (List ℕ)) (n : ℕ) (buf : List ℕ) (P : List ℕ → Type 0) → length buf ≡ 8193 → n ≤ length buf → Consumes old new (take n buf) → (n < length buf → IsAtEnd new) → P (take n buf)
    → IfSome old (λ xs. P (take 8193 xs))
whole_read None new n buf P l h c e p = tt
whole_read (Some xs) None n buf P l h c e p = absurd c
whole_read (Some xs) (Some ys) n buf P l h c e p = subst P (sym same) p
  where
    size : length (take n buf) ≡ n
    size = length-take-le n buf h

    go : Dec (n < length buf) → take 8193 (take n buf ++ ys) ≡ take n buf
    go (yes q) = ap (λ (l : List ℕ). take 8193 (take n buf ++ l)) (e q) ∙ ap (take 8193) (append-nil (take n buf)) ∙ take_all 8193 (take n buf) (omega (arith, size))
    go (no q) = take_at (take n buf) ys 8193 (omega (arith, size))

    same : take 8193 xs ≡ take n buf
    same = ap (take 8193) c ∙ go (dec_lt n (length buf))

-- something is printed of every book
some_of : (x y z : Bool) (a b c d : List ℕ) → 0 < length a → 0 < length b → 0 < length c → 0 < length d → 0 < length (cond x a (cond y b (cond z c d)))
some_of true y z a b c d p q r s = p
some_of false true z a b c d p q r s = q
some_of false false true a b c d p q r s = r
some_of false false false a b c d p q r s = s

some_printed : (a : Answer) (st ws vs : List ℕ) → 0 < length (printed a st ws vs)
unfolding printed
some_printed a st ws vs = some_of (eqb a.number 1) (eqb a.number 2) (eqb a.number 3) _ _ _ _ (omega arith) (omega arith) (omega arith) (omega arith)

some_of_book : (bs : List ℕ) → 0 < length (printed_of bs)
unfolding printed_of
some_of_book bs = let k = checked bs 1000000 own in some_printed k.answer k.lent.states k.lent.words k.lent.values

-- nothing is written, which is a beginning of it
pub none_printed : (a old : Option (List ℕ)) → IfSome old (λ xs. Begins a a (printed_for xs))
none_printed a None = tt
none_printed a (Some xs) = record { n = 0; short = some_of_book (take 8193 xs); written = Appends-nil a }

-- the lines of a structure, by what lies there
pub same_lines : (s : Structure) (n v : ℕ) (st : List State) (ws vs : List ℕ) → (s.states.now ≡ st) × (s.states_count ≡ n) → (s.words.now ≡ ws) × (s.variables_count ≡ v) × (s.values.now ≡ vs)
    → lines_of s ≡ structure_lines n (numbers_of st) v ws vs
same_lines s n v st ws vs p q = λ i. structure_lines (p.1 i) (numbers_of (p.0 i)) (q.1 i) (q.0 i) (q.2 i)
