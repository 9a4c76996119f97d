-- The check over a state table of numbers is the check over as many records: whatever the records held, what it leaves in them is what it would have left
-- in the numbers, and gathering them fills the numbers with it. Assumes nothing.
use Prim.Native.Nat.{ℕ, ◌*◌, ◌≤◌, ◌<◌}
use native.Mathlib.Omega.{arith}
use mathlib.Core.Path.{◌≡◌, refl, sym, ap, ◌∙◌}
use mathlib.Core.Bool.{Bool, true, false, ◌&&◌, cond}
use mathlib.Core.List.{List, []}
use borrow.Author.Tests.{lt-leb, le-leb}
use lib.Dec.{leb}
use lib.IntN.{ℤ}
use lib.ListN.{length}
use Rattle.std.specs.Prelude.{Result, Err}
use Rattle.ground.specs.Buffer.{filled}
use Rattle.book.specs.Rulebook.{book}
use Rattle.book.specs.declared.refusal.NoAnswer.{NoAnswer}
use Rattle.book.specs.declared.refusal.NoAnswer.TheVariants.{Lent as LentOut}
use Rattle.book.proofs.Verdicts.{refused-low}
use Rattle.encoding.specs.Build.{Build, built}
use Rattle.encoding.specs.Limits.{max_states, state_buffer}
use Rattle.search.specs.Search.{Run, sat, unsat, finishes}
use Rattle.meaning.specs.Answers.{refusal, searched, judged, verdict}
use Rattle.records.specs.declared.State.{State}
use Rattle.records.specs.Table.{numbers_of}
use Rattle.records.proofs.Tables.{length-numbers_of, refilled}
use Rattle.checker.specs.Checked.{Lent, lent, enough, emptied, holding, Outcome, leaving, on_book, checked, told}
use Rattle.checker.specs.Lending.{held}
use Rattle.checker.specs.Meant.{Promised}
use Rattle.checker.specs.Steps.{shown_of}
use Rattle.checker.specs.declared.Answer as code
use Rattle.checker.specs.declared.Lent as lending
use Rattle.checker.proofs.Promising.{checked_short, checked-book, by-book, promised, promised_short}

-- ---- how many records each answer fills
shown-refused : (n : ℕ) → 10 ≤ n → n ≤ 14 → shown_of n ≡ 0
unfolding shown_of
shown-refused n p q = rw (le-leb 10 n p, le-leb n 14 q) refl

shown-judged : (budget : ℕ) (B : Build) → shown_of (judged budget B).number ≡ max_states
unfolding shown_of judged verdict
shown-judged budget B = go (finishes budget (searched B)) (searched B)
  where
    go : (f : Bool) (R : Run) → shown_of (cond f (verdict R) 3) ≡ max_states
    go true (sat b n) = refl
    go true (unsat n) = refl
    go false R = refl

pub shown_most : (n : ℕ) → shown_of n ≤ max_states
unfolding shown_of
shown_most n = go (leb 10 n && leb n 14)
  where
    go : (b : Bool) → cond b 0 max_states ≤ max_states
    go true = omega arith
    go false = omega arith

-- ---- the buffers with other state numbers, and an outcome with its state numbers gathered over st
abbrev with_states : List ℕ → Lent → Lent
with_states st o = record { states = st; words = o.words; clauses = o.clauses; values = o.values; work = o.work }

abbrev gathered_over : List ℕ → Outcome → Outcome
gathered_over st k = leaving k.answer (with_states (filled 0 (3 * shown_of k.answer.number) k.lent.states st) k.lent)

module _ (budget : ℕ) (o : Lent) (zs : List ℕ) where
  refused_gathered : (n p : ℕ) → shown_of n ≡ 0 → leaving (refusal n p) o ≡ gathered_over o.states (leaving (refusal n p) (with_states zs o))
  unfolding filled
  refused_gathered n p e = rw e refl

  emptied_gathered : leaving (refusal 15 0) (emptied o) ≡ gathered_over o.states (leaving (refusal 15 0) (emptied (with_states zs o)))
  unfolding shown_of
  emptied_gathered = ap (λ (l : List ℕ). leaving (refusal 15 0) (with_states l (emptied o))) (sym (refilled 0 (3 * max_states) [] zs o.states))

  judged_gathered : (B : Build) → leaving (judged budget B) (holding budget B o) ≡ gathered_over o.states (leaving (judged budget B) (holding budget B (with_states zs o)))
  judged_gathered B =
      rw (shown-judged budget B) (ap (λ (l : List ℕ). leaving (judged budget B) (with_states l (holding budget B o))) (sym (refilled 0 (3 * max_states) (state_buffer B) zs o.states)))

  book_gathered : (bs : List ℕ) → on_book budget o (book bs) ≡ gathered_over o.states (on_book budget (with_states zs o) (book bs))
  book_gathered bs =
      by-book bs budget (λ f. f o ≡ gathered_over o.states (f (with_states zs o)))
      (λ n p q. let low = refused-low bs n p q in refused_gathered n p (shown-refused n (omega (arith, low.0)) low.1))
      (λ h ns q x. emptied_gathered)
      (λ h ns q x. judged_gathered (built ns h.root))

-- ---- the check with the numbers st of a state table, over the records t
module _ (bs : List ℕ) (budget : ℕ) (st ws : List ℕ) (cs : List ℤ) (vs wk : List ℕ) where
  abbrev over-numbers : Lent
  over-numbers = lent st ws cs vs wk

  short-numbers : length st < 3 * max_states → enough over-numbers ≡ false
  unfolding enough
  short-numbers h = rw (lt-leb (3 * max_states) (length st) h) refl

  pub promised_few : length st < 3 * max_states → Promised bs budget over-numbers over-numbers (Err LentOut)
  promised_few h = promised_short bs budget over-numbers (short-numbers h)

  module _ (t : List State) (long : 3 * max_states ≤ length st) (size : length t ≡ max_states) where
    abbrev over-table : Lent
    over-table = lent (numbers_of t) ws cs vs wk

    long-table : enough over-numbers ≡ enough over-table
    unfolding enough
    long-table = rw (le-leb (3 * max_states) (length (numbers_of t)) (rw (length-numbers_of t) (omega (arith, size))), le-leb (3 * max_states) (length st) long) refl

    checked_gathered : checked bs budget over-numbers ≡ gathered_over st (checked bs budget over-table)
    checked_gathered = go (enough over-table) refl
      where
        go : (b : Bool) → enough over-table ≡ b → checked bs budget over-numbers ≡ gathered_over st (checked bs budget over-table)
        go true e = rw (checked-book bs budget over-numbers (long-table ∙ e), checked-book bs budget over-table e) (book_gathered budget over-numbers (numbers_of t) bs)
        go false e = rw (checked_short bs budget over-numbers (long-table ∙ e), checked_short bs budget over-table e) (refused_gathered budget over-numbers (numbers_of t) 10 0 (shown-refused 10 (omega arith) (omega arith)))

    -- what the check leaves in its buffers b, whose records are t', and in the numbers st' that k of them were gathered into
    pub promised_over : (b : lending.Lent) (k : ℕ) (r : Result code.Answer NoAnswer) (t' : List State) (st' ws' : List ℕ) (cs' : List ℤ) (vs' wk' : List ℕ)
        → Promised bs budget over-table (held b) r → k ≡ shown_of (told r).number → st' ≡ filled 0 (3 * k) (numbers_of t') st
        → t' ≡ b.states.now → ws' ≡ b.words.now → cs' ≡ b.clauses.now → vs' ≡ b.values.now → wk' ≡ b.work.now
        → Promised bs budget over-numbers (lent st' ws' cs' vs' wk') r
    promised_over b k r t' st' ws' cs' vs' wk' p shown gathers e₁ e₂ e₃ e₄ e₅ =
        rw (gathers, shown, e₁, e₂, e₃, e₄, e₅)
        (promised bs budget over-numbers (gathered_over st (leaving (told r) (held b))).lent r ((λ i. gathered_over st (leaving (p.answer i) (p.lent i))) ∙ sym checked_gathered))
