-- The definition `checked` case by case, and what an answer of it means: the meaning follows from the definition, whatever the code. Assumes nothing.
use Prim.Native.Nat.{ℕ, ◌+◌, ◌*◌, ◌^◌, ◌≤◌}
use native.Mathlib.Omega.{arith}
use native.Mathlib.Decide.{dec_le}
use mathlib.Core.Path.{◌≡◌, refl, sym, ap, ◌∙◌, subst}
use mathlib.Core.Bool.{Bool, true, false, ◌&&◌, cond}
use mathlib.Core.List.{List}
use lib.Dec.{T, leb, leb→le, ltb}
use lib.ListN.{length, length-map, length-replicate}
use mir.Facts.{and_yes}
use Rattle.ground.proofs.Tests.{true-false}
use Rattle.logic.specs.Table.{Node}
use Rattle.logic.specs.Truth.{Holds}
use Rattle.logic.specs.Finite.{Finite, State, structure}
use Rattle.book.specs.Rulebook.{Book, book, accepted, refused, table_of}
use Rattle.book.specs.declared.Header.{Header}
use Rattle.encoding.specs.Build.{Build, built, states#, variables#, clauses#}
use Rattle.encoding.specs.Limits.{max_states, max_variables, max_clauses, oversized, word_buffer}
use Rattle.search.specs.Search.{Run, sat, unsat, run, final, finishes, left}
use Rattle.search.proofs.Theorems.{yes-long}
use Rattle.structure.specs.Structure.{read_back}
use Rattle.structure.specs.Evaluation.{lies}
use Rattle.structure.proofs.Recorded.{lies-filled}
use Rattle.meaning.specs.Answers.{Answer, refusal, answer, answered, answer_to, searched, shown, judged, verdict, C}
use Rattle.meaning.proofs.Results as results
use Rattle.meaning.proofs.Judging.{answer-is}
use Rattle.checker.specs.Checked.{max_work, Lent, enough, emptied, holding, Outcome, leaving, finished, on_book, checked, told}
use Rattle.records.proofs.Tables.{leb_numbers_of}
use Rattle.checker.specs.Lending.{held}
use Rattle.checker.specs.declared.Lent as lending
use Rattle.checker.specs.Meant.{found, Meant, Promised}
use Rattle.std.specs.Prelude.{Result, Ok, Err}
use Rattle.book.specs.Told.{told as read_told}
use Rattle.book.proofs.Accepted.{accepted-told}
use Rattle.book.specs.declared.refusal.Refusal.{Refusal}
use Rattle.book.specs.declared.refusal.Refusal.TheVariants.{Short, Ranges, Extent, Node as NodeOut}
use Rattle.book.specs.declared.refusal.NoAnswer.{NoAnswer}
use Rattle.book.specs.declared.refusal.NoAnswer.TheVariants.{Lent as LentOut, Refused}
use Rattle.checker.specs.declared.Answer as code

-- ---- the sizes
-- the sizes of the buffers as they are lent
pub enough_held : (b : lending.Lent) → enough (held b)
    ≡ (leb max_states (length b.states.now) && leb max_variables (length b.words.now) && leb (3 * max_clauses) (length b.clauses.now) && leb max_variables (length b.values.now) && leb max_work (length b.work.now))
unfolding enough
enough_held b = ap (λ t. t && leb max_variables (length b.words.now) && leb (3 * max_clauses) (length b.clauses.now) && leb max_variables (length b.values.now) && leb max_work (length b.work.now)) (leb_numbers_of max_states b.states.now)

pub record Enough (o : Lent) : Type 0 where
  pub states : 3 * max_states ≤ length o.states
  pub words : max_variables ≤ length o.words
  pub clauses : 3 * max_clauses ≤ length o.clauses
  pub values : max_variables ≤ length o.values
  pub work : max_work ≤ length o.work

pub enough-is : (o : Lent) → enough o ≡ true → Enough o
unfolding enough
enough-is o e =
    let st = leb (3 * max_states) (length o.states) in
    let ws = leb max_variables (length o.words) in
    let cs = leb (3 * max_clauses) (length o.clauses) in
    let vs = leb max_variables (length o.values) in
    let wk = leb max_work (length o.work) in
    let a = and_yes (st && ws && cs && vs) wk (subst T (sym e) tt) in
    let b = and_yes (st && ws && cs) vs a.0 in
    let c = and_yes (st && ws) cs b.0 in
    let d = and_yes st ws c.0 in
    record {
      states = leb→le (3 * max_states) (length o.states) d.0;
      words = leb→le max_variables (length o.words) d.1;
      clauses = leb→le (3 * max_clauses) (length o.clauses) c.1;
      values = leb→le max_variables (length o.values) b.1;
      work = leb→le max_work (length o.work) a.1;
    }

-- ---- the cases
module _ (bs : List ℕ) (budget : ℕ) (o : Lent) where
  pub checked_short : enough o ≡ false → checked bs budget o ≡ leaving (refusal 10 0) o
  unfolding checked
  checked_short e = ap (λ b. cond b (on_book budget o (book bs)) (leaving (refusal 10 0) o)) e

  pub checked-book : enough o ≡ true → checked bs budget o ≡ on_book budget o (book bs)
  unfolding checked
  checked-book e = ap (λ b. cond b (on_book budget o (book bs)) (leaving (refusal 10 0) o)) e

  pub checked_refused : (n p : ℕ) → enough o ≡ true → book bs ≡ refused n p → checked bs budget o ≡ leaving (refusal n p) o
  unfolding on_book
  checked_refused n p e q = checked-book e ∙ ap (on_book budget o) q

  pub checked-accepted : (h : Header) (ns : List Node) → enough o ≡ true → book bs ≡ accepted h ns → checked bs budget o ≡ finished budget (built ns h.root) o
  unfolding on_book
  checked-accepted h ns e q = checked-book e ∙ ap (on_book budget o) q

pub finished-over : (budget : ℕ) (B : Build) (o : Lent) → oversized B ≡ true → finished budget B o ≡ leaving (refusal 15 0) (emptied o)
unfolding finished
finished-over budget B o e = ap (λ b. cond b (leaving (refusal 15 0) (emptied o)) (leaving (judged budget B) (holding budget B o))) e

pub finished-whole : (budget : ℕ) (B : Build) (o : Lent) → oversized B ≡ false → finished budget B o ≡ leaving (judged budget B) (holding budget B o)
unfolding finished
finished-whole budget B o e = ap (λ b. cond b (leaving (refusal 15 0) (emptied o)) (leaving (judged budget B) (holding budget B o))) e

-- a build within the limits
pub record Within (B : Build) : Type 0 where
  pub states : states# B ≤ max_states
  pub variables : variables# B ≤ max_variables
  pub clauses : clauses# B ≤ max_clauses

pub within : (B : Build) → oversized B ≡ false → Within B
unfolding oversized
within B e = go (ltb max_states (states# B)) (ltb max_variables (variables# B)) (ltb max_clauses (clauses# B)) refl refl refl e
  where
    go : (p q r : Bool) → ltb max_states (states# B) ≡ p → ltb max_variables (variables# B) ≡ q → ltb max_clauses (clauses# B) ≡ r → mathlib.Core.Bool.◌||◌ (mathlib.Core.Bool.◌||◌ p q) r ≡ false → Within B
    go true q r x y z e = true-false e
    go false true r x y z e = true-false e
    go false false true x y z e = true-false e
    go false false false x y z e =
        record {
          states = borrow.Author.Tests.ltb-false max_states (states# B) x;
          variables = borrow.Author.Tests.ltb-false max_variables (variables# B) y;
          clauses = borrow.Author.Tests.ltb-false max_clauses (clauses# B) z;
        }

-- ---- the values of a search, and how many there are
pub length-left : (budget v : ℕ) (B : Build) → v ≡ variables# B → length (left budget v (searched B)) ≡ v
unfolding left searched final
length-left budget v B e = go (finishes budget (run (variables# B) B.clauses)) (run (variables# B) B.clauses) refl
  where
    go : (f : Bool) (R : Run) → run (variables# B) B.clauses ≡ R → length (cond f (final v R) (lib.ListN.replicate v 0)) ≡ v
    go true (sat b n) q = length-map b _ ∙ yes-long (variables# B) B.clauses q ∙ sym e
    go true (unsat n) q = length-replicate v 0
    go false R q = length-replicate v 0

finished-left : (budget v : ℕ) (R : Run) → finishes budget R ≡ true → left budget v R ≡ final v R
unfolding left
finished-left budget v R e = ap (λ b. cond b (final v R) (lib.ListN.replicate v 0)) e

-- ---- the meaning
module _ (bs : List ℕ) (budget : ℕ) (o : Lent) (h : Header) (ns : List Node) (is : book bs ≡ accepted h ns) (fits : oversized (built ns h.root) ≡ false) where
  abbrev B : Build
  B = built ns h.root

  abbrev o' : Lent
  o' = holding budget B o

  judged-is : judged budget B ≡ answer bs budget
  judged-is = sym (answer-is bs h ns is fits budget)

  number_is : (judged budget B).number ≡ (answer bs budget).number
  number_is = ap (λ (a : Answer). a.number) judged-is

  -- what lies in the buffers after a search that finished
  found-is : finishes budget (searched B) ≡ true → found (judged budget B) o' ≡ shown B
  unfolding judged
  found-is e =
      let w = within B fits in
      let l : length (word_buffer B) ≡ variables# B = length-map B.variables _ in
      let v : length (left budget (variables# B) (searched B)) ≡ length (word_buffer B) = length-left budget (variables# B) B refl ∙ sym l in
      ap (λ (k : ℕ). lies (states# B) k o'.states o'.words o'.values) (sym l)
      ∙ lies-filled B.states (word_buffer B) (left budget (variables# B) (searched B)) o.states o.words o.values (3 * max_states) max_variables (omega (arith, w.states)) (omega (arith, w.variables, l)) v
      ∙ ap (λ (vs : List ℕ). read_back B.states (word_buffer B) vs) (finished-left budget (variables# B) (searched B) e)

  finished-one : (judged budget B).number ≡ 1 → finishes budget (searched B) ≡ true
  unfolding judged
  finished-one e = go (finishes budget (searched B)) refl e
    where
      go : (f : Bool) → finishes budget (searched B) ≡ f → cond f (verdict (searched B)) 3 ≡ 1 → finishes budget (searched B) ≡ true
      go true q e = q
      go false q e = absurd (omega arith)

  pub meant : Meant ns h.root budget (judged budget B) o'
  meant =
      record {
        yes_true = λ e. subst (λ (F : Finite). (first : State F) × (first.0 ≡ 1) × Holds (structure F) ns h.root first) (sym (found-is (finished-one e))) (results.yes_true bs h ns is fits budget (sym number_is ∙ e));
        no_nowhere = λ e. (results.no_exactly bs h ns is fits budget (low-two e)).0 (sym number_is ∙ e);
        stopped = (λ e. (results.stopped_exactly bs h ns is fits budget).0 (sym number_is ∙ e), λ q. number_is ∙ (results.stopped_exactly bs h ns is fits budget).1 q);
        count = λ q. ap (λ (a : Answer). a.count) judged-is ∙ results.count_exactly bs h ns is fits budget q;
        yes_exactly = λ q. (λ e. (results.yes_exactly bs h ns is fits budget q).0 (sym number_is ∙ e), λ x. number_is ∙ (results.yes_exactly bs h ns is fits budget q).1 x);
        few = subst (λ (a : Answer). C ns h.root + 1 ≤ 2 ^ a.variables) (sym judged-is) (results.few bs h ns is fits budget);
      }
    where
      low-two : (judged budget B).number ≡ 2 → C ns h.root ≤ budget
      low-two e = go (dec_le (C ns h.root) budget)
        where
          go : Dec (C ns h.root ≤ budget) → C ns h.root ≤ budget
          go (yes q) = q
          go (no q) = absurd (omega (arith, e, number_is, (results.stopped_exactly bs h ns is fits budget).1 (omega arith)))

-- ---- the promise
module _ (bs : List ℕ) (budget : ℕ) (o o' : Lent) (r : Result code.Answer NoAnswer) (is : leaving (told r) o' ≡ checked bs budget o) where
  pub promised : Promised bs budget o o' r
  promised =
      record {
        answer = ap (λ (x : Outcome). x.answer) is;
        lent = ap (λ (x : Outcome). x.lent) is;
        means = means;
      }
    where
      whole : (h : Header) (ns : List Node) → book bs ≡ accepted h ns → (b : Bool) → oversized (built ns h.root) ≡ b → checked bs budget o ≡ finished budget (built ns h.root) o → (told r).number ≤ 3 → Meant ns h.root budget (told r) o'
      whole h ns q true e f low =
          let n = ap (λ (x : Outcome). x.answer.number) (is ∙ f ∙ finished-over budget (built ns h.root) o e) in
          absurd (omega (arith, n))
      whole h ns q false e f low =
          let g : leaving (told r) o' ≡ leaving (judged budget (built ns h.root)) (holding budget (built ns h.root) o) = is ∙ f ∙ finished-whole budget (built ns h.root) o e in
          subst (λ (x : Outcome). Meant ns h.root budget x.answer x.lent) (sym g) (meant bs budget o h ns q e)

      means : (h : Header) (ns : List Node) → book bs ≡ accepted h ns → (told r).number ≤ 3 → Meant ns h.root budget (told r) o'
      means h ns q low = go (enough o) refl
        where
          go : (b : Bool) → enough o ≡ b → Meant ns h.root budget (told r) o'
          go true e = whole h ns q (oversized (built ns h.root)) refl (checked-accepted bs budget o h ns e q) low
          go false e = absurd (omega (arith, ap (λ (x : Outcome). x.answer.number) (is ∙ checked_short bs budget o e)))

-- what `check` promises, case by case
module _ (bs : List ℕ) (budget : ℕ) (o : Lent) where
  pub promised_short : enough o ≡ false → Promised bs budget o o (Err LentOut)
  promised_short e = promised bs budget o o (Err LentOut) (sym (checked_short bs budget o e))

  pub promised_refused : (e : Refusal) (r : Result code.Answer NoAnswer) → enough o ≡ true → read_told bs (Err e) ≡ book bs → r ≡ Err (Refused e) → Promised bs budget o o r
  unfolding read_told
  promised_refused e r long q is = rw is (promised bs budget o o (Err (Refused e)) (sym (go e q)))
    where
      go : (e : Refusal) → read_told bs (Err e) ≡ book bs → checked bs budget o ≡ leaving (told (Err (Refused e))) o
      go Short q = checked_refused bs budget o 11 0 long (sym q)
      go Ranges q = checked_refused bs budget o 12 0 long (sym q)
      go Extent q = checked_refused bs budget o 13 0 long (sym q)
      go (NodeOut i) q = checked_refused bs budget o 14 i long (sym q)

  pub promised_accepted : (h : Header) (o' : Lent) (r : Result code.Answer NoAnswer) → enough o ≡ true → read_told bs (Ok h) ≡ book bs
      → leaving (told r) o' ≡ finished budget (built (table_of bs) h.root) o → Promised bs budget o o' r
  promised_accepted h o' r long q is = promised bs budget o o' r (is ∙ sym (checked-accepted bs budget o h (table_of bs) long (accepted-told bs (Ok h) h q refl)))

-- ---- with buffers that are long enough, the book alone decides: what holds of each case holds of the check
module _ (bs : List ℕ) (budget : ℕ) (P : (Lent → Outcome) → Type 0)
    (refuses : (n p : ℕ) → book bs ≡ refused n p → P (λ o. leaving (refusal n p) o))
    (over : (h : Header) (ns : List Node) → book bs ≡ accepted h ns → oversized (built ns h.root) ≡ true → P (λ o. leaving (refusal 15 0) (emptied o)))
    (whole : (h : Header) (ns : List Node) → book bs ≡ accepted h ns → oversized (built ns h.root) ≡ false → P (λ o. leaving (judged budget (built ns h.root)) (holding budget (built ns h.root) o))) where
  pub by-book : P (λ o. on_book budget o (book bs))
  unfolding on_book finished
  by-book = go (book bs) refl
    where
      go : (b : Book) → book bs ≡ b → P (λ o. on_book budget o b)
      go (refused n p) q = refuses n p q
      go (accepted h ns) q = sized (oversized (built ns h.root)) refl
        where
          sized : (b : Bool) → oversized (built ns h.root) ≡ b → P (λ o. cond b (leaving (refusal 15 0) (emptied o)) (leaving (judged budget (built ns h.root)) (holding budget (built ns h.root) o)))
          sized true e = over h ns q e
          sized false e = whole h ns q e

pub checked-answer : (bs : List ℕ) (budget : ℕ) (o : Lent) → enough o ≡ true → (checked bs budget o).answer ≡ answer bs budget
unfolding answer answer_to answered
checked-answer bs budget o e =
    ap (λ (x : Outcome). x.answer) (checked-book bs budget o e)
    ∙ by-book bs budget (λ f. (f o).answer ≡ answer bs budget)
    (λ n p q. rw q)
    (λ h ns q x. rw (q, x))
    (λ h ns q x. rw (q, x))
