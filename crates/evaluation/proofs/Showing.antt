-- Rows of the working space that show a structure and a book's nodes on it: a node's row is made from those of its children by `check`, the step of
-- evaluation, so that the rows below i and the row of i show the nodes below i + 1. Assumes nothing.
use Prim.Native.Nat.{ℕ, suc, ◌+◌, ◌*◌, ◌≤◌, ◌<◌}
use native.Mathlib.Omega.{arith}
use native.Mathlib.Decide.{ℕ_discrete}
use native.Mathlib.Nat.{add-zero}
use mathlib.Core.Path.{◌≡◌, refl, sym, ap, ap₂, ◌∙◌}
use mathlib.Core.Logic.{◌⊎◌, inl, inr}
use mathlib.Core.Bool.{Bool, true, false, not, ◌&&◌, ◌||◌, cond}
use mathlib.Core.List.{List}
use lib.Dec.{T, eqb}
use lib.ListN.{get_or, length, take}
use mir.Facts.{and_yes, yes_and, eqb_yes, yes_eqb}
use Rattle.logic.specs.Table as table
use Rattle.logic.specs.Table.{children, node, Below, at-step}
use Rattle.logic.specs.Finite.{Finite, some_below, successor, check, evaluate}
use Rattle.signed.specs.Signed.{bit}
use Rattle.book.specs.Held.{nodes_of}
use Rattle.book.specs.Shapes.{shape_of, Bounded}
use Rattle.book.specs.declared.node.Node.{Node}
use Rattle.book.specs.declared.node.Node.TheVariants.{Atom, Not, And, Or, Implies, Box, Diamond}
use Rattle.book.specs.declared.sound.Table.{Table}
use Rattle.book.proofs.Accepted.{sound-below}
use Rattle.encoding.specs.Build.{Record}
use Rattle.encoding.specs.Limits.{max_states}
use Rattle.records.specs.declared.State.{State}
use Rattle.records.specs.Table.{row_at}
use Rattle.records.proofs.Tables.{length-numbers_of}
use Rattle.structure.specs.Structure.{edge, read_back}
use Rattle.structure.specs.Evaluation.{records_in, max_atoms}
use Rattle.structure.specs.Held.{numbers, lies_in}
use Rattle.structure.specs.Marks.{on}
use Rattle.structure.specs.Rows.{Elsewhere, Written, Scattered, reached, atom_row, put_in}
use Rattle.structure.specs.declared.Structure.{Structure}
use Rattle.structure.proofs.Living.{no_zero}
use Rattle.structure.proofs.Marking.{on_bit}
use Rattle.structure.proofs.Recorded.{record_at_lem, length-records}
use Rattle.structure.proofs.Written.{elsewhere_both}
use Rattle.structure.proofs.Scatter.{same_tests, some_ext, some_shift, reached-yes, yes-reached, scatter_none, scatter_more, scatter_away}
use Rattle.evaluation.specs.declared.rows.Modal.{Modal}
use Rattle.evaluation.specs.Nodes.{first_row, second_row, node_row, joined, is_diamond, turned, counts, parent_reaches, reaches, Row, Shown, Room, Evaluating}

-- ---- a box or a diamond
module _ (st w : List ℕ) (r child : ℕ) (diamond : Bool) (base n : ℕ) where
  -- only places of the row are reached
  pub spread_row : (i j : ℕ) → T (parent_reaches st w r child diamond base n i j) → (base ≤ i) × (i < base + n)
  unfolding parent_reaches
  spread_row i j t = let b = reached-yes base n (counts st w r child diamond j) (get_or st (3 * j) 0) i t in (omega (arith, b.1, b.3), omega (arith, b.2, b.3))

  pub spread_elsewhere : (k : ℕ) (new : List ℕ) → Scattered (bit diamond) (parent_reaches st w r child diamond base n) k w new → Elsewhere base (base + n) w new
  spread_elsewhere k new s =
      record {
        long = s.long;
        before = λ i h. away i (λ b. omega (arith, b.0));
        after = λ i h. away i (λ b. omega (arith, b.1));
      }
    where
      away : (i : ℕ) → ((base ≤ i) × (i < base + n) → ⊥) → get_or new i 0 ≡ get_or w i 0
      away i f = scatter_away (bit diamond) (parent_reaches st w r child diamond base n) w k new i (λ j q t. f (spread_row i j t)) s

  -- one turn: the marks that it reads lie before the row, and are as they were
  pub spread_turn : n ≤ base → child + n ≤ base → base + n ≤ length w → (j : ℕ) → j < n → (new : List ℕ) (mark : Bool) (p : ℕ) → mark ≡ counts st new r child diamond j → p ≡ get_or st (3 * j) 0
      → Scattered (bit diamond) (parent_reaches st w r child diamond base n) j w new
      → Scattered (bit diamond) (parent_reaches st w r child diamond base n) (j + 1) w (put_in base n mark p (bit diamond) new)
  unfolding parent_reaches counts
  spread_turn a b l j h new mark p e q s =
      let o = (spread_elsewhere j new s).before in
      scatter_more (bit diamond) (parent_reaches st w r child diamond base n) w j new base n mark p l
      (λ i. rw (e, q, o j (omega arith), o (child + j) (omega arith))) s

-- of a structure: the code's loop
module _ (s : Structure) (w : List ℕ) (m : Modal) (base : ℕ) where
  pub spread_none : Scattered (bit m.diamond) (reaches s w m base) 0 w w
  spread_none = scatter_none (bit m.diamond) (reaches s w m base) w

  pub spread_next : s.states_count ≤ base → m.child + s.states_count ≤ base → base + s.states_count ≤ length w → (j : ℕ) → j < s.states_count → (old new : List ℕ) (mark : Bool) (x : ℕ) (d : State)
      → mark ≡ counts (numbers s) old m.relation m.child m.diamond j → d ≡ row_at (numbers s) j → x ≡ bit m.diamond → new ≡ put_in base s.states_count mark d.parent x old
      → Scattered (bit m.diamond) (reaches s w m base) j w old → Scattered (bit m.diamond) (reaches s w m base) (j + 1) w new
  spread_next a b l j h old new mark x d e q y z t =
      rw (z, y) (spread_turn (numbers s) w m.relation m.child m.diamond base s.states_count a b l j h old mark d.parent e (ap (λ (z : State). z.parent) q) t)

-- ---- a node's row
module _ (F : Finite) (ns : List table.Node) (i n : ℕ) (few : n ≤ max_states) where
  -- what is written from the row of node i on leaves the rows before it
  pub shown-kept : (high : ℕ) (old new : List ℕ) → Elsewhere (node_row i) high old new → Shown F ns i n old → Shown F ns i n new
  shown-kept high old new e s =
      record {
        lives = λ j h. e.before j (omega arith) ∙ s.lives j h;
        atoms = λ a q j h. e.before (atom_row a + j) (omega arith) ∙ s.atoms a q j h;
        nodes = λ c q j h. e.before (node_row c + j) (omega arith) ∙ s.nodes c q j h;
      }

  pub shown-more : (w : List ℕ) → Shown F ns i n w → Row w (node_row i) n (evaluate F ns i) → Shown F ns (i + 1) n w
  shown-more w s row = record { lives = s.lives; atoms = s.atoms; nodes = λ c q. go c q (ℕ_discrete c i) }
    where
      go : (c : ℕ) → c < i + 1 → Dec (c ≡ i) → Row w (node_row c) n (evaluate F ns c)
      go c q (yes e) = rw e row
      go c q (no e) = s.nodes c (omega arith)

module _ (F : Finite) (ns : List table.Node) (i n : ℕ) (w : List ℕ) (shown : Shown F ns i n w) where
  mark-lives : (j : ℕ) → j < n → on w j ≡ F.state (suc j)
  mark-lives j h = on_bit w j (F.state (suc j)) (shown.lives j h)

  mark-atom : (a j : ℕ) → a < max_atoms → j < n → on w (atom_row a + j) ≡ F.L a (suc j)
  mark-atom a j q h = on_bit w (atom_row a + j) (F.L a (suc j)) (shown.atoms a q j h)

  mark-node : (c j : ℕ) → c < i → j < n → on w (node_row c + j) ≡ evaluate F ns c (suc j)
  mark-node c j q h = on_bit w (node_row c + j) (evaluate F ns c (suc j)) (shown.nodes c q j h)

  -- an atom's copy, "not", "and", "or", "implies": state by state
  pub joined_checks : (x : Node) → Bounded i x → ((r c : ℕ) → x ≡ Box r c → ⊥) → ((r c : ℕ) → x ≡ Diamond r c → ⊥) → (j : ℕ) → j < n
      → joined x (on w (first_row x + j)) (on w (second_row x + j)) ≡ check F i (children (evaluate F ns) (shape_of x)) (suc j)
  unfolding check children
  joined_checks (Atom a) b p q j h = mark-atom a j b h
  joined_checks (Not c) b p q j h = ap not (mark-node c j b h)
  joined_checks (And c d) b p q j h = ap₂ ◌&&◌ (mark-node c j b.0 h) (mark-node d j b.1 h)
  joined_checks (Or c d) b p q j h = ap₂ ◌||◌ (mark-node c j b.0 h) (mark-node d j b.1 h)
  joined_checks (Implies c d) b p q j h = ap₂ (λ x y. not x || y) (mark-node c j b.0 h) (mark-node d j b.1 h)
  joined_checks (Box r c) b p q j h = absurd (p r c refl)
  joined_checks (Diamond r c) b p q j h = absurd (q r c refl)

-- a parent that is reached: the state that reaches it is its successor
parent-reached : (base n : ℕ) (alive same counted : Bool) (p q : ℕ) → q < n → reached base n (alive && same && counted) p (base + q) ≡ (alive && (alive && eqb p (suc q) && same) && counted)
parent-reached base n alive same counted p q h = same_tests _ _ there back
  where
    here : Bool
    here = eqb p (suc q)

    edged : Bool
    edged = alive && here && same

    there : T (reached base n (alive && same && counted) p (base + q)) → T (alive && edged && counted)
    there t =
        let b = reached-yes base n (alive && same && counted) p (base + q) t in
        let x = and_yes (alive && same) counted b.0 in
        let y = and_yes alive same x.0 in
        let z = yes_eqb {a = p} {b = suc q} (omega (arith, b.3)) in
        yes_and (alive && edged) counted (yes_and alive edged y.0 (yes_and (alive && here) same (yes_and alive here y.0 z) y.1)) x.1

    back : T (alive && edged && counted) → T (reached base n (alive && same && counted) p (base + q))
    back t =
        let x = and_yes (alive && edged) counted t in
        let y = and_yes alive edged x.0 in
        let z = and_yes (alive && here) same y.1 in
        let e : p ≡ suc q = eqb_yes (and_yes alive here z.0).1 in
        yes-reached base n (alive && same && counted) p (base + q) (yes_and (alive && same) counted (yes_and alive same y.0 z.1) x.1) (omega arith) (omega arith) (omega arith)

turned_bit : (d b : Bool) → cond b (bit d) (bit (not d)) ≡ bit (turned d b)
unfolding turned
turned_bit true true = refl
turned_bit true false = refl
turned_bit false true = refl
turned_bit false false = refl

module _ (st ws vs : List ℕ) (ns : List table.Node) (i n : ℕ) (w : List ℕ) (whole : 3 * n ≤ length st) (shown : Shown (read_back (records_in n st) ws vs) ns i n w) where
  abbrev G : Finite
  G = read_back (records_in n st) ws vs

  -- what reaches a state's place in the row is a successor whose mark counts
  successors : (base r c : ℕ) (d : Bool) → c < i → (q : ℕ) → q < n → some_below n (parent_reaches st w r (node_row c) d base n (base + q)) ≡ successor G r (suc q) (λ t. turned d (evaluate G ns c t))
  unfolding parent_reaches counts edge
  successors base r c d low q h =
      some_ext n _ _ (λ j l.
      rw (mark-lives G ns i n w shown j l, mark-node G ns i n w shown c j low l)
      (parent-reached base n (G.state (suc j)) (eqb (get_or st (3 * j + 1) 0) r) (turned d (evaluate G ns c (suc j))) (get_or st (3 * j) 0) q h
      ∙ ap (λ (x : Record). G.state (suc j) && (G.state (suc j) && eqb x.parent (suc q) && eqb x.relation r) && turned d (evaluate G ns c (suc j))) (sym (record_at_lem n st j l (omega arith)))))
      ∙ sym (some_shift n (λ t. G.state t && G.R r (suc q) t && turned d (evaluate G ns c t)) (ap (λ b. b && G.R r (suc q) 0 && turned d (evaluate G ns c 0)) (no_zero (records_in n st) vs)))
      ∙ ap (λ (m : ℕ). some_below (suc m) (λ t. G.state t && G.R r (suc q) t && turned d (evaluate G ns c t))) (sym (length-records n st whole))

  -- a box and a diamond: by the successors, over what the row began with
  pub box_checks : (r c : ℕ) → c < i → (j : ℕ) → j < n
      → cond (some_below n (parent_reaches st w r (node_row c) false (node_row i) n (node_row i + j))) (bit false) (bit true) ≡ bit (check G i (children (evaluate G ns) (table.box r c)) (suc j))
  unfolding check children turned
  box_checks r c low j h = ap (λ b. cond b (bit false) (bit true)) (successors (node_row i) r c false low j h) ∙ turned_bit false (successor G r (suc j) (λ t. not (evaluate G ns c t)))

  pub diamond_checks : (r c : ℕ) → c < i → (j : ℕ) → j < n
      → cond (some_below n (parent_reaches st w r (node_row c) true (node_row i) n (node_row i + j))) (bit true) (bit false) ≡ bit (check G i (children (evaluate G ns) (table.dia r c)) (suc j))
  unfolding check children turned
  diamond_checks r c low j h = ap (λ b. cond b (bit true) (bit false)) (successors (node_row i) r c true low j h) ∙ turned_bit true (successor G r (suc j) (λ t. evaluate G ns c t))

-- the step of evaluation, in a table whose children are below their nodes
checked : (F : Finite) (ns : List table.Node) → Below ns → (i s : ℕ) → check F i (children (evaluate F ns) (node ns i)) s ≡ evaluate F ns i s
unfolding evaluate
checked F ns below i s = sym (ap (λ (f : ℕ → Bool). f s) (at-step (check F) ns below i))

-- ---- one node more
module _ (t : Table) (s : Structure) (i : ℕ) (old : List ℕ) (room : Room s old) (inside : i < length (nodes_of t)) (x : Node) (here : shape_of x ≡ node (nodes_of t) i) (bounds : Bounded i x) where
  abbrev n : ℕ
  n = s.states_count

  abbrev ns : List table.Node
  ns = nodes_of t

  abbrev F : Finite
  F = lies_in s

  whole : 3 * n ≤ length (numbers s)
  whole = omega (arith, length-numbers_of s.states.now, room.records)

  step : (j : ℕ) → check F i (children (evaluate F ns) (shape_of x)) (suc j) ≡ evaluate F ns i (suc j)
  step j = ap (λ (m : table.Node). check F i (children (evaluate F ns) m) (suc j)) here ∙ checked F ns (sound-below t.bytes.now t.offset t.sound) i (suc j)

  one_more : (new : List ℕ) → Elsewhere (node_row i) (node_row i + n) old new → (Shown F ns i n old → Row new (node_row i) n (evaluate F ns i)) → Evaluating ns s i (i + 1) old new
  one_more new e row =
      record {
        long = e.long;
        kept = λ p h. e.after p (omega (arith, room.few, t.sound.few));
        shows = λ y. shown-more F ns i n room.few new (shown-kept F ns i n room.few (node_row i + n) old new e y) (row y);
      }

  pub joined_node : (new : List ℕ) → Written (node_row i) n (λ j. bit (joined x (on old (first_row x + j)) (on old (second_row x + j)))) old new
      → ((r c : ℕ) → x ≡ Box r c → ⊥) → ((r c : ℕ) → x ≡ Diamond r c → ⊥) → Evaluating ns s i (i + 1) old new
  joined_node new wrote p q = one_more new wrote.rest (λ y j h. wrote.at j h ∙ ap bit (joined_checks F ns i n old y x bounds p q j h ∙ step j))

  -- what the row of a box or a diamond began with, and the marks of the states that were reached
  module _ (r c : ℕ) (mid new : List ℕ) where
    spread_more : (d : Bool) → Written (node_row i) n (λ j. bit (not d)) old mid
        → Scattered (bit d) (parent_reaches (numbers s) mid r (node_row c) d (node_row i) n) n mid new
        → (Shown F ns i n mid → (j : ℕ) → j < n
        → cond (some_below n (parent_reaches (numbers s) mid r (node_row c) d (node_row i) n (node_row i + j))) (bit d) (bit (not d)) ≡ bit (check F i (children (evaluate F ns) (shape_of x)) (suc j)))
        → Evaluating ns s i (i + 1) old new
    spread_more d begun spread checks =
        one_more new (elsewhere_both (node_row i) (node_row i + n) old mid new begun.rest (spread_elsewhere (numbers s) mid r (node_row c) d (node_row i) n n new spread))
        (λ y j h.
        spread.at (node_row i + j)
        ∙ ap (λ (z : ℕ). cond (some_below n (parent_reaches (numbers s) mid r (node_row c) d (node_row i) n (node_row i + j))) (bit d) z) (begun.at j h)
        ∙ checks (shown-kept F ns i n room.few (node_row i + n) old mid begun.rest y) j h
        ∙ ap bit (step j))

    pub modal_node : (d : Bool) → d ≡ is_diamond x → (x ≡ Box r c) ⊎ (x ≡ Diamond r c) → Written (node_row i) n (λ j. bit (not d)) old mid
        → Scattered (bit d) (parent_reaches (numbers s) mid r (node_row c) d (node_row i) n) n mid new → Evaluating ns s i (i + 1) old new
    modal_node d q (inl e) begun spread = spread_more d begun spread (λ y j h. rw (q ∙ ap is_diamond e, e) (box_checks (numbers s) (take s.variables_count s.words.now) (take s.variables_count s.values.now) ns i n mid whole y r c (rw e at bounds).1 j h))
    modal_node d q (inr e) begun spread = spread_more d begun spread (λ y j h. rw (q ∙ ap is_diamond e, e) (diamond_checks (numbers s) (take s.variables_count s.words.now) (take s.variables_count s.values.now) ns i n mid whole y r c (rw e at bounds).1 j h))

-- the root's mark at state 1
pub root-shown : (F : Finite) (ns : List table.Node) (k n root : ℕ) (w : List ℕ) → Shown F ns k n w → root < k → 1 ≤ n → on w (node_row root) ≡ evaluate F ns root 1
root-shown F ns k n root w s h q = ap (on w) (sym (add-zero (node_row root))) ∙ mark-node F ns k n w s root 0 h q
