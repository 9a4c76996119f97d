-- From a cleared buffer to marks of lives and atoms, in the first rows of the working space. Assumes nothing.
use Prim.Native.Nat.{ℕ, suc, ◌+◌, ◌*◌, ◌≤◌, ◌<◌}
use native.Mathlib.Omega.{arith}
use mathlib.Core.Path.{◌≡◌, ap, ◌∙◌}
use mathlib.Core.Bool.{cond}
use mathlib.Core.List.{List, []}
use lib.ListN.{get_or, length, take}
use Rattle.ground.specs.Buffer.{cleared}
use Rattle.ground.proofs.Buffers.{Kept, length-filled, filled-laid, filled-kept, is-filled}
use Rattle.logic.specs.Finite.{some_below}
use Rattle.signed.specs.Signed.{bit}
use Rattle.encoding.specs.Limits.{max_states}
use Rattle.structure.specs.Structure.{lives}
use Rattle.structure.specs.Evaluation.{records_in, lies, max_atoms, work_size}
use Rattle.structure.specs.Held.{numbers}
use Rattle.structure.specs.declared.Structure.{Structure}
use Rattle.structure.specs.Rows.{Written, Scattered, table_reaches, atom_row}
use Rattle.structure.proofs.Written.{written-front}
use Rattle.structure.proofs.Scatter.{scatter_away}
use Rattle.structure.proofs.Atoms.{table-reached, table-not-lives, table-not-beyond}
use Rattle.structure.proofs.Preparing.{cond-bit}
use Rattle.evaluation.specs.Nodes.{Room, Begun, Prepared}

-- what is cleared twice
pub cleared-kept : (n : ℕ) (old new : List ℕ) → n ≤ length old → length new ≡ length old → Kept 0 n old new → cleared 0 n new ≡ cleared 0 n old
cleared-kept n old new h l k =
    is-filled 0 n [] old (cleared 0 n new) h (length-filled 0 n [] new (omega arith) ∙ l) (filled-laid 0 n [] new) (λ i q. filled-kept 0 n [] new i q ∙ k i q)

-- the first rows of the working space, of whatever lies in the buffers
pub begun : (n v : ℕ) (st ws vs old one two new : List ℕ) → n ≤ max_states → v ≤ length ws → work_size ≤ length old
    → one ≡ cleared 0 ((1 + max_atoms) * max_states) old
    → Written 0 n (λ j. bit (lives (records_in n st) (take v vs) (suc j))) one two
    → Scattered 1 (table_reaches ws v vs n) v two new
    → Begun (lies n v st ws vs) n old new
begun n v st ws vs old one two new few inside long e w t =
    record {
      long = t.long ∙ w.rest.long ∙ ap length e ∙ length-filled 0 first [] old (omega arith);
      kept = λ i h.
          scatter_away 1 (table_reaches ws v vs n) two v new i (λ j q. table-not-beyond ws v vs inside n few i j (omega arith)) t
          ∙ w.rest.after i (omega arith) ∙ ap (λ (l : List ℕ). get_or l i 0) e ∙ filled-kept 0 first [] old i (omega arith);
      shows = λ ns. record { lives = lived; atoms = atom; nodes = λ c h. absurd (omega arith) };
    }
  where
    first : ℕ
    first = (1 + max_atoms) * max_states

    lived : (j : ℕ) → j < n → get_or new j 0 ≡ bit ((lies n v st ws vs).state (suc j))
    lived j h =
        scatter_away 1 (table_reaches ws v vs n) two v new j (λ k q. table-not-lives ws v vs inside n few j k (omega arith)) t
        ∙ written-front n (λ i. bit (lives (records_in n st) (take v vs) (suc i))) one two w j h

    atom : (a : ℕ) → a < max_atoms → (j : ℕ) → j < n → get_or new (atom_row a + j) 0 ≡ bit ((lies n v st ws vs).L a (suc j))
    atom a q j h =
        t.at (atom_row a + j)
        ∙ ap (λ (y : ℕ). cond (some_below v (table_reaches ws v vs n (atom_row a + j))) 1 y)
        (w.rest.after (atom_row a + j) (omega arith) ∙ ap (λ (l : List ℕ). get_or l (atom_row a + j) 0) e ∙ filled-laid 0 first [] old (atom_row a + j) (omega arith))
        ∙ cond-bit (some_below v (table_reaches ws v vs n (atom_row a + j)))
        ∙ ap bit (table-reached ws v vs inside n few a j q h)

-- of a structure
pub prepared : (s : Structure) (old one two new : List ℕ) → Room s old → one ≡ cleared 0 ((1 + max_atoms) * max_states) old
    → Written 0 s.states_count (λ j. bit (lives (records_in s.states_count (numbers s)) (take s.variables_count s.values.now) (suc j))) one two
    → Scattered 1 (table_reaches s.words.now s.variables_count s.values.now s.states_count) s.variables_count two new
    → Prepared s old new
prepared s old one two new room e w t = begun s.states_count s.variables_count (numbers s) s.words.now s.values.now old one two new room.few room.words room.rows e w t
