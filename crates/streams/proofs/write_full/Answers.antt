-- What a write took of the rest of the text follows what was written before.
use Rattle.std.proofs.Common.{◌≡◌, ℕ, ◌+◌, ◌-◌, List, ◌++◌, arith, length, take, drop, sym, ap, ◌∙◌, rules, subst, take_all, length-drop}
use Rattle.std.specs.Io.KnownBytes.{Appends}
use Rattle.std.proofs.KnownBytes.{Appends-trans}
use lib.Seq.{take-add}
use Rattle.streams.proofs.write_full.Goals as goal

take_next : (a n : ℕ) (xs : List ℕ) → take a xs ++ take n (take (length xs - a) (drop a xs)) ≡ take (a + n) xs
take_next a n xs = ap (λ l. take a xs ++ take n l) (take_all (length xs - a) (drop a xs) (omega (arith, length-drop a xs))) ∙ sym (take-add a n xs)

pub loop-done-preserved : goal.loop-done-preserved
loop-done-preserved g c = (
  search rules,
  subst (Appends _ _) (take_next c.loop-done.done c.in_ok-n.n c.args.text.now) (Appends-trans _ _ _ _ _ c.loop-done.invariant.1 c.in_ok-n.ensures.bytes),
)
