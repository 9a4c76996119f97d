-- The start of a build, from what asking and writing do: state 1 is asked for the root, and its literal is written. Assumes nothing.
use Prim.Native.Nat.{ℕ}
use mathlib.Core.Path.{◌≡◌, refl, sym, ap, ◌∙◌, subst}
use mathlib.Core.Bool.{false}
use mathlib.Core.List.{List}
use lib.IntN.{ℤ}
use Rattle.logic.specs.Table.{Node}
use Rattle.signed.specs.Signed.{signed}
use Rattle.signed.specs.declared.Ask.{Ask}
use Rattle.clauses.specs.Clause.{literal, one}
use Rattle.encoding.specs.Build as def
use Rattle.encoding.specs.Build.{ask, asked}
use Rattle.encoding.specs.Shows.{buffers, Shows, Next, Asks, Writes, at_start}
use Rattle.encoding.specs.Shows.{Tally}
use Rattle.encoding.specs.Shows.{Reply}
use Rattle.encoding.proofs.Steps.{next-then, write-next}
use Rattle.rules.specs.Does.{Part}
use Rattle.rules.proofs.Doing.{asks_part, literal-part}
use Rattle.build.specs.Steps.{Begins, bare}

pub begin_does : {c : Tally} {ws ws' : List ℕ} {cs cs' k : List ℤ} {x : Reply} {r : Tally} (l : Ask) (ns : List Node) (root : ℕ) → c ≡ at_start → Part l (signed ns root false) → Asks c 1 l.key ws ws' x → Writes x.counts k cs cs' r
    → k ≡ one (literal l.minus x.variable) → Begins root ns r ws ws' cs cs'
unfolding def.start
begin_does {c} {ws} {ws'} {cs} {cs'} {k} {x} {r} l ns root e P ax w i =
    record {
      stays = record {
        next = subst (λ (z : Tally). Next z r ws ws') e (next-then ax.next (write-next w ws'));
        same = w.states ∙ ax.same ∙ ap (λ (z : Tally). z.states) e;
      };
      does = λ o st sh.
          let p = signed ns root false in
          let A = ask 1 p bare in
          let s0 : Shows o c (buffers st ws cs) bare = subst (λ (z : Tally). Shows o z (buffers st ws cs) bare) (sym e) sh in
          w.does o st ws' A (one (asked 1 p A)) refl (λ g. i ∙ rw (literal-part ax p P o st cs bare s0 g)) (asks_part ax p P o st cs bare s0);
    }
