use native.Mathlib.Omega.{arith}
use mathlib.Core.Bool.{false}
use mathlib.Core.Path.{refl}
use Rattle.book.proofs.Accepted.{sound-below, sound-atoms}
use Rattle.book.specs.Held.{nodes_in}
use Rattle.signed.specs.Signed.{signed}
use Rattle.encoding.proofs.Bounds.{asked-small}
use Rattle.encoding.proofs.Steps.{write-over}
use Rattle.rules.specs.Does.{Part}
use Rattle.build.proofs.Beginning.{begin_does}
use Rattle.rules.proofs.Moving.{handed}
use Rattle.build.proofs.states.begin.Goals as goal
use Rattle.build.proofs.states.begin.Goals.{After-start}

module _ (c : After-start) where
  part : Part c.strip-l.result (signed (nodes_in c.args.book.now) c.args.root false)
  part =
      let k = c.args.book.now in
      record {
        small = asked-small (nodes_in k) (sound-below k.table.bytes.now k.table.offset k.table.sound) k.table.sound.few (sound-atoms k.table.bytes.now k.table.offset k.table.sound) c.args.root false (omega (arith, k.whole, c.requires.root));
        is = c.strip-l.ensures.0;
      }

pub returns-in_err-x-clause-does : goal.returns-in_err-x-clause-does
returns-in_err-x-clause-does c =
    let x = c.in_err-x.ensures.asks in
    rw (handed c.from_residual.result _ c.from_residual.ensures.0 c.from_residual.ensures.1)
    (begin_does c.strip-l.result (nodes_in c.args.book.now) c.args.root c.start.ensures (part (goal.at.returns-in_err-x-clause-does c).After-start) x (write-over _ _ _ x.next.room (λ q. omega arith)) refl)

pub returns-clause-does : goal.returns-clause-does
returns-clause-does c =
    begin_does c.strip-l.result (nodes_in c.args.book.now) c.args.root c.start.ensures (part (goal.at.returns-clause-does c).After-start) c.in_ok-x.ensures.asks c.write.ensures c.one.ensures
