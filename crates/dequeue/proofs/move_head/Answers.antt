-- `dequeue::move_head` meets its contract.
use Rattle.std.proofs.Common.{refl}
use Rattle.rules.specs.Request.{applied}
use Rattle.store.proofs.Refusals.{handed_on}
use Rattle.dequeue.proofs.Crossings.{crosses_nowhere}
use Rattle.dequeue.proofs.move_head.Goals as goal

pub returns-in_err-to : goal.returns-in_err-to
returns-in_err-to c =
    rw (handed_on c.from_residual.result c.from_residual.ensures.1 c.in_err-to.ensures.1) (crosses_nowhere _ c.in_err-to.ensures.0)

pub returns : goal.returns
unfolding applied
returns c =
    let x = c.in_ok-to.ensures in
    rw (x.link, x.placed, x.fits, ← x.link_is, ← x.position_is, c.move_to.ensures) refl
