-- `rescan::rescan_end` meets its contract.
use Rattle.std.proofs.Common.{[]}
use Rattle.rules.specs.Cell.{writes}
use Rattle.store.proofs.Refusals.{handed_on}
use Rattle.dequeue.proofs.Crossings.{crosses_nowhere}
use Rattle.rescan.specs.Rescan.{moved}
use Rattle.rescan.proofs.rescan_end.Goals as goal

pub returns-in_err-to : goal.returns-in_err-to
returns-in_err-to c =
    rw (handed_on c.from_residual.result c.from_residual.ensures.1 c.in_err-to.ensures.1) (crosses_nowhere _ c.in_err-to.ensures.0)

pub returns : goal.returns
unfolding writes
returns c =
    let x = c.in_ok-to.ensures in
    let to = c.in_ok-to.to in
    rw (x.link, x.placed, x.fits, ← x.link_is, ← x.position_is, c.consumer-found.ensures.found_position, c.move_cursor.ensures, ← c.through_scan-through.ensures) (moved _ _ to.link to.position c.consumer-found.result.found_position [])
