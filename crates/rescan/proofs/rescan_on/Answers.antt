-- `rescan::rescan_on` meets its contract.
use Rattle.std.proofs.Common.{refl, suc, add-one, arith, eq-eqb, ne_eqb, le-leb}
use borrow.Author.Tests.{lt-leb}
use Rattle.rules.specs.Cell.{writes}
use Rattle.rules.specs.Consumer.{rescan}
use Rattle.rules.specs.Request.{applied}
use Rattle.store.proofs.Refusals.{handed_on}
use Rattle.store.proofs.Slots.{stands_end, stands_at, nowhere}
use Rattle.rescan.proofs.rescan_on.Goals as goal

pub returns-in_err-slot : goal.returns-in_err-slot
unfolding rescan
returns-in_err-slot c =
    let k = c.consumer-c.ensures in
    rw (handed_on c.from_residual.result c.from_residual.ensures.1 c.in_err-slot.ensures.1) (nowhere k.cursor_record k.cursor_position _ _ c.in_err-slot.ensures.0)

pub returns-in-End : goal.returns-in-End
unfolding rescan
returns-in-End c =
    let k = c.consumer-c.ensures in
    let end = stands_end k.cursor_record k.cursor_position c.in_ok-slot.ensures c.in-End.is in
    rw (end.link, end.ends) c.rescan_end.ensures

pub returns-then-entry-eq-SET : goal.returns-then-entry-eq-SET
unfolding rescan
returns-then-entry-eq-SET c =
    let k = c.consumer-c.ensures in
    let at = stands_at k.cursor_record k.cursor_position c.in_ok-slot.ensures c.in-At.is in
    rw (at.link, at.before, at.inside, at.is, c.entry.ensures.is, eq-eqb _ _ c.if-entry-eq-SET.true) (rw at.link at c.rescan_found.ensures)

pub returns-then-z-c : goal.returns-then-z-c
unfolding rescan applied
returns-then-z-c c =
    let k = c.consumer-c.ensures in
    let at = stands_at k.cursor_record k.cursor_position c.in_ok-slot.ensures c.in-At.is in
    rw (at.link, at.before, at.inside, at.is, c.entry.ensures.is, ne_eqb _ _ c.if-entry-eq-SET.false, k.cursor_position, lt-leb (suc c.consumer-c.result.cursor_position) c.args.z.starts (omega arith)) refl

pub returns-then-c : goal.returns-then-c
unfolding rescan applied writes
returns-then-c c =
    let k = c.consumer-c.ensures in
    let at = stands_at k.cursor_record k.cursor_position c.in_ok-slot.ensures c.in-At.is in
    let p = c.consumer-c.result.cursor_position in
    rw (at.link, at.before, at.inside, at.is, c.entry.ensures.is, ne_eqb _ _ c.if-entry-eq-SET.false, k.cursor_position, le-leb (suc p) c.args.z.starts (omega (arith, c.if-z-c)), k.found_position, eq-eqb (suc p) c.consumer-c.result.found_position (omega (arith, c.if-c)), c.settle.ensures, c.through_scan-through.ensures) refl

pub returns-else-c : goal.returns-else-c
unfolding rescan applied writes
returns-else-c c =
    let k = c.consumer-c.ensures in
    let at = stands_at k.cursor_record k.cursor_position c.in_ok-slot.ensures c.in-At.is in
    let p = c.consumer-c.result.cursor_position in
    rw (at.link, at.before, at.inside, at.is, c.entry.ensures.is, ne_eqb _ _ c.if-entry-eq-SET.false, k.cursor_position, le-leb (suc p) c.args.z.starts (omega (arith, c.if-z-c)), k.found_position, ne_eqb (suc p) c.consumer-c.result.found_position (λ e. c.if-c.false (omega arith)), c.put_consumer.ensures, add-one p) refl
