-- `scanning::read_entry` meets its contract.
use Rattle.std.proofs.Common.{refl, suc, add-one, arith, eq-eqb, ne_eqb, le-leb}
use borrow.Author.Tests.{lt-leb}
use Rattle.rules.specs.Cell.{writes}
use Rattle.rules.specs.Consumer.{read_entry}
use Rattle.rules.specs.Request.{applied}
use Rattle.store.proofs.Refusals.{handed_on}
use Rattle.store.proofs.Slots.{located, outside}
use Rattle.scanning.proofs.read_entry.Goals as goal

pub returns-in_err-at : goal.returns-in_err-at
unfolding read_entry
returns-in_err-at c =
    let k = c.consumer-c.ensures in
    rw (handed_on c.from_residual.result c.from_residual.ensures.1 c.in_err-at.ensures.1) (outside k.cursor_record k.cursor_position _ c.in_err-at.ensures.0)

pub returns-then-found-eq-SET : goal.returns-then-found-eq-SET
unfolding read_entry applied writes
returns-then-found-eq-SET c =
    let k = c.consumer-c.ensures in
    let at = located k.cursor_record k.cursor_position c.in_ok-at.ensures in
    let q = c.contents-q.ensures in
    rw (at.link, at.inside, at.is, c.entry-found.ensures.is, eq-eqb _ _ c.if-found-eq-SET.true, k.cursor_position, q.head_record, q.head_position, c.put_consumer.ensures, c.put_all_handled.ensures, c.put_cursor.ensures, c.put_found.ensures, ← k.cursor_record, at.link) refl

pub returns-then-z-c : goal.returns-then-z-c
unfolding read_entry applied
returns-then-z-c c =
    let k = c.consumer-c.ensures in
    let at = located k.cursor_record k.cursor_position c.in_ok-at.ensures in
    let p = c.consumer-c.result.cursor_position in
    rw (at.link, at.inside, at.is, c.entry-found.ensures.is, ne_eqb _ _ c.if-found-eq-SET.false, k.cursor_position, lt-leb (suc p) c.args.z.starts (omega arith)) refl

pub returns : goal.returns
unfolding read_entry applied writes
returns c =
    let k = c.consumer-c.ensures in
    let at = located k.cursor_record k.cursor_position c.in_ok-at.ensures in
    let p = c.consumer-c.result.cursor_position in
    rw (at.link, at.inside, at.is, c.entry-found.ensures.is, ne_eqb _ _ c.if-found-eq-SET.false, k.cursor_position, le-leb (suc p) c.args.z.starts (omega (arith, c.if-z-c)), c.put_consumer-3.ensures, c.put_all_handled-2.ensures, c.put_consumer-2.ensures, c.still_handled-handled.ensures, add-one p) refl
