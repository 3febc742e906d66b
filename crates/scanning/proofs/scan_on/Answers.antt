-- `scanning::scan_on` meets its contract.
use Rattle.std.proofs.Common.{refl, sym, ◌∙◌, eq-eqb, ne_eqb}
use Rattle.rules.specs.Cell.{writes}
use Rattle.rules.specs.Consumer.{scan}
use Rattle.rules.specs.Request.{applied}
use Rattle.store.proofs.Refusals.{handed_on}
use Rattle.store.specs.Items.{lent}
use Rattle.scanning.proofs.scan_on.Goals as goal

pub returns-in_err-record : goal.returns-in_err-record
unfolding scan applied
returns-in_err-record c =
    rw (handed_on c.from_residual.result c.from_residual.ensures.1 c.in_err-record.ensures.1, c.consumer-c.ensures.cursor_record, c.in_err-record.ensures.0) refl

pub returns-then-c-q : goal.returns-then-c-q
unfolding scan
returns-then-c-q c =
    let k = c.consumer-c.ensures in
    rw (k.cursor_record, c.in_ok-record.ensures, k.cursor_position, c.record_end.ensures.0, ne_eqb _ _ c.if-c-record_end.true, c.contents-q.ensures.tail, eq-eqb _ _ c.if-c-q.true) c.end_empty.ensures

pub returns-then-c-record_end : goal.returns-then-c-record_end
unfolding scan applied writes
returns-then-c-record_end c =
    let k = c.consumer-c.ensures in
    rw (k.cursor_record, c.in_ok-record.ensures, k.cursor_position, c.record_end.ensures.0, ne_eqb _ _ c.if-c-record_end.true, c.contents-q.ensures.tail, ne_eqb _ _ c.if-c-q.false, c.put_consumer.ensures) refl

pub returns-then-q-c : goal.returns-then-q-c
unfolding scan
returns-then-q-c c =
    let k = c.consumer-c.ensures in
    rw (k.cursor_record, c.in_ok-record.ensures, k.cursor_position, c.record_end.ensures.0, eq-eqb _ _ c.if-c-record_end.false, c.contents-q.ensures.tail_record, eq-eqb _ _ (c.if-q-c.true ∙ c.in_ok-record.ensures)) c.end_empty-then-q-c.ensures

pub returns : goal.returns
unfolding scan
returns c =
    let k = c.consumer-c.ensures in
    rw (k.cursor_record, c.in_ok-record.ensures, k.cursor_position, c.record_end.ensures.0, eq-eqb _ _ c.if-c-record_end.false, c.contents-q.ensures.tail_record, ne_eqb _ _ (λ e. c.if-q-c.false (e ∙ sym c.in_ok-record.ensures))) (lent c.scan_crosses.ensures _ _)
