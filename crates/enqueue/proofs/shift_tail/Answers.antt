-- `enqueue::shift_tail` meets its contract.
use Rattle.std.proofs.Common.{refl, eq-eqb, ne_eqb}
use Rattle.rules.specs.Cell.{writes}
use Rattle.rules.specs.Producer.{shift_tail}
use Rattle.rules.specs.Request.{applied}
use Rattle.store.proofs.Refusals.{handed_on}
use Rattle.enqueue.proofs.shift_tail.Goals as goal
use Rattle.enqueue.proofs.shift_tail.Goals.{then-contents-held+in_ok-needed, else-contents-held}

pub returns-in_err-record : goal.returns-in_err-record
unfolding shift_tail applied
returns-in_err-record c = rw (handed_on c.from_residual.result c.from_residual.ensures.1 c.in_err-record.ensures.1, c.producer-held.ensures.held, c.in_err-record.ensures.0) refl

pub returns-in_err-needed : goal.returns-in_err-needed
unfolding shift_tail applied
returns-in_err-needed c = rw (handed_on c.from_residual-in_err-needed.result c.from_residual-in_err-needed.ensures.1 c.in_err-needed.ensures.1, c.producer-held.ensures.held, c.in_ok-record.ensures, c.contents.ensures.tail_record, ← c.in_ok-record.ensures, eq-eqb _ _ c.if-contents-held.true, c.part-next.ensures.is, c.in_err-needed.ensures.0) refl

pub returns : goal.returns
unfolding shift_tail applied writes
returns c =
    let held = c.producer-held.ensures.held in
    let named = c.in_ok-record.ensures in
    let tail = c.contents.ensures.tail_record in
    elim c.if-contents-held.branch [
      | then-contents-held+in_ok-needed w ↦ rw (held, named, tail, ← named, eq-eqb _ _ w.if-contents-held.true, w.part-next.ensures.is, w.in_ok-needed.ensures, c.put_producer.ensures, w.s-is, w.put_content.ensures, w.in_ok-needed.ensures) refl
      | else-contents-held w ↦ rw (held, named, tail, ← named, ne_eqb _ _ w.if-contents-held.false, c.put_producer.ensures, w.s-is) refl
    ]
