-- `enqueue::load_tail` meets its contract.
use Rattle.std.proofs.Common.{refl}
use Rattle.rules.specs.Cell.{writes}
use Rattle.rules.specs.Producer.{load_tail}
use Rattle.rules.specs.Request.{applied}
use Rattle.store.proofs.Refusals.{handed_on}
use Rattle.enqueue.proofs.load_tail.Goals as goal

pub returns-in_err-record : goal.returns-in_err-record
unfolding load_tail applied
returns-in_err-record c = rw (handed_on c.from_residual.result c.from_residual.ensures.1 c.in_err-record.ensures.1, c.contents-tail_record.ensures.tail_record, c.in_err-record.ensures.0) refl

pub returns : goal.returns
unfolding load_tail applied writes
returns c = rw (c.contents-tail_record.ensures.tail_record, c.in_ok-record.ensures, c.choose_phase-to.ensures, ← c.in_ok-record.ensures, c.put_producer-2.ensures, c.put_producer.ensures) refl
