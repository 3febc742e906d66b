-- `enqueue::go_back` meets its contract.
use Rattle.std.proofs.Common.{refl}
use Rattle.rules.specs.Cell.{writes}
use Rattle.rules.specs.Producer.{go_back}
use Rattle.rules.specs.Request.{applied}
use Rattle.store.proofs.Refusals.{handed_on}
use Rattle.enqueue.proofs.go_back.Goals as goal

pub returns-in_err-held : goal.returns-in_err-held
unfolding go_back applied
returns-in_err-held c = rw (handed_on c.from_residual.result c.from_residual.ensures.1 c.in_err-held.ensures.1, c.producer.ensures.held, c.in_err-held.ensures.0) refl

pub returns-in_err-record : goal.returns-in_err-record
unfolding go_back applied
returns-in_err-record c = rw (handed_on c.from_residual-in_err-record.result c.from_residual-in_err-record.ensures.1 c.in_err-record.ensures.1, c.producer.ensures.held, c.in_ok-held.ensures, c.part-prev.ensures.is, c.in_err-record.ensures.0) refl

pub returns : goal.returns
unfolding go_back applied writes
returns c = rw (c.producer.ensures.held, c.in_ok-held.ensures, c.part-prev.ensures.is, c.in_ok-record.ensures, c.choose_phase-to.ensures, ← c.in_ok-record.ensures, c.put_producer-3.ensures, c.put_producer-2.ensures, c.put_producer.ensures) refl
