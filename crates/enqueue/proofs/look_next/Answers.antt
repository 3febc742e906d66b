-- `enqueue::look_next` meets its contract.
use Rattle.std.proofs.Common.{refl, ne_eqb}
use Rattle.rules.specs.Cell.{writes}
use Rattle.rules.specs.Producer.{look_next}
use Rattle.rules.specs.Request.{applied}
use Rattle.store.proofs.Refusals.{handed_on}
use Rattle.enqueue.proofs.look_next.Goals as goal
use Rattle.enqueue.proofs.look_next.Goals.{then-none, else-none}

pub returns-in_err-held : goal.returns-in_err-held
unfolding look_next applied
returns-in_err-held c = rw (handed_on c.from_residual.result c.from_residual.ensures.1 c.in_err-held.ensures.1, c.producer.ensures.held, c.in_err-held.ensures.0) refl

pub returns : goal.returns
unfolding look_next applied writes
returns c =
    elim c.if-none.branch [
      | then-none w ↦ rw (c.producer.ensures.held, c.in_ok-held.ensures, c.part-none.ensures.is, w.if-none.true, c.put_producer.ensures, w.to-is) refl
      | else-none w ↦ rw (c.producer.ensures.held, c.in_ok-held.ensures, c.part-none.ensures.is, ne_eqb _ _ w.if-none.false, c.put_producer.ensures, w.to-is) refl
    ]
