-- `taking::read_item` meets its contract.
use Rattle.std.proofs.Common.{refl}
use Rattle.rules.specs.Cell.{writes}
use Rattle.rules.specs.Consumer.{read_item}
use Rattle.rules.specs.Request.{applied}
use Rattle.store.proofs.Refusals.{handed_on}
use Rattle.store.proofs.Slots.{located, outside}
use Rattle.taking.proofs.read_item.Goals as goal

pub returns-in_err-at : goal.returns-in_err-at
unfolding read_item
returns-in_err-at c =
    let k = c.consumer-c.ensures in
    rw (handed_on c.from_residual.result c.from_residual.ensures.1 c.in_err-at.ensures.1) (outside k.found_record k.found_position _ c.in_err-at.ensures.0)

pub returns : goal.returns
unfolding read_item applied writes
returns c =
    let k = c.consumer-c.ensures in
    let at = located k.found_record k.found_position c.in_ok-at.ensures in
    rw (at.link, at.inside, at.is, c.entry-number.ensures.is, c.entry-value.ensures.is, c.put_consumer-3.ensures, c.put_consumer-2.ensures, c.put_consumer.ensures) refl
