-- `enqueue::set_entry` meets its contract.
use Rattle.std.proofs.Common.{refl}
use Rattle.rules.specs.Cell.{writes}
use Rattle.rules.specs.Producer.{set_entry}
use Rattle.rules.specs.Request.{applied}
use Rattle.store.proofs.Refusals.{handed_on}
use Rattle.store.proofs.Slots.{located, outside}
use Rattle.enqueue.proofs.set_entry.Goals as goal

pub returns-in_err-at : goal.returns-in_err-at
unfolding set_entry
returns-in_err-at c = rw (handed_on c.from_residual.result c.from_residual.ensures.1 c.in_err-at.ensures.1) (outside c.producer-p.ensures.held c.producer-p.ensures.position _ c.in_err-at.ensures.0)

pub returns-then-ahead : goal.returns-then-ahead
unfolding set_entry applied writes
returns-then-ahead c =
    let p = c.producer-p.ensures in
    let at = located p.held p.position c.in_ok-at.ensures in
    rw (at.link, at.inside, at.is, p.backed, c.if-ahead.true, c.put_producer.ensures, c.put_entry.ensures) refl

pub returns : goal.returns
unfolding set_entry applied writes
returns c =
    let p = c.producer-p.ensures in
    let at = located p.held p.position c.in_ok-at.ensures in
    rw (at.link, at.inside, at.is, p.backed, c.if-ahead.false, c.clear_producer.ensures, c.put_entry.ensures) refl
