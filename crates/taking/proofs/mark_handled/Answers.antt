-- `taking::mark_handled` meets its contract.
use Rattle.std.proofs.Common.{sym, ◌∙◌, eq-eqb, ne_eqb}
use Rattle.rules.specs.Consumer.{mark_handled}
use Rattle.store.proofs.Refusals.{handed_on}
use Rattle.store.proofs.Slots.{located, outside}
use Rattle.store.specs.Items.{lent}
use Rattle.taking.proofs.mark_handled.Goals as goal

pub returns-in_err-at : goal.returns-in_err-at
unfolding mark_handled
returns-in_err-at c =
    let k = c.consumer-c.ensures in
    rw (handed_on c.from_residual.result c.from_residual.ensures.1 c.in_err-at.ensures.1) (lent (outside k.found_record k.found_position _ c.in_err-at.ensures.0) _ _)

pub returns-then-drain-eq0 : goal.returns-then-drain-eq0
unfolding mark_handled
returns-then-drain-eq0 c =
    let k = c.consumer-c.ensures in
    let at = located k.found_record k.found_position c.in_ok-at.ensures in
    rw (at.link, at.inside, at.is, eq-eqb _ 0 (c.drain.ensures.limit ∙ c.if-drain-eq0.true)) (lent c.mark_item.ensures _ _)

pub returns : goal.returns
unfolding mark_handled
returns c =
    let k = c.consumer-c.ensures in
    let at = located k.found_record k.found_position c.in_ok-at.ensures in
    rw (at.link, at.inside, at.is, ne_eqb _ 0 (λ e. c.if-drain-eq0.false (sym c.drain.ensures.limit ∙ e))) c.mark_drained.ensures
