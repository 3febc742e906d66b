-- `retiring::retire_head` meets its contract.
use Rattle.std.proofs.Common.{◌≡◌, refl, sym, ◌∙◌, arith, eq-eqb, ne_eqb}
use Rattle.rules.specs.Cell.{writes}
use Rattle.rules.specs.Consumer.{retire_head}
use Rattle.rules.specs.Request.{applied}
use Rattle.store.proofs.Refusals.{handed_on}
use Rattle.store.specs.Items.{lent}
use Rattle.dequeue.proofs.Crossings.{crosses_nowhere}
use Rattle.retiring.proofs.retire_head.Goals as goal

pub returns-in_err-head : goal.returns-in_err-head
unfolding retire_head applied
returns-in_err-head c =
    rw (handed_on c.from_residual.result c.from_residual.ensures.1 c.in_err-head.ensures.1, c.contents.ensures.head_record, c.in_err-head.ensures.0) refl

pub returns-in_err-to : goal.returns-in_err-to
unfolding retire_head
returns-in_err-to c =
    rw (handed_on c.from_residual-in_err-to.result c.from_residual-in_err-to.ensures.1 c.in_err-to.ensures.1, c.contents.ensures.head_record, c.in_ok-head.ensures) (lent (crosses_nowhere _ c.in_err-to.ensures.0) _ _)

pub returns-then-drain-ne0 : goal.returns-then-drain-ne0
unfolding retire_head
returns-then-drain-ne0 c =
    let x = c.in_ok-to.ensures in
    rw (c.contents.ensures.head_record, c.in_ok-head.ensures, x.link, x.placed, x.fits, ← x.link_is, ← x.position_is, ne_eqb _ 0 (λ e. c.if-drain-ne0.true (sym c.drain.ensures.limit ∙ e))) c.retire_drained.ensures

pub returns : goal.returns
unfolding retire_head applied writes
returns c =
    let x = c.in_ok-to.ensures in
    let none : c.drain.result.limit ≡ 0 = omega (arith, c.if-drain-ne0) in
    let k = c.consumer-taken.ensures in
    rw (c.contents.ensures.head_record, c.in_ok-head.ensures, x.link, x.placed, x.fits, ← x.link_is, ← x.position_is, eq-eqb _ 0 (c.drain.ensures.limit ∙ none), k.item_call, k.item_value, c.clear_consumer.ensures, c.move_to.ensures) refl
