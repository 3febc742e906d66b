-- `draining::end_empty` meets its contract.
use Rattle.std.proofs.Common.{[], ◌∷◌, refl, ◌∙◌, ne_eqb}
use Rattle.rules.specs.Cell.{reader, writes, ◌:=◌, all_handled, clear_consumer, clear_drain}
use Rattle.rules.specs.Consumer.{items_marked}
use Rattle.rules.specs.Request.{applied}
use Rattle.store.proofs.Refusals.{handed_on}
use Rattle.store.specs.Items.{length_marked}
use Rattle.store.specs.Shape.{sizes}
use Rattle.draining.specs.Elsewhere.{items_left_lem}
use Rattle.draining.specs.Onward.{turned_down, ends_after}
use Rattle.draining.proofs.end_empty.Goals as goal

pub returns-then-d-eq0 : goal.returns-then-d-eq0
unfolding applied writes
returns-then-d-eq0 c = rw (c.drain-d.ensures.limit, c.if-d-eq0.true, c.clear_consumer.ensures, c.put_all_handled.ensures) refl

pub returns-in_err-room_for : goal.returns-in_err-room_for
returns-in_err-room_for c =
    let a = c.args in
    let d = c.drain-d in
    let σ = reader (sizes a.z) a.s.now in
    rw (handed_on c.from_residual.result c.from_residual.ensures.1 c.in_err-room_for.ensures.1, d.ensures.limit, ne_eqb _ _ c.if-d-eq0.false, d.ensures.count)
    (turned_down (sizes a.z) a.s.now a.b.now a.from d.result.count (items_marked σ d.result.count) (all_handled := 0 ∷ clear_consumer ∷ clear_drain ∷ [])
    (length_marked σ d.result.count) c.in_err-room_for.ensures.0)

pub returns : goal.returns
unfolding writes
returns c =
    let a = c.args in
    let d = c.drain-d in
    let items = items_left_lem (sizes a.z) a.s.now c.requires.room.fits (all_handled := 0 ∷ []) (tt, tt) (refl, tt) d.result.count in
    rw (d.ensures.limit, ne_eqb _ _ c.if-d-eq0.false, d.ensures.count)
    (rw c.put_all_handled-2.ensures at c.end_with.ensures
    ∙ ends_after (sizes a.z) a.s.now a.b.now a.from d.result.count (all_handled := 0) items c.in_ok-room_for.ensures)
