-- `laying::lay` meets its contract. Assumes nothing.
use Rattle.std.proofs.Common.{refl, ap, ◌∙◌, length, arith}
use Rattle.laying.proofs.Adding.{items_short}
use Rattle.laying.proofs.Ordering.{order_length, may_lay, laid_is}
use Rattle.laying.proofs.lay.Goals as goal

pub line_left-requires : goal.line_left-requires
line_left-requires c =
    let a = c.args in
    let s = items_short a.m.now a.items.now c.new-line.result c.line_items.new.line a.c c.line_items.ensures.lined in
    let n = rw c.new-line.ensures at s in
    (c.requires.few, omega arith)

pub lay_line-requires : goal.lay_line-requires
lay_line-requires c =
    may_lay _ _ _ _ c.requires _ refl _ c.line_items.ensures.noted _ _ _ _ _ c.new-line.ensures c.line_items.ensures.lined (ap length c.places-t.ensures) (c.places-places.ensures ∙ c.line_left.ensures) c.count_answers-e.ensures

pub overflow_add-result : goal.overflow_add-result
overflow_add-result c =
    let z =
    order_length _ _ _ _ c.requires _ refl _ c.line_items.ensures.noted _ _ _ _ _ c.new-line.ensures c.line_items.ensures.lined (ap length c.places-t.ensures) (c.places-places.ensures ∙ c.line_left.ensures) c.count_answers-e.ensures in
    omega (arith, c.requires.fits, c.well_formed.1.1.1.0.0)

pub returns : goal.returns
returns c =
    laid_is _ _ _ _ c.requires _ refl _ c.line_items.ensures.noted _ _ _ _ _ c.new-line.ensures c.line_items.ensures.lined (ap length c.places-t.ensures) (c.places-places.ensures ∙ c.line_left.ensures) c.count_answers-e.ensures _ _ c.lay_line.ensures
