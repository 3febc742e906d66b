use Rattle.std.proofs.Common.{sym, ◌∙◌, arith}
use Rattle.laying.proofs.Adding.{notes_item, notes_same, items_short}
use Rattle.laying.proofs.line_items.Goals.{then-gives, else-gives}
use Rattle.laying.proofs.line_items.Goals as goal

pub push-requires : goal.push-requires
push-requires c =
    let a = c.args in
    let s = items_short a.m.now a.items.now a.line.now c.loop-j.line c.loop-j.j c.loop-j.invariant.lined in
    omega arith

pub loop-j-preserved : goal.loop-j-preserved
loop-j-preserved c =
    let a = c.args in
    let was = c.loop-j.invariant in
    elim c.if-gives.branch [
      | then-gives w ↦ notes_item a.m.now a.items.now _ _ _ _ c.loop-j.j was _ _ c.requires.3 (sym c.gives.ensures ∙ w.if-gives.true) (w.line-is ∙ w.push.ensures) w.flags-is
      | else-gives w ↦ rw (w.line-is, w.flags-is) (notes_same a.m.now a.items.now _ _ _ _ c.loop-j.j was (sym c.gives.ensures ∙ w.if-gives.false))
    ]
