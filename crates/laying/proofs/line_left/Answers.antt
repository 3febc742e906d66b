use Rattle.std.proofs.Common.{sym, ◌∙◌, arith}
use Rattle.laying.proofs.Adding.{left_more, left_same, lefts_short}
use Rattle.laying.proofs.line_left.Goals.{then-is_left, else-is_left}
use Rattle.laying.proofs.line_left.Goals as goal

pub push-requires : goal.push-requires
push-requires c =
    let a = c.args in
    let s = lefts_short a.m.now a.line.now c.loop-i.line a.flags.now c.loop-i.i c.loop-i.invariant in
    omega arith

pub loop-i-preserved : goal.loop-i-preserved
loop-i-preserved c =
    let a = c.args in
    let was = c.loop-i.invariant in
    elim c.if-is_left.branch [
      | then-is_left w ↦ left_more a.m.now _ _ a.flags.now c.loop-i.i was _ (sym c.is_left.ensures ∙ w.if-is_left.true) (w.line-is ∙ w.push.ensures)
      | else-is_left w ↦ rw w.line-is (left_same a.m.now _ _ a.flags.now c.loop-i.i was (sym c.is_left.ensures ∙ w.if-is_left.false))
    ]
