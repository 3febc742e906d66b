use Rattle.std.proofs.Common.{refl, ◌∙◌, ◌-◌, arith, take, drop, length-take}
use Rattle.session.specs.LoopLaws.{line_within, answered_short, going_begins, going_on, going_stops, going_ends}
use Rattle.session.proofs.run_lines.Goals as goal

pub loop-at-init : goal.loop-at-init
loop-at-init c = (omega arith, omega arith, omega arith, refl, refl, refl, going_begins _ _ _ _)

pub slice_bounds-parse_line-end : goal.slice_bounds-parse_line-end
slice_bounds-parse_line-end c = omega (arith, line_within c.args.input.now c.loop-at.at c.loop-at-test.true)

pub shape_of-store-in-Break : goal.shape_of-store-in-Break
shape_of-store-in-Break c = c.take_turn.auto.store ∙ c.loop-at.invariant.3

pub shape_of-history-in-Break : goal.shape_of-history-in-Break
shape_of-history-in-Break c = c.take_turn.auto.history ∙ c.loop-at.invariant.4

pub shape_of-out-in-Break : goal.shape_of-out-in-Break
shape_of-out-in-Break c = c.take_turn.auto.out ∙ c.loop-at.invariant.5

pub returns-in-Break : goal.returns-in-Break
returns-in-Break c =
    let i = c.args.input.now in
    let e = c.line_end-end in
    let w = rw (c.in-Break.is, c.parse_line-line.ensures) at c.take_turn.ensures in
    record { leaves = going_stops i c.loop-at.at e.result (omega arith) e.ensures c.loop-at.invariant.6 w }

pub overflow_add-at : goal.overflow_add-at
overflow_add-at c =
    omega (arith, line_within c.args.input.now c.loop-at.at c.loop-at-test.true)

pub loop-at-preserved : goal.loop-at-preserved
loop-at-preserved c =
    let i = c.args.input.now in
    let e = c.line_end-end in
    let w = rw (c.in-Continue.is, c.parse_line-line.ensures) at c.take_turn.ensures in
    let s = answered_short (take (e.result - c.loop-at.at) (drop c.loop-at.at i)) w in
    let n = rw length-take at s.0 in
    let k = line_within i c.loop-at.at (omega arith) in (
      omega arith,
      omega (arith, s.1),
      omega (arith, s.2),
      c.take_turn.auto.store ∙ c.loop-at.invariant.3,
      c.take_turn.auto.history ∙ c.loop-at.invariant.4,
      c.take_turn.auto.out ∙ c.loop-at.invariant.5,
      going_on i c.loop-at.at e.result (omega arith) e.ensures c.loop-at.invariant.6 w,
    )

pub shape_of-store : goal.shape_of-store
shape_of-store c = c.loop-at.invariant.3

pub shape_of-history : goal.shape_of-history
shape_of-history c = c.loop-at.invariant.4

pub shape_of-out : goal.shape_of-out
shape_of-out c = c.loop-at.invariant.5

pub returns : goal.returns
returns c = record { leaves = (going_ends c.loop-at-test.false c.loop-at.invariant.6, omega arith, omega arith) }
