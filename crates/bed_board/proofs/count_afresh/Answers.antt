use Rattle.std.proofs.Common.{◌<◌, ◌∙◌, List, ℕ, length, add-one, arith, get_or, drop-cons, length-take-le, get_or-take}
use Rattle.census_rules.specs.Board.{beds, states_on}
use Rattle.census_rules.specs.Laws.{InRange, at_most_at, state_in_range}
use Rattle.bed_board.proofs.count_afresh.Goals as goal

bed_inside : (b : List ℕ) → InRange b → (bed : ℕ) → bed < length (states_on b) → bed < beds
bed_inside b range bed h = omega (arith, length-take-le beds b (omega (arith, range.long)))

pub bounds-row-state : goal.bounds-row-state
bounds-row-state c =
    let b = c.args.board.now in
    let bed = c.loop-state.state-index in
    let h = bed_inside b c.requires.0 bed c.loop-state-test.true in
    omega (arith, get_or-take beds b bed 0 h, state_in_range b c.requires.0.fits bed h)

pub overflow_add-count : goal.overflow_add-count
overflow_add-count c =
    let b = c.args.board.now in
    let bed = c.loop-state.state-index in
    omega (arith, bed_inside b c.requires.0 bed c.loop-state-test.true, c.loop-state.invariant.few, at_most_at 1 c.args.row c.requires.1 (get_or (states_on b) bed 0))

pub loop-state-preserved : goal.loop-state-preserved
loop-state-preserved c =
    let ss = states_on c.args.board.now in
    let bed = c.loop-state.state-index in
    record {
      few = omega (arith, c.loop-state.invariant.few, at_most_at 1 c.args.row c.requires.1 (get_or ss bed 0));
      so_far = c.loop-state.invariant.so_far ∙ rw (add-one bed, drop-cons ss bed 0 c.loop-state-test.true) (omega arith);
    }
