-- `census::census_take` meets its contract.
use Rattle.std.proofs.Common.{◌≡◌, sym, ap, subst, ◌∙◌, Some, set, arith, ◌/◌, ◌%◌}
use Rattle.std.proofs.lemmas.Result.{err_from_is_err_and}
use Rattle.census.specs.declared.Refusal.TheVariants.{Board}
use Rattle.census_rules.specs.Board.{with_counts}
use Rattle.census_rules.specs.Census.{accepting}
use Rattle.census_rules.specs.Laws.{Counting, state_in_range, board_counting}
use Rattle.census_rules.specs.Cases.{taking_on_no_board, taking_no_bed, taking_no_state, taking_out_of_range, taking_moves, moved_by}
use Rattle.census.proofs.census_take.Goals as goal

pub returns-in_err-look : goal.returns-in_err-look
returns-in_err-look c =
    let p = err_from_is_err_and c.from_residual.result c.from_residual.ensures.1 in
    rw (p.1, p.2, c.in_err-look.ensures.0) (taking_on_no_board _ _ c.in_err-look.ensures.1)

pub returns-then-bed-ge-BEDS : goal.returns-then-bed-ge-BEDS
returns-then-bed-ge-BEDS c = taking_no_bed _ _ c.in_ok-look.ensures.fits c.if-bed-ge-BEDS.true

pub returns-then-state-gt-LAST_STATE : goal.returns-then-state-gt-LAST_STATE
returns-then-state-gt-LAST_STATE c = taking_no_state _ _ c.in_ok-look.ensures.fits c.if-bed-ge-BEDS.false c.if-state-gt-LAST_STATE.true

pub counts_after-requires : goal.counts_after-requires
counts_after-requires c =
    let range = c.in_ok-look.ensures in (
      range,
      subst Counting (sym c.rules_on-rules.ensures) (board_counting _ range.fits),
      omega (arith, state_in_range _ range.fits _ c.if-bed-ge-BEDS.false),
      omega (arith, c.if-state-gt-LAST_STATE.false),
    )

pub returns-in_err-counts : goal.returns-in_err-counts
returns-in_err-counts c =
    let none = c.in_err-counts.ensures.ok_part in
    let answered = rw none at c.in_err-counts.ensures.value in
    let refused : c.in_err-counts.field-0.0 ≡ Board = cc in
    let out_of_range = rw none at c.counts_after.ensures in
    let p = err_from_is_err_and c.from_residual-in_err-counts.result c.from_residual-in_err-counts.ensures.1 in
    rw (p.1, p.2, refused)
    (taking_out_of_range _ _ c.in_ok-look.ensures.fits c.if-bed-ge-BEDS.false c.if-state-gt-LAST_STATE.false c.rules_on-rules.ensures out_of_range)

pub returns : goal.returns
returns c =
    let b = c.args.board.now in
    let some : c.counts_after.result ≡ Some c.in_ok-counts.counts = grind arith in
    let moved = rw some at c.counts_after.ensures in
    ap accepting (c.write_counts.ensures ∙ ap (with_counts (set b (c.args.value / 8) (c.args.value % 8))) moved.1 ∙ moved_by b _ _ _ c.rules_on-rules.ensures)
    ∙ taking_moves b _ c.in_ok-look.ensures.fits c.if-bed-ge-BEDS.false c.if-state-gt-LAST_STATE.false c.rules_on-rules.ensures moved.0
