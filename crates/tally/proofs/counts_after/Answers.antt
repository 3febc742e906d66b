use Rattle.std.proofs.Common.{◌<◌, ℕ, arith}
use Rattle.census_rules.specs.Board.{row_of, count_on}
use Rattle.census_rules.specs.Census.{stays}
use Rattle.census_rules.specs.Laws.{row_counts, count_in_range, all_below_true, all_below_false}
use Rattle.census_rules.specs.Words.{list_of_four}
use Rattle.tally.proofs.counts_after.Goals as goal

pub changed-requires : goal.changed-requires
changed-requires c =
    let office = c.loop-office.office in
    let h : office < 4 = c.loop-office-test.true in
    (row_counts c.args.rules c.requires.1 office h, count_in_range _ c.requires.0.fits office h, c.requires.2, c.requires.3)

pub returns-in_err-counts : goal.returns-in_err-counts
returns-in_err-counts c =
    let a = c.args in
    rw c.from_residual.ensures
    (all_below_false (λ k. stays (row_of a.rules k) (count_on a.board.now k) a.old a.new) 4 c.loop-office.office c.loop-office-test.true c.in_err-counts.ensures)

pub returns : goal.returns
returns c =
    let a = c.args in
    let l = c.loop-office.invariant in
    let each : (k : ℕ) → k < 4 → k < c.loop-office.office = λ k h. omega (arith, c.loop-office-test.false) in (
      all_below_true (λ k. stays (row_of a.rules k) (count_on a.board.now k) a.old a.new) 4 (λ k h. l.stay k (each k h)),
      list_of_four _ 0 (omega (arith, l.four)) (l.made 0 (each 0 (omega arith))) (l.made 1 (each 1 (omega arith))) (l.made 2 (each 2 (omega arith))) (l.made 3 (each 3 (omega arith))),
    )
