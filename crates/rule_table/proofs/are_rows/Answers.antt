use Rattle.std.proofs.Common.{◌∙◌, arith}
use Rattle.census_rules.specs.Table.{is_row, are_rows}
use Rattle.census_rules.specs.Laws.{all_below_true, all_below_false}
use Rattle.rule_table.proofs.are_rows.Goals as goal

pub returns-then-not-is_row : goal.returns-then-not-is_row
unfolding are_rows
returns-then-not-is_row c = all_below_false (is_row c.args.rows.now) 20 c.loop-k.k c.loop-k-test.true (c.is_row.ensures ∙ c.if-not-is_row.true)

pub returns : goal.returns
unfolding are_rows
returns c = all_below_true (is_row c.args.rows.now) 20 (λ k h. c.loop-k.invariant k (omega (arith, c.loop-k-test.false)))
