use Rattle.std.proofs.Common.{◌∙◌, arith}
use Rattle.census_rules.specs.Table.{once}
use Rattle.census_rules.specs.Laws.{all_below_true, all_below_false}
use Rattle.rule_table.proofs.each_once.Goals as goal

pub returns-then-not-once : goal.returns-then-not-once
returns-then-not-once c = all_below_false (once c.args.rows.now c.args.office) 5 c.loop-state.state c.loop-state-test.true (c.once.ensures ∙ c.if-not-once.true)

pub returns : goal.returns
returns c = all_below_true (once c.args.rows.now c.args.office) 5 (λ k h. c.loop-state.invariant k (omega (arith, c.loop-state-test.false)))
