use Rattle.std.proofs.Common.{refl, ◌∙◌, eq-eqb, ne_eqb, arith}
use Rattle.census_rules.specs.Table.{each_once, is_table}
use Rattle.census_rules.specs.Laws.{all_below_true, all_below_false}
use Rattle.rule_table.proofs.is_table.Goals as goal

pub returns-then-rows-ne-WORDS : goal.returns-then-rows-ne-WORDS
unfolding is_table
returns-then-rows-ne-WORDS c = rw (ne_eqb _ 60 c.if-rows-ne-WORDS.true) refl

pub returns-then-not-are_rows : goal.returns-then-not-are_rows
unfolding is_table
returns-then-not-are_rows c = rw (eq-eqb _ 60 c.if-rows-ne-WORDS.false, c.are_rows.ensures ∙ c.if-not-are_rows.true) refl

pub returns-then-not-each_once : goal.returns-then-not-each_once
unfolding is_table
returns-then-not-each_once c =
    rw (eq-eqb _ 60 c.if-rows-ne-WORDS.false, c.are_rows.ensures ∙ c.if-not-are_rows.false)
    (all_below_false (each_once c.args.rows.now) 4 c.loop-office.office c.loop-office-test.true (c.each_once.ensures ∙ c.if-not-each_once.true))

pub returns : goal.returns
unfolding is_table
returns c =
    rw (eq-eqb _ 60 c.if-rows-ne-WORDS.false, c.are_rows.ensures ∙ c.if-not-are_rows.false)
    (all_below_true (each_once c.args.rows.now) 4 (λ k h. c.loop-office.invariant k (omega (arith, c.loop-office-test.false))))
