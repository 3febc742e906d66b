use Rattle.std.proofs.Common.{refl, ◌∙◌, le_antisymm, add-one}
use Rattle.census_rules.specs.Table.{word_in}
use Rattle.rule_table.proofs.rule_for.Goals as goal
use Rattle.rule_table.proofs.rule_for.Goals.{then-is_for, else-is_for}

pub loop-k-init : goal.loop-k-init
unfolding word_in
loop-k-init c = refl

pub loop-k-preserved : goal.loop-k-preserved
unfolding word_in
loop-k-preserved c =
    let l = c.loop-k in
    let e = c.is_for.ensures in
    elim c.if-is_for.branch [
      | then-is_for w ↦ rw (add-one l.k, e, w.if-is_for.true) w.word-is
      | else-is_for w ↦ rw (add-one l.k, e, w.if-is_for.false) (w.word-is ∙ l.invariant)
    ]

pub returns : goal.returns
returns c = rw (le_antisymm c.loop-k.auto.k-end c.loop-k-test.false) at c.loop-k.invariant
