use Rattle.std.proofs.Common.{refl, ap, ℕ, le_antisymm, add-one, arith, eqb}
use Rattle.census_rules.specs.Table.{times_in}
use Rattle.rule_table.proofs.once.Goals as goal
use Rattle.rule_table.proofs.once.Goals.{then-is_for, else-is_for}

pub loop-k-init : goal.loop-k-init
unfolding times_in
loop-k-init c = (omega arith, refl)

pub loop-k-preserved : goal.loop-k-preserved
unfolding times_in
loop-k-preserved c =
    let l = c.loop-k in
    let e = c.is_for.ensures in
    elim c.if-is_for.branch [
      | then-is_for w ↦ (omega arith, rw (add-one l.k, e, w.if-is_for.true) (omega arith))
      | else-is_for w ↦ (omega arith, rw (add-one l.k, e, w.if-is_for.false) (omega arith))
    ]

pub returns : goal.returns
returns c =
    let l = c.loop-k in
    ap (λ (n : ℕ). eqb n 1) (rw (le_antisymm l.auto.k-end c.loop-k-test.false) at l.invariant.1)
