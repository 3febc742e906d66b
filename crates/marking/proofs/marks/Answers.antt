use Rattle.std.proofs.Common.{arith}
use Rattle.marking.proofs.Passing.{none_passed, call_passed, call_stuck, pass_fails, all_passed}
use Rattle.marking.proofs.marks.Goals as goal

pub loop-j-init : goal.loop-j-init
loop-j-init c = (none_passed _ _ _ _ c.requires.2, omega arith, c.requires.3)

pub pass-requires : goal.pass-requires
pass-requires c = let p = c.requires in (p.0, p.1, omega arith, omega arith, c.loop-j.invariant.2)

pub returns-in_err-progress : goal.returns-in_err-progress
returns-in_err-progress c =
    rw c.from_residual.ensures
    (pass_fails _ _ _ _ (call_stuck _ _ _ _ _ _ c.loop-j.invariant.0 c.loop-j-test.true _ _ _ c.pass.ensures c.in_err-progress.was))

pub loop-j-preserved : goal.loop-j-preserved
loop-j-preserved c =
    let p = call_passed _ _ _ _ _ _ c.loop-j.invariant.0 c.loop-j-test.true _ _ _ c.pass.ensures _ c.in_ok-progress.was in
    (p.1, p.0, c.pass.array_long2)

pub returns : goal.returns
returns c = all_passed _ _ _ _ _ _ c.loop-j.invariant.0 (omega arith)
