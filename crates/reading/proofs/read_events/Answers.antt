use Rattle.std.proofs.Common.{arith}
use Rattle.std.proofs.lemmas.Result.{err_from_is_err_and}
use Rattle.reading.proofs.Reading.{none_read, event_refused, event_read, all_read, is_refused}
use Rattle.reading.proofs.read_events.Goals as goal

pub loop-k-init : goal.loop-k-init
loop-k-init c = none_read _ _ c.requires.0

pub step-requires : goal.step-requires
step-requires c = let p = c.loop-k.invariant in (p.table, omega (arith, p.few, c.requires.1), omega arith)

pub returns-in_err-c : goal.returns-in_err-c
returns-in_err-c c =
    let p = err_from_is_err_and c.from_residual.result c.from_residual.ensures.1 in
    rw (p.1, p.2)
    (is_refused _ _ _ _ (event_refused _ _ _ _ c.loop-k.invariant (omega arith) _ _ c.step.ensures _ c.in_err-c.was))

pub loop-k-preserved : goal.loop-k-preserved
loop-k-preserved c = event_read _ _ _ _ c.loop-k.invariant (omega arith) _ _ c.step.ensures _ c.in_ok-c.was

pub returns : goal.returns
returns c = all_read _ _ _ _ c.loop-k.invariant c.loop-k-test.false c.loop-k.auto.k-end
