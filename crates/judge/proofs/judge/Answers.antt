-- `judge::judge` meets its contract, by what the words are taken for (proofs/Looking.antt).
use Rattle.std.proofs.Common.{refl, arith}
use Rattle.reading.proofs.Zeros.{no_calls}
use Rattle.judge.proofs.Looking.{refuses, no_room, few, ready, judged_as}
use Rattle.judge.proofs.judge.Goals as goal

pub read-requires : goal.read-requires
read-requires c = no_calls _ refl

pub returns-in-Err : goal.returns-in-Err
returns-in-Err c = refuses _ _ _ _ _ _ c.read.ensures _ c.in-Err.is

pub returns-in-Ok : goal.returns-in-Ok
returns-in-Ok c = no_room _ _ _ _ _ _ c.read.ensures _ c.in-Ok.is (omega arith)

pub fill_calls-requires : goal.fill_calls-requires
fill_calls-requires c = let f = few _ _ c.args.order.now _ _ _ c.read.ensures _ c.in-Ok.is in (omega arith, omega arith)

pub explain-requires : goal.explain-requires
explain-requires c = ready _ _ _ _ _ _ c.read.ensures _ c.in-Ok.is (omega arith) _ c.fill_calls.ensures

pub returns-in-Ok-2 : goal.returns-in-Ok-2
returns-in-Ok-2 c = judged_as _ _ _ _ _ _ c.read.ensures _ c.in-Ok.is (omega arith) _ c.fill_calls.ensures _ _ c.explain.ensures
