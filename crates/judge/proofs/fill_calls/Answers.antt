-- `judge::fill_calls`: a turn fills one entry more.
use Rattle.std.proofs.Common.{arith, add-one}
use Rattle.judge.proofs.Filling.{one_more}
use Rattle.judge.proofs.fill_calls.Goals as goal

pub loop-j-preserved : goal.loop-j-preserved
loop-j-preserved c =
    let v = c.loop-j.invariant in
    rw (v, c.entry_of.ensures, add-one c.loop-j.j) (one_more c.args.m.now c.args.table.now c.loop-j.j (omega arith))
