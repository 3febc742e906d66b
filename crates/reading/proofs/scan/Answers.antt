use Rattle.std.proofs.Common.{arith}
use Rattle.reading.proofs.scan.Goals as goal

pub returns-then-m-j : goal.returns-then-m-j
returns-then-m-j c = (omega arith, omega arith, c.if-m-j.true, c.loop-j.invariant)
