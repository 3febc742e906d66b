use Rattle.std.proofs.Common.{refl, add-one}
use Rattle.records.proofs.rows_at_most.Goals as goal

pub loop-j-preserved : goal.loop-j-preserved
loop-j-preserved c = (rw (add-one c.loop-j.j, c.loop-j.invariant) refl)
