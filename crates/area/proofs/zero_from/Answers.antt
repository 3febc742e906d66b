use Rattle.std.proofs.Common.{refl, le_antisymm, add-one, arith}
use Rattle.area.proofs.zero_from.Goals as goal

pub loop-j-preserved : goal.loop-j-preserved
loop-j-preserved c = let l = c.loop-j in (rw (add-one l.j, l.invariant) refl)
