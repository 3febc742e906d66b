use Rattle.std.proofs.Common.{refl, le_antisymm, add-one, arith}
use Rattle.area.proofs.pairs_marked.Goals as goal

pub loop-i-preserved : goal.loop-i-preserved
loop-i-preserved c = let l = c.loop-i in (rw (add-one l.i, l.invariant) refl)
