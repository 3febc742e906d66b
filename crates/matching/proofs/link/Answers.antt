use Rattle.std.proofs.Common.{◌≡◌, suc, ◌-◌, arith}
use Rattle.matching.proofs.Linking.{none_linked, one_linked}
use Rattle.matching.proofs.link.Goals as goal

pub loop-p-init : goal.loop-p-init
loop-p-init c = none_linked _ _ _ c.requires.1 c.requires.2

pub loop-p-preserved : goal.loop-p-preserved
loop-p-preserved c =
    let p = c.loop-p.p in
    let e : p ≡ suc (p - 1) = omega arith in
    rw c.thread_of-t.ensures.0 (one_linked _ _ _ (p - 1) c.requires.0 (rw e at c.loop-p.invariant))
