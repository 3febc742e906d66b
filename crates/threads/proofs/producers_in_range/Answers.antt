use Rattle.std.proofs.Common.{refl, le_antisymm, add-one, arith}
use Rattle.threads.proofs.producers_in_range.Goals as goal

pub producer_in_range-ok-requires : goal.producer_in_range-ok-requires
producer_in_range-ok-requires c = record { room = c.requires; le_t = omega arith }

pub loop-t-preserved : goal.loop-t-preserved
loop-t-preserved c =
    (rw (add-one c.loop-t.t, c.loop-t.invariant, rw add-one at c.producer_in_range-ok.ensures) refl)
