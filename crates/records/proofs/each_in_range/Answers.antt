use Rattle.std.proofs.Common.{refl, add-one, arith}
use Rattle.records.proofs.each_in_range.Goals as goal

pub record_in_range-ok-requires : goal.record_in_range-ok-requires
record_in_range-ok-requires c = record { room = c.requires; r_lt_records = omega arith }

pub loop-r-preserved : goal.loop-r-preserved
loop-r-preserved c =
    let l = c.loop-r in
    (rw (add-one l.r, l.invariant, c.record_in_range-ok.ensures) refl)
