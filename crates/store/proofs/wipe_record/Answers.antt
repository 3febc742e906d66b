-- `store::wipe_record` meets its contract.
use Rattle.std.proofs.Common.{arith}
use Rattle.store.specs.Shape.{sizes}
use Rattle.store.specs.Words.{record_inside}
use Rattle.store.proofs.wipe_record.Goals as goal

pub clear-requires : goal.clear-requires
clear-requires c = omega (arith, record_inside (sizes c.args.z) c.args.s.now c.args.r c.requires.room c.requires.r_lt_records)

pub returns : goal.returns
returns c = rw (← c.record_at.ensures.0, ← c.record_words.ensures.0) c.clear.ensures
