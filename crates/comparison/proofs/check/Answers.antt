-- `comparison::check` meets its contract. Assumes nothing.
use Rattle.std.proofs.Common.{refl}
use Rattle.reading.proofs.Zeros.{no_calls}
use Rattle.comparison.proofs.check.Goals as goal

pub read-requires : goal.read-requires
read-requires c = no_calls 28672 refl
