-- `starting::is_idle` meets its contract.
use Rattle.std.proofs.Common.{refl}
use Rattle.starting.proofs.is_idle.Goals as goal

pub returns : goal.returns
returns c = rw c.consumer.ensures.phase refl
