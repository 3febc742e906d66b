-- `admission::in_range` meets its contract.
use Rattle.std.proofs.Common.{refl}
use Rattle.rules.specs.Range.{in_range}
use Rattle.admission.proofs.in_range.Goals as goal

pub returns : goal.returns
unfolding in_range
returns c = rw (c.threads_in_range.ensures, c.records_in_range.ensures, c.drain_in_range.ensures) refl
