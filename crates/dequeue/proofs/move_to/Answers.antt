-- `dequeue::move_to` meets its contract.
use Rattle.std.proofs.Common.{refl}
use Rattle.rules.specs.Cell.{writes}
use Rattle.dequeue.proofs.move_to.Goals as goal

pub returns : goal.returns
unfolding writes
returns c = rw (c.put_use.ensures, c.put_head.ensures) refl
