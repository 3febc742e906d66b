-- `rescan::settle` meets its contract.
use Rattle.std.proofs.Common.{refl}
use Rattle.rules.specs.Cell.{writes}
use Rattle.rescan.proofs.settle.Goals as goal

pub returns : goal.returns
unfolding writes
returns c = rw (c.put_consumer.ensures, c.put_cursor.ensures) refl
