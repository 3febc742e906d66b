-- `scanning::enter` meets its contract.
use Rattle.std.proofs.Common.{refl}
use Rattle.rules.specs.Cell.{writes}
use Rattle.scanning.proofs.enter.Goals as goal

pub returns : goal.returns
unfolding writes
returns c = rw (c.put_all_handled.ensures, c.put_cursor.ensures) refl
