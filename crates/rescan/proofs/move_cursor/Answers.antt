-- `rescan::move_cursor` meets its contract.
use Rattle.std.proofs.Common.{refl, ne_eqb}
use Rattle.rules.specs.Cell.{writes}
use Rattle.rescan.proofs.move_cursor.Goals as goal

pub returns : goal.returns
unfolding writes
returns c = rw (ne_eqb _ _ c.if-position-found.false, c.put_cursor.ensures) refl
