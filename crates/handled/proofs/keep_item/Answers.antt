-- `handled::keep_item` meets its contract.
use Rattle.std.proofs.Common.{refl, add-one}
use Rattle.rules.specs.Cell.{writes}
use Rattle.handled.proofs.keep_item.Goals as goal

pub returns : goal.returns
unfolding writes
returns c = rw (c.put_drain.ensures, c.keep_pair.ensures, add-one c.args.i) refl
