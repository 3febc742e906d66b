-- `draining::go_on` meets its contract.
use Rattle.std.proofs.Common.{refl}
use Rattle.rules.specs.Cell.{writes}
use Rattle.rules.specs.Request.{applied}
use Rattle.draining.proofs.go_on.Goals as goal

pub returns : goal.returns
unfolding applied writes
returns c = rw (c.if-ends.false, c.put_consumer.ensures, c.put_item.ensures, c.put_found.ensures) refl
