-- `delivery::store_reply` meets its contract.
use Rattle.std.proofs.Common.{[], refl}
use Rattle.store.specs.Items.{length_items}
use Rattle.delivery.proofs.store_reply.Goals as goal

pub returns-in-Drained : goal.returns-in-Drained
returns-in-Drained c = rw (c.in-Drained.is, length_items [] 0 c.in-Drained.count) refl
