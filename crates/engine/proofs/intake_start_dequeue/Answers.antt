-- `engine::intake_start_dequeue` meets its contract.
use Rattle.std.proofs.Common.{[]}
use Rattle.store.specs.Items.{lent}
use Rattle.delivery.specs.Delivery.{returned_of}
use Rattle.engine.proofs.intake_start_dequeue.Goals as goal

pub returns : goal.returns
returns c = returned_of c.start_dequeue.result c.returned_code.ensures (lent c.start_dequeue.ensures [] 0)
