-- `engine::intake_open` meets its contract.
use Rattle.delivery.specs.Delivery.{returned_of}
use Rattle.engine.proofs.intake_open.Goals as goal

pub returns : goal.returns
returns c = returned_of c.open_store.result c.returned_code.ensures c.open_store.ensures
