-- `protocol::print_numbered` meets its contract: what the two writes leave, one after the other.
use Rattle.text.specs.Laws.{wrote_append}
use Rattle.protocol.proofs.print_numbered.Goals as goal

pub returns : goal.returns
returns c = wrote_append c.write_bytes-next.ensures c.print_number.ensures
