-- `protocol::print_item` meets its contract: what the three writes leave, one after the other.
use Rattle.std.proofs.Common.{arith}
use Rattle.text.specs.Laws.{wrote_append}
use Rattle.protocol.specs.Laws.{length_number}
use Rattle.protocol.proofs.print_item.Goals as goal

pub print_pair-requires : goal.print_pair-requires
print_pair-requires c =
    omega (arith, length_number c.args.n 32, c.print_number-last.auto.out)

pub returns : goal.returns
returns c = wrote_append c.write_bytes-next.ensures (wrote_append c.print_number-last.ensures c.print_pair.ensures)
