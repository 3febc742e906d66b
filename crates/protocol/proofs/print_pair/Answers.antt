-- `protocol::print_pair` meets its contract: what the two writes leave, one after the other.
use Rattle.std.proofs.Common.{arith}
use Rattle.text.specs.Laws.{wrote_append}
use Rattle.protocol.specs.Laws.{length_number}
use Rattle.protocol.proofs.print_pair.Goals as goal

pub print_number-requires : goal.print_number-requires
print_number-requires c =
    omega (arith, length_number c.args.n 32, c.print_number-next.auto.out)

pub returns : goal.returns
returns c = wrote_append c.print_number-next.ensures c.print_number.ensures
