-- `protocol::print_number` meets its contract: what the two writes leave, one after the other.
use Rattle.std.proofs.Common.{arith}
use Rattle.text.specs.Laws.{wrote_append, wrote_byte}
use Rattle.protocol.specs.Laws.{length_decimal}
use Rattle.protocol.proofs.print_number.Goals as goal

pub bounds-out-next : goal.bounds-out-next
bounds-out-next c = omega (arith, length_decimal c.args.n, c.write_number-next.auto.out)

pub overflow_add-result : goal.overflow_add-result
overflow_add-result c = omega (arith, length_decimal c.args.n)

pub returns : goal.returns
returns c =
    let x = c.write_number-next in
    wrote_append x.ensures (wrote_byte x.new.out x.result c.args.end)
