use Rattle.std.proofs.Common.{List, ℕ, ◌<◌, arith, length, get_or, take_all}
use Rattle.text.specs.Decimal.{most_digits}
use Rattle.text.specs.Laws.{length_digits, wrote_append}
use Rattle.recording.specs.Laws.{spaced_more}
use Rattle.recording.proofs.print_order.Goals as goal

pub loop-n-preserved : goal.loop-n-preserved
loop-n-preserved c =
    let ns : List ℕ = c.args.numbers.now in
    let i : ℕ = c.loop-n.n-index in
    let within : i < length ns = omega arith in
    let number = wrote_append c.write_bytes-next-in-loop-n.ensures c.write_number-next.ensures in
    (omega (arith, length_digits most_digits (get_or ns i 0)), omega arith, rw (spaced_more ns i within) (wrote_append c.loop-n.invariant.2 number))

pub returns : goal.returns
returns c =
    let ns : List ℕ = c.args.numbers.now in
    let all = rw (take_all c.loop-n.n-index ns (omega arith)) at c.loop-n.invariant.2 in
    wrote_append c.write_bytes-next.ensures (wrote_append all c.write_bytes.ensures)
