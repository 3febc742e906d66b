use Rattle.std.proofs.Common.{List, ℕ, ◌<◌, arith, length, get_or}
use Rattle.protocol.specs.Laws.{length_number}
use Rattle.text.specs.Laws.{wrote_append}
use Rattle.two_recordings.specs.Laws.{event_lines_more}
use Rattle.two_recordings.proofs.print_events.Goals as goal

pub loop-i-preserved : goal.loop-i-preserved
loop-i-preserved c =
    let ns : List ℕ = c.args.numbers.now in
    let i : ℕ = c.loop-i.i in
    let within : i < length ns = omega arith in
    let parted = c.separator_after-end in
    let wrote = c.print_number-next.ensures in
    (omega arith, omega (arith, length_number (get_or ns i 0) parted.result, wrote.next_is), omega arith, rw (event_lines_more ns i within) (wrote_append c.loop-i.invariant.3 (rw parted.ensures at wrote)))
