-- `recording::print_order` meets its contract: the word, then the numbers so far, each after a space.
use Rattle.std.proofs.Common.{◌≡◌, ◌≤◌, ◌+◌, ◌*◌, length, take}
use Rattle.text.specs.Wrote.{Wrote}
use Rattle.recording.specs.Report.{spaced}
use Rattle.recording.proofs.print_order.Given as goal

abbrev pub invariant-loop-n : goal.invariant-loop-n
invariant-loop-n l = (l.next ≤ l.initial.next + 11 * l.n-index) × (length l.out ≡ length l.initial.out) × Wrote l.initial.out l.initial.next (spaced (take l.n-index l.numbers)) l.out l.next
