-- `two_recordings::print_events` meets its contract. The loop's invariant: the numbers so far are printed.
use Rattle.std.proofs.Common.{◌≡◌, ◌≤◌, ◌+◌, ◌*◌, length, take}
use Rattle.text.specs.Wrote.{Wrote}
use Rattle.two_recordings.specs.Report.{event_lines}
use Rattle.two_recordings.proofs.print_events.Given as goal

abbrev pub invariant-loop-i : goal.invariant-loop-i
invariant-loop-i l = (l.i ≤ length l.numbers) × (l.next ≤ l.at + 11 * l.i) × (length l.out ≡ length l.initial.out) × Wrote l.initial.out l.at (event_lines 0 (take l.i l.numbers)) l.out l.next
