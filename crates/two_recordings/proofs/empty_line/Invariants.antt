-- `two_recordings::empty_line` meets its contract. The loop's invariant: the empty line looked for from i is the one looked for.
use Rattle.std.proofs.Common.{◌≡◌, ◌+◌, drop}
use Rattle.two_recordings.specs.Report.{before_empty, empty_line}
use Rattle.two_recordings.proofs.empty_line.Given as goal

abbrev pub invariant-loop-i : goal.invariant-loop-i
invariant-loop-i l = l.i + before_empty l.last (drop l.i l.text) ≡ empty_line l.text
