-- `laying::line_left` meets its contract. Assumes nothing.
use Rattle.std.proofs.Common.{◌≡◌, ◌++◌}
use Rattle.laying.specs.Line.{gather_to, left_at}
use Rattle.laying.proofs.line_left.Given as goal

abbrev pub invariant-loop-i : goal.invariant-loop-i
invariant-loop-i l = l.line ≡ l.initial.line ++ gather_to (left_at l.m l.flags) l.i
