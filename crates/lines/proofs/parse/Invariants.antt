-- `lines::parse` meets its contract. The loop's invariant: the numbers before `at` are stored, and reading on gives the answer.
-- The measure is the room that is left.
use Rattle.std.proofs.Common.{◌≡◌, ◌-◌, length}
use Rattle.lines.specs.Laws.{Going}
use Rattle.lines.proofs.parse.Given as goal

abbrev pub invariant-loop-at : goal.invariant-loop-at
invariant-loop-at l = (length l.numbers ≡ length l.initial.numbers) × Going l.s l.initial.numbers l.numbers l.at l.count

abbrev pub decreases-loop-at : goal.decreases-loop-at
decreases-loop-at l = length l.initial.numbers - l.count
