-- `session::run_lines` meets its contract. The loop's invariant: the buffers hold what the lines before `at` leave. Each line has two
-- bytes, which bounds the events and the printed bytes.
use Rattle.std.proofs.Common.{◌≡◌, ◌+◌, ◌-◌, ◌*◌, ◌/◌, ◌≤◌, length}
use Rattle.session.specs.Session.{begun}
use Rattle.session.specs.LoopLaws.{Going}
use Rattle.session.proofs.run_lines.Given as goal

abbrev pub invariant-loop-at : goal.invariant-loop-at
invariant-loop-at l =
    (l.at ≤ length l.input + 1)
    × (2 * l.place.events ≤ l.at)
    × (l.place.bytes ≤ 38 * (l.at / 2))
    × (length l.store ≡ length l.initial.store)
    × (length l.history ≡ length l.initial.history)
    × (length l.out ≡ length l.initial.out)
    × Going (begun l.initial.store) l.input l.store l.history l.initial.out l.out l.at l.place.events l.place.bytes

abbrev pub decreases-loop-at : goal.decreases-loop-at
decreases-loop-at l = length l.input + 1 - l.at
