-- `matching::meet` meets its contract. Assumes nothing.
use Rattle.std.proofs.Common.{◌≡◌, ◌≤◌, length}
use Rattle.matching.specs.Rows.{events_in}
use Rattle.matching.specs.Match.{Linked}
use Rattle.matching.specs.Walk.{Meets}
use Rattle.matching.proofs.meet.Given as goal

abbrev pub invariant-loop-k : goal.invariant-loop-k
invariant-loop-k l =
    (l.k ≤ events_in l.second) × (length l.threads.heads ≡ 17) × (length l.places ≡ 4096) × Meets l.first l.second l.threads.heads l.places l.k × Linked l.first l.threads.links l.initial.threads.heads 0
