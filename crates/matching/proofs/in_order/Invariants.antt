-- `matching::in_order` meets its contract. Assumes nothing.
use Rattle.std.proofs.Common.{◌≡◌, ◌≤◌}
use Rattle.matching.specs.Rows.{events_in, latest_of, ordered}
use Rattle.matching.proofs.in_order.Given as goal

abbrev pub invariant-loop-k : goal.invariant-loop-k
invariant-loop-k l = (l.k ≤ events_in l.words) × (l.all ≡ ordered l.words l.places l.k) × (l.latest ≡ latest_of l.words l.places l.k)
