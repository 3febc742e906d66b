-- `order_check::Listing::front_of` meets its contract. Assumes nothing.
use Rattle.std.proofs.Common.{◌≡◌, ℕ, ◌≤◌, ◌<◌, ◌-◌, get_or}
use Rattle.reading.specs.Table.{thread_at}
use Rattle.order_check.proofs.Listing.front_of.Given as goal

abbrev pub invariant-loop-f : goal.invariant-loop-f
invariant-loop-f l = (i : ℕ) → i < l.f → l.from ≤ i → thread_at l.self.memory.now (get_or l.self.order.now i 0 - 1) ≡ 0
