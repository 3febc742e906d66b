-- `order_check::Listing::walk` meets its contract. Assumes nothing.
use Rattle.order_check.specs.Walk.{Walked}
use Rattle.order_check.proofs.Listing.walk.Given as goal

abbrev pub invariant-loop-k : goal.invariant-loop-k
invariant-loop-k l = Walked l.self.memory.now l.self.order.now l.seen l.self.calls l.reached l.k
