-- `order_check::Listing::is_order` meets its contract. Assumes nothing.
use Rattle.std.proofs.Common.{refl}
use Rattle.order_check.proofs.Keeping.{nothing_walked, flags_decide}
use Rattle.order_check.proofs.Listing.is_order.Goals as goal

pub walk-requires : goal.walk-requires
walk-requires c = nothing_walked _ _ _ 4096 refl

pub returns-then-walk : goal.returns-then-walk
returns-then-walk c = flags_decide _ _ _ _ _ c.walk.ensures c.if-walk.true _ c.all_seen.ensures
