use Rattle.order_check.proofs.Walking.{walk_fails}
use Rattle.order_check.proofs.Listing.walk.Goals as goal

pub returns-in_default : goal.returns-in_default
returns-in_default c = walk_fails _ _ _ _ _ _ c.place.ensures c.in_default.is
