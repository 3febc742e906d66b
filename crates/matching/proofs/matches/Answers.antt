-- `matching::matches` meets its contract. Assumes nothing.
use Rattle.matching.proofs.Meeting.{nothing_left}
use Rattle.matching.proofs.matches.Goals as goal

pub returns-then-meet : goal.returns-then-meet
returns-then-meet c = nothing_left _ _ _ _ _ (c.meet.ensures.all c.if-meet.true) c.all_met.ensures
