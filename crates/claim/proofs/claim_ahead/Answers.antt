-- `claim::claim_ahead` meets its contract.
use Rattle.std.proofs.Common.{refl}
use Rattle.rules.specs.Cell.{writes}
use Rattle.rules.specs.Producer.{claim_ahead}
use Rattle.rules.specs.Request.{applied}
use Rattle.claim.proofs.claim_ahead.Goals as goal

pub returns-in_default : goal.returns-in_default
unfolding claim_ahead applied writes
returns-in_default c = rw (c.clear_producer.ensures, c.in_default.ensures.0) refl

pub returns : goal.returns
unfolding claim_ahead
returns c = rw (c.claim.ensures, c.in-Some.ensures.0) refl
