-- `claim::claim` meets its contract.
use Rattle.std.proofs.Common.{refl, add-one}
use Rattle.rules.specs.Cell.{writes}
use Rattle.rules.specs.Request.{applied}
use Rattle.claim.proofs.claim.Goals as goal

pub returns : goal.returns
unfolding writes applied
returns c = rw (c.put_producer-2.ensures, c.put_producer.ensures, c.put_last_claimed.ensures, c.put_use.ensures, c.wipe_record.ensures, add-one c.args.r) refl
