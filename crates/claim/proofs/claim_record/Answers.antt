-- `claim::claim_record` meets its contract.
use Rattle.std.proofs.Common.{◌≡◌, refl, None, Some, arith}
use Rattle.rules.specs.Producer.{claim_record}
use Rattle.rules.specs.Request.{applied}
use Rattle.store.specs.declared.Refusal.TheVariants.{NoneFree}
use Rattle.store.proofs.Refusals.{handed_on}
use Rattle.claim.proofs.claim_record.Goals as goal

pub returns-in_err-record : goal.returns-in_err-record
unfolding claim_record applied
returns-in_err-record c =
    let none : c.next_free.result ≡ None = grind arith in
    let eight : c.in_err-record.field-0.0 ≡ NoneFree = grind arith in
    rw (handed_on c.from_residual.result c.from_residual.ensures.1 eight, c.next_free.ensures.0, none) refl

pub returns : goal.returns
unfolding claim_record
returns c =
    let found : c.next_free.result ≡ Some c.in_ok-record.record = grind arith in
    rw (c.claim.ensures, c.next_free.ensures.0, found) refl
