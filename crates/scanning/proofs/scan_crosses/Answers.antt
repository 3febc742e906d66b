-- `scanning::scan_crosses` meets its contract.
use Rattle.std.proofs.Common.{◌≡◌, refl, ◌∙◌, ◌-◌, arith}
use Rattle.rules.specs.Cell.{writes}
use Rattle.rules.specs.Request.{applied}
use Rattle.store.proofs.Refusals.{handed_on}
use Rattle.store.specs.Branches.{suc_pred}
use Rattle.dequeue.proofs.Crossings.{crosses_nowhere}
use Rattle.scanning.proofs.scan_crosses.Goals.{then-is_read+in_ok-before, else-is_read}
use Rattle.scanning.proofs.scan_crosses.Goals as goal

pub returns-in_err-to : goal.returns-in_err-to
returns-in_err-to c =
    rw (handed_on c.from_residual.result c.from_residual.ensures.1 c.in_err-to.ensures.1) (crosses_nowhere _ c.in_err-to.ensures.0)

pub returns-in_err-before : goal.returns-in_err-before
unfolding applied
returns-in_err-before c =
    let x = c.in_ok-to.ensures in
    rw (handed_on c.from_residual-in_err-before.result c.from_residual-in_err-before.ensures.1 c.in_err-before.ensures.1, x.link, x.placed, x.fits, c.is_read.ensures ∙ c.if-is_read.true, c.part.ensures.is, c.in_err-before.ensures.0) refl

pub returns : goal.returns
unfolding applied writes
returns c =
    let x = c.in_ok-to.ensures in
    let link = c.in_ok-to.to.link in
    let to : x.to ≡ link - 1 = omega (arith, x.link_is) in
    elim c.if-is_read.branch [
      | then-is_read+in_ok-before w ↦
          rw (x.link, x.placed, x.fits, c.is_read.ensures ∙ w.if-is_read.true, w.part.ensures.is, w.in_ok-before.ensures, c.enter.ensures, w.s-is, w.fold.ensures, ← x.position_is, to, suc_pred {h = link} (λ e. omega (arith, x.link_is))) refl
      | else-is_read w ↦ rw (x.link, x.placed, x.fits, c.is_read.ensures ∙ w.if-is_read.false, ← x.link_is, ← x.position_is, c.enter.ensures, w.s-is) refl
    ]
