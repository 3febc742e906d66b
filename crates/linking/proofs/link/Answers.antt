-- `linking::link` meets its contract.
use Rattle.std.proofs.Common.{refl, [], ◌∷◌, suc, add-one, arith, eq-eqb, ne_eqb, le-leb}
use borrow.Author.Tests.{lt-leb}
use Rattle.rules.specs.Cell.{writes, ◌:=◌, place, next, prev, used}
use Rattle.rules.specs.Sizes.{most_place}
use Rattle.store.proofs.Refusals.{handed_on}
use Rattle.linking.proofs.link.Goals as goal

pub returns-in_err-held : goal.returns-in_err-held
returns-in_err-held c =
    rw (handed_on c.from_residual.result c.from_residual.ensures.1 c.in_err-held.ensures.1)
    (record { words = refl; then = λ f. rw (c.producer-p.ensures.held, c.in_err-held.ensures.0) refl }, refl)

pub returns-in_err-claimed : goal.returns-in_err-claimed
returns-in_err-claimed c =
    let p = c.producer-p.ensures in
    rw (handed_on c.from_residual-in_err-claimed.result c.from_residual-in_err-claimed.ensures.1 c.in_err-claimed.ensures.1)
    (record { words = refl; then = λ f. rw (p.held, c.in_ok-held.ensures, p.claimed, c.in_err-claimed.ensures.0) refl }, refl)

pub returns-then-part-ne0 : goal.returns-then-part-ne0
unfolding writes
returns-then-part-ne0 c =
    let p = c.producer-p.ensures in
    record {
      made = used c.in_ok-claimed.claimed := 0 ∷ [];
      words = rw c.put_use.ensures refl;
      then = λ f. rw (p.held, c.in_ok-held.ensures, p.claimed, c.in_ok-claimed.ensures, c.part.ensures.is, ne_eqb _ _ c.if-part-ne0.true) refl;
    }

pub returns-then-place-ge-MOST_PLACE : goal.returns-then-place-ge-MOST_PLACE
returns-then-place-ge-MOST_PLACE c =
    let p = c.producer-p.ensures in
    let full = lt-leb (suc c.part-place.result) most_place (omega arith) in (
      record { words = refl; then = λ f. rw (p.held, c.in_ok-held.ensures, p.claimed, c.in_ok-claimed.ensures, c.part.ensures.is, eq-eqb _ _ c.if-part-ne0.false, c.part-place.ensures.is, full) refl },
      refl,
    )

pub returns : goal.returns
unfolding writes
returns c =
    let p = c.producer-p.ensures in
    let read = c.producer-p.result in
    let h = c.in_ok-held.held in
    let l = c.in_ok-claimed.claimed in
    let n = c.part-place.result in
    let fits = le-leb (suc n) most_place (omega (arith, c.if-place-ge-MOST_PLACE)) in
    record {
      made = next h := suc l ∷ used l := 2 ∷ prev l := suc h ∷ place l := suc n ∷ [];
      words = rw (c.put_part-3.ensures, c.put_part-2.ensures, c.put_use-2.ensures, c.put_part.ensures, add-one n, c.in_ok-held.ensures, c.in_ok-claimed.ensures) refl;
      then = λ f. rw (p.held, c.in_ok-held.ensures, p.claimed, c.in_ok-claimed.ensures, c.part.ensures.is, eq-eqb _ _ c.if-part-ne0.false, c.part-place.ensures.is, fits) refl;
    }
