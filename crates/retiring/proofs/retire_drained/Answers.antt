-- `retiring::retire_drained` meets its contract.
use Rattle.std.proofs.Common.{List, [], ◌∷◌, ◌≡◌, refl, ap, ◌∙◌, ℕ, arith}
use Rattle.rules.specs.Cell.{reader, ◌:=◌, head_record, head_position, used}
use Rattle.rules.specs.Consumer.{items_marked}
use Rattle.store.proofs.Refusals.{handed_on}
use Rattle.store.specs.Items.{length_marked}
use Rattle.store.specs.Shape.{sizes}
use Rattle.draining.specs.Onward.{gives_short, gives}
use Rattle.draining.specs.Elsewhere.{items_left_lem}
use Rattle.retiring.proofs.retire_drained.Goals as goal

pub returns-in_err-ends : goal.returns-in_err-ends
returns-in_err-ends c =
    let a = c.args in
    let z = sizes a.z in
    let m = a.s.now in
    let σ = reader z m in
    let d = c.drain-count in
    let n = d.result.count in
    let xs = items_marked σ n in
    let ws = head_record := a.to.link ∷ head_position := a.to.position ∷ used a.h := 3 ∷ [] in
    let e = c.in_err-ends.ensures in
    rw (handed_on c.from_residual.result c.from_residual.ensures.1 e.1.1, d.ensures.count) (gives_short z m a.b.now a.from n xs ws e.0 (length_marked σ n) e.1.0)

pub returns : goal.returns
returns c =
    let a = c.args in
    let z = sizes a.z in
    let m = a.s.now in
    let σ = reader z m in
    let d = c.drain-count in
    let n = d.result.count in
    let xs = items_marked σ n in
    let ws = head_record := a.to.link ∷ head_position := a.to.position ∷ used a.h := 3 ∷ [] in
    let items : items_marked (reader z c.move_to.new.s) n ≡ xs =
    ap (λ (l : List ℕ). items_marked (reader z l) n) c.move_to.ensures
    ∙ items_left_lem z m c.requires.admitted.room.fits ws (omega arith, (omega arith, ((c.requires.h_lt_records, omega arith), tt))) (refl, (refl, (refl, tt))) n in
    let e = c.in_ok-ends.ensures in
    rw d.ensures.count (c.go_on.ensures ∙ gives z m a.b.now a.from n xs ws _ c.move_to.ensures c.in_ok-ends.ends e.0 items e.1)
