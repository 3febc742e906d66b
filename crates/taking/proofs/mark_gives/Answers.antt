-- `taking::mark_gives` meets its contract.
use Rattle.std.proofs.Common.{List, [], ◌∷◌, ◌++◌, ◌≡◌, ap, ◌∙◌, ℕ, suc, add-one, arith, length, length-append}
use Rattle.history.specs.Linearization.{Item}
use Rattle.rules.specs.Cell.{reader, writes}
use Rattle.rules.specs.Consumer.{items_marked}
use Rattle.store.proofs.Refusals.{handed_on}
use Rattle.store.specs.Items.{length_marked}
use Rattle.store.specs.Shape.{sizes}
use Rattle.draining.specs.Onward.{gives_short, gives}
use Rattle.taking.specs.Keeping.{items_kept, marked_there, marked_elsewhere, both_written}
use Rattle.handled.specs.Marking.{marked, kept}
use Rattle.taking.proofs.mark_gives.Goals as goal

pub returns-in_err-ends : goal.returns-in_err-ends
returns-in_err-ends c =
    let a = c.args in
    let z = sizes a.z in
    let m = a.s.now in
    let σ = reader z m in
    let k = c.consumer-c in
    let d = c.drain-count in
    let n = d.result.count in
    let x : Item = record { number = k.result.item_call; value = k.result.item_value } in
    let xs = items_marked σ n ++ (x ∷ []) in
    let ws = marked z σ a.at.record a.at.index ++ kept n x.number x.value in
    let e = rw (add-one n) at c.in_err-ends.ensures in
    let count : length xs ≡ suc n = simp length-append (omega (arith, length_marked σ n)) in
    rw (handed_on c.from_residual.result c.from_residual.ensures.1 e.1.1, d.ensures.count, k.ensures.item_call, k.ensures.item_value)
    (gives_short z m a.b.now a.from (suc n) xs ws e.0 count e.1.0)

pub returns : goal.returns
returns c =
    let a = c.args in
    let z = sizes a.z in
    let m = a.s.now in
    let σ = reader z m in
    let k = c.consumer-c in
    let d = c.drain-count in
    let n = d.result.count in
    let x : Item = record { number = k.result.item_call; value = k.result.item_value } in
    let xs = items_marked σ n ++ (x ∷ []) in
    let ws = marked z σ a.at.record a.at.index ++ kept n x.number x.value in
    let e = rw (add-one n) at c.in_ok-ends.ensures in
    let there = marked_there z σ a.at.record a.at.index c.requires.at_lt_records.0 c.requires.at_lt_records.1 in
    let other = marked_elsewhere z σ a.at.record a.at.index c.requires.at_lt_records.0 c.requires.at_lt_records.1 in
    let words : c.keep_item.new.s ≡ writes z m ws =
    both_written z m (marked z σ a.at.record a.at.index) (kept n x.number x.value) c.put_mark.ensures c.keep_item.ensures in
    let items : items_marked (reader z c.keep_item.new.s) (suc n) ≡ xs =
    ap (λ (l : List ℕ). items_marked (reader z l) (suc n)) words
    ∙ items_kept z m c.requires.admitted.room.fits (marked z σ a.at.record a.at.index) there other n x.number x.value (omega (arith, c.requires.at_lt_records.2, d)) in
    rw (d.ensures.count, k.ensures.item_call, k.ensures.item_value)
    (rw (add-one n) at c.go_on.ensures ∙ gives z m a.b.now a.from (suc n) xs ws _ words c.in_ok-ends.ends e.0 items e.1)
