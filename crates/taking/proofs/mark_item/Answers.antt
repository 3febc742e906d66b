-- `taking::mark_item` meets its contract.
use Rattle.std.proofs.Common.{List, [], ◌∷◌, ◌++◌, append-nil, ◌≡◌, refl, ap, sym, ◌∙◌, ℕ, Ok}
use Rattle.rules.specs.Cell.{reader, writes, clear_consumer}
use Rattle.rules.specs.Consumer.{replies_item}
use Rattle.rules.specs.Request.{applied}
use Rattle.store.proofs.Refusals.{handed_on}
use Rattle.store.specs.declared.Reply.TheVariants.{Going, Item}
use Rattle.store.specs.Outcome.{left, leaves}
use Rattle.store.specs.Shape.{sizes}
use Rattle.taking.specs.Keeping.{both_written}
use Rattle.handled.specs.Marking.{marked, to_retire}
use Rattle.taking.proofs.mark_item.Goals as goal

pub returns-in_err-mark_leads : goal.returns-in_err-mark_leads
unfolding applied
returns-in_err-mark_leads c =
    let a = c.args in
    let z = sizes a.z in
    rw (handed_on c.from_residual.result c.from_residual.ensures.1 c.in_err-mark_leads.ensures.1) (ap (leaves z a.s.now) (sym (c.in_err-mark_leads.ensures.0.refused a.at.record a.at.index [] (replies_item z (reader z a.s.now)))))

pub returns-in-Retires : goal.returns-in-Retires
unfolding applied
returns-in-Retires c =
    let a = c.args in
    let z = sizes a.z in
    let σ = reader z a.s.now in
    let leads = rw c.in-Retires.is at c.in_ok-mark_leads.ensures.to in
    ap (λ (m : List ℕ). left (Ok Going) m) (both_written z a.s.now (marked z σ a.at.record a.at.index) to_retire c.put_mark.ensures c.put_retire.ensures)
    ∙ ap (leaves z a.s.now) (sym (leads a.at.record a.at.index [] (replies_item z σ)))

pub returns-in-Gives : goal.returns-in-Gives
unfolding applied writes
returns-in-Gives c =
    let a = c.args in
    let z = sizes a.z in
    let σ = reader z a.s.now in
    let k = c.consumer-c.ensures in
    let leads = rw c.in-Gives.is at c.in_ok-mark_leads.ensures.to in
    let words : c.clear_consumer.new.s ≡ writes z a.s.now (marked z σ a.at.record a.at.index ++ (clear_consumer ∷ [])) =
    both_written z a.s.now (marked z σ a.at.record a.at.index) (clear_consumer ∷ []) c.put_mark-in-Gives.ensures c.clear_consumer.ensures in
    ap (λ (m : List ℕ). left (Ok (Item c.consumer-c.result.item_call c.consumer-c.result.item_value)) m) words
    ∙ rw (k.item_call, k.item_value) refl
    ∙ ap (leaves z a.s.now) (sym (leads a.at.record a.at.index [] (replies_item z σ) ∙ ap (replies_item z σ) (append-nil (marked z σ a.at.record a.at.index))))
