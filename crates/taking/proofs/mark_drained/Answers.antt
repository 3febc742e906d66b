-- `taking::mark_drained` meets its contract.
use Rattle.std.proofs.Common.{List, ◌++◌, append_assoc, refl, ap, sym, ◌∙◌, ℕ, suc, arith, le-leb, Ok}
use borrow.Author.Tests.{lt-leb}
use Rattle.rules.specs.Cell.{reader, drain_limit, drain_count}
use Rattle.rules.specs.Consumer.{keep_item}
use Rattle.rules.specs.Request.{applied}
use Rattle.rules.specs.Rule.{Effect}
use Rattle.store.proofs.Refusals.{handed_on}
use Rattle.store.specs.declared.Reply.TheVariants.{Going}
use Rattle.store.specs.Outcome.{left, leaves}
use Rattle.store.specs.Shape.{sizes}
use Rattle.taking.specs.Keeping.{both_written}
use Rattle.handled.specs.Marking.{marked, to_retire, kept}
use Rattle.taking.specs.Drains.{drain_gives}
use Rattle.taking.proofs.mark_drained.Goals as goal

pub returns-then-d : goal.returns-then-d
unfolding applied
returns-then-d c =
    let a = c.args in
    let z = sizes a.z in
    let m = a.s.now in
    let σ = reader z m in
    let d = c.drain-d.ensures in
    rw (lt-leb (suc (σ drain_count)) (σ drain_limit) (omega (arith, c.if-d, d.limit, d.count))) refl

pub returns-in_err-mark_leads : goal.returns-in_err-mark_leads
unfolding applied
returns-in_err-mark_leads c =
    let a = c.args in
    let z = sizes a.z in
    let m = a.s.now in
    let σ = reader z m in
    let d = c.drain-d.ensures in
    let passes = le-leb (suc (σ drain_count)) (σ drain_limit) (omega (arith, c.if-d, d.limit, d.count)) in
    rw (handed_on c.from_residual.result c.from_residual.ensures.1 c.in_err-mark_leads.ensures.1, passes)
    (ap (λ (e : Effect). leaves z m e a.b.now a.from) (sym (c.in_err-mark_leads.ensures.0.refused a.at.record a.at.index (keep_item z σ) (drain_gives z σ))))

pub returns-in-Retires : goal.returns-in-Retires
unfolding applied
returns-in-Retires c =
    let a = c.args in
    let z = sizes a.z in
    let m = a.s.now in
    let σ = reader z m in
    let d = c.drain-d.ensures in
    let passes = le-leb (suc (σ drain_count)) (σ drain_limit) (omega (arith, c.if-d, d.limit, d.count)) in
    let k = c.consumer-c.ensures in
    let leads = rw c.in-Retires.is at c.in_ok-mark_leads.ensures.to in
    let front = marked z σ a.at.record a.at.index in
    let words = both_written z m (front ++ to_retire) (kept _ _ _) (both_written z m front to_retire c.put_mark.ensures c.put_retire.ensures) c.keep_item.ensures in
    rw passes
    (ap (λ (l : List ℕ). left (Ok Going) l a.b.now a.from) (words ∙ rw (append_assoc, d.count, k.item_call, k.item_value) refl)
    ∙ ap (λ (e : Effect). leaves z m e a.b.now a.from) (sym (leads a.at.record a.at.index (keep_item z σ) (drain_gives z σ))))

pub returns-in-Gives : goal.returns-in-Gives
returns-in-Gives c =
    let a = c.args in
    let z = sizes a.z in
    let m = a.s.now in
    let σ = reader z m in
    let d = c.drain-d.ensures in
    let passes = le-leb (suc (σ drain_count)) (σ drain_limit) (omega (arith, c.if-d, d.limit, d.count)) in
    let leads = rw c.in-Gives.is at c.in_ok-mark_leads.ensures.to in
    rw passes (c.mark_gives.ensures ∙ ap (λ (e : Effect). leaves z m e a.b.now a.from) (sym (leads a.at.record a.at.index (keep_item z σ) (drain_gives z σ))))
