-- `counting::count_step` meets its contract.
use Rattle.std.proofs.Common.{Ok, Err, refl, ◌<◌, add-one, arith, lt-ltb}
use Rattle.std.proofs.lemmas.Result.{err_from_is_err_and}
use Rattle.rules.specs.Sizes.{most_steps}
use Rattle.rules.specs.Cell.{reader, step_count}
use Rattle.rules.specs.Free.{next_free}
use Rattle.rules.specs.Request.{applied, phase_step, counted, stepping, effect}
use Rattle.store.specs.Shape.{sizes}
use Rattle.counting.proofs.Counting.{counts_on, counts_last}
use Rattle.counting.proofs.count_step.Goals as goal

pub returns-then-z-t : goal.returns-then-z-t
unfolding effect stepping phase_step counted applied
returns-then-z-t c = rw (lt-ltb _ _ c.if-z-t.true) refl

pub returns-then-before-ge-MOST_STEPS : goal.returns-then-before-ge-MOST_STEPS
unfolding applied
returns-then-before-ge-MOST_STEPS c = rw c.full_refusal.ensures refl

pub returns-in_err-reply : goal.returns-in_err-reply
unfolding effect stepping
returns-in_err-reply c =
    let stepped = c.step_thread in
    let count = c.step_count-before in
    let below : count.result < most_steps = omega (arith, c.if-before-ge-MOST_STEPS.false) in
    let a = c.args in
    let z = sizes a.z in
    let σ = reader z a.s.now in
    let p = err_from_is_err_and c.from_residual.result c.from_residual.ensures.1 in
    rw (p.1, p.2, count.ensures)
    (counts_last z a.s.now a.b.now stepped.new.s _ a.from (step_count a.t) count.result below (phase_step (next_free z σ) a.t z σ) (Err _) (λ e. cc) c.in_err-reply.ensures)

pub returns-in-Going : goal.returns-in-Going
unfolding effect stepping
returns-in-Going c =
    let stepped = c.step_thread in
    let count = c.step_count-before in
    let below : count.result < most_steps = omega (arith, c.if-before-ge-MOST_STEPS.false) in
    let a = c.args in
    let z = sizes a.z in
    let σ = reader z a.s.now in
    rw (c.in-Going.is, c.put_step_count.ensures, add-one count.result, count.ensures)
    (counts_on z a.s.now a.b.now stepped.new.s _ a.from (step_count a.t) count.result below (phase_step (next_free z σ) a.t z σ) (rw c.in-Going.is at c.in_ok-reply.ensures))

pub returns-in_default : goal.returns-in_default
unfolding effect stepping
returns-in_default c =
    let stepped = c.step_thread in
    let count = c.step_count-before in
    let below : count.result < most_steps = omega (arith, c.if-before-ge-MOST_STEPS.false) in
    let a = c.args in
    let z = sizes a.z in
    let σ = reader z a.s.now in
    rw (add-one count.result, count.ensures)
    (counts_last z a.s.now a.b.now stepped.new.s _ a.from (step_count a.t) count.result below (phase_step (next_free z σ) a.t z σ) (Ok _) (λ e. c.in_default.not-Going cc) c.in_ok-reply.ensures)
