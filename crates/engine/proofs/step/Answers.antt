-- `engine::step` meets its contract.
use Rattle.std.proofs.Common.{◌∙◌}
use Rattle.std.proofs.lemmas.Result.{err_from_is_err_and}
use Rattle.rules.specs.Request.{step}
use Rattle.store.specs.Items.{lent}
use Rattle.engine.specs.Calls.{call_refused, call_answered}
use Rattle.engine.proofs.step.Goals as goal

pub returns-in_err-z : goal.returns-in_err-z
returns-in_err-z c = let p = err_from_is_err_and c.from_residual.result c.from_residual.ensures.1 in rw (p.1, p.2) (lent (call_refused (step c.args.t) c.args.s.now _ c.in_err-z.ensures) _ _)

pub returns : goal.returns
returns c = c.count_step.ensures ∙ lent (call_answered (step c.args.t) c.args.s.now c.in_ok-z.z c.in_ok-z.ensures) _ _
