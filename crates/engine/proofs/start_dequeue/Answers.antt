-- `engine::start_dequeue` meets its contract.
use Rattle.std.proofs.Common.{◌∙◌}
use Rattle.std.proofs.lemmas.Result.{err_from_is_err_and}
use Rattle.rules.specs.Request.{start_dequeue, effect}
use Rattle.engine.specs.Calls.{call_refused, call_answered}
use Rattle.engine.proofs.start_dequeue.Goals as goal

pub returns-in_err-z : goal.returns-in_err-z
returns-in_err-z c = let p = err_from_is_err_and c.from_residual.result c.from_residual.ensures.1 in rw (p.1, p.2) (call_refused start_dequeue c.args.s.now _ c.in_err-z.ensures)

pub returns : goal.returns
unfolding effect
returns c = c.begin_dequeue.ensures ∙ call_answered start_dequeue c.args.s.now c.in_ok-z.z c.in_ok-z.ensures
