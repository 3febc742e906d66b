-- `engine::start_enqueue` meets its contract.
use Rattle.std.proofs.Common.{◌∙◌}
use Rattle.std.proofs.lemmas.Result.{err_from_is_err_and}
use Rattle.rules.specs.Request.{start_enqueue, effect}
use Rattle.engine.specs.Calls.{call_refused, call_answered}
use Rattle.engine.proofs.start_enqueue.Goals as goal

pub returns-in_err-z : goal.returns-in_err-z
returns-in_err-z c = let p = err_from_is_err_and c.from_residual.result c.from_residual.ensures.1 in rw (p.1, p.2) (call_refused (start_enqueue c.args.t c.args.v) c.args.s.now _ c.in_err-z.ensures)

pub returns : goal.returns
unfolding effect
returns c = c.begin_enqueue.ensures ∙ call_answered (start_enqueue c.args.t c.args.v) c.args.s.now c.in_ok-z.z c.in_ok-z.ensures
