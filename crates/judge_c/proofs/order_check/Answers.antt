-- `judge_c::order_check` meets its contract. Assumes nothing.
use Rattle.std.proofs.Common.{ap, ◌∙◌}
use Rattle.judge_c.specs.Reply.{number_of_checked}
use Rattle.judge_c.proofs.order_check.Goals as goal

pub returns : goal.returns
returns c = c.number_of.ensures ∙ ap number_of_checked c.check.ensures
