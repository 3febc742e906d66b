-- `census::look` meets its contract.
use Rattle.std.proofs.Common.{refl, ◌∙◌}
use Rattle.census.proofs.look.Goals as goal

pub returns-then-in_range : goal.returns-then-in_range
returns-then-in_range c = record { long = c.in_range.ensures.0; fits = c.in_range.ensures.1 ∙ c.if-in_range.true }

pub returns-else-in_range : goal.returns-else-in_range
returns-else-in_range c = (refl, c.in_range.ensures.1 ∙ c.if-in_range.false)
