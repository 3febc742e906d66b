-- `starting::begin_dequeue` meets its contract.
use Rattle.std.proofs.Common.{refl, ◌∙◌}
use Rattle.rules.specs.Cell.{writes}
use Rattle.rules.specs.Request.{applied, starting_dequeue}
use Rattle.starting.proofs.begin_dequeue.Goals as goal

pub returns-then-not-is_idle : goal.returns-then-not-is_idle
unfolding starting_dequeue applied
returns-then-not-is_idle c = rw (c.is_idle.ensures ∙ c.if-not-is_idle.true) refl

pub returns : goal.returns
unfolding starting_dequeue applied writes
returns c = rw (c.is_idle.ensures ∙ c.if-not-is_idle.false, c.put_consumer.ensures) refl
