-- `comparison::keeps` meets its contract. Assumes nothing.
use Rattle.std.proofs.Common.{refl, ◌∙◌}
use Rattle.comparison.proofs.Admitting.{first_threaded, second_threaded}
use Rattle.comparison.proofs.Replying.{keeps_not, keeps_are}
use Rattle.comparison.proofs.keeps.Goals as goal

pub matches-requires : goal.matches-requires
matches-requires c = (first_threaded c.requires, second_threaded c.requires, refl)

pub returns-then-matches : goal.returns-then-matches
returns-then-matches c = c.in_order.ensures ∙ keeps_are c.requires c.matches.ensures c.if-matches.true

pub returns-else-matches : goal.returns-else-matches
returns-else-matches c = c.if-matches.false ∙ keeps_not c.requires c.matches.ensures c.if-matches.false
