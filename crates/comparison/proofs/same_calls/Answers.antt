-- `comparison::same_calls` meets its contract. Assumes nothing.
use Rattle.std.proofs.Common.{refl}
use Rattle.comparison.proofs.Admitting.{first_threaded, second_threaded}
use Rattle.comparison.proofs.Replying.{calls_are}
use Rattle.comparison.proofs.same_calls.Goals as goal

pub matches-requires : goal.matches-requires
matches-requires c = (first_threaded c.requires, second_threaded c.requires, refl)

pub returns : goal.returns
returns c = calls_are c.requires c.matches.ensures
