-- `events::find_start` meets its contract. The loop's invariant: the last start among the first i events is the one looked for.
use Rattle.std.proofs.Common.{◌≡◌}
use Rattle.events.specs.Events.{start_found}
use Rattle.events.proofs.find_start.Given as goal

abbrev pub invariant-loop-i : goal.invariant-loop-i
invariant-loop-i l = start_found l.history l.t l.i ≡ start_found l.history l.t l.k
