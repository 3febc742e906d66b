-- `reading::scan`: none of the calls so far has the number.
use Rattle.std.proofs.Common.{ℕ, ◌≤◌, ◌<◌, ◌≢◌}
use Rattle.reading.specs.Table.{number_at}
use Rattle.reading.proofs.scan.Given as goal

abbrev pub invariant-loop-j : goal.invariant-loop-j
invariant-loop-j l = (i : ℕ) → l.from ≤ i → i < l.j → number_at l.m i ≢ l.number
