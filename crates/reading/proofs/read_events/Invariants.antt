-- `reading::read_events` meets its contract. Assumes nothing.
use Rattle.reading.proofs.Reading.{Progress}
use Rattle.reading.proofs.read_events.Given as goal

abbrev pub invariant-loop-k : goal.invariant-loop-k
invariant-loop-k l = Progress l.history l.m l.c l.k
