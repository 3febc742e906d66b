-- `matching::link` meets its contract. Assumes nothing.
use Rattle.matching.specs.Match.{Linked}
use Rattle.matching.proofs.link.Given as goal

abbrev pub invariant-loop-p : goal.invariant-loop-p
invariant-loop-p l = Linked l.words l.threads.links l.threads.heads l.p
