-- `comparison::shared` meets its contract. Assumes nothing.
use Rattle.comparison.proofs.Sharing.{Sharing}
use Rattle.comparison.proofs.shared.Given as goal

abbrev pub invariant-loop-k : goal.invariant-loop-k
invariant-loop-k l = Sharing l.first l.second l.events l.k
