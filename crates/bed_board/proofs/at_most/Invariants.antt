-- `bed_board::at_most` meets its contract. The invariant: what holds of all the words is what was found so far, and holds of those that are left.
use Rattle.std.proofs.Common.{◌≡◌, ◌&&◌, drop}
use Rattle.census_rules.specs.Board.{at_most}
use Rattle.bed_board.proofs.at_most.Given as goal

abbrev pub invariant-loop-word : goal.invariant-loop-word
invariant-loop-word l = at_most l.most l.words ≡ (l.ok && at_most l.most (drop l.word-index l.words))
