-- `draining::hand_over` meets its contract.
use Rattle.std.proofs.Common.{◌≡◌, length}
use lib.Seq.{sets}
use Rattle.draining.specs.Onward.{pair_words}
use Rattle.draining.proofs.hand_over.Given as goal

abbrev pub invariant-loop-i : goal.invariant-loop-i
invariant-loop-i l = (l.part ≡ sets l.initial.part 0 (pair_words l.s l.pairs l.i)) × (length l.part ≡ length l.initial.part)
