-- `marking::marks` meets its contract. Assumes nothing.
use Rattle.std.proofs.Common.{◌≡◌, ◌≤◌, length}
use Rattle.marking.proofs.Passing.{Passed}
use Rattle.marking.proofs.marks.Given as goal

abbrev pub invariant-loop-j : goal.invariant-loop-j
invariant-loop-j l = Passed l.m l.c l.flags l.items l.progress.mark l.j × (l.progress.hint ≤ l.c) × (length l.items ≡ 4096)
