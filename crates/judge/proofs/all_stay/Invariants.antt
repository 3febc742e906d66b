-- `judge::all_stay`: what the first j entries give.
use Rattle.std.proofs.Common.{◌≡◌}
use Rattle.judge.specs.Working.{all_stay}
use Rattle.judge.proofs.all_stay.Given as goal

abbrev pub invariant-loop-j : goal.invariant-loop-j
invariant-loop-j l = l.all ≡ all_stay l.table l.flags l.mark l.j
