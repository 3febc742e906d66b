-- `judge::fill_calls`: the first j entries are filled.
use Rattle.std.proofs.Common.{◌≡◌}
use Rattle.judge.specs.Working.{filled}
use Rattle.judge.proofs.fill_calls.Given as goal

abbrev pub invariant-loop-j : goal.invariant-loop-j
invariant-loop-j l = l.table ≡ filled l.m l.j l.fn.table
