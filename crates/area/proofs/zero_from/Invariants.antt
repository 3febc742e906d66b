-- `area::zero_from` meets its contract.
use Rattle.std.proofs.Common.{◌≡◌, ◌+◌, eqb, get_or}
use Rattle.rules.specs.Range.{every}
use Rattle.area.proofs.zero_from.Given as goal

abbrev pub invariant-loop-j : goal.invariant-loop-j
invariant-loop-j l = every l.j (λ k. eqb (get_or l.s (l.at + k) 0) 0) ≡ l.zero
