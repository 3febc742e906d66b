-- `area::pairs_marked` meets its contract.
use Rattle.std.proofs.Common.{◌≡◌, ◌+◌, ◌*◌, leb, get_or}
use Rattle.rules.specs.Range.{every}
use Rattle.area.proofs.pairs_marked.Given as goal

abbrev pub invariant-loop-i : goal.invariant-loop-i
invariant-loop-i l = every l.i (λ k. leb (get_or l.s (l.at + 2 * k) 0) l.m) ≡ l.ok
