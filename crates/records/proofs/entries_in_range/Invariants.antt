-- `records::entries_in_range` meets its contract.
use Rattle.std.proofs.Common.{[], ◌∷◌, ◌≡◌, ◌+◌, ◌*◌}
use Rattle.rules.specs.Range.{every}
use Rattle.records.specs.Rows.{at_most, from}
use Rattle.records.proofs.entries_in_range.Given as goal

abbrev pub invariant-loop-i : goal.invariant-loop-i
invariant-loop-i l = every l.i (λ j. at_most (from l.s (l.at + 3 * j)) 0 (2 ∷ l.m ∷ [])) ≡ l.ok
