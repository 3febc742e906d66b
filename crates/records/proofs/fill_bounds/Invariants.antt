-- `records::fill_bounds` meets its contract.
use Rattle.std.proofs.Common.{◌≡◌}
use Rattle.records.specs.Bounds.{entry_bounds}
use Rattle.records.proofs.fill_bounds.Given as goal

abbrev pub invariant-loop-i : goal.invariant-loop-i
invariant-loop-i l = l.b ≡ entry_bounds l.initial.b l.z.starts l.i
