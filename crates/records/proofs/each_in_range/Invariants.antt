-- `records::each_in_range` meets its contract.
use Rattle.std.proofs.Common.{◌≡◌}
use Rattle.rules.specs.Cell.{reader}
use Rattle.rules.specs.Range.{every, record_in_range}
use Rattle.store.specs.Shape.{sizes}
use Rattle.records.proofs.each_in_range.Given as goal

abbrev pub invariant-loop-r : goal.invariant-loop-r
invariant-loop-r l = every l.r (record_in_range (sizes l.z) (reader (sizes l.z) l.s)) ≡ l.ok
