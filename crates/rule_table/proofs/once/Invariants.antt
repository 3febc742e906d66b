-- `rule_table::once` meets its contract.
use Rattle.std.proofs.Common.{◌≡◌, ◌≤◌}
use Rattle.census_rules.specs.Table.{times_in}
use Rattle.rule_table.proofs.once.Given as goal

abbrev pub invariant-loop-k : goal.invariant-loop-k
invariant-loop-k l = (l.times ≤ l.k) × (times_in l.k l.rows l.office l.state ≡ l.times)
