-- `rule_table::is_table` meets its contract.
use Rattle.std.proofs.Common.{◌≡◌, ◌<◌, ℕ, true}
use Rattle.census_rules.specs.Table.{each_once}
use Rattle.rule_table.proofs.is_table.Given as goal

abbrev pub invariant-loop-office : goal.invariant-loop-office
invariant-loop-office l = (k : ℕ) → k < l.office → each_once l.rows k ≡ true
