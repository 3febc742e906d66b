-- `rule_table::each_once` meets its contract.
use Rattle.std.proofs.Common.{◌≡◌, ◌<◌, ℕ, true}
use Rattle.census_rules.specs.Table.{once}
use Rattle.rule_table.proofs.each_once.Given as goal

abbrev pub invariant-loop-state : goal.invariant-loop-state
invariant-loop-state l = (k : ℕ) → k < l.state → once l.rows l.office k ≡ true
