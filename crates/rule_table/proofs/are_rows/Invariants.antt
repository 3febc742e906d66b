-- `rule_table::are_rows` meets its contract.
use Rattle.std.proofs.Common.{◌≡◌, ◌<◌, ℕ, true}
use Rattle.census_rules.specs.Table.{is_row}
use Rattle.rule_table.proofs.are_rows.Given as goal

abbrev pub invariant-loop-k : goal.invariant-loop-k
invariant-loop-k l = (k : ℕ) → k < l.k → is_row l.rows k ≡ true
