-- `rule_table::rule_for` meets its contract.
use Rattle.std.proofs.Common.{◌≡◌}
use Rattle.census_rules.specs.Table.{word_in}
use Rattle.rule_table.proofs.rule_for.Given as goal

abbrev pub invariant-loop-k : goal.invariant-loop-k
invariant-loop-k l = l.word ≡ word_in l.k l.rows l.office l.state
