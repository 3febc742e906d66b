-- `rule_table::table_in` meets its contract.
use Rattle.std.proofs.Common.{◌∙◌}
use Rattle.census_rules.specs.Laws.{is_table_lem}
use Rattle.rule_table.proofs.table_in.Goals as goal

pub rules_in-requires : goal.rules_in-requires
rules_in-requires c = (is_table_lem _ (c.is_table.ensures ∙ c.if-not-is_table.false)).long
