-- `bed_board::write_rules` meets its contract.
use Rattle.std.proofs.Common.{◌≡◌}
use Rattle.bed_board.proofs.Rows.{rows_written}
use Rattle.bed_board.proofs.write_rules.Given as goal

abbrev pub invariant-loop-office : goal.invariant-loop-office
invariant-loop-office l = l.board ≡ rows_written l.office l.initial.board l.rules
