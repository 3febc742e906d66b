-- `bed_board::count_afresh` meets its contract. The invariant: what is counted so far, with what is left to count, is the count.
use Rattle.std.proofs.Common.{◌≡◌, ◌+◌, ◌≤◌, drop}
use Rattle.census_rules.specs.Board.{states_on, counted}
use Rattle.bed_board.proofs.count_afresh.Given as goal

abbrev pub invariant-loop-state : goal.invariant-loop-state
invariant-loop-state l =
    record {
      few : l.count ≤ l.state-index;
      so_far : counted l.row (states_on l.board) ≡ l.count + counted l.row (drop l.state-index (states_on l.board));
    }
