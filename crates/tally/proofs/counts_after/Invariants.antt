-- `tally::counts_after` meets its contract. The invariant: the counts of the offices so far stay within 0 to 512, and are made.
use Rattle.std.proofs.Common.{◌≡◌, ◌<◌, ℕ, true, get_or, length}
use Rattle.census_rules.specs.Board.{row_of, count_on}
use Rattle.census_rules.specs.Census.{stays, changed}
use Rattle.tally.proofs.counts_after.Given as goal

abbrev pub invariant-loop-office : goal.invariant-loop-office
invariant-loop-office l =
    record {
      four : length l.counts ≡ 4;
      stay : (k : ℕ) → k < l.office → stays (row_of l.rules k) (count_on l.board k) l.old l.new ≡ true;
      made : (k : ℕ) → k < l.office → get_or l.counts k 0 ≡ changed (row_of l.rules k) (count_on l.board k) l.old l.new;
    }
