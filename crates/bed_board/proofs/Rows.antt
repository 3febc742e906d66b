-- The rule table written into a board row by row.
use Rattle.std.specs.Prelude.{List, ℕ, zero, suc, ◌+◌, ◌*◌}
use Rattle.census_rules.specs.Board.{Rules, row_of, with_row}

-- the board with the rows of the first n offices
abbrev pub rows_written : (n : ℕ) → List ℕ → Rules → List ℕ
rows_written zero b rules = b
rows_written (suc n) b rules = with_row (rows_written n b rules) (512 + 5 * n) (row_of rules n)
