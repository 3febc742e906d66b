-- The equations of `Keeps` are the contracts of the code: what a caller learns of each function is, as it stands, the equation, at the number
-- of what the function answers.
use Rattle.std.specs.Prelude.{◌≡◌, refl, List, ℕ}
use Rattle.refinement.specs.Promises.{Gives}
use Rattle.census_rules.specs.Census.{open_board}
use Rattle.census_rules.specs.Statement.{take, read_table, count}
use Rattle.census.specs.Answers.{answer_number}
use Rattle.census.proofs.census_open.Kinds as census-open-kinds
use Rattle.census.proofs.census_open.Reads as census-open
use Rattle.census.proofs.census_take.Kinds as census-take-kinds
use Rattle.census.proofs.census_take.Reads as census-take
use Rattle.census.proofs.census_table.Kinds as census-table-kinds
use Rattle.census.proofs.census_table.Reads as census-table
use Rattle.census.proofs.census_count.Kinds as census-count-kinds
use Rattle.census.proofs.census_count.Reads as census-count
use Rattle.intake_census.specs.Statement.{Keeps}

pub census_open_contract : Gives 1 census-open-kinds.ps census-open-kinds.r census-open.Learnt
    λ κs a r e. (r ≡ 0) × (e.0.now ≡ open_board)
census_open_contract κs a r e h = h

pub census_take_contract : Gives 1 census-take-kinds.ps census-take-kinds.r census-take.Learnt
    λ κs a r e. (w : List ℕ) → Keeps (take a.1.0) a.0.now (answer_number r) e.0.now w
census_take_contract κs a r e h w = h

pub census_table_contract : Gives 2 census-table-kinds.ps census-table-kinds.r census-table.Learnt
    λ κs a r e. (w : List ℕ) → Keeps (read_table a.1.0.now) a.0.now (answer_number r) e.0.now w
census_table_contract κs a r e h w = h

-- the board is lent to be read: it stays
pub census_count_contract : Gives 2 census-count-kinds.ps census-count-kinds.r census-count.Learnt
    λ κs a r e. Keeps (count a.1.0 a.1.1.0.now) a.0.now (answer_number r) a.0.now e.1.1.0.now
census_count_contract κs a r e h = (h, refl)
