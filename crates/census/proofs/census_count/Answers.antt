-- `census::census_count` meets its contract.
use Rattle.std.proofs.Common.{arith}
use Rattle.std.proofs.lemmas.Result.{err_from_is_err_and}
use Rattle.census_rules.specs.Cases.{counting_on_no_board, counting_no_office, counting_says}
use Rattle.census.proofs.census_count.Goals as goal

pub returns-in_err-look : goal.returns-in_err-look
returns-in_err-look c =
    let p = err_from_is_err_and c.from_residual.result c.from_residual.ensures.1 in
    rw (p.1, p.2, c.in_err-look.ensures.0) (counting_on_no_board _ _ _ c.in_err-look.ensures.1)

pub returns-then-office-gt-LAST_OFFICE : goal.returns-then-office-gt-LAST_OFFICE
returns-then-office-gt-LAST_OFFICE c = counting_no_office _ _ _ c.in_ok-look.ensures.fits (omega arith)

pub returns : goal.returns
returns c = counting_says _ _ _ c.in_ok-look.ensures.fits (omega arith)
