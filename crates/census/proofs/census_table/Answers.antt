-- `census::census_table` meets its contract.
use Rattle.std.proofs.Common.{◌≡◌, sym, ap, subst, ◌∙◌, Some, arith}
use Rattle.std.proofs.lemmas.Result.{err_from_is_err_and}
use Rattle.census.specs.declared.Refusal.TheVariants.{Table}
use Rattle.census_rules.specs.Census.{accepting}
use Rattle.census_rules.specs.Cases.{reading_on_no_board, reading_no_table, reading_rules, ruled_by}
use Rattle.census_rules.specs.Laws.{Counting, table_counting}
use Rattle.census.proofs.census_table.Goals as goal

pub returns-in_err-look : goal.returns-in_err-look
returns-in_err-look c =
    let p = err_from_is_err_and c.from_residual.result c.from_residual.ensures.1 in
    rw (p.1, p.2, c.in_err-look.ensures.0) (reading_on_no_board _ _ c.in_err-look.ensures.1)

pub returns-in_err-rules : goal.returns-in_err-rules
returns-in_err-rules c =
    let none = c.in_err-rules.ensures.ok_part in
    let answered = rw none at c.in_err-rules.ensures.value in
    let refused : c.in_err-rules.field-0.0 ≡ Table = cc in
    let no_table = rw none at c.table_in.ensures in
    let p = err_from_is_err_and c.from_residual-in_err-rules.result c.from_residual-in_err-rules.ensures.1 in
    rw (p.1, p.2, refused) (reading_no_table _ _ c.in_ok-look.ensures.fits no_table)

pub all_afresh-counts-requires : goal.all_afresh-counts-requires
all_afresh-counts-requires c =
    let some : c.table_in.result ≡ Some c.in_ok-rules.rules = grind arith in
    let table = rw some at c.table_in.ensures in
    (c.in_ok-look.ensures, subst Counting (sym table.1) (table_counting _ table.0))

pub returns : goal.returns
returns c =
    let some : c.table_in.result ≡ Some c.in_ok-rules.rules = grind arith in
    let table = rw some at c.table_in.ensures in
    ap accepting (c.write_counts.ensures ∙ ruled_by _ _ table.1 c.write_rules.ensures c.all_afresh-counts.ensures)
    ∙ reading_rules _ _ c.in_ok-look.ensures.fits table.0
