-- `records::pair_in_range` meets its contract.
use Rattle.std.proofs.Common.{◌&&◌, ap₂, sym, ◌∙◌, ℕ, ◌≤◌, arith, get_or}
use Rattle.rules.specs.Sizes.{record_words}
use Rattle.store.specs.Caps.{most_word}
use Rattle.store.specs.Shape.{sizes}
use Rattle.store.specs.Words.{record_inside}
use Rattle.records.specs.Bounds.{record_test, every_both}
use Rattle.records.proofs.pair_in_range.Goals as goal

pub rows_at_most-requires : goal.rows_at_most-requires
rows_at_most-requires c =
    let a = c.args in
    let first = record_inside (sizes a.z) a.s.now a.r c.requires.room c.requires.r_lt_records.0 in
    let second = record_inside (sizes a.z) a.s.now a.q c.requires.room c.requires.r_lt_records.1 in
    let enough = c.requires.r_lt_records.2.enough in
    (omega arith, omega arith, omega arith)

pub returns : goal.returns
returns c =
    let a = c.args in
    let z = sizes a.z in
    let fit : (j : ℕ) → get_or a.s.now j 0 ≤ most_word = λ j. omega (arith, c.type_inv.s j) in
    ap₂ ◌&&◌
    (record_test z a.s.now a.b.now c.requires.r_lt_records.2 a.r _ c.requires.r_lt_records.0 c.record_at-at.ensures.0 fit)
    (record_test z a.s.now a.b.now c.requires.r_lt_records.2 a.q _ c.requires.r_lt_records.1 c.record_at-other.ensures.0 fit)
    ∙ sym (every_both (record_words z) _ _)
    ∙ rw c.record_words.ensures.0 at c.rows_at_most.ensures
