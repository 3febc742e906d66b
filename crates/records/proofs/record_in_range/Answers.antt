-- `records::record_in_range` meets its contract.
use Rattle.std.proofs.Common.{◌&&◌, ap₂, ◌∙◌, arith}
use Rattle.store.specs.Shape.{sizes}
use Rattle.store.specs.Words.{record_inside}
use Rattle.records.specs.Bounds.{words_test}
use Rattle.records.proofs.record_in_range.Goals as goal

pub parts_in_range-requires : goal.parts_in_range-requires
parts_in_range-requires c =
    omega (arith, record_inside (sizes c.args.z) c.args.s.now c.args.r c.requires.room c.requires.r_lt_records)

pub entries_in_range-requires : goal.entries_in_range-requires
entries_in_range-requires c =
    omega (arith, record_inside (sizes c.args.z) c.args.s.now c.args.r c.requires.room c.requires.r_lt_records)

pub returns : goal.returns
returns c =
    words_test (sizes c.args.z) c.args.s.now c.args.r _ c.requires.r_lt_records c.record_at-at.ensures.0
    ∙ ap₂ ◌&&◌ c.parts_in_range.ensures c.entries_in_range.ensures
