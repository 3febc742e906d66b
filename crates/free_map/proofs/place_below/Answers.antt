-- `free_map::place_below` meets its contract.
use Rattle.std.proofs.Common.{◌+◌, arith}
use Rattle.free_map.specs.Keeping.{from_test}
use Rattle.free_map.specs.Walk.{reads_use, reads_place}
use Rattle.free_map.proofs.place_below.Goals as goal

pub bounds-least-used : goal.bounds-least-used
bounds-least-used c = omega (arith, (reads_use c.requires.admitted c.requires.r_lt_records.0 c.requires.r_lt_records.1 (omega (arith, c.type_inv.s (c.args.at + 3)))).most)

pub returns : goal.returns
returns c =
    let used = reads_use c.requires.admitted c.requires.r_lt_records.0 c.requires.r_lt_records.1 (omega (arith, c.type_inv.s (c.args.at + 3))) in
    let place = reads_place c.requires.admitted c.requires.r_lt_records.0 c.requires.r_lt_records.1 (omega (arith, c.type_inv.s c.args.at)) in
    rw (place.is, used.is, c.from.ensures) (from_test _)
