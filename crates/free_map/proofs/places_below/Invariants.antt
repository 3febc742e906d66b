-- `free_map::places_below` meets its contract. The loop's invariant: the digits of the records from `odd + 2 * pair` on are gathered, and that record
-- begins at `at`.
use Rattle.std.proofs.Common.{◌≡◌, ◌+◌, ◌-◌, ◌*◌, ◌≤◌}
use Rattle.rules.specs.Cell.{reader}
use Rattle.store.specs.Shape.{sizes}
use Rattle.bits.specs.Bitmap.{bitmap}
use Rattle.free_map.specs.Keeping.{least_places, place_below}
use Rattle.free_map.specs.Walk.{first_word}
use Rattle.free_map.proofs.places_below.Given as goal

abbrev pub invariant-loop-pair : goal.invariant-loop-pair
invariant-loop-pair l =
    (l.odd + 2 * l.pair ≤ l.z.records) × (l.at ≡ first_word (sizes l.z) (l.odd + 2 * l.pair))
    × (bitmap (l.odd + 2 * l.pair) (l.z.records - (l.odd + 2 * l.pair)) (place_below (reader (sizes l.z) l.s) (least_places l.kept)) ≡ l.map)
