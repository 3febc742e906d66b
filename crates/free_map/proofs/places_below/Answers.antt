use Rattle.std.proofs.Common.{◌≡◌, refl, ◌∙◌, ◌+◌, ◌-◌, ◌*◌, ◌/◌, ◌%◌, arith}
use native.Mathlib.Nat.{sub-zero}
use Rattle.rules.specs.Cell.{reader}
use Rattle.store.specs.Shape.{sizes}
use Rattle.bits.specs.Bitmap.{digit, bitmap}
use Rattle.bits.specs.Laws.{bitmap_fits, digit_before}
use Rattle.free_map.specs.Keeping.{least_places, place_below}
use Rattle.free_map.specs.Walk.{two_back}
use Rattle.free_map.proofs.places_below.Goals as goal

pub loop-pair-init : goal.loop-pair-init
unfolding bitmap
loop-pair-init c =
    let n = c.args.z.records in
    let all : n % 2 + 2 * (n / 2) ≡ n = omega arith in
    let none : n - n ≡ 0 = omega arith in
    (omega arith, rw all c.record_at-at.ensures.0, rw (all, none) refl)

pub place_below-upper-requires : goal.place_below-upper-requires
place_below-upper-requires c =
    let a = c.args in
    let r = a.z.records % 2 + 2 * c.loop-pair.pair in
    let back = two_back (sizes a.z) r c.loop-pair.invariant.1 c.record_words-words.ensures.0 (omega arith) in
    let same : a.z.records % 2 + 2 * (c.loop-pair.pair - 1) + 1 ≡ r - 2 + 1 = omega arith in
    record { admitted = c.requires; r_lt_records = (omega (arith, c.loop-pair.invariant.0), rw same back.2) }

pub overflow_mul-map : goal.overflow_mul-map
overflow_mul-map c =
    let a = c.args in
    let r = a.z.records % 2 + 2 * c.loop-pair.pair in
    omega (arith, c.loop-pair.invariant.2, bitmap_fits r (a.z.records - r) 62 (place_below (reader (sizes a.z) a.s.now) (least_places a.kept)) (omega (arith, c.loop-pair.invariant.0)))

pub place_below-requires : goal.place_below-requires
place_below-requires c =
    let a = c.args in
    let r = a.z.records % 2 + 2 * c.loop-pair.pair in
    let back = two_back (sizes a.z) r c.loop-pair.invariant.1 c.record_words-words.ensures.0 (omega arith) in
    let same : a.z.records % 2 + 2 * (c.loop-pair.pair - 1) ≡ r - 2 = omega arith in
    record { admitted = c.requires; r_lt_records = (omega (arith, c.loop-pair.invariant.0), rw same back.1) }

pub overflow_add-map-in-loop-pair : goal.overflow_add-map-in-loop-pair
overflow_add-map-in-loop-pair c =
    let a = c.args in
    let r = a.z.records % 2 + 2 * c.loop-pair.pair in
    omega (arith, c.place_below.ensures.1, c.place_below-upper.ensures.1, c.loop-pair.invariant.2, bitmap_fits r (a.z.records - r) 62 (place_below (reader (sizes a.z) a.s.now) (least_places a.kept)) (omega (arith, c.loop-pair.invariant.0)))

pub loop-pair-preserved : goal.loop-pair-preserved
loop-pair-preserved c =
    let a = c.args in
    let n = a.z.records in
    let r = n % 2 + 2 * c.loop-pair.pair in
    let back = two_back (sizes a.z) r c.loop-pair.invariant.1 c.record_words-words.ensures.0 (omega arith) in
    let upper : n % 2 + 2 * (c.loop-pair.pair - 1) + 1 ≡ r - 1 = omega arith in
    let lower : n % 2 + 2 * (c.loop-pair.pair - 1) ≡ r - 2 = omega arith in
    let same : r - 2 ≡ r - 1 - 1 = omega arith in
    let test = place_below (reader (sizes a.z) a.s.now) (least_places a.kept) in
    let one = digit_before r n test (omega arith) (omega (arith, c.loop-pair.invariant.0)) c.loop-pair.invariant.2 (rw upper at c.place_below-upper.ensures.0) in
    let second : digit (test (r - 1 - 1)) ≡ c.place_below.result = rw (lower, same) at c.place_below.ensures.0 in
    let two = digit_before (r - 1) n test (omega arith) (omega (arith, c.loop-pair.invariant.0)) one second in
    (omega (arith, c.loop-pair.invariant.0), rw lower back.1, rw (lower, same) (two ∙ omega arith))

pub returns-then-odd-eq0 : goal.returns-then-odd-eq0
returns-then-odd-eq0 c =
    let none : c.args.z.records % 2 + 2 * c.loop-pair.pair ≡ 0 = omega arith in
    rw (none, sub-zero) at c.loop-pair.invariant.2

pub overflow_mul-result : goal.overflow_mul-result
overflow_mul-result c =
    let a = c.args in
    let r = a.z.records % 2 + 2 * c.loop-pair.pair in
    omega (arith, c.loop-pair.invariant.2, bitmap_fits r (a.z.records - r) 63 (place_below (reader (sizes a.z) a.s.now) (least_places a.kept)) (omega (arith, c.loop-pair.invariant.0)))

pub overflow_add-result : goal.overflow_add-result
overflow_add-result c =
    let a = c.args in
    let r = a.z.records % 2 + 2 * c.loop-pair.pair in
    omega (arith, c.place_below-2.ensures.1, c.loop-pair.invariant.2, bitmap_fits r (a.z.records - r) 63 (place_below (reader (sizes a.z) a.s.now) (least_places a.kept)) (omega (arith, c.loop-pair.invariant.0)))

pub returns : goal.returns
returns c =
    let a = c.args in
    let one : a.z.records % 2 + 2 * c.loop-pair.pair ≡ 1 = omega arith in
    rw sub-zero at (digit_before 1 a.z.records (place_below (reader (sizes a.z) a.s.now) (least_places a.kept)) (omega arith) (omega (arith, c.loop-pair.invariant.0)) (rw one at c.loop-pair.invariant.2) c.place_below-2.ensures.0)
