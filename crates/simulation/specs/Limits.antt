-- The sizes' limits, and that no number of a store that only the engine has written leaves its range.
use Rattle.std.specs.Prelude.{◌≡◌, true, ◌&&◌, ℕ, zero, suc, ◌+◌, ◌*◌, ◌≤◌, ◌<◌, leb}
use Rattle.std.proofs.Common.{mul-le-mul_right, arith, leb-true}
use Rattle.history.specs.Event.{most_producers}
use Rattle.rules.specs.Sizes.{Sizes, between, most_entries, most_records, most_starts, sizes_in_range, most_place}
use Rattle.rules.specs.Update.{both}

pub record Limits (z : Sizes) : Type 0 where
  pub two_entries : 2 ≤ z.B
  pub most_entries : z.B ≤ most_entries
  pub two_records : 2 ≤ z.N
  pub most_records : z.N ≤ most_records
  pub one_producer : 1 ≤ z.P
  pub most_producers : z.P ≤ most_producers
  pub most_starts : z.M ≤ most_starts

pub limits : (z : Sizes) → sizes_in_range z ≡ true → Limits z
limits z e =
    let entries = between 2 most_entries z.B in
    let records = between 2 most_records z.N in
    let producers = between 1 most_producers z.P in
    let m = both (entries && records && producers) (between 1 most_starts z.M) e in
    let p = both (entries && records) producers m.0 in
    let r = both entries records p.0 in
    record {
      two_entries = leb-true 2 z.B (both (leb 2 z.B) (leb z.B most_entries) r.0).0;
      most_entries = leb-true z.B most_entries (both (leb 2 z.B) (leb z.B most_entries) r.0).1;
      two_records = leb-true 2 z.N (both (leb 2 z.N) (leb z.N most_records) r.1).0;
      most_records = leb-true z.N most_records (both (leb 2 z.N) (leb z.N most_records) r.1).1;
      one_producer = leb-true 1 z.P (both (leb 1 z.P) (leb z.P most_producers) p.1).0;
      most_producers = leb-true z.P most_producers (both (leb 1 z.P) (leb z.P most_producers) p.1).1;
      most_starts = leb-true z.M most_starts (both (leb 1 z.M) (leb z.M most_starts) m.1).1;
    }

-- A record up to whose end a taken position reaches has a place below the limit, and so has the next.
pub place_fits : (z : Sizes) → Limits z → (k L : ℕ) → z.B * k ≤ L + z.B → L < z.M → suc k ≤ most_place
place_fits z l zero L h a = omega arith
place_fits z l (suc k) L h a = omega (arith, l.most_starts, mul-le-mul_right k l.two_entries)
