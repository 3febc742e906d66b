-- A position that is not yet handled is awaited: the record that it is in is in the list.
use Rattle.std.specs.Prelude.{◌≡◌, true, ◌≢◌, ℕ, suc, ◌+◌, ◌*◌, ◌/◌, ◌%◌, ◌≤◌, ◌<◌}
use Rattle.std.proofs.Common.{ap, sym, ◌∙◌, mod-lt, mul-le-mul_left, arith}
use Rattle.std.proofs.Math.Nat.{div-add-mod, lt_of_mul-lt-mul_left}
use Rattle.rules.specs.Sizes.{Sizes}
use Rattle.rules.specs.Cell.{Reader}
use Rattle.model.specs.State.{Entry, blank, gone, behind}
use Rattle.model.specs.Facts.{gone_not_blank}
use Rattle.model.specs.Known.{blank_past_head}
use Rattle.model.specs.Walking.{producer_clause}
use Rattle.memory.specs.Listed.{by_gap}
use Rattle.memory.specs.Memory.{ChainShape, row_of}
use Rattle.memory.specs.Retiring.{Awaited}
use Rattle.simulation.specs.View.{Ghost, places_of, place_of, producer_at, view}
use Rattle.simulation.specs.Good.{Good}
use Rattle.simulation.specs.Limits.{limits}

module _ (B : ℕ) (positive : 0 < B) (g : ChainShape) (entry : ℕ → Entry)
    (folded : (k i : ℕ) → g.gap (suc k) ≡ true → i < B → entry (B * k + i) ≡ gone) where
  pub awaited_at : (L : ℕ) → B * g.lo ≤ L + B → L < B * g.hi → entry L ≢ gone → Awaited B g L
  awaited_at L from to not-gone =
      let whole : B * (L / B) + L % B ≡ L = div-add-mod L B in
      let below : L % B < B = mod-lt L positive in
      let first : g.lo < suc (suc (L / B)) = lt_of_mul-lt-mul_left B (omega arith) in
      let last : L / B < g.hi = lt_of_mul-lt-mul_left B (omega arith) in
      record {
        at = suc (L / B);
        listed =
            record {
              from = omega arith;
              to = omega arith;
              no_gap = by_gap g.gap (suc (L / B)) (λ e. absurd (not-gone (ap entry (sym whole) ∙ folded (L / B) (L % B) e below))) (λ e. e);
            };
        before_end = omega arith;
        from_start = omega arith;
      }

-- an empty position before the tail record's end
pub blank_awaited : (z : Sizes) (σ : Reader) (γ : Ghost) → Good z σ γ → (L : ℕ) → γ.entry L ≡ blank → L < z.B * γ.shape.tp → Awaited z.B γ.shape L
blank_awaited z σ γ good L e l =
    awaited_at z.B (omega (arith, (limits z good.sizes).two_entries)) γ.shape γ.entry good.agrees.folded L
    (omega (arith, good.model.places.head_from, blank_past_head z.B (view σ γ) good.model L e))
    (omega (arith, mul-le-mul_left z.B good.memory.tail_last))
    (λ q. gone_not_blank _ q e)

-- the position of a producer that goes back
pub behind_awaited : (z : Sizes) (σ : Reader) (γ : Ghost) → Good z σ γ → (t n v L k : ℕ) → (view σ γ).producer t ≡ behind n v L k
    → (L + z.B < z.B * k) × Awaited z.B γ.shape L
behind_awaited z σ γ good t n v L k e =
    let o = producer_clause z.B (view σ γ) good.model t _ e in
    (o.2, blank_awaited z σ γ good L o.0.is_blank (omega (arith, o.2, mul-le-mul_left z.B o.1)))

-- A producer in phase 7 goes back.
pub back_seen : (σ : Reader) (γ : Ghost) (u : ℕ) → row_of σ u 0 ≡ 7
    → (view σ γ).producer u ≡ behind (row_of σ u 1) (row_of σ u 2) (row_of σ u 3) (place_of (places_of σ) (row_of σ u 4))
back_seen σ γ u e = ap (λ (p : ℕ). producer_at p (row_of σ u 1) (row_of σ u 2) (row_of σ u 3) (place_of (places_of σ) (row_of σ u 4))) e

-- In another shape, which ends at the same place, with gaps that are handled, and from whose first record on all empty positions are.
pub awaited_in : (z : Sizes) (σ : Reader) (γ : Ghost) → Good z σ γ → (g : ChainShape) → g.hi ≡ γ.shape.hi
    → ((k i : ℕ) → g.gap (suc k) ≡ true → i < z.B → γ.entry (z.B * k + i) ≡ gone)
    → ((L : ℕ) → γ.entry L ≡ blank → z.B * g.lo ≤ L + z.B)
    → (u : ℕ) → row_of σ u 0 ≡ 7 → Awaited z.B g (row_of σ u 3)
awaited_in z σ γ good g last folded from u e =
    let o = producer_clause z.B (view σ γ) good.model u _ (back_seen σ γ u e) in
    awaited_at z.B (omega (arith, (limits z good.sizes).two_entries)) g γ.entry folded (row_of σ u 3)
    (from (row_of σ u 3) o.0.is_blank)
    (rw last (omega (arith, o.2, mul-le-mul_left z.B o.1, mul-le-mul_left z.B good.memory.tail_last)))
    (λ q. gone_not_blank _ q o.0.is_blank)
