-- The way back of a producer in phase 7: the records that it goes by, from a retired one to its prev. In a store that only the engine has written
-- they are linked or retired, their places fall, none of them is loose, and each ends past the head.
use Rattle.std.specs.Prelude.{◌≡◌, refl, ℕ, zero, suc, ◌*◌, ◌<◌}
use Rattle.std.proofs.Common.{ap, subst, inl, inr, arith}
use Rattle.rules.specs.Sizes.{Sizes}
use Rattle.rules.specs.Cell.{Reader, head_position, phase, position, held, place, prev, used}
use Rattle.model.specs.Known.{blank_past_head}
use Rattle.model.specs.Walking.{producer_clause}
use Rattle.memory.specs.Memory.{ChainShape, Holdable, Trail, TrailFrom, Memory}
use Rattle.memory.specs.Trails.{OnWay, trail_holdable, trail_past}
use Rattle.memory.specs.Loose.{Loose}
use Rattle.simulation.specs.View.{Ghost, view}
use Rattle.simulation.specs.Good.{Good}
use Rattle.simulation.specs.Awaiting.{back_seen}

-- The way back from record x reaches record y: that is x, or the prev of a retired record that it reaches.
pub data Reaches (σ : Reader) (x : ℕ) : ℕ → Type 0 where
  here : Reaches σ x x
  back : {y w : ℕ} → Reaches σ x y → σ (used y) ≡ 3 → σ (prev y) ≡ suc w → Reaches σ x w

-- From a linked record it reaches no other.
pub ends_at_linked : {σ : Reader} {x y : ℕ} → σ (used x) ≡ 2 → Reaches σ x y → y ≡ x
ends_at_linked u here = refl
ends_at_linked {σ} {x} u (back {y} r v e) =
    let same : σ (used y) ≡ σ (used x) = ap (λ (w : ℕ). σ (used w)) (ends_at_linked u r) in
    absurd (omega arith)

-- From a retired record it reaches what the way from its prev does.
pub from_prev : {σ : Reader} {x w y : ℕ} → σ (used x) ≡ 3 → σ (prev x) ≡ suc w → Reaches σ w y → Reaches σ x y
from_prev u e here = back here u e
from_prev u e (back r v q) = back (from_prev u e r) v q

-- The places of the records on it fall.
falls_on : (σ : Reader) (x y w : ℕ) → OnWay σ x y → σ (used y) ≡ 3 → σ (place w) < σ (place y) → OnWay σ x w
falls_on σ x y w (inl e) u l = inr (rw e at u, rw e at l)
falls_on σ x y w (inr d) u l = inr (d.0, omega arith)

-- Where a trail begins at x, it goes on from what is reached.
module _ (B : ℕ) (σ : Reader) (L : ℕ) where
  goes_on_lem : (n y w : ℕ) → Trail B σ L n y → σ (used y) ≡ 3 → σ (prev y) ≡ suc w → TrailFrom B σ L (suc w) × (σ (place w) < σ (place y))
  goes_on_lem zero y w e u q = absurd (omega arith)
  goes_on_lem (suc n) y w (inl e) u q = absurd (omega arith)
  goes_on_lem (suc n) y w (inr l) u q =
      let same : l.to ≡ w = omega (arith, l.back) in
      rw (← same) ((n, l.rest), l.falls)

  along_trail : {x y : ℕ} → TrailFrom B σ L (suc x) → Reaches σ x y → TrailFrom B σ L (suc y) × OnWay σ x y
  along_trail t here = (t, inl refl)
  along_trail {x} t (back {y} {w} r u e) =
      let a = along_trail t r in
      let b = goes_on_lem a.0.0 y w a.0.1 u e in
      (b.0, falls_on σ x y w a.1 u b.1)

-- A producer t in phase 7 that holds record x.
module _ {z : Sizes} {σ : Reader} {g : ChainShape} (m : Memory z σ g) (t x : ℕ) (e : σ (phase t) ≡ 7) (q : σ (held t) ≡ suc x) where
  on_trail : {y : ℕ} → Reaches σ x y → TrailFrom z.B σ (σ (position t)) (suc y) × OnWay σ x y
  on_trail = along_trail z.B σ (σ (position t)) (subst (TrailFrom z.B σ (σ (position t))) q ((m.threads t).trail e))

  pub reached_holdable : {y : ℕ} → Reaches σ x y → Holdable σ y
  reached_holdable {y} r = let a = (on_trail r).0 in trail_holdable z.B σ (σ (position t)) a.0 y a.1

  -- it ends past the producer's position
  pub reached_past : {y : ℕ} → Reaches σ x y → σ (position t) < z.B * σ (place y)
  reached_past {y} r = let a = (on_trail r).0 in trail_past z.B σ (σ (position t)) a.0 y a.1

  -- A loose record is not reached: it is not linked, and it is neither the held one nor, if that is retired, of smaller place.
  pub reached_not_loose : {y : ℕ} → Reaches σ x y → Loose σ y → ⊥
  reached_not_loose {y} r loose = go (reached_holdable r) (on_trail r).1
    where
      go : Holdable σ y → OnWay σ x y → ⊥
      go (inl u) d = loose.not_linked u
      go (inr u) (inl d) = loose.not_held t (rw d q)
      go (inr u) (inr d) = omega (arith, loose.not_kept u t x q d.0)

-- A record that it reaches ends past the head.
pub reached_past_head : {z : Sizes} {σ : Reader} {γ : Ghost} → Good z σ γ → (t x y : ℕ) → σ (phase t) ≡ 7 → σ (held t) ≡ suc x → Reaches σ x y
    → σ head_position < z.B * σ (place y)
reached_past_head {z} {σ} {γ} good t x y e q r =
    let o = producer_clause z.B (view σ γ) good.model t _ (back_seen σ γ t e) in
    omega (arith, blank_past_head z.B (view σ γ) good.model (σ (position t)) o.0.is_blank, reached_past good.memory t x e q r)
