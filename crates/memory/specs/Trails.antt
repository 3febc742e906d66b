-- The way back of a producer in phase 7: what leaves it as it was, and what a retirement or a fold makes of it.
use Rattle.std.specs.Prelude.{◌≡◌, refl, ◌⊎◌, ℕ, zero, suc, ◌*◌, ◌≤◌, ◌<◌}
use Rattle.std.proofs.Common.{ap, ◌∙◌, inl, inr, ⊎_elim, mul-le-mul_left, arith}
use Rattle.std.proofs.Math.Decide.{ℕ_discrete}
use Rattle.rules.specs.Cell.{Reader, place, prev, used}
use Rattle.memory.specs.Memory.{Holdable, Ends, Trail, TrailFrom}

-- its first record is linked or retired
pub trail_holdable : (B : ℕ) (σ : Reader) (L n x : ℕ) → Trail B σ L n x → Holdable σ x
trail_holdable B σ L zero x e = inl e.0
trail_holdable B σ L (suc n) x (inl e) = inl e.0
trail_holdable B σ L (suc n) x (inr l) = inr l.is_retired

-- It ends past L, and so do all on the way.
pub trail_past : (B : ℕ) (σ : Reader) (L n x : ℕ) → Trail B σ L n x → L < B * σ (place x)
trail_past B σ L zero x e = e.1
trail_past B σ L (suc n) x (inl e) = e.1
trail_past B σ L (suc n) x (inr l) =
    let rest = trail_past B σ L n l.to l.rest in
    let up : B * σ (place l.to) ≤ B * σ (place x) = mul-le-mul_left B (omega (arith, l.falls)) in
    omega arith

-- The words of record y that a way back goes by stay.
abbrev pub SameWay : (σ σ' : Reader) (y : ℕ) → Type 0
SameWay σ σ' y = (σ' (place y) ≡ σ (place y)) × (σ' (prev y) ≡ σ (prev y)) × (σ' (used y) ≡ σ (used y))

-- The records that it may go by: its first one, and if that is retired others of smaller place; linked or retired.
abbrev pub OnWay : (σ : Reader) (x y : ℕ) → Type 0
OnWay σ x y = (y ≡ x) ⊎ (σ (used x) ≡ 3) × (σ (place y) < σ (place x))

module _ (B : ℕ) (σ σ' : Reader) (L : ℕ) where
  ends_stays : (x : ℕ) → (Holdable σ x → SameWay σ σ' x) → Ends B σ L x → Ends B σ' L x
  ends_stays x same e = let w = same (inl e.0) in (w.2 ∙ e.0, rw w.0 e.1)

  pub trail_stays : (n x : ℕ) → ((y : ℕ) → OnWay σ x y → Holdable σ y → SameWay σ σ' y)
      → Trail B σ L n x → Trail B σ' L n x
  trail_stays zero x same e = ends_stays x (same x (inl refl)) e
  trail_stays (suc n) x same (inl e) = inl (ends_stays x (same x (inl refl)) e)
  trail_stays (suc n) x same (inr l) =
      let w = same x (inl refl) (inr l.is_retired) in
      let v = same l.to (inr (l.is_retired, l.falls)) (trail_holdable B σ L n l.to l.rest) in
      let below : (y : ℕ) → OnWay σ l.to y → OnWay σ x y =
      λ y o. inr (l.is_retired, ⊎_elim (λ e. rw e l.falls) (λ b. omega (arith, l.falls, b.1)) o) in
      inr (record {
        to = l.to;
        is_retired = w.2 ∙ l.is_retired;
        back = w.1 ∙ l.back;
        falls = rw (w.0, v.0) l.falls;
        rest = trail_stays n l.to (λ y b h. same y (below y b) h) l.rest;
      })

  -- from a record that may be none
  pub trail_from_stays : (x : ℕ)
      → ((r : ℕ) → x ≡ suc r → (y : ℕ) → OnWay σ r y → Holdable σ y → SameWay σ σ' y)
      → TrailFrom B σ L x → TrailFrom B σ' L x
  trail_from_stays zero same t = t
  trail_from_stays (suc x) same t = (t.0, trail_stays t.0 x (same x refl) t.1)

  -- A linked record h is retired. Where the way ended there, it leads on to the one before, which ends past L too.
  module _ (h : ℕ) (was : σ (used h) ≡ 2) (gone : σ' (used h) ≡ 3) (places : (y : ℕ) → σ' (place y) ≡ σ (place y))
      (uses : (y : ℕ) → (y ≡ h → ⊥) → σ' (used y) ≡ σ (used y)) (prevs : (y : ℕ) → σ (used y) ≡ 3 → σ' (prev y) ≡ σ (prev y))
      (on : L < B * σ (place h) → (b : ℕ) × (σ' (prev h) ≡ suc b) × (σ (place b) < σ (place h)) × Ends B σ' L b) where
    further : (n b : ℕ) → Ends B σ' L b → Trail B σ' L n b
    further zero b e = e
    further (suc n) b e = inl e

    ends_retires : (n x : ℕ) → Dec (x ≡ h) → Ends B σ L x → Trail B σ' L (suc n) x
    ends_retires n x (yes q) e =
        let o = on (rw q at e.1) in
        inr (record {
          to = o.0;
          is_retired = rw q gone;
          back = rw q o.1;
          falls = rw (places o.0, places x) (rw q o.2);
          rest = further n o.0 o.3;
        })
    ends_retires n x (no q) e = inl (uses x q ∙ e.0, rw (places x) e.1)

    retires : (n x : ℕ) → Trail B σ L n x → Trail B σ' L (suc n) x
    retires zero x e = ends_retires 0 x (ℕ_discrete x h) e
    retires (suc n) x (inl e) = ends_retires (suc n) x (ℕ_discrete x h) e
    retires (suc n) x (inr l) =
        let other : x ≡ h → ⊥ = λ q. let w : σ (used x) ≡ σ (used h) = ap (λ (y : ℕ). σ (used y)) q in omega (arith, l.is_retired) in
        inr (record {
          to = l.to;
          is_retired = uses x other ∙ l.is_retired;
          back = prevs x l.is_retired ∙ l.back;
          falls = rw (places l.to, places x) l.falls;
          rest = retires n l.to l.rest;
        })

    pub trail_retires : (x : ℕ) → TrailFrom B σ L x → TrailFrom B σ' L x
    trail_retires zero t = t
    trail_retires (suc x) t = (suc t.0, retires t.0 x t.1)
