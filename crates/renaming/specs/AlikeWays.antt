-- Ways back that are the same in two stores alike, and what a step makes of them.
use Rattle.std.specs.Prelude.{◌≡◌, ◌⊎◌, ℕ, suc}
use Rattle.std.proofs.Common.{ap, sym, ◌∙◌, inl, inr, arith}
use Rattle.rules.specs.Cell.{Reader, place, prev, used}
use Rattle.memory.specs.Memory.{Holdable}
use Rattle.renaming.specs.Ways.{Reaches, here, back, ends_at_linked}
use Rattle.renaming.specs.Alike.{Same, SameBack, WayAlike, Alike}

-- A record that is retired after a step was so, with the prev that it has; or it is the same in both stores, and its prev is not retired then.
abbrev pub WasRetired : (σ σ' : Reader) → ℕ → Type 0
WasRetired σ σ' y = (σ (used y) ≡ 3) × (σ' (prev y) ≡ σ (prev y))

pub record NewlyRetired (f : ℕ → ℕ) (σ τ σ' : Reader) (y : ℕ) : Type 0 where
  pub same : SameBack f σ τ y
  pub ends : (w : ℕ) → σ' (prev y) ≡ suc w → σ' (used w) ≡ 3 → ⊥

module _ {f : ℕ → ℕ} {σ τ : Reader} (a : Alike f σ τ) where
  -- A linked record's way back ends there.
  pub linked_way : (x : ℕ) → σ (used x) ≡ 2 → WayAlike f σ τ x
  linked_way x u y r v =
      let same : σ (used y) ≡ σ (used x) = ap (λ (w : ℕ). σ (used w)) (ends_at_linked u r) in
      absurd (omega arith)

  -- A record from which the way back is the same has the same place.
  pub way_placed : (x : ℕ) → Holdable σ x → WayAlike f σ τ x → Same f σ τ (place x)
  way_placed x (inl u) w = (a.linked x u).placed
  way_placed x (inr u) w = (w x here u).0

  -- The way back from x after a step, which retires only what is the same in both.
  module _ (σ' : Reader) (x : ℕ) (way : WayAlike f σ τ x)
      (each : (y : ℕ) → Reaches σ x y → σ' (used y) ≡ 3 → WasRetired σ σ' y ⊎ NewlyRetired f σ τ σ' y) where
    -- what it reaches it reached before, or it ends there
    reached_before : {y : ℕ} → Reaches σ' x y → Reaches σ x y ⊎ (σ' (used y) ≡ 3 → ⊥)
    reached_before here = inl here
    reached_before (back {y} {w} r u e) = go (reached_before r)
      where
        further : Reaches σ x y → WasRetired σ σ' y ⊎ NewlyRetired f σ τ σ' y → Reaches σ x w ⊎ (σ' (used w) ≡ 3 → ⊥)
        further p (inl o) = inl (back p o.0 (sym o.1 ∙ e))
        further p (inr o) = inr (o.ends w e)

        go : Reaches σ x y ⊎ (σ' (used y) ≡ 3 → ⊥) → Reaches σ x w ⊎ (σ' (used w) ≡ 3 → ⊥)
        go (inl p) = further p (each y p u)
        go (inr n) = absurd (n u)

    pub way_after : (y : ℕ) → Reaches σ' x y → σ' (used y) ≡ 3 → SameBack f σ τ y
    way_after y r u = go (reached_before r)
      where
        same : Reaches σ x y → WasRetired σ σ' y ⊎ NewlyRetired f σ τ σ' y → SameBack f σ τ y
        same p (inl o) = way y p o.0
        same p (inr o) = o.same

        go : Reaches σ x y ⊎ (σ' (used y) ≡ 3 → ⊥) → SameBack f σ τ y
        go (inl p) = same p (each y p u)
        go (inr n) = absurd (n u)
