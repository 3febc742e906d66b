-- The end of the chain: a record that may be held has no next exactly when it is the last one.
use Rattle.std.specs.Prelude.{◌≡◌, ◌≢◌, ℕ, suc, ◌<◌}
use Rattle.std.proofs.Common.{ap, sym, ◌∙◌, inl, inr, arith}
use Rattle.std.proofs.Math.Decide.{ℕ_discrete}
use Rattle.rules.specs.Sizes.{Sizes}
use Rattle.rules.specs.Cell.{Reader, place, next, used}
use Rattle.memory.specs.Chain.{last_is}
use Rattle.memory.specs.Memory.{ChainShape, ListedIn, Holdable, row_of, Memory, held_is, last_listed}

module _ {z : Sizes} {σ : Reader} {g : ChainShape} (m : Memory z σ g) where
  -- A held record without a next is the last one.
  pub held_last : (t h : ℕ) → row_of σ t 4 ≡ suc h → σ (next h) ≡ 0 → (σ (used h) ≡ 2) × (σ (place h) ≡ g.hi) × (g.at g.hi ≡ h)
  held_last t h holds none = go (held_is m t h holds)
    where
      go : Holdable σ h → (σ (used h) ≡ 2) × (σ (place h) ≡ g.hi) × (g.at g.hi ≡ h)
      go (inl u) =
          let e = last_is (last_listed m) m.chain h u none in
          (u, e, ap g.at (sym e) ∙ (m.chain.only h u).1)
      go (inr u) = absurd ((m.retired h u).has_next none)

  -- One with a next is before the last one.
  pub held_before_last : (t h : ℕ) → row_of σ t 4 ≡ suc h → σ (next h) ≢ 0 → σ (place h) < g.hi
  held_before_last t h holds some = go (held_is m t h holds)
    where
      below : ListedIn g (σ (place h)) × (g.at (σ (place h)) ≡ h) → Dec (σ (place h) ≡ g.hi) → σ (place h) < g.hi
      below o (yes e) = absurd (some (ap (λ (x : ℕ). σ (next x)) (sym o.1 ∙ ap g.at e) ∙ m.chain.last))
      below o (no l) = omega (arith, o.0.to)

      go : Holdable σ h → σ (place h) < g.hi
      go (inl u) = below (m.chain.only h u) (ℕ_discrete (σ (place h)) g.hi)
      go (inr u) = omega (arith, (m.retired h u).before_tail, m.tail_last)
