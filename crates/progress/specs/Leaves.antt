-- To show something of a rule's answer that every refusal has, show it of each reply.
use Rattle.std.specs.Prelude.{◌≡◌, refl, ℕ, zero, suc, ◌+◌, ◌*◌, ◌≤◌, ◌<◌, leb, ltb}
use Rattle.std.proofs.Common.{leb-true, ltb-true}
use Rattle.rules.specs.Sizes.{Sizes}
use Rattle.rules.specs.Cell.{Reader, place, next}
use Rattle.rules.specs.Update.{both}
use Rattle.rules.specs.Rule.{Effect, refuse, need, up_to, within, index, inside, cross}
use Rattle.simulation.specs.Good.{by_cond}

module _ (P : Effect → Type 0) (down : (n : ℕ) → P (refuse n)) where
  pub each_need : (x : ℕ) (f : ℕ → Effect) → ((r : ℕ) → x ≡ suc r → P (f r)) → P (need x f)
  each_need zero f each = down 9
  each_need (suc r) f each = each r refl

  pub each_up_to : (most x : ℕ) (a : Effect) → (x ≤ most → P a) → P (up_to most x a)
  each_up_to most x a each = by_cond P (leb x most) a (refuse 9) (λ b. each (leb-true x most b)) (λ b. down 9)

  module _ (z : Sizes) (σ : Reader) where
    pub each_inside : (r p : ℕ) (f : ℕ → Effect) → (p < z.B * σ (place r) → z.B * σ (place r) ≤ p + z.B → P (f (index z σ r p))) → P (inside z σ r p f)
    each_inside r p f each =
        by_cond P (within z σ r p) (f (index z σ r p)) (refuse 9)
        (λ b.
        let w = both (ltb p (z.B * σ (place r))) (leb (z.B * σ (place r)) (p + z.B)) b in
        each (ltb-true p (z.B * σ (place r)) w.0) (leb-true (z.B * σ (place r)) (p + z.B) w.1))
        (λ b. down 9)

    pub each_cross : (r : ℕ) (f : ℕ → ℕ → Effect) → ((n q : ℕ) → σ (next r) ≡ suc n → σ (place n) ≡ suc q → P (f n (z.B * q))) → P (cross z σ r f)
    each_cross r f each =
        each_need (σ (next r)) _ (λ n e. each_need (σ (place n)) _ (λ q d. each_up_to z.M (z.B * q) _ (λ l. each n q e d)))
