-- Counting trailing zeros finds the lowest set digit.
use Rattle.std.specs.Prelude.{◌≡◌, refl, Bool, true, false, ℕ, zero, suc, ◌+◌, ◌≤◌, ◌<◌}
use Rattle.std.proofs.Math.Decide.{ℕ_discrete}
use Rattle.std.proofs.Common.{arith}
use Rattle.std.specs.Int.Count.{count_trailing_zeros, under}
use Rattle.bits.specs.Bitmap.{digit, bitmap}
use Rattle.bits.specs.Laws.{lowest_digit, other_digits}

-- x is the first of k, k + 1, .., n of them, that passes the test.
pub record First (k n : ℕ) (p : ℕ → Bool) (x : ℕ) : Type 0 where
  pub from : k ≤ x
  pub inside : x < k + n
  pub passes : p x ≡ true
  pub fails : (j : ℕ) → k ≤ j → j < x → p j ≡ false

-- the test of k fails, and so does what follows for those after it
behind : {k n x : ℕ} {p : ℕ → Bool} → p k ≡ false → First (suc k) n p x → First k (suc n) p x
behind {k} {n} {x} {p} e f = record { from = omega (arith, f.from); inside = omega (arith, f.inside); passes = f.passes; fails = λ j l h. at j (ℕ_discrete k j) l h }
  where
    at : (j : ℕ) → Dec (k ≡ j) → k ≤ j → j < x → p j ≡ false
    at j (yes q) l h = rw (← q) e
    at j (no q) l h = f.fails j (omega arith) h

-- The trailing zeros of a bitmap that is not 0 lead to its lowest set digit, in any width that holds the bitmap.
pub trailing_zeros_first : (w k n x : ℕ) (p : ℕ → Bool) → n ≤ w → (bitmap k n p ≡ 0 → ⊥) → k + count_trailing_zeros w (bitmap k n p) ≡ x → First k n p x
unfolding bitmap count_trailing_zeros
trailing_zeros_first w k zero x p h some e = absurd (some refl)
trailing_zeros_first zero k (suc n) x p h some e = absurd (omega arith)
trailing_zeros_first (suc w) k (suc n) x p h some e =
    here (p k) refl (rw (lowest_digit k n p, other_digits k n p) at e)
    (λ f. trailing_zeros_first w (suc k) n x p (omega arith) (λ z. some (rw (z, f) refl)))
  where
    here : (b : Bool) → p k ≡ b → k + under (digit (p k)) (count_trailing_zeros w (bitmap (suc k) n p)) ≡ x
        → (p k ≡ false → suc k + count_trailing_zeros w (bitmap (suc k) n p) ≡ x → First (suc k) n p x) → First k (suc n) p x
    here true t e later =
        let same : k ≡ x = omega (arith, rw t at e) in
        record { from = omega arith; inside = omega arith; passes = rw (← same) t; fails = λ j l i. absurd (omega arith) }
    here false f e later = behind f (later f (omega (arith, rw f at e)))

-- A bitmap of 0 has no set digit.
pub no_set_digit : (k n : ℕ) (p : ℕ → Bool) → bitmap k n p ≡ 0 → (j : ℕ) → k ≤ j → j < k + n → p j ≡ false
unfolding bitmap
no_set_digit k zero p e j l h = absurd (omega arith)
no_set_digit k (suc n) p e j l h = at (ℕ_discrete k j) (p k) refl (λ i. no_set_digit (suc k) n p (omega arith) j (omega arith) (omega arith))
  where
    at : Dec (k ≡ j) → (b : Bool) → p k ≡ b → ((k ≡ j → ⊥) → p j ≡ false) → p j ≡ false
    at (yes q) true t later = absurd (omega (arith, rw t at e))
    at (yes q) false f later = rw (← q) f
    at (no q) b t later = later q
