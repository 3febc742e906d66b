-- What a claim takes is a free record, and it takes none only if none is free.
use Rattle.std.specs.Prelude.{◌≡◌, refl, Bool, true, false, ℕ, zero, suc, ◌+◌, ◌-◌, ◌≤◌, ◌<◌}
use Rattle.std.proofs.Math.Decide.{dec_lt, ℕ_discrete}
use Rattle.std.proofs.Common.{arith}
use Rattle.rules.specs.Sizes.{Sizes}
use Rattle.rules.specs.Cell.{Reader, last_claimed}
use Rattle.rules.specs.Free.{free, first_from, next_free}

-- one of n records from k on that passes the test, or none only if none does
abbrev Right : (k n : ℕ) → (ℕ → Bool) → ℕ → Type 0
Right k n p zero = (r : ℕ) → k ≤ r → r < k + n → p r ≡ false
Right k n p (suc r) = (k ≤ r) × (r < k + n) × (p r ≡ true)

first_right : (k n : ℕ) (p : ℕ → Bool) → Right k n p (first_from k n p)
first_right k zero p = λ r l h. absurd (omega arith)
first_right k (suc n) p = here (p k) refl (first_from (suc k) n p) (first_right (suc k) n p)
  where
    first : (r : ℕ) → Dec (k ≡ r) → k ≤ r → p k ≡ false → (suc k ≤ r → p r ≡ false) → p r ≡ false
    first r (yes e) l f rest = rw (← e) f
    first r (no e) l f rest = rest (omega arith)

    later : (c : ℕ) → p k ≡ false → Right (suc k) n p c → Right k (suc n) p c
    later zero f i = λ r l h. first r (ℕ_discrete k r) l f (λ m. i r m (omega arith))
    later (suc r) f i = (omega arith, omega arith, i.2)

    here : (b : Bool) → p k ≡ b → (c : ℕ) → Right (suc k) n p c → Right k (suc n) p (elim b [ true ↦ suc k | false ↦ c ])
    here true e c i = (omega arith, omega arith, e)
    here false e c i = later c e i

-- A free record, or none only if none is free. (A record number is stored plus one; zero is none.)
abbrev pub RightChoice : Sizes → Reader → ℕ → Type 0
RightChoice z σ zero = (r : ℕ) → r < z.N → free z σ r ≡ false
RightChoice z σ (suc r) = (r < z.N) × (free z σ r ≡ true)

pub next_free_right : (z : Sizes) (σ : Reader) → σ last_claimed ≤ z.N → RightChoice z σ (next_free z σ)
unfolding next_free
next_free_right z σ most =
    round (first_from last (z.N - last) p) (first_right last (z.N - last) p) (first_from 0 last p) (first_right 0 last p)
  where
    last : ℕ
    last = σ last_claimed

    p : ℕ → Bool
    p = free z σ

    none : (r : ℕ) → r < z.N → Dec (r < last) → (r < last → p r ≡ false) → (last ≤ r → p r ≡ false) → p r ≡ false
    none r l (yes h) below above = below h
    none r l (no h) below above = above (omega arith)

    below : (d : ℕ) → ((r : ℕ) → last ≤ r → r < last + (z.N - last) → p r ≡ false) → Right 0 last p d → RightChoice z σ d
    below zero i j = λ r l. none r l (dec_lt r last) (λ h. j r (omega arith) (omega arith)) (λ h. i r h (omega arith))
    below (suc r) i j = (omega arith, j.2)

    round : (c : ℕ) → Right last (z.N - last) p c → (d : ℕ) → Right 0 last p d → RightChoice z σ (elim c [ zero ↦ d | suc r ↦ suc r ])
    round zero i d j = below d i j
    round (suc r) i d j = (omega arith, i.2)
