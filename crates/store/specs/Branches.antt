-- What the proofs of the phases share: a link that is not none, and a state, as the rules take them apart.
use Rattle.std.specs.Prelude.{◌≡◌, ℕ, suc, ◌-◌}
use Rattle.std.proofs.Common.{arith}

-- a stored record number that is not none is one more than the record
pub some : {x h : ℕ} → x ≡ h → (h ≡ 0 → ⊥) → x ≡ suc (h - 1)
some {x} {h} e n = go h e n
  where
    go : (k : ℕ) → x ≡ k → (k ≡ 0 → ⊥) → x ≡ suc (k - 1)
    go k e n = omega arith

pub suc_pred : {h : ℕ} → (h ≡ 0 → ⊥) → suc (h - 1) ≡ h
suc_pred {h} n = omega arith

-- a state that is neither empty nor set
pub handled : {x s : ℕ} → x ≡ s → (s ≡ 0 → ⊥) → (s ≡ 1 → ⊥) → x ≡ suc (suc (s - 2))
handled {x} {s} e n o = omega arith
