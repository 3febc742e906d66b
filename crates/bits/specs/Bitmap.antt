-- Tests as the binary digits of one number.
use Rattle.std.specs.Prelude.{Bool, true, false, ℕ, zero, suc, ◌+◌, ◌*◌}

-- the digit of a test
abbrev pub digit : Bool → ℕ
digit true = 1
digit false = 0

-- The tests of k, k + 1, .. as digits, n of them, the first one lowest.
unfoldable pub bitmap : (k n : ℕ) → (ℕ → Bool) → ℕ
bitmap k zero p = 0
bitmap k (suc n) p = bitmap (suc k) n p * 2 + digit (p k)
