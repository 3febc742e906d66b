-- Rows of words and their bounds, and tests over numbers.
use Rattle.std.specs.Prelude.{◌≡◌, refl, Bool, true, ◌&&◌, List, [], ◌∷◌, ℕ, zero, suc, ◌+◌, ◌<◌, leb, get_or}
use Rattle.std.proofs.Common.{ap₂, arith}
use Rattle.rules.specs.Range.{every}

-- words k, k + 1, .. of a row are at most these
abbrev pub at_most : (ℕ → ℕ) → ℕ → List ℕ → Bool
at_most row k [] = true
at_most row k (b ∷ bs) = leb (row k) b && at_most row (suc k) bs

-- the words from `at` on
abbrev pub from : List ℕ → ℕ → ℕ → ℕ
from m at k = get_or m (at + k) 0

-- tests that agree below n
pub every_same : (n : ℕ) (p q : ℕ → Bool) → ((i : ℕ) → i < n → p i ≡ q i) → every n p ≡ every n q
every_same zero p q h = refl
every_same (suc n) p q h = ap₂ ◌&&◌ (every_same n p q (λ i l. h i (omega arith))) (h n (omega arith))
