-- A number whose first digit is 0.
use Rattle.std.proofs.Common.{◌≡◌, List, ℕ, ◌+◌, get_or}
use Rattle.text.specs.Decimal.{after_zero, number_at}

pub zero_leads : (s : List ℕ) (at : ℕ) → get_or s at 0 ≡ 48 → number_at s at ≡ after_zero s (at + 1)
unfolding number_at
zero_leads s at e = simp e
