-- A refused call changes no word of what was lent.
use Rattle.std.specs.Prelude.{◌≡◌, refl, List, ℕ}
use Rattle.rules.specs.Rule.{refused}
use Rattle.rules.specs.Request.{Invocation, sizes_of, result}
use Rattle.rules.specs.Refusal.{accepted_not_refused, by_applied}

pub refused_changes_nothing : (v : Invocation) (m : List ℕ) (n : ℕ) → (result v m).reply ≡ refused n
    → ((result v m).words ≡ m) × ((result v m).buffer ≡ v.buffer)
unfolding result
refused_changes_nothing v m n =
    by_applied (λ r. r.reply ≡ refused n → (r.words ≡ m) × (r.buffer ≡ v.buffer)) _ (sizes_of m) m v.buffer v.from _
    (λ j a e. (refl, refl))
    (λ r ws a s e. (refl, refl))
    (λ r ws a s e. absurd (accepted_not_refused e))
