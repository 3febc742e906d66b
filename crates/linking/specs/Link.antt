-- Phases 5 and 11 link the claimed record or give it back: what the code says of that.
use Rattle.std.specs.Prelude as std
use Rattle.std.specs.Prelude.{◌≡◌, List, ◌++◌, ℕ, MatchResult}
use Rattle.std.proofs.Common.{ap, sym, ◌∙◌}
use Rattle.rules.specs.Sizes.{Sizes}
use Rattle.rules.specs.Cell.{reader, Write, writes}
use Rattle.rules.specs.Rule.{Effect, refuse}
use Rattle.rules.specs.Producer.{linked}
use Rattle.store.specs.declared.Refusal.{Refusal}
use Rattle.store.specs.declared.Refusal.TheVariants.{Broken}
use Rattle.store.specs.Words.{writes_then}

-- The link was made: its writes, and the words after them, whatever follows.
pub record Made (z : Sizes) (m : List ℕ) (t : ℕ) (m' : List ℕ) : Type 0 where
  pub made : List Write
  pub words : m' ≡ writes z m made
  pub then : (f : List Write → Effect) → linked z (reader z m) t f ≡ f made

-- It was refused, whatever would follow, and nothing was stored.
pub record NotMade (z : Sizes) (m : List ℕ) (t : ℕ) (m' : List ℕ) : Type 0 where
  pub words : m' ≡ m
  pub then : (f : List Write → Effect) → linked z (reader z m) t f ≡ refuse 9

abbrev pub Linked : Sizes → (m : List ℕ) → (t : ℕ) → std.Result Unit Refusal → (m' : List ℕ) → Type 0
Linked z m t x m' = MatchResult x (λ u. Made z m t m') (λ e. NotMade z m t m' × (e ≡ Broken))

-- the words after what follows a link
pub words_then : {z : Sizes} {m : List ℕ} {t : ℕ} {m' : List ℕ} → (l : Made z m t m') → (ws : List Write) → writes z m' ws ≡ writes z m (l.made ++ ws)
words_then {z} {m} l ws = ap (λ (x : List ℕ). writes z x ws) l.words ∙ sym (writes_then z m l.made ws)
