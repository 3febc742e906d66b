-- Crossing to the next record, in the words of the rules: `cross`.
use Rattle.std.specs.Prelude.{◌≡◌, true, cond, List, ℕ, suc, ◌*◌, ◌<◌, leb, Result, MatchResult}
use Rattle.rules.specs.Sizes.{Sizes}
use Rattle.rules.specs.Cell.{Reader, reader, place, next}
use Rattle.rules.specs.Rule.{Effect, refuse, need}
use Rattle.store.specs.declared.Refusal.{Refusal}
use Rattle.store.specs.declared.Refusal.TheVariants.{Broken}
use Rattle.dequeue.specs.declared.Crossing.{Crossing}

-- Record r crosses to link l at position p: next is there, it is a record of the store, it has a place, and its first position is in range.
pub record CrossesTo (z : Sizes) (σ : Reader) (r l p : ℕ) : Type 0 where
  pub to : ℕ
  pub before : ℕ
  pub link : σ (next r) ≡ suc to
  pub below : to < z.N
  pub placed : σ (place to) ≡ suc before
  pub fits : leb (z.B * before) z.M ≡ true
  pub link_is : l ≡ suc to
  pub position_is : p ≡ z.B * before

-- It does not: refusal 9, whatever would follow.
pub record CrossesNowhere (z : Sizes) (σ : Reader) (r : ℕ) : Type 0 where
  pub refused : (a : ℕ → ℕ → Effect) → need (σ (next r)) (λ n. need (σ (place n)) λ q. cond (leb (z.B * q) z.M) (a n q) (refuse 9)) ≡ refuse 9

-- What `cross_from` gives: where the crossing leads, or refusal 9.
abbrev pub Crossed : Sizes → (m : List ℕ) → (r : ℕ) → Result Crossing Refusal → Type 0
Crossed z m r x = MatchResult x (λ c. CrossesTo z (reader z m) r c.link c.position) (λ e. CrossesNowhere z (reader z m) r × (e ≡ Broken))
