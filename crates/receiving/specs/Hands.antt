-- What a call does to the drain area, by its reply. It is stated of the store before and after, and of a rule's effect.
use Rattle.std.specs.Prelude.{◌≡◌, ◌⊎◌, List, [], ◌∷◌, ◌++◌, ℕ, suc, ◌<◌}
use Rattle.std.proofs.Common.{inl, inr}
use Rattle.history.specs.Linearization.{Item}
use Rattle.rules.specs.Cell.{Reader, Write, drain_count}
use Rattle.rules.specs.Update.{after}
use Rattle.rules.specs.Rule.{Effect, Reply, refuse, reply, ok, started, going, ended, empty, item, drained, goes}
use Rattle.rules.specs.Consumer.{pair_at, items_marked}

-- The items that are marked stay.
abbrev pub MarkedStay : (σ τ : Reader) → Type 0
MarkedStay σ τ = (i : ℕ) → i < σ drain_count → pair_at τ i ≡ pair_at σ i

-- As many items are marked after as before, the same ones.
abbrev pub SameMarked : (σ τ : Reader) → Type 0
SameMarked σ τ = (τ drain_count ≡ σ drain_count) × MarkedStay σ τ

-- No item is marked, before and after.
abbrev pub NoneMarked : (σ τ : Reader) → Type 0
NoneMarked σ τ = (σ drain_count ≡ 0) × (τ drain_count ≡ 0)

-- The items are those that were marked, or those and one more.
abbrev pub OfMarked : Reader → List Item → Type 0
OfMarked σ xs = (xs ≡ items_marked σ (σ drain_count)) ⊎ ((y : Item) × (xs ≡ items_marked σ (σ drain_count) ++ (y ∷ [])))

-- By the reply: a step that goes on may mark one item more; a dequeue that ends had no item marked; a drain that ends hands over those that were
-- marked, the one that it takes in that step too, and none is marked then.
abbrev pub Hands : (σ τ : Reader) → Reply → Type 0
Hands σ τ ok = SameMarked σ τ
Hands σ τ (started n) = SameMarked σ τ
Hands σ τ going = ((τ drain_count ≡ σ drain_count) ⊎ (τ drain_count ≡ suc (σ drain_count))) × MarkedStay σ τ
Hands σ τ ended = SameMarked σ τ
Hands σ τ empty = NoneMarked σ τ
Hands σ τ (item n v) = NoneMarked σ τ
Hands σ τ (drained xs) = OfMarked σ xs × (τ drain_count ≡ 0)

-- Of a rule's effect; a refusal changes nothing.
unfoldable pub HandsOver : Reader → Effect → Type 0
HandsOver σ (refuse n) = Unit
HandsOver σ (reply r ws) = Hands σ (after σ ws) r

module _ (σ : Reader) where
  pub refused_hands : (n : ℕ) → HandsOver σ (refuse n)
  unfolding HandsOver
  refused_hands n = tt

  pub reply_hands : (r : Reply) (ws : List Write) → Hands σ (after σ ws) r → HandsOver σ (reply r ws)
  unfolding HandsOver
  reply_hands r ws h = h

  -- a step that goes on and marks nothing
  pub goes_hands : (ws : List Write) → after σ ws drain_count ≡ σ drain_count → MarkedStay σ (after σ ws) → HandsOver σ (goes ws)
  goes_hands ws same stay = reply_hands going ws (inl same, stay)

  -- one that marks an item
  pub marks_hands : (ws : List Write) → after σ ws drain_count ≡ suc (σ drain_count) → MarkedStay σ (after σ ws) → HandsOver σ (goes ws)
  marks_hands ws more stay = reply_hands going ws (inr more, stay)
