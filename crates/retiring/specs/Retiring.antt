-- The part of phase 8 that a drain has of its own (document 02, U5), in the words of the rules.
use Rattle.std.specs.Prelude.{[], ◌∷◌, ℕ}
use Rattle.rules.specs.Sizes.{Sizes}
use Rattle.rules.specs.Cell.{Reader, ◌:=◌, head_record, head_position, drain_count, used}
use Rattle.rules.specs.Rule.{Effect}
use Rattle.rules.specs.Consumer.{items_marked, goes_on}

module _ (z : Sizes) (σ : Reader) where
  -- phase 8 of a drain, where the head record h is left for a link at a position
  abbrev pub drain_retires : (h l p : ℕ) → Effect
  drain_retires h l p = goes_on z σ (σ drain_count) (items_marked σ (σ drain_count)) (head_record := l ∷ head_position := p ∷ used h := 3 ∷ [])
