-- The parts of phase 7 that a drain has of its own (document 02, U5), in the words of the rules.
use Rattle.std.specs.Prelude.{List, [], ◌∷◌, ◌++◌, ℕ, suc}
use Rattle.rules.specs.Sizes.{Sizes}
use Rattle.rules.specs.Cell.{Reader, Write, item_number, item_value, drain_limit, drain_count}
use Rattle.rules.specs.Rule.{Effect, up_to}
use Rattle.rules.specs.Consumer.{items_marked, marks, keep_item, goes_on}

module _ (z : Sizes) (σ : Reader) where
  -- what a drain does after the writes of its mark, where that does not go to 8
  abbrev pub drain_gives : List Write → Effect
  drain_gives =
      goes_on z σ (suc (σ drain_count)) (items_marked σ (σ drain_count) ++ (record { number = σ item_number; value = σ item_value } ∷ []))

  -- phase 7 of a drain, where entry i of record r is found
  abbrev pub drain_marks : (r i : ℕ) → Effect
  drain_marks r i = up_to (σ drain_limit) (suc (σ drain_count)) (marks z σ r i (keep_item z σ) drain_gives)
