-- The list of a function's first values.
use Rattle.std.specs.Prelude.{List, [], ◌∷◌, ℕ, zero, suc}

module _ {A : Type 0} where
  abbrev pub build : (ℕ → A) → ℕ → List A
  build f zero = []
  build f (suc n) = f 0 ∷ build (λ j. f (suc j)) n
