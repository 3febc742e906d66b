-- What a call's own rule leaves of admitted words.
use Rattle.std.specs.Prelude.{List, ℕ}
use Rattle.rules.specs.Cell.{reader}
use Rattle.rules.specs.Request.{Request, Result, effect, steps_so_far}
use Rattle.store.specs.declared.Shape.{Shape}
use Rattle.store.specs.Shape.{sizes}
use Rattle.store.specs.Outcome.{does_after}

-- Its effect, and the number of accepted steps that its reply carries, by the buffer that it is lent and the word that the caller names.
abbrev pub answer : Request → Shape → (words : List ℕ) → (buffer : List ℕ) (from : ℕ) → Result
answer q z m = does_after (steps_so_far q (reader (sizes z) m)) (effect q) z m
