-- What a function that writes bytes into a buffer leaves.
use Rattle.std.specs.Prelude.{◌≡◌, List, ℕ, ◌+◌, length}
use Rattle.std.proofs.lemmas.List.Edits.{sets}

-- The bytes were stored from position `at` on, one after the other, and nothing else changed; `next` is the position after them.
pub record Wrote (buffer : List ℕ) (at : ℕ) (bytes after : List ℕ) (next : ℕ) : Type 0 where
  pub next_is : next ≡ at + length bytes
  pub after_is : after ≡ sets buffer at bytes
