-- Where a drain ends, and whether the buffer has room for its items (document 02, U5).
use Rattle.std.specs.Prelude.{◌≡◌, Bool, true, ◌||◌, List, ℕ, ◌+◌, ◌*◌, ◌<◌, ◌≤◌, eqb, Result, MatchResult}
use Rattle.rules.specs.Sizes.{Sizes}
use Rattle.rules.specs.Cell.{Reader, reader, scanned, drain_limit}
use Rattle.store.specs.declared.Refusal.{Refusal}
use Rattle.store.specs.declared.Refusal.TheVariants.{BufferShort}

-- A buffer of l words has room for n items from word i on, or it is refusal 15.
abbrev pub RoomFor : (n l i : ℕ) → Result Unit Refusal → Type 0
RoomFor n l i x = MatchResult x (λ _. i + 2 * n ≤ l) (λ e. (l < i + 2 * n) × (e ≡ BufferShort))

-- A drain that has marked n items ends: the limit is reached, or its first front was not set.
abbrev pub ends_at : Reader → (n : ℕ) → Bool
ends_at σ n = eqb n (σ drain_limit) || eqb (σ scanned) 1

-- Whether it ends, the buffer with room for its items if it does; where it has none, refusal 15.
abbrev pub Ending : (z : Sizes) (m : List ℕ) (n l i : ℕ) → Result Bool Refusal → Type 0
Ending z m n l i x =
    MatchResult x (λ ends. (ends_at (reader z m) n ≡ ends) × (ends ≡ true → i + 2 * n ≤ l))
    (λ e. (ends_at (reader z m) n ≡ true) × ((l < i + 2 * n) × (e ≡ BufferShort)))
