-- What going over the second recording leaves, and what is left of the first after it.
use Rattle.std.specs.Prelude.{◌≡◌, ◌≢◌, Bool, true, false, List, ℕ, ◌≤◌, ◌<◌, get_or}
use Rattle.history.specs.Event.{most_producers}
use Rattle.matching.specs.Rows.{events_in, thread_in, rows_of}
use Rattle.matching.specs.Match.{Placed, Differ}

-- Event r of xs is thread t's next one after as many of its rows as the first k events of ys have, or xs has no other.
pub record Reached (xs ys : List ℕ) (k t r : ℕ) : Type 0 where
  pub within : r ≤ events_in xs
  pub rows : rows_of t xs r ≡ rows_of t ys k
  pub is_its : r < events_in xs → thread_in xs r ≡ t

-- The first k events of ys were met in xs.
pub record Meets (xs ys heads places : List ℕ) (k : ℕ) : Type 0 where
  pub reached : (t : ℕ) → t ≤ most_producers → Reached xs ys k t (get_or heads t 0)
  pub placed : (i : ℕ) → i < k → Placed xs ys i (get_or places i 0)

-- All events of ys were met, or some thread's differ.
pub record Met (xs ys heads places : List ℕ) (r : Bool) : Type 0 where
  pub all : r ≡ true → Meets xs ys heads places (events_in ys)
  pub differ : r ≡ false → Differ xs ys

-- Every thread's head is the number of events, or one is not.
pub record MetAll (heads : List ℕ) (events : ℕ) (r : Bool) : Type 0 where
  pub all : r ≡ true → (t : ℕ) → t ≤ most_producers → get_or heads t 0 ≡ events
  pub left : r ≡ false → (t : ℕ) × (t ≤ most_producers) × (get_or heads t 0 ≢ events)
