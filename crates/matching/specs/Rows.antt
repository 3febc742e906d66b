-- A recording by its words: four to an event, events counted from 0; what is of one thread.
use Rattle.std.specs.Prelude.{Bool, true, ◌&&◌, ◌||◌, not, cond, List, [], ◌∷◌, ℕ, zero, suc, ◌+◌, ◌*◌, ◌/◌, ◌≤◌, ◌<◌, max, eqb, ltb, length, get_or}
use Rattle.history.specs.Event.{most_producers}
use Rattle.history.specs.Form.{most_events}

abbrev pub events_in : List ℕ → ℕ
events_in ws = length ws / 4

abbrev pub kind_in : List ℕ → ℕ → ℕ
kind_in ws k = get_or ws (4 * k) 0

abbrev pub thread_in : List ℕ → ℕ → ℕ
thread_in ws k = get_or ws (4 * k + 1) 0

-- the four words of event k
abbrev pub row_at : List ℕ → ℕ → List ℕ
row_at ws k = kind_in ws k ∷ thread_in ws k ∷ get_or ws (4 * k + 2) 0 ∷ get_or ws (4 * k + 3) 0 ∷ []

-- thread t's rows among the first k events, the newest first
abbrev pub rows_of : (t : ℕ) → List ℕ → (k : ℕ) → List (List ℕ)
rows_of t ws zero = []
rows_of t ws (suc k) = cond (eqb (thread_in ws k) t) (row_at ws k ∷ rows_of t ws k) (rows_of t ws k)

-- What reading lets through: at most so many events, each with a thread.
pub record Threaded (ws : List ℕ) : Type 0 where
  pub few : events_in ws ≤ most_events
  pub threads : (k : ℕ) → k < events_in ws → thread_in ws k ≤ most_producers

-- an event that starts a call
abbrev pub starts_in : List ℕ → ℕ → Bool
starts_in ws k = eqb (kind_in ws k) 1 || eqb (kind_in ws k) 3

-- The latest of the places of the ends among the first k events.
abbrev pub latest_of : (ws places : List ℕ) (k : ℕ) → ℕ
latest_of ws places zero = 0
latest_of ws places (suc k) = cond (starts_in ws k) (latest_of ws places k) (max (latest_of ws places k) (get_or places k 0))

-- Each start among the first k events has a place after those of the ends before it.
unfoldable pub ordered : (ws places : List ℕ) (k : ℕ) → Bool
ordered ws places zero = true
ordered ws places (suc k) = ordered ws places k && (not (starts_in ws k) || ltb (latest_of ws places k) (get_or places k 0))
