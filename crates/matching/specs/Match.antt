-- What matching the events of two recordings, thread by thread, says.
use Rattle.std.specs.Prelude.{◌≡◌, ◌≢◌, Bool, true, false, List, ℕ, suc, ◌≤◌, ◌<◌, length, get_or}
use Rattle.history.specs.Event.{most_producers}
use Rattle.history.specs.Form.{most_events}
use Rattle.matching.specs.Rows.{events_in, thread_in, rows_of}

-- From event p on, r is thread t's next one, or the number of events where it has none.
pub record Next (ws : List ℕ) (t p r : ℕ) : Type 0 where
  pub within : r ≤ events_in ws
  pub skips : rows_of t ws r ≡ rows_of t ws p
  pub is_its : r < events_in ws → thread_in ws r ≡ t

-- Events from p on are linked to the next one of their thread; heads has each thread's next one from p on.
pub record Linked (ws links heads : List ℕ) (p : ℕ) : Type 0 where
  pub links_sized : length links ≡ most_events
  pub heads_sized : length heads ≡ suc most_producers
  pub within : p ≤ events_in ws
  pub links_are : (q : ℕ) → p ≤ q → q < events_in ws → Next ws (thread_in ws q) (suc q) (get_or links q 0)
  pub heads_are : (t : ℕ) → t ≤ most_producers → Next ws t p (get_or heads t 0)

-- Event k of ys is at a place of xs, counted from 1: of the same thread, after the same rows of it.
pub record Placed (xs ys : List ℕ) (k place : ℕ) : Type 0 where
  pub event : ℕ
  pub place_is : place ≡ suc event
  pub within : event < events_in xs
  pub same_thread : thread_in xs event ≡ thread_in ys k
  pub same_rows : rows_of (thread_in ys k) xs event ≡ rows_of (thread_in ys k) ys k

-- A thread has other rows in ys than in xs.
pub record Differ (xs ys : List ℕ) : Type 0 where
  pub thread : ℕ
  pub is_thread : thread ≤ most_producers
  pub other_rows : rows_of thread xs (events_in xs) ≢ rows_of thread ys (events_in ys)

-- Whether every thread has the same rows in both; then every event of ys has its place in xs.
pub record Matches (xs ys places : List ℕ) (r : Bool) : Type 0 where
  pub same : r ≡ true → (t : ℕ) → t ≤ most_producers → rows_of t xs (events_in xs) ≡ rows_of t ys (events_in ys)
  pub other : r ≡ false → Differ xs ys
  pub placed : r ≡ true → (k : ℕ) → k < events_in ys → Placed xs ys k (get_or places k 0)
