-- A history as words in a buffer, and the events that a call adds to it (document 01, "Judge" and "What demand 3 speaks of").
use Rattle.std.specs.Prelude.{Option, Some, None, ◌≡◌, ◌&&◌, cond, List, [], ◌∷◌, ◌++◌, ℕ, zero, suc, ◌+◌, ◌*◌, ◌≤◌, eqb, length, take, get_or}
use Rattle.history.specs.Event.{History, enqueue_started, dequeue_started, gave_item, gave_empty}
use Rattle.history.specs.Words.{words_of}
use Rattle.rules.specs.Play.{end_of_enqueue}
use Rattle.events.specs.declared.Noted.{Noted}
use Rattle.events.specs.declared.Noted.TheVariants.{Started, Ended, DequeueStarted, Item, Empty}
use Rattle.events.specs.declared.Kind.{Kind}
use Rattle.events.specs.declared.Kind.TheVariants as kind

-- The buffer begins with the words of the k events of h.
pub record Recorded (buffer : List ℕ) (k : ℕ) (h : History) : Type 0 where
  pub counted : length h ≡ k
  pub held : take (k * 4) buffer ≡ words_of h

-- An event's first word, by its kind (document 01, "Judge").
abbrev pub first_word : Kind → ℕ
first_word kind.EnqueueStarted = 1
first_word kind.EnqueueEnded = 2
first_word kind.DequeueStarted = 3
first_word kind.GaveItem = 4
first_word kind.GaveEmpty = 5

-- The last start of thread t among the first k events in the buffer.
unfoldable pub start_found : List ℕ → (t k : ℕ) → Option ℕ
start_found b t zero = None
start_found b t (suc k) = cond (eqb (get_or b (k * 4) 0) 1 && eqb (get_or b (k * 4 + 1) 0) t) (Some k) (start_found b t k)

-- What a call adds to a history.
abbrev pub noted_events : Option Noted → History → History
noted_events None h = []
noted_events (Some (Started t n v)) h = enqueue_started t n v ∷ []
noted_events (Some (Ended t)) h = end_of_enqueue t h
noted_events (Some DequeueStarted) h = dequeue_started ∷ []
noted_events (Some (Item n v)) h = gave_item n v ∷ []
noted_events (Some Empty) h = gave_empty ∷ []

-- The buffer after some events were added to whatever history it held, with their new count; at most one was added.
pub record Records (added : History → History) (before : List ℕ) (k : ℕ) (after : List ℕ) (next : ℕ) : Type 0 where
  pub events : (h : History) → Recorded before k h → Recorded after next (added h ++ h)
  pub most : next ≤ k + 1
