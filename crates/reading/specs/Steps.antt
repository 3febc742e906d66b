-- What one event does to the working memory.
use Rattle.std.specs.Prelude.{◌≡◌, ◌≢◌, Bool, true, false, ◌&&◌, ◌||◌, cond, List, ℕ, zero, suc, ◌+◌, ◌≤◌, ◌<◌, max, eqb, length, set, Result, Ok, Err, MatchOption}
use Rattle.std.specs.Prelude as rust
use Rattle.std.proofs.Math.Option.{Option, none, some}
use Rattle.history.specs.Event.{Event, History, enqueue_started, enqueue_ended, dequeue_started, gave_item, gave_empty}
use Rattle.history.specs.Calls.{Call, calls, enter}
use Rattle.history.specs.Form.{Reading, refused, history, follows}
use Rattle.reading.specs.declared.Refusal.{Refusal}
use Rattle.reading.specs.declared.Refusal.TheVariants.{Form, Follows}
use Rattle.reading.specs.Refusal.{numbered}
use Rattle.reading.specs.Table.{Table, calls_in, number_at, value_at, top_of, mark_of}

abbrev pub is_event : Option Event → Bool
is_event none = false
is_event (some e) = true

-- The events by their last three words: kinds 1 and 3 start a call, the others end one; thread 0 is the consumer.
abbrev pub start_event : (thread number value : ℕ) → Event
start_event zero n v = dequeue_started
start_event (suc t) n v = enqueue_started (suc t) n v

abbrev pub end_event : (thread number value : ℕ) → Event
end_event zero zero v = gave_empty
end_event zero (suc n) v = gave_item (suc n) v
end_event (suc t) n v = enqueue_ended (suc t) n v

-- a dequeue starts with number 0, an enqueue with another
pub record Starts (thread number : ℕ) : Type 0 where
  pub thread_fits : thread ≤ 16
  pub none_if_consumer : thread ≡ 0 → number ≡ 0
  pub some_if_producer : thread ≢ 0 → number ≢ 0

-- the memory with call c started at event k
unfoldable pub begun : List ℕ → (c k thread number value : ℕ) → List ℕ
begun m c k t n v =
    set
    (set
    (set
    (set (set (set (set (set (set m (4096 + c) k) (8192 + c) 0) (12288 + c) 0) (16384 + c) t) (20480 + c) n) (24576 + c) v)
    t
    (c + 1))
    17
    (max (top_of m) n))
    (mark_of n)
    1

-- the memory with call i ended at event k
abbrev pub ended : List ℕ → (i k thread number value : ℕ) → List ℕ
ended m i k t n v = set (set (set (set m (8192 + i) k) (12288 + i) n) (24576 + i) v) t 0

-- Whether an end repeats the number and value of call i; a dequeue has nothing to repeat.
abbrev pub repeats_at : (m : List ℕ) (i thread number value : ℕ) → Bool
repeats_at m i t n v = eqb t 0 || (eqb (number_at m i) n && eqb (value_at m i) v)

-- The first of the calls from..to with this number, if one has it.
abbrev pub First : (m : List ℕ) (from to number : ℕ) → rust.Option ℕ → Type 0
First m from to number r =
    MatchOption r ((j : ℕ) → from ≤ j → j < to → number_at m j ≢ number)
    (λ i. (from ≤ i) × (i < to) × (number_at m i ≡ number) × ((j : ℕ) → from ≤ j → j < i → number_at m j ≢ number))

-- Whether no call has this number.
pub record Fresh (m : List ℕ) (c : ℕ) (number : ℕ) (r : Bool) : Type 0 where
  pub is_new : r ≡ true → number ≢ 0 → (j : ℕ) → j < c → number_at m j ≢ number
  pub is_old : r ≡ false → (number ≢ 0) × ((j : ℕ) × (j < c) × (number_at m j ≡ number))

-- Event e, at place k, is taken in or turned down: r says which, and c' calls have then been started.
pub record Enters (k : ℕ) (e : Event) (m : List ℕ) (c : ℕ) (m' : List ℕ) (c' : ℕ) (r : Bool) : Type 0 where
  pub as_formed : r ≡ follows e (calls_in m c)
  pub table : r ≡ true → Table m' c'
  pub entered : r ≡ true → calls_in m' c' ≡ enter k e (calls_in m c)

-- How many calls have been started, c before the event.
abbrev pub started_by : Event → ℕ → ℕ
started_by (enqueue_started t n v) c = c + 1
started_by (enqueue_ended t n v) c = c
started_by dequeue_started c = c + 1
started_by (gave_item n v) c = c
started_by gave_empty c = c

-- The reply to the four words of an event after some calls: refusal 12 or 13, or how many calls have been started.
abbrev pub answered : Option Event → List Call → (c : ℕ) → Result ℕ Refusal
answered none cs c = Err Form
answered (some e) cs c = cond (follows e cs) (Ok (started_by e c)) (Err Follows)

-- The four words of event k: the reply, and an event that is taken in is in the memory.
pub record Stepped (o : Option Event) (k : ℕ) (m : List ℕ) (c : ℕ) (m' : List ℕ) (r : Result ℕ Refusal) : Type 0 where
  pub replies : r ≡ answered o (calls_in m c) c
  pub enters : (e : Event) → o ≡ some e → Enters k e m c m' (started_by e c) (follows e (calls_in m c))

-- The reply on what the words are read as: a refusal's number, or how many calls were started.
abbrev pub entered : Reading → Result ℕ ℕ
entered (refused n) = Err n
entered (history h) = Ok (length (calls h))

-- The memory holds the calls of a history, at most so many.
pub record Holds (h : History) (limit : ℕ) (m : List ℕ) : Type 0 where
  pub are_calls : calls_in m (length (calls h)) ≡ calls h
  pub table : Table m (length (calls h))
  pub few : length (calls h) ≤ limit

-- The words are read: the reply, and the calls of a history are in the memory.
pub record Read (reading : Reading) (limit : ℕ) (m : List ℕ) (r : Result ℕ Refusal) : Type 0 where
  pub replies : numbered r ≡ entered reading
  pub holds : (h : History) → reading ≡ history h → Holds h limit m
