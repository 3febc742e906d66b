-- A history by its threads (document 02, U10). Calls of two histories are matched by thread and by rank on it.
use Rattle.std.specs.Prelude.{cond, List, [], ◌∷◌, ℕ, eqb, get_or}
use Rattle.history.specs.Event.{Event, History, enqueue_started, enqueue_ended, dequeue_started, gave_item, gave_empty}
use Rattle.history.specs.Calls.{Call, enq, deq, calls}
use Rattle.history.specs.Shows.{no_call}

-- the thread of an event: 0 is the consumer
abbrev pub thread_of : Event → ℕ
thread_of (enqueue_started t n v) = t
thread_of (enqueue_ended t n v) = t
thread_of dequeue_started = 0
thread_of (gave_item n v) = 0
thread_of gave_empty = 0

-- a thread's events, the newest first (Herlihy and Wing 1990: the history at a process)
abbrev pub events_of : ℕ → History → History
events_of t [] = []
events_of t (e ∷ h) = cond (eqb (thread_of e) t) (e ∷ events_of t h) (events_of t h)

-- the thread of a call
abbrev pub caller_of : Call → ℕ
caller_of (enq x) = x.thread
caller_of (deq d) = 0

-- a thread's calls, in starting order
abbrev pub calls_of : ℕ → List Call → List Call
calls_of t [] = []
calls_of t (c ∷ cs) = cond (eqb (caller_of c) t) (c ∷ calls_of t cs) (calls_of t cs)

-- thread t's call of rank k, counted from 0; no call where it has started fewer
abbrev pub ranked : History → (t k : ℕ) → Call
ranked h t k = get_or (calls_of t (calls h)) k no_call
