-- Which words are a history: refusals 10, 11, 12 and 13 (document 01, "Where a call is turned down"), in that order.
use Rattle.std.specs.Prelude.{Bool, true, false, ◌&&◌, ◌||◌, not, cond, List, [], ◌∷◌, ℕ, ◌/◌, ◌%◌, ltb, eqb, length}
use Rattle.std.proofs.Math.Option.{Option, none, some}
use Rattle.history.specs.Event.{Event, History, enqueue_started, enqueue_ended, dequeue_started, gave_item, gave_empty, decode}
use Rattle.history.specs.Calls.{Call, enq, deq, calls}

-- the most events that the judge takes
abbrev pub most_events : ℕ
most_events = 4096

abbrev pub any : (Call → Bool) → List Call → Bool
any p [] = false
any p (c ∷ cs) = p c || any p cs

-- thread t has an enqueue under way
abbrev pub enqueues : ℕ → Call → Bool
enqueues t (enq x) = eqb x.thread t && eqb x.end 0
enqueues t (deq d) = false

-- thread t has the enqueue with this number and value under way
abbrev pub enqueues_item : (t n v : ℕ) → Call → Bool
enqueues_item t n v (enq x) = eqb x.thread t && eqb x.end 0 && eqb x.number n && eqb x.value v
enqueues_item t n v (deq d) = false

-- a dequeue is under way
abbrev pub dequeues : Call → Bool
dequeues (enq x) = false
dequeues (deq d) = eqb d.end 0

-- an enqueue was started with this number
abbrev pub has_number : ℕ → Call → Bool
has_number n (enq x) = eqb x.number n
has_number n (deq d) = false

-- Refusal 13 is that this is false: thread already busy; end without its start (kind 2 must repeat number and value); call
-- number started twice.
abbrev pub follows : Event → List Call → Bool
follows (enqueue_started t n v) cs = not (any (enqueues t) cs) && not (any (has_number n) cs)
follows (enqueue_ended t n v) cs = any (enqueues_item t n v) cs
follows dequeue_started cs = not (any dequeues cs)
follows (gave_item n v) cs = any dequeues cs
follows gave_empty cs = any dequeues cs

-- Every event follows those before it.
abbrev pub well_formed : History → Bool
well_formed [] = true
well_formed (e ∷ h) = follows e (calls h) && well_formed h

-- What a list of words is read as: a refusal, or a history.
pub data Reading : Type 0 where
  refused : ℕ → Reading
  history : History → Reading

-- one event more: refusal 12 (not of the form), then 13
abbrev pub read_event : Option Event → History → (History → Reading) → Reading
read_event none h go = refused 12
read_event (some e) h go = elim (follows e (calls h)) [ true ↦ go (e ∷ h) | false ↦ refused 13 ]

-- the events of the words, each in turn, after those of h
abbrev pub read_events : History → List ℕ → Reading
read_events h [] = history h
read_events h (a ∷ []) = history h
read_events h (a ∷ b ∷ []) = history h
read_events h (a ∷ b ∷ c ∷ []) = history h
read_events h (kind ∷ thread ∷ number ∷ value ∷ ws) = read_event (decode kind thread number value) h (λ g. read_events g ws)

-- 10: length no multiple of 4, or above 4,096 events. 11: working table has fewer entries than there are events.
unfoldable pub read : (entries : ℕ) → List ℕ → Reading
read entries ws =
    cond (not (eqb (length ws % 4) 0) || ltb most_events (length ws / 4)) (refused 10)
    (cond (ltb entries (length ws / 4)) (refused 11) (read_events [] ws))
