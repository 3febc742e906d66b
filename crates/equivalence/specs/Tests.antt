-- The two premises as computations; proofs/Decides.antt has what they mean.
use Rattle.std.specs.Prelude.{Bool, true, false, ◌&&◌, ◌||◌, not, cond, List, [], ◌∷◌, ℕ, zero, suc, max, eqb, ltb, length}
use Rattle.history.specs.Event.{Event, History, enqueue_started, enqueue_ended, dequeue_started, gave_item, gave_empty, most_producers}
use Rattle.history.specs.Words.{encode}
use Rattle.equivalence.specs.Threads.{thread_of, events_of}

-- the same words
abbrev pub same_words : List ℕ → List ℕ → Bool
same_words [] [] = true
same_words [] (y ∷ ys) = false
same_words (x ∷ xs) [] = false
same_words (x ∷ xs) (y ∷ ys) = eqb x y && same_words xs ys

-- the same events in the same order
abbrev pub same_events : History → History → Bool
same_events [] [] = true
same_events [] (f ∷ g) = false
same_events (e ∷ h) [] = false
same_events (e ∷ h) (f ∷ g) = same_words (encode e) (encode f) && same_events h g

-- of every thread below n
abbrev pub same_below : ℕ → History → History → Bool
same_below zero h g = true
same_below (suc n) h g = same_below n h g && same_events (events_of n h) (events_of n g)

-- Same calls, of threads 0 to 16.
unfoldable pub same_calls : (first second : History) → Bool
same_calls h g = same_below (suc most_producers) h g

-- an event that starts a call
abbrev pub is_start : Event → Bool
is_start (enqueue_started t n v) = true
is_start (enqueue_ended t n v) = false
is_start dequeue_started = true
is_start (gave_item n v) = false
is_start gave_empty = false

-- the place in a history of thread t's event i, both counted from 1; 0 where it has no such event
abbrev pub place : History → (t i : ℕ) → ℕ
place [] t i = 0
place (e ∷ h) t i = cond (eqb (thread_of e) t && eqb i (suc (length (events_of t h)))) (suc (length h)) (place h t i)

-- the place in the first of what is event e of the second, after some events
abbrev pub place_in : (first : History) → Event → (past : History) → ℕ
place_in first e past = place first (thread_of e) (suc (length (events_of (thread_of e) past)))

-- the latest place in the first of what is an end in the second
abbrev pub latest_end : (first second : History) → ℕ
latest_end first [] = 0
latest_end first (e ∷ past) = cond (is_start e) (latest_end first past) (max (latest_end first past) (place_in first e past))

-- Every start of the second comes in the first, too, after the ends that were before it.
unfoldable pub keeps_precedence : (first second : History) → Bool
keeps_precedence first [] = true
keeps_precedence first (e ∷ past) =
    keeps_precedence first past && (not (is_start e) || ltb (latest_end first past) (place_in first e past))
