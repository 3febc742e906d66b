-- The events of a history, and their decoding from four words (document 01, "Judge").
use Rattle.std.specs.Prelude.{Bool, ◌&&◌, cond, List, [], ◌∷◌, ℕ, leb, eqb, get_or}
use Rattle.std.proofs.Math.Option.{Option, none, some}

-- Kinds: 1 enqueue started, 2 enqueue ended, 3 dequeue started, 4 dequeue ended with an item (words three and four are
-- the item's), 5 dequeue ended empty.
pub data Event : Type 0 where
  enqueue_started : (thread number value : ℕ) → Event
  enqueue_ended : (thread number value : ℕ) → Event
  dequeue_started : Event
  gave_item : (number value : ℕ) → Event
  gave_empty : Event

-- A history: its events, the newest first.
abbrev pub History : Type 0
History = List Event

-- A history without its last item's end, and without what the consumer did after that.
abbrev pub withdrawn : History → History
withdrawn [] = []
withdrawn (enqueue_started t n v ∷ h) = enqueue_started t n v ∷ withdrawn h
withdrawn (enqueue_ended t n v ∷ h) = enqueue_ended t n v ∷ withdrawn h
withdrawn (dequeue_started ∷ h) = withdrawn h
withdrawn (gave_item n v ∷ h) = h
withdrawn (gave_empty ∷ h) = withdrawn h

-- the most threads that a history names besides thread 0
abbrev pub most_producers : ℕ
most_producers = 16

-- Kinds 1 and 2 have threads 1 to 16, the others thread 0.
abbrev pub is_producer : ℕ → Bool
is_producer t = leb 1 t && leb t most_producers

abbrev pub given : Bool → Event → Option Event
given b e = cond b (some e) none

-- An event is four words: kind, thread, call number, value. Kinds 3 and 5 have zeros in words three and four. Call numbers
-- are 1 or more. Any other four words are no event.
unfoldable pub decode : (kind thread number value : ℕ) → Option Event
decode kind thread number value =
    get_or
    (none
    ∷ given (is_producer thread && leb 1 number) (enqueue_started thread number value)
    ∷ given (is_producer thread && leb 1 number) (enqueue_ended thread number value)
    ∷ given (eqb thread 0 && eqb number 0 && eqb value 0) dequeue_started
    ∷ given (eqb thread 0 && leb 1 number) (gave_item number value)
    ∷ given (eqb thread 0 && eqb number 0 && eqb value 0) gave_empty
    ∷ [])
    kind
    none
