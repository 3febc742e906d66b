-- The moves of the position machine: what each accepted start or step does to it.
use Rattle.std.specs.Prelude.{cond, ◌∷◌, ℕ, suc, ◌+◌, ◌*◌, leb, ltb}
use Rattle.history.specs.Event.{Event, enqueue_started, enqueue_ended, dequeue_started, gave_item, gave_empty}
use Rattle.history.specs.Linearization.{Item}
use Rattle.model.specs.State.{Entry, put, gone, Producer, idle, seeking, ahead, shifting, behind, writing, setting, done, Consumer, resting, front, retiring, State, override}

-- the state with thread t's producer, or with the consumer, changed
abbrev pub with_producer : State → ℕ → Producer → State
with_producer s t x =
    record {
      tail = s.tail;
      hp = s.hp;
      lo = s.lo;
      tp = s.tp;
      hi = s.hi;
      starts = s.starts;
      entry = s.entry;
      content = s.content;
      producer = override s.producer t x;
      consumer = s.consumer;
      history = s.history;
    }

abbrev pub with_consumer : State → Consumer → State
with_consumer s x =
    record {
      tail = s.tail;
      hp = s.hp;
      lo = s.lo;
      tp = s.tp;
      hi = s.hi;
      starts = s.starts;
      entry = s.entry;
      content = s.content;
      producer = s.producer;
      consumer = x;
      history = s.history;
    }

-- the other components, one at a time
abbrev pub with_event : State → Event → State
with_event s e =
    record {
      tail = s.tail;
      hp = s.hp;
      lo = s.lo;
      tp = s.tp;
      hi = s.hi;
      starts = s.starts;
      entry = s.entry;
      content = s.content;
      producer = s.producer;
      consumer = s.consumer;
      history = e ∷ s.history;
    }

abbrev pub with_entry : State → ℕ → Entry → State
with_entry s p e =
    record {
      tail = s.tail;
      hp = s.hp;
      lo = s.lo;
      tp = s.tp;
      hi = s.hi;
      starts = s.starts;
      entry = override s.entry p e;
      content = s.content;
      producer = s.producer;
      consumer = s.consumer;
      history = s.history;
    }

-- places and head position
abbrev pub with_places : State → (hp lo tp hi : ℕ) → State
with_places s hp lo tp hi =
    record {
      tail = s.tail;
      hp = hp;
      lo = lo;
      tp = tp;
      hi = hi;
      starts = s.starts;
      entry = s.entry;
      content = s.content;
      producer = s.producer;
      consumer = s.consumer;
      history = s.history;
    }

-- *Start enqueue*, from idle: the next number, and the next position.
abbrev pub begin_enqueue : State → (t v : ℕ) → State
begin_enqueue s t v =
    record {
      tail = suc s.tail;
      hp = s.hp;
      lo = s.lo;
      tp = s.tp;
      hi = s.hi;
      starts = suc s.starts;
      entry = s.entry;
      content = s.content;
      producer = override s.producer t (seeking (suc s.starts) v s.tail);
      consumer = s.consumer;
      history = enqueue_started t (suc s.starts) v ∷ s.history;
    }

-- "choose", with the record of place k held
abbrev pub chosen : (B n v L k : ℕ) → Producer
chosen B n v L k = cond (leb (B * k) L) (ahead n v L k) (cond (ltb (L + B) (B * k)) (behind n v L k) (writing n v L k))

-- 2, from seeking n v L: hold the tail record.
abbrev pub load_tail : (B : ℕ) → State → (t n v L : ℕ) → State
load_tail B s t n v L = with_producer s t (chosen B n v L s.tp)

-- 3 with a next, and 5 where the claimed record is given back; from ahead n v L k with k < hi.
abbrev pub pass_on : State → (t n v L k : ℕ) → State
pass_on s t n v L k = with_producer s t (shifting n v L k)

-- a record is linked behind the last one (part of 5 and 11)
abbrev pub link_last : State → State
link_last s = with_places s s.hp s.lo s.tp (suc s.hi)

-- 6, from shifting n v L k: the tail record moves on if it is the held one, k ≡ tp.
abbrev pub shift_tail : State → (t n v L k : ℕ) → State
shift_tail s t n v L k = with_producer (with_places s s.hp s.lo (suc k) s.hi) t (seeking n v L)

abbrev pub leave_tail : State → (t n v L k : ℕ) → State
leave_tail s t n v L k = with_producer s t (seeking n v L)

-- 7, from behind n v L (suc k): hold the record before.
abbrev pub go_back : (B : ℕ) → State → (t n v L k : ℕ) → State
go_back B s t n v L k = with_producer s t (chosen B n v L k)

-- 8, from writing n v L k.
abbrev pub write_entry : State → (t n v L k : ℕ) → State
write_entry s t n v L k =
    record {
      tail = s.tail;
      hp = s.hp;
      lo = s.lo;
      tp = s.tp;
      hi = s.hi;
      starts = s.starts;
      entry = s.entry;
      content = override s.content L (record { number = n; value = v });
      producer = override s.producer t (setting n v L k);
      consumer = s.consumer;
      history = s.history;
    }

-- 9, from setting n v L k: to phase 10. (Where it ends at once, finish follows in the same step.)
abbrev pub set_entry : State → (t n v L k : ℕ) → State
set_entry s t n v L k = with_producer (with_entry s L put) t (done n v L k)

-- the enqueue ends, from done n v L k
abbrev pub finish : State → (t n v : ℕ) → State
finish s t n v = with_event (with_producer s t idle) (enqueue_ended t n v)

-- *Start dequeue*, and an empty answer.
abbrev pub begin_dequeue : State → State
begin_dequeue s = with_event (with_consumer s front) dequeue_started

abbrev pub answer_empty : State → State
answer_empty s = with_event (with_consumer s resting) gave_empty

-- 1 and 8 at the end of the head record: the one that begins where place k ends becomes head record. (In the list it is the next one;
-- k is then the head record's own place.)
abbrev pub retire_head : (B : ℕ) → State → (k : ℕ) → State
retire_head B s k = with_places s (B * k) (suc k) s.tp s.hi

-- 1 at a handled entry.
abbrev pub advance_head : State → State
advance_head s = with_places s (suc s.hp) s.lo s.tp s.hi

-- 7, from holding f g x, where found is past the head, and where it is the head. (Where 8 follows: drain_front.)
abbrev pub take_item : State → (f : ℕ) → Item → State
take_item s f x = with_event (with_consumer (with_entry s f gone) resting) (gave_item x.number x.value)

abbrev pub take_front : State → (f : ℕ) → Item → State
take_front s f x = with_places (take_item s f x) (suc s.hp) s.lo s.tp s.hi

-- 7 where 8 follows: the item is given at its mark, and the next dequeue opened there.
abbrev pub drain_front : State → (f : ℕ) → Item → State
drain_front s f x = with_consumer (begin_dequeue (take_front s f x)) retiring
