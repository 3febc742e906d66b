-- The position machine: the queue without pointers. A record is known by its place, an entry by its position, and so is the call that owns it:
-- a start gives the next number and takes the next position.
use Rattle.std.specs.Prelude.{cond, [], ℕ, suc, eqb}
use Rattle.std.proofs.Math.Option.{Option, none, some}
use Rattle.history.specs.Event.{History}
use Rattle.history.specs.Linearization.{Item}

-- An entry: empty, set, handled.
pub data Entry : Type 0 where
  blank : Entry
  put : Entry
  gone : Entry

-- A producer with its call number n, value v, position L, and the place k of the record it holds: idle; phase 2; phases 3 to 5; phase 6;
-- phase 7; phase 8; phase 9; phases 10 and 11.
pub data Producer : Type 0 where
  idle : Producer
  seeking : (n v L : ℕ) → Producer
  ahead : (n v L k : ℕ) → Producer
  shifting : (n v L k : ℕ) → Producer
  behind : (n v L k : ℕ) → Producer
  writing : (n v L k : ℕ) → Producer
  setting : (n v L k : ℕ) → Producer
  done : (n v L k : ℕ) → Producer

-- The consumer with its cursor at position c in the record of place k, found at position f in the record of place g, and the item
-- read there: idle, and phases 1 to 8.
pub data Consumer : Type 0 where
  resting : Consumer
  front : Consumer
  reading : Consumer
  scanning : (c k : ℕ) → Consumer
  looking : (c k : ℕ) → Consumer
  rescanning : (c k f g : ℕ) → Consumer
  found : (f g : ℕ) → Consumer
  holding : (f g : ℕ) (x : Item) → Consumer
  retiring : Consumer

-- tail and head position, the places of the head, tail and last record, enqueue starts; by position: its entry, what was written there; the
-- threads; the history.
pub record State : Type 0 where
  pub tail : ℕ
  pub hp : ℕ
  pub lo : ℕ
  pub tp : ℕ
  pub hi : ℕ
  pub starts : ℕ
  pub entry : ℕ → Entry
  pub content : ℕ → Item
  pub producer : ℕ → Producer
  pub consumer : Consumer
  pub history : History

-- The call that owns a position.
abbrev pub owner : ℕ → ℕ
owner p = suc p

-- f, but x at k
abbrev pub override {ℓ} : {A : Type ℓ} → (ℕ → A) → ℕ → A → ℕ → A
override f k x j = cond (eqb k j) x (f j)

-- The call that a producer has under way, and its number (0 for none).
abbrev pub call_of : Producer → Option Item
call_of idle = none
call_of (seeking n v L) = some (record { number = n; value = v })
call_of (ahead n v L k) = some (record { number = n; value = v })
call_of (shifting n v L k) = some (record { number = n; value = v })
call_of (behind n v L k) = some (record { number = n; value = v })
call_of (writing n v L k) = some (record { number = n; value = v })
call_of (setting n v L k) = some (record { number = n; value = v })
call_of (done n v L k) = some (record { number = n; value = v })

-- After *open*: one record, of place 1, and nothing else.
abbrev pub initial : State
initial =
    record {
      tail = 0;
      hp = 0;
      lo = 1;
      tp = 1;
      hi = 1;
      starts = 0;
      entry = λ p. blank;
      content = λ p. record { number = 0; value = 0 };
      producer = λ t. idle;
      consumer = resting;
      history = [];
    }
