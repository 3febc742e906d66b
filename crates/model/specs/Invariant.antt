-- The invariant of the position machine, by concern. Each part takes just what it speaks of, so that what a move leaves alone is
-- literally the old part.
--
-- Why it is inductive. Once b has started, an enqueue a that has not ended can never come to have ended before b started. So a
-- set entry that appears behind the cursor belongs to an enqueue that had not ended when the dequeue started, or when found's
-- call started, and does no harm. When x is taken, an ended untaken y has a set entry: past x the owners forbid that y ended
-- before x started, and before x the rescan does. When a dequeue answers empty, every set entry lies below its cursor, since
-- nothing is set at or past tail, or past the tail record.
use Rattle.std.specs.Prelude.{◌≡◌, ◌⊎◌, Bool, true, false, ℕ, suc, ◌+◌, ◌*◌, ◌≤◌, ◌<◌}
use Rattle.std.proofs.Math.Option.{some}
use Rattle.history.specs.Event.{History}
use Rattle.history.specs.Linearization.{Item}
use Rattle.criterion.specs.Explained.{Started, Begun, Ended, Taken, EndedBefore, EndedBeforeDequeue, Explained, current, dequeuing}
use Rattle.model.specs.State.{Entry, blank, put, gone, Producer, idle, seeking, ahead, shifting, behind, writing, setting, done, Consumer, resting, front, reading, scanning, looking, rescanning, found, holding, retiring, State, owner, call_of}

-- the head is in the head record or at its end, and no place overtakes the next
pub record Places (B tail hp lo tp hi : ℕ) : Type 0 where
  pub first : 1 ≤ lo
  pub head_tail : lo ≤ tp
  pub tail_last : tp ≤ hi
  pub head_from : B * lo ≤ hp + B
  pub head_to : hp ≤ B * lo
  pub head_below : hp ≤ tail

-- entries: empty from tail on and past the tail record, handled below the head
pub record Entries (B tail hp tp : ℕ) (entry : ℕ → Entry) : Type 0 where
  pub blank_past : (p : ℕ) → tail ≤ p → entry p ≡ blank
  pub blank_ahead : (p : ℕ) → B * tp ≤ p → entry p ≡ blank
  pub gone_below : (p : ℕ) → p < hp → entry p ≡ gone

-- owners: every start has taken a position, every taken position belongs to a call that has begun, and no later one's call ended before an
-- earlier one's started (nor before its own)
pub record Owners (tail starts : ℕ) (h : History) : Type 0 where
  pub all_placed : starts ≡ tail
  pub begun : (p : ℕ) → p < tail → Begun (owner p) h
  pub in_order : (p q : ℕ) → p ≤ q → q < tail → EndedBefore (owner q) (owner p) h → ⊥

-- what a set entry holds is its owner's number, with the value of that start
pub record Contents (entry : ℕ → Entry) (content : ℕ → Item) (h : History) : Type 0 where
  pub number_is : (p : ℕ) → entry p ≡ put → (content p).number ≡ owner p
  pub value_is : (p : ℕ) → entry p ≡ put → Started (content p).number (content p).value h

-- enqueue n has a position whose entry is e
abbrev pub Has : (tail : ℕ) (entry : ℕ → Entry) → Entry → ℕ → Type 0
Has tail entry e n = (p : ℕ) × (p < tail) × (owner p ≡ n) × (entry p ≡ e)

-- the past: the history is explained, numbers are 1 to starts and each starts with one value, an ended enqueue is taken or its
-- entry is set, a taken one's entry is handled
pub record Past (tail starts : ℕ) (entry : ℕ → Entry) (h : History) : Type 0 where
  pub explained : Explained h
  pub numbered : (n : ℕ) → Begun n h → (1 ≤ n) × (n ≤ starts)
  pub one_value : (n v w : ℕ) → Started n v h → Started n w h → v ≡ w
  pub ended_has : (n : ℕ) → Ended n h → Taken n h ⊎ Has tail entry put n
  pub taken_has : (n : ℕ) → Taken n h → Has tail entry gone n

-- what is under way: no call has two threads
pub record Calls (producer : ℕ → Producer) (consumer : Bool) (h : History) : Type 0 where
  pub of_producers : (t : ℕ) → current t h ≡ call_of (producer t)
  pub of_consumer_lem : dequeuing h ≡ consumer
  pub apart : (t u : ℕ) (x y : Item) → call_of (producer t) ≡ some x → call_of (producer u) ≡ some y → x.number ≡ y.number → t ≡ u

-- a producer that has begun and not ended
pub record Open (n v : ℕ) (h : History) : Type 0 where
  pub is_started : Started n v h
  pub not_ended : Ended n h → ⊥

-- a producer with a position whose entry is empty
pub record AtPosition (tail n v L : ℕ) (entry : ℕ → Entry) (h : History) : Type 0 where
  pub is_open : Open n v h
  pub taken : L < tail
  pub is_blank : entry L ≡ blank
  pub owns : owner L ≡ n

-- position p lies in the record of place k
abbrev pub Inside : (B p k : ℕ) → Type 0
Inside B p k = (p < B * k) × (B * k ≤ p + B)

module _ (B : ℕ) (s : State) where
  open s use {tail, hp, lo, tp, hi, entry, content, history}

  abbrev pub ProducerOk : Producer → Type 0
  ProducerOk idle = Unit
  ProducerOk (seeking n v L) = AtPosition tail n v L entry history
  ProducerOk (ahead n v L k) = AtPosition tail n v L entry history × (k ≤ tp) × (B * k ≤ L)
  ProducerOk (shifting n v L k) = AtPosition tail n v L entry history × (k ≤ tp) × (B * k ≤ L) × (k < hi)
  ProducerOk (behind n v L k) = AtPosition tail n v L entry history × (k ≤ tp) × (L + B < B * k)
  ProducerOk (writing n v L k) = AtPosition tail n v L entry history × (k ≤ tp) × Inside B L k
  ProducerOk (setting n v L k) =
      AtPosition tail n v L entry history × (k ≤ tp) × Inside B L k × (content L ≡ record { number = n; value = v })
  ProducerOk (done n v L k) =
      Open n v history × (L < tail) × (owner L ≡ n) × (k ≤ tp) × Inside B L k × (Taken n history ⊎ (entry L ≡ put))

  -- every position from p up to q is handled
  abbrev pub HandledFrom : (p q : ℕ) → Type 0
  HandledFrom p q = (r : ℕ) → p ≤ r → r < q → entry r ≡ gone

  -- no set entry below c belongs to an enqueue that had ended before this dequeue started
  abbrev pub Passed : ℕ → Type 0
  Passed c = (p : ℕ) → p < c → entry p ≡ put → EndedBeforeDequeue (owner p) history → ⊥

  -- no set entry below c belongs to an enqueue that had ended before the one at f started
  abbrev pub Rescanned : (c f : ℕ) → Type 0
  Rescanned c f = (p : ℕ) → p < c → entry p ≡ put → EndedBefore (owner p) (owner f) history → ⊥

  -- position p is in the record of place k or at its end, between the head and the tail record
  abbrev pub Reached : (p k : ℕ) → Type 0
  Reached p k = (lo ≤ k) × (k ≤ tp) × (p ≤ B * k) × (B * k ≤ p + B)

  -- a set entry at f in the record of place g, at or past the head
  abbrev pub Found : (f g : ℕ) → Type 0
  Found f g = (hp ≤ f) × (f < tail) × (entry f ≡ put) × (lo ≤ g) × (g ≤ tp) × Inside B f g

  abbrev pub ConsumerOk : Consumer → Type 0
  ConsumerOk resting = Unit
  ConsumerOk front = Unit
  ConsumerOk reading = (hp < B * lo) × Passed (suc hp)
  ConsumerOk (scanning c k) = (hp < B * lo) × (hp < c) × (c ≤ tail) × Reached c k × Passed c
  ConsumerOk (looking c k) = (hp < B * lo) × (hp < c) × (c < tail) × (c < B * k) × Reached c k × Passed c
  ConsumerOk (rescanning c k f g) = (hp < B * lo) × (hp ≤ c) × (c < f) × Reached c k × Found f g × Rescanned c f
  ConsumerOk (found f g) = (hp < B * lo) × Found f g × Rescanned f f
  ConsumerOk (holding f g x) = (hp < B * lo) × Found f g × Rescanned f f × (content f ≡ x)
  ConsumerOk retiring = (hp ≡ B * lo) × (lo < tp)

-- Whether a dequeue is under way.
abbrev pub is_busy : Consumer → Bool
is_busy resting = false
is_busy front = true
is_busy reading = true
is_busy (scanning c k) = true
is_busy (looking c k) = true
is_busy (rescanning c k f g) = true
is_busy (found f g) = true
is_busy (holding f g x) = true
is_busy retiring = true

pub record Invariant (B : ℕ) (s : State) : Type 0 where
  pub places : Places B s.tail s.hp s.lo s.tp s.hi
  pub entries : Entries B s.tail s.hp s.tp s.entry
  pub owners : Owners s.tail s.starts s.history
  pub contents : Contents s.entry s.content s.history
  pub past : Past s.tail s.starts s.entry s.history
  pub calls : Calls s.producer (is_busy s.consumer) s.history
  pub producers : (t : ℕ) → ProducerOk B s (s.producer t)
  pub consuming : ConsumerOk B s s.consumer
