-- The check's walk over the order, on the working memory: what holds after its first numbers, and what its functions say.
use Rattle.std.specs.Prelude.{◌≡◌, ◌≢◌, Bool, true, false, ◌&&◌, ◌||◌, not, cond, List, [], ◌∷◌, ℕ, suc, ◌-◌, ◌≤◌, ◌<◌, leb, ltb, eqb, length, get_or, take, drop, Option, Some, None}
use Rattle.std.specs.List.{list_all, range_with_len}
use Rattle.std.proofs.Math.Option.{some}
use Rattle.history.specs.Calls.{Call, enq, deq, start_of}
use Rattle.history.specs.Form.{most_events}
use Rattle.history.specs.Linearization.{Item, Queue, dequeue, run}
use Rattle.history.specs.Shows.{listed}
use Rattle.reading.specs.Table.{end_at, answer_at, thread_at, number_at, value_at, answer_of, calls_in}
use Rattle.order_check.specs.declared.Progress.{Progress}
use Rattle.order_check.specs.Check.{every, is_some, has, orderly}

-- The first k numbers may stand for calls in the memory.
abbrev pub InRange : (ns : List ℕ) (k : ℕ) → Type 0
InRange ns k = (i : ℕ) → i < k → (1 ≤ get_or ns i 0) × (get_or ns i 0 ≤ most_events)

-- Number n may come next: it is a starting number, is not flagged, and its call has not ended before the latest start.
abbrev pub admits_at : (m : List ℕ) (seen : List Bool) (c n latest : ℕ) → Bool
admits_at m seen c n latest =
    (leb 1 n && leb n c) && (not (get_or seen (n - 1) false) && (eqb (end_at m (n - 1)) 0 || leb latest (end_at m (n - 1))))

-- The first of places from to k of the order that has an enqueue, or k.
pub record FrontAt (m ns : List ℕ) (from k r : ℕ) : Type 0 where
  pub not_before : from ≤ r
  pub within : r ≤ k
  pub are_dequeues : (i : ℕ) → i < r → from ≤ i → thread_at m (get_or ns i 0 - 1) ≡ 0
  pub is_enqueue : r < k → thread_at m (get_or ns r 0 - 1) ≢ 0

-- Dequeue j gave the item of enqueue i.
abbrev pub gives_at : List ℕ → (i j : ℕ) → Bool
gives_at m i j = eqb (number_at m i) (answer_at m j) && eqb (value_at m i) (value_at m j)

-- The item of the call with starting number n.
abbrev pub item_of : List ℕ → ℕ → Item
item_of m n = record { number = number_at m (n - 1); value = value_at m (n - 1) }

-- The front of the queue where it stands at place f of k: an item, or nothing.
abbrev pub front_item : (m ns : List ℕ) (f k : ℕ) → Queue
front_item m ns f k = cond (ltb f k) (item_of m (get_or ns f 0) ∷ []) []

-- Dequeue j may answer as it did with that front.
abbrev pub answers_at : (m ns : List ℕ) (f k j : ℕ) → Bool
answers_at m ns f k j = is_some (dequeue (answer_of (end_at m j) (answer_at m j) (value_at m j)) (front_item m ns f k))

-- The items of the enqueues.
abbrev pub items : List Call → Queue
items [] = []
items (enq x ∷ cs) = record { number = x.number; value = x.value } ∷ items cs
items (deq d ∷ cs) = items cs

-- The flags of the calls: true exactly where the call is listed.
pub record Seen (c : ℕ) (seen : List Bool) (ns : List ℕ) : Type 0 where
  pub size : length seen ≡ most_events
  pub flagged : (j : ℕ) → j < c → has (suc j) ns ≡ get_or seen j false

-- What holds once the first k numbers of the order have passed every test. The queue is the enqueues among places front to k.
pub record Walked (m ns : List ℕ) (seen : List Bool) (c : ℕ) (p : Progress) (k : ℕ) : Type 0 where
  pub within : k ≤ length ns
  pub so_far : orderly (calls_in m c) (take k ns) ≡ true
  pub seen_are : Seen c seen (take k ns)
  pub latest_is : (e : ℕ) → every (λ a. leb (start_of a) e) (listed (calls_in m c) (take k ns)) ≡ leb p.latest e
  pub front_within : p.front ≤ k
  pub queue_is : run [] (listed (calls_in m c) (take k ns)) ≡ some (items (listed (calls_in m c) (drop p.front (take k ns))))

-- One number more: it fails a test, or the walk goes on.
abbrev pub Places : (m ns : List ℕ) (seen : List Bool) (c k : ℕ) → Option Progress → Type 0
Places m ns seen c k None = orderly (calls_in m c) (take k ns) ≡ false
Places m ns seen c k (Some p) = Walked m ns seen c p k

-- The whole walk: whether all numbers pass, and then the flags are theirs.
pub record Walks (m ns : List ℕ) (seen : List Bool) (c : ℕ) (r : Bool) : Type 0 where
  pub decides : r ≡ orderly (calls_in m c) ns
  pub seen_are : r ≡ true → Seen c seen ns

-- Call j has not ended or is flagged; each of the first c calls.
abbrev pub kept_at : (m : List ℕ) (seen : List Bool) (j : ℕ) → Bool
kept_at m seen j = eqb (end_at m j) 0 || get_or seen j false

abbrev pub all_seen : (m : List ℕ) (seen : List Bool) (c : ℕ) → Bool
all_seen m seen c = list_all (kept_at m seen) (range_with_len 0 c)
