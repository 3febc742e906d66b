-- Linearizable histories (document 01, "What demand 3 speaks of"; Herlihy and Wing 1990 for a first-in first-out queue).
use Rattle.std.specs.Prelude.{◌≡◌, ◌≢◌, ◌&&◌, cond, List, [], ◌∷◌, ◌++◌, ℕ, ◌<◌, eqb}
use Rattle.std.proofs.Math.Option.{Option, none, some}
use Rattle.history.specs.Lists.{All, Pairwise, Member}
use Rattle.history.specs.Event.{History}
use Rattle.history.specs.Calls.{Answer, nothing, item, empty, Call, enq, deq, start_of, end_of, calls}

-- An item of the queue: call number and value.
pub record Item : Type 0 where
  pub number : ℕ
  pub value : ℕ

-- The queue, its front first.
abbrev pub Queue : Type 0
Queue = List Item

-- One call on the queue; none where it could not have answered so. An enqueue puts its call number and value at the back. A
-- dequeue that gave an item must find that number and value at the front, and removes them. One that gave empty must find the
-- queue empty. One under way, kept, gives whatever it finds: any item, or empty.
abbrev pub dequeue : Answer → Queue → Option Queue
dequeue nothing [] = some []
dequeue nothing (x ∷ q) = some q
dequeue (item n v) [] = none
dequeue (item n v) (x ∷ q) = cond (eqb x.number n && eqb x.value v) (some q) none
dequeue empty [] = some []
dequeue empty (x ∷ q) = none

abbrev pub perform : Call → Queue → Option Queue
perform (enq x) q = some (q ++ (record { number = x.number; value = x.value } ∷ []))
perform (deq d) q = dequeue d.answer q

-- The calls run in that order on a queue; what remains is the queue it leaves.
abbrev pub run : Queue → List Call → Option Queue
run q [] = some q
run q (c ∷ cs) = elim (perform c q) [ none ↦ none | some r ↦ run r cs ]

-- a ended before b started. A call under way is kept as ended after every event, so it ended before no start.
abbrev pub Precedes : Call → Call → Type 0
Precedes a b = (end_of a ≢ 0) × (end_of a < start_of b)

-- An order of the history's calls, made so, and the queue that it leaves.
pub record Linearization (h : History) (order : List Call) (left : Queue) : Type 0 where
  -- calls of the history, each at most once (no two start at one event)
  pub theirs : All (λ c. Member c (calls h)) order
  pub once : Pairwise (λ a b. start_of a ≢ start_of b) order
  -- ended calls are all kept; a call under way is dropped or kept
  pub whole : All (λ c. end_of c ≢ 0 → Member c order) (calls h)
  -- where one kept call ended before another started, it comes earlier
  pub timely : Pairwise (λ a b. Precedes b a → ⊥) order
  -- the calls run in that order on a queue, empty at first
  pub runs : run [] order ≡ some left

-- Linearizable: the history has a linearization.
abbrev pub Linearizable : History → Type 0
Linearizable h = (order : List Call) × (left : Queue) × Linearization h order left

-- No call is under way: every call of the history has ended.
abbrev pub Settled : History → Type 0
Settled h = All (λ c. end_of c ≢ 0) (calls h)
