-- The criterion as the calls tell it, with nothing of events: a list of calls is orderly when each answered dequeue is fair.
use Rattle.std.specs.Prelude.{◌≡◌, ◌≢◌, List, ℕ, ◌≤◌, ◌<◌}
use Rattle.history.specs.Lists.{Member}
use Rattle.history.specs.Calls.{Answer, nothing, item, empty, Enqueue, Dequeue, Call, enq, deq}
use Rattle.history.specs.Linearization.{Precedes}

-- a dequeue that ended before event k gave item m
pub record TakenBefore (m k : ℕ) (cs : List Call) : Type 0 where
  pub by : Dequeue
  pub value : ℕ
  pub member : Member (deq by) cs
  pub gives : by.answer ≡ item m value
  pub before : by.end < k

-- A dequeue that ended at event k gave an item fairly: it was started by then, with that number and value, it was not taken, and
-- whatever ended before it started was taken.
pub record FairItem (n v k : ℕ) (cs : List Call) : Type 0 where
  pub given : Enqueue
  pub member : Member (enq given) cs
  pub number_is : given.number ≡ n
  pub value_is : given.value ≡ v
  pub started : given.start ≤ k
  pub untaken : TakenBefore n k cs → ⊥
  pub first : (y : Enqueue) → Member (enq y) cs → Precedes (enq y) (enq given) → TakenBefore y.number k cs

-- One that started at event s and ended at event k found nothing, fairly: whatever ended before it started was taken.
abbrev pub FairEmpty : (s k : ℕ) → List Call → Type 0
FairEmpty s k cs = (y : Enqueue) → Member (enq y) cs → y.end ≢ 0 → y.end < s → TakenBefore y.number k cs

abbrev pub Fair : Answer → (s k : ℕ) → List Call → Type 0
Fair nothing s k cs = Unit
Fair (item n v) s k cs = FairItem n v k cs
Fair empty s k cs = FairEmpty s k cs

abbrev pub Orderly : List Call → Type 0
Orderly cs = (d : Dequeue) → Member (deq d) cs → Fair d.answer d.start d.end cs
