-- An item's end that is told after its mark. Definitions.
--
-- The proof keeps a history in which an item is given at its mark and the next dequeue is opened there. What the caller is told may
-- differ: the item's end comes later, after some enqueue events, and it opens no dequeue.
use Rattle.std.specs.Prelude.{◌≡◌, ◌∷◌, ℕ}
use Rattle.history.specs.Event.{Event, History, enqueue_started, enqueue_ended, dequeue_started, gave_item, gave_empty}
use Rattle.criterion.specs.Explained.{Started, Begun, Ended, Taken, EndedBefore, current}

-- g is the history that is kept, h the one that was told. They parted when item (n, v) was marked: in g it was given there and the
-- next dequeue opened. Since then enqueues started and ended in both, and nothing else happened.
pub data Late (n v : ℕ) : (g h : History) → Type 0 where
  marked : {h : History} → Late n v (dequeue_started ∷ gave_item n v ∷ h) h
  then_started : {t m w : ℕ} {g h : History} → Late n v g h → Late n v (enqueue_started t m w ∷ g) (enqueue_started t m w ∷ h)
  then_ended : {t m w : ℕ} {g h : History} → Late n v g h → Late n v (enqueue_ended t m w ∷ g) (enqueue_ended t m w ∷ h)

-- an event of an enqueue
abbrev pub OfEnqueue : Event → Type 0
OfEnqueue (enqueue_started t n v) = Unit
OfEnqueue (enqueue_ended t n v) = Unit
OfEnqueue dequeue_started = ⊥
OfEnqueue (gave_item n v) = ⊥
OfEnqueue gave_empty = ⊥

-- Two histories say the same of every enqueue. What had ended before the last dequeue started is none of this: of that kept and
-- told history may differ.
pub record SameEnqueues (g h : History) : Type 1 where
  pub same_started : (n v : ℕ) → Started n v g ≡ Started n v h
  pub same_begun : (n : ℕ) → Begun n g ≡ Begun n h
  pub same_ended : (n : ℕ) → Ended n g ≡ Ended n h
  pub same_taken : (n : ℕ) → Taken n g ≡ Taken n h
  pub same_before : (a b : ℕ) → EndedBefore a b g ≡ EndedBefore a b h
  pub same_current : (t : ℕ) → current t g ≡ current t h
