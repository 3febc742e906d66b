-- The criterion: a history is explained when every dequeue's end is in order at the moment it happens. It is local in time, so
-- an event that does not concern a fact leaves it as it stands, by computing. Calls are known by their numbers, which a
-- well-formed history starts once.
use Rattle.std.specs.Prelude.{◌≡◌, ◌⊎◌, ◌≢◌, Bool, true, false, cond, [], ◌∷◌, ℕ, eqb}
use Rattle.std.proofs.Math.Option.{Option, none, some}
use Rattle.history.specs.Lists.{All, Pairwise, Member}
use Rattle.history.specs.Event.{History, enqueue_started, enqueue_ended, dequeue_started, gave_item, gave_empty}
use Rattle.history.specs.Linearization.{Item, Queue}

-- the enqueue with this number and value was started
abbrev pub Started : (n v : ℕ) → History → Type 0
Started n v [] = ⊥
Started n v (enqueue_started t m w ∷ h) = ((n ≡ m) × (v ≡ w)) ⊎ Started n v h
Started n v (enqueue_ended t m w ∷ h) = Started n v h
Started n v (dequeue_started ∷ h) = Started n v h
Started n v (gave_item m w ∷ h) = Started n v h
Started n v (gave_empty ∷ h) = Started n v h

-- an enqueue with this number was started
abbrev pub Begun : ℕ → History → Type 0
Begun n [] = ⊥
Begun n (enqueue_started t m w ∷ h) = (n ≡ m) ⊎ Begun n h
Begun n (enqueue_ended t m w ∷ h) = Begun n h
Begun n (dequeue_started ∷ h) = Begun n h
Begun n (gave_item m w ∷ h) = Begun n h
Begun n (gave_empty ∷ h) = Begun n h

-- the enqueue with this number has ended
abbrev pub Ended : ℕ → History → Type 0
Ended n [] = ⊥
Ended n (enqueue_started t m w ∷ h) = Ended n h
Ended n (enqueue_ended t m w ∷ h) = (n ≡ m) ⊎ Ended n h
Ended n (dequeue_started ∷ h) = Ended n h
Ended n (gave_item m w ∷ h) = Ended n h
Ended n (gave_empty ∷ h) = Ended n h

-- the enqueue with this number has been taken: a dequeue gave its item
abbrev pub Taken : ℕ → History → Type 0
Taken n [] = ⊥
Taken n (enqueue_started t m w ∷ h) = Taken n h
Taken n (enqueue_ended t m w ∷ h) = Taken n h
Taken n (dequeue_started ∷ h) = Taken n h
Taken n (gave_item m w ∷ h) = (n ≡ m) ⊎ Taken n h
Taken n (gave_empty ∷ h) = Taken n h

-- enqueue a ended before enqueue b started
abbrev pub EndedBefore : (a b : ℕ) → History → Type 0
EndedBefore a b [] = ⊥
EndedBefore a b (enqueue_started t m w ∷ h) = ((b ≡ m) × Ended a h) ⊎ EndedBefore a b h
EndedBefore a b (enqueue_ended t m w ∷ h) = EndedBefore a b h
EndedBefore a b (dequeue_started ∷ h) = EndedBefore a b h
EndedBefore a b (gave_item m w ∷ h) = EndedBefore a b h
EndedBefore a b (gave_empty ∷ h) = EndedBefore a b h

-- enqueue a ended before the last dequeue started
abbrev pub EndedBeforeDequeue : ℕ → History → Type 0
EndedBeforeDequeue a [] = ⊥
EndedBeforeDequeue a (enqueue_started t m w ∷ h) = EndedBeforeDequeue a h
EndedBeforeDequeue a (enqueue_ended t m w ∷ h) = EndedBeforeDequeue a h
EndedBeforeDequeue a (dequeue_started ∷ h) = Ended a h
EndedBeforeDequeue a (gave_item m w ∷ h) = EndedBeforeDequeue a h
EndedBeforeDequeue a (gave_empty ∷ h) = EndedBeforeDequeue a h

-- A dequeue may end with an item if the item's enqueue was started with that number and value, has not been taken, and every
-- enqueue that ended before it started has been taken.
pub record MayGive (n v : ℕ) (h : History) : Type 0 where
  pub is_started : Started n v h
  pub is_untaken : Taken n h → ⊥
  pub is_first : (m : ℕ) → EndedBefore m n h → Taken m h

-- It may end empty if every enqueue that ended before it started has been taken.
abbrev pub MayBeEmpty : History → Type 0
MayBeEmpty h = (m : ℕ) → EndedBeforeDequeue m h → Taken m h

-- Every dequeue's end was in order when it happened.
abbrev pub Explained : History → Type 0
Explained [] = Unit
Explained (enqueue_started t m w ∷ h) = Explained h
Explained (enqueue_ended t m w ∷ h) = Explained h
Explained (dequeue_started ∷ h) = Explained h
Explained (gave_item n v ∷ h) = MayGive n v h × Explained h
Explained (gave_empty ∷ h) = MayBeEmpty h × Explained h

-- An order in which the untaken items may be left: each started and untaken, every ended one among them, none twice, none
-- behind one that started after it had ended.
pub record Rest (h : History) (rest : Queue) : Type 0 where
  pub untaken : All (λ x. Started x.number x.value h × (Taken x.number h → ⊥)) rest
  pub complete : (n v : ℕ) → Started n v h → Ended n h → (Taken n h → ⊥) → Member (record { number = n; value = v }) rest
  pub distinct : Pairwise (λ x y. x.number ≢ y.number) rest
  pub in_order : Pairwise (λ x y. EndedBefore y.number x.number h → ⊥) rest

-- The enqueue that thread t has under way.
abbrev pub current : ℕ → History → Option Item
current t [] = none
current t (enqueue_started u n v ∷ h) = cond (eqb u t) (some (record { number = n; value = v })) (current t h)
current t (enqueue_ended u n v ∷ h) = cond (eqb u t) none (current t h)
current t (dequeue_started ∷ h) = current t h
current t (gave_item n v ∷ h) = current t h
current t (gave_empty ∷ h) = current t h

-- Whether a dequeue is under way.
abbrev pub dequeuing : History → Bool
dequeuing [] = false
dequeuing (enqueue_started t n v ∷ h) = dequeuing h
dequeuing (enqueue_ended t n v ∷ h) = dequeuing h
dequeuing (dequeue_started ∷ h) = true
dequeuing (gave_item n v ∷ h) = false
dequeuing (gave_empty ∷ h) = false
