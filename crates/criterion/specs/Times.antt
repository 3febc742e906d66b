-- Which event happened when, and what the facts of the criterion say in those terms. An event keeps its time as the history
-- grows, so facts of an earlier moment are compared with those of the end.
use Rattle.std.specs.Prelude.{◌≡◌, refl, ◌⊎◌, [], ◌∷◌, ℕ, suc, ◌≤◌, ◌<◌, length}
use Rattle.std.proofs.Common.{subst, inl, inr, arith}
use Rattle.history.specs.Event.{Event, History, enqueue_started, enqueue_ended, dequeue_started, gave_item, gave_empty}
use Rattle.criterion.specs.Explained.{Started, Ended, Taken, EndedBefore, EndedBeforeDequeue}

-- event k of the history is e
abbrev pub At : ℕ → Event → History → Type 0
At k e [] = ⊥
At k e (f ∷ h) = ((k ≡ suc (length h)) × (e ≡ f)) ⊎ At k e h

pub at_most : (k : ℕ) (e : Event) (h : History) → At k e h → (1 ≤ k) × (k ≤ length h)
at_most k e (f ∷ h) (inl p) = omega arith
at_most k e (f ∷ h) (inr a) = let b = at_most k e h a in omega arith
at_most k e [] m = elim m [ ]

pub at_same : (k : ℕ) (e f : Event) (h : History) → At k e h → At k f h → e ≡ f
at_same k e f (g ∷ h) (inl p) (inl q) = cc (p.1, q.1)
at_same k e f (g ∷ h) (inl p) (inr b) = absurd (let c = at_most k f h b in omega arith)
at_same k e f (g ∷ h) (inr a) (inl q) = absurd (let c = at_most k e h a in omega arith)
at_same k e f (g ∷ h) (inr a) (inr b) = at_same k e f h a b
at_same k e f [] m _ = elim m [ ]

-- an earlier moment of a history
infix 20 ◌⊑◌
pub data ◌⊑◌ : History → History → Type 0 where
  now : {h : History} → h ⊑ h
  later : {g h : History} {e : Event} → g ⊑ h → g ⊑ (e ∷ h)

pub earlier : {e : Event} {g h : History} → (e ∷ g) ⊑ h → g ⊑ h
earlier now = later now
earlier (later s) = later (earlier s)

pub at_later : {g h : History} → g ⊑ h → (k : ℕ) (e : Event) → At k e g → At k e h
at_later now k e a = a
at_later (later s) k e a = inr (at_later s k e a)

pub length_later : {g h : History} → g ⊑ h → length g ≤ length h
length_later now = omega arith
length_later (later s) = let r = length_later s in omega arith

pub at_earlier : {g h : History} → g ⊑ h → (k : ℕ) (e : Event) → At k e h → k ≤ length g → At k e g
at_earlier now k e a l = a
at_earlier (later s) k e (inl p) l = absurd (let r = length_later s in omega arith)
at_earlier (later s) k e (inr a) l = at_earlier s k e a l

-- an event of a family happened
pub record Happened {I : Type 0} (E : I → Event) (h : History) : Type 0 where
  pub time : ℕ
  pub which : I
  pub there : At time (E which) h

abbrev on : {I : Type 0} {E : I → Event} {h : History} {f : Event} → Happened E h → Happened E (f ∷ h)
on r = record { time = r.time; which = r.which; there = inr r.there }

abbrev last : {I : Type 0} (E : I → Event) (i : I) (h : History) (f : Event) → E i ≡ f → Happened E (f ∷ h)
last E i h f e = record { time = suc (length h); which = i; there = inl (refl, e) }

-- What an event leaves true: the facts of the criterion as the history grows.
record Grows (f : Event) (h : History) : Type 0 where
  started : (n v : ℕ) → Started n v h → Started n v (f ∷ h)
  ended : (n : ℕ) → Ended n h → Ended n (f ∷ h)
  taken : (n : ℕ) → Taken n h → Taken n (f ∷ h)
  before : (a b : ℕ) → EndedBefore a b h → EndedBefore a b (f ∷ h)
  before_dequeue : (a : ℕ) → Ended a h → EndedBeforeDequeue a h → EndedBeforeDequeue a (f ∷ h)

grows : (f : Event) (h : History) → Grows f h
grows (enqueue_started t m w) h =
    record { started = λ n v s. inr s; ended = λ n s. s; taken = λ n s. s; before = λ a b s. inr s; before_dequeue = λ a e s. s }
grows (enqueue_ended t m w) h =
    record { started = λ n v s. s; ended = λ n s. inr s; taken = λ n s. s; before = λ a b s. s; before_dequeue = λ a e s. s }
grows dequeue_started h =
    record { started = λ n v s. s; ended = λ n s. s; taken = λ n s. s; before = λ a b s. s; before_dequeue = λ a e s. e }
grows (gave_item m w) h =
    record { started = λ n v s. s; ended = λ n s. s; taken = λ n s. inr s; before = λ a b s. s; before_dequeue = λ a e s. s }
grows gave_empty h =
    record { started = λ n v s. s; ended = λ n s. s; taken = λ n s. s; before = λ a b s. s; before_dequeue = λ a e s. s }

-- Each fact and the events that it speaks of. First the starts of an item.
abbrev pub start_of_item : (n v : ℕ) → ℕ → Event
start_of_item n v t = enqueue_started t n v

pub started_when : (n v : ℕ) (h : History) → Started n v h → Happened (start_of_item n v) h
started_when n v (enqueue_started t m w ∷ h) (inl p) = last (start_of_item n v) t h (enqueue_started t m w) (rw (p.0, p.1))
started_when n v (enqueue_started t m w ∷ h) (inr s) = on (started_when n v h s)
started_when n v (enqueue_ended t m w ∷ h) s = on (started_when n v h s)
started_when n v (dequeue_started ∷ h) s = on (started_when n v h s)
started_when n v (gave_item m w ∷ h) s = on (started_when n v h s)
started_when n v (gave_empty ∷ h) s = on (started_when n v h s)
started_when n v [] s = elim s [ ]

pub when_started : (k t n v : ℕ) (h : History) → At k (enqueue_started t n v) h → Started n v h
when_started k t n v (f ∷ h) (inl p) = subst (λ e. Started n v (e ∷ h)) p.1 (inl (refl, refl))
when_started k t n v (f ∷ h) (inr a) = (grows f h).started n v (when_started k t n v h a)
when_started k t n v [] m = elim m [ ]

-- the ends of an enqueue
abbrev pub end_of_item : ℕ → ℕ × ℕ → Event
end_of_item n r = enqueue_ended r.0 n r.1

pub ended_when : (n : ℕ) (h : History) → Ended n h → Happened (end_of_item n) h
ended_when n (enqueue_started t m w ∷ h) s = on (ended_when n h s)
ended_when n (enqueue_ended t m w ∷ h) (inl p) = last (end_of_item n) (t, w) h (enqueue_ended t m w) (rw p)
ended_when n (enqueue_ended t m w ∷ h) (inr s) = on (ended_when n h s)
ended_when n (dequeue_started ∷ h) s = on (ended_when n h s)
ended_when n (gave_item m w ∷ h) s = on (ended_when n h s)
ended_when n (gave_empty ∷ h) s = on (ended_when n h s)
ended_when n [] s = elim s [ ]

pub when_ended : (k t n v : ℕ) (h : History) → At k (enqueue_ended t n v) h → Ended n h
when_ended k t n v (f ∷ h) (inl p) = subst (λ e. Ended n (e ∷ h)) p.1 (inl refl)
when_ended k t n v (f ∷ h) (inr a) = (grows f h).ended n (when_ended k t n v h a)
when_ended k t n v [] m = elim m [ ]

-- the taking of an item
pub taken_when : (n : ℕ) (h : History) → Taken n h → Happened (gave_item n) h
taken_when n (enqueue_started t m w ∷ h) s = on (taken_when n h s)
taken_when n (enqueue_ended t m w ∷ h) s = on (taken_when n h s)
taken_when n (dequeue_started ∷ h) s = on (taken_when n h s)
taken_when n (gave_item m w ∷ h) (inl p) = last (gave_item n) w h (gave_item m w) (rw p)
taken_when n (gave_item m w ∷ h) (inr s) = on (taken_when n h s)
taken_when n (gave_empty ∷ h) s = on (taken_when n h s)
taken_when n [] s = elim s [ ]

pub when_taken : (k n v : ℕ) (h : History) → At k (gave_item n v) h → Taken n h
when_taken k n v (f ∷ h) (inl p) = subst (λ e. Taken n (e ∷ h)) p.1 (inl refl)
when_taken k n v (f ∷ h) (inr a) = (grows f h).taken n (when_taken k n v h a)
when_taken k n v [] m = elim m [ ]

-- the end of an enqueue before an event of a family
pub record EndBefore {I : Type 0} (a : ℕ) (E : I → Event) (h : History) : Type 0 where
  pub first : Happened (end_of_item a) h
  pub second : Happened E h
  pub in_order : first.time < second.time

on_both : {I : Type 0} {a : ℕ} {E : I → Event} {h : History} {f : Event} → EndBefore a E h → EndBefore a E (f ∷ h)
on_both r = record { first = on r.first; second = on r.second; in_order = r.in_order }

ends_before : {I : Type 0} (a : ℕ) (E : I → Event) (i : I) (h : History) (f : Event) → E i ≡ f → Ended a h → EndBefore a E (f ∷ h)
ends_before a E i h f e s =
    let p = ended_when a h s in
    let b = at_most _ _ h p.there in
    record { first = on p; second = last E i h f e; in_order = omega arith }

-- a start of an enqueue, whatever its thread and value
abbrev pub start_of_number : ℕ → ℕ × ℕ → Event
start_of_number n r = enqueue_started r.0 n r.1

pub before_when : (a b : ℕ) (h : History) → EndedBefore a b h → EndBefore a (start_of_number b) h
before_when a b (enqueue_started t m w ∷ h) (inl p) = ends_before a (start_of_number b) (t, w) h (enqueue_started t m w) (rw p.0) p.1
before_when a b (enqueue_started t m w ∷ h) (inr s) = on_both (before_when a b h s)
before_when a b (enqueue_ended t m w ∷ h) s = on_both (before_when a b h s)
before_when a b (dequeue_started ∷ h) s = on_both (before_when a b h s)
before_when a b (gave_item m w ∷ h) s = on_both (before_when a b h s)
before_when a b (gave_empty ∷ h) s = on_both (before_when a b h s)
before_when a b [] s = elim s [ ]

-- an event before the last one is in the shorter history
at_shorter : (k : ℕ) (e f : Event) (h : History) → At k e (f ∷ h) → k < suc (length h) → At k e h
at_shorter k e f h a l = at_earlier {h = f ∷ h} (later now) k e a (omega arith)

pub when_before :
    (i t a v j u b w : ℕ) (h : History) → At i (enqueue_ended t a v) h → At j (enqueue_started u b w) h → i < j
    → EndedBefore a b h
when_before i t a v j u b w (f ∷ h) p (inl q) l =
    subst (λ e. EndedBefore a b (e ∷ h)) q.1 (inl (refl, when_ended i t a v h (at_shorter i _ f h p (omega arith))))
when_before i t a v j u b w (f ∷ h) p (inr q) l =
    (grows f h).before a b (when_before i t a v j u b w h (at_shorter i _ f h p (let c = at_most j _ h q in omega arith)) q l)
when_before i t a v j u b w [] p _ l = elim p [ ]

-- the end of an enqueue before the last dequeue's start
abbrev pub asked_at : Unit {0} → Event
asked_at _ = dequeue_started

pub before_dequeue_when : (a : ℕ) (h : History) → EndedBeforeDequeue a h → EndBefore a asked_at h
before_dequeue_when a (enqueue_started t m w ∷ h) s = on_both (before_dequeue_when a h s)
before_dequeue_when a (enqueue_ended t m w ∷ h) s = on_both (before_dequeue_when a h s)
before_dequeue_when a (dequeue_started ∷ h) s = ends_before a asked_at tt h dequeue_started refl s
before_dequeue_when a (gave_item m w ∷ h) s = on_both (before_dequeue_when a h s)
before_dequeue_when a (gave_empty ∷ h) s = on_both (before_dequeue_when a h s)
before_dequeue_when a [] s = elim s [ ]

pub when_before_dequeue :
    (i t a v j : ℕ) (h : History) → At i (enqueue_ended t a v) h → At j dequeue_started h → i < j → EndedBeforeDequeue a h
when_before_dequeue i t a v j (f ∷ h) p (inl q) l =
    subst (λ e. EndedBeforeDequeue a (e ∷ h)) q.1 (when_ended i t a v h (at_shorter i _ f h p (omega arith)))
when_before_dequeue i t a v j (f ∷ h) p (inr q) l =
    let r = at_shorter i _ f h p (let c = at_most j _ h q in omega arith) in
    (grows f h).before_dequeue a (when_ended i t a v h r) (when_before_dequeue i t a v j h r q l)
when_before_dequeue i t a v j [] p _ l = elim p [ ]
