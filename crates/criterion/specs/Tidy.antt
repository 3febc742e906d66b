-- The calls of a well-formed history and its events: each call tells the times of its own start and end, and every such event
-- has its call.
use Rattle.std.specs.Prelude.{◌≡◌, refl, ◌≢◌, true, ◌∷◌, map, ℕ, suc, ◌≤◌, ◌<◌, length, []}
use Rattle.std.proofs.Common.{sym, ap, subst, ◌∙◌, inl, inr, arith}
use Rattle.history.specs.Lists.{Member}
use Rattle.history.specs.Event.{Event, History, enqueue_started, enqueue_ended, dequeue_started, gave_item, gave_empty}
use Rattle.history.specs.Calls.{Answer, nothing, item, empty, Enqueue, Dequeue, enq, deq, end_dequeue, calls}
use Rattle.history.specs.Form.{any, dequeues, follows, well_formed}
use Rattle.history.specs.Linearization.{Item}
use Rattle.criterion.specs.Parts.{item_of}
use Rattle.criterion.specs.Members.{in_right, in_snoc}
use Rattle.criterion.specs.Following.{head_follows, tail_formed, has_its_start, has_its_dequeue}
use Rattle.criterion.specs.Entering.{opened, closed, asked, answered, same_enq, same_deq, enq_not_deq, enqueue_in_ended, dequeue_in_ended, dequeue_in_answered, enqueue_in_answered, enqueue_ends, dequeue_ends, ended_stays, enqueue_goes_on, dequeue_goes_on}
use Rattle.criterion.specs.Growth.{open_is_current}
use Rattle.criterion.specs.Times.{At, at_most}

-- what an enqueue tells
pub record EnqueueTold (x : Enqueue) (h : History) : Type 0 where
  pub started : At x.start (enqueue_started x.thread x.number x.value) h
  pub ended : x.end ≢ 0 → At x.end (enqueue_ended x.thread x.number x.value) h
  pub forward : x.end ≢ 0 → x.start < x.end
  pub within : x.end ≤ length h

tells_on : {x : Enqueue} {h : History} (f : Event) → EnqueueTold x h → EnqueueTold x (f ∷ h)
tells_on f r =
    record { started = inr r.started; ended = λ z. inr (r.ended z); forward = r.forward; within = let l = r.within in omega arith }

-- the enqueue under way of a thread is the one whose end comes
ends_its_own :
    (t n v : ℕ) (h : History) → well_formed (enqueue_ended t n v ∷ h) ≡ true → (x : Enqueue) → Member (enq x) (calls h)
    → x.thread ≡ t → x.end ≡ 0 → (x.number ≡ n) × (x.value ≡ v)
ends_its_own t n v h w x m p q =
    let r = has_its_start t n v (calls h) (head_follows (enqueue_ended t n v) h w) in
    let one = open_is_current h (tail_formed (enqueue_ended t n v) h w) x m q in
    let two = open_is_current h (tail_formed (enqueue_ended t n v) h w) r.0 r.1 r.3 in
    let same : item_of x ≡ item_of r.0 = cc (one, two, p, r.2) in
    (ap (λ (i : Item). i.number) same ∙ r.4, ap (λ (i : Item). i.value) same ∙ r.5)

pub enqueue_tells : (h : History) → well_formed h ≡ true → (x : Enqueue) → Member (enq x) (calls h) → EnqueueTold x h
enqueue_tells (enqueue_started t n v ∷ h) w x m =
    elim (in_snoc (enq x) (calls h) _ m) [
      | inl l ↦ tells_on (enqueue_started t n v) (enqueue_tells h (tail_formed (enqueue_started t n v) h w) x l)
      | inr e ↦ subst (λ y. EnqueueTold y (enqueue_started t n v ∷ h)) (sym (same_enq e))
          (record { started = inl (refl, refl); ended = λ z. absurd (z refl); forward = λ z. absurd (z refl); within = omega arith })
    ]
enqueue_tells (enqueue_ended t n v ∷ h) w x m =
    elim (enqueue_in_ended t _ (calls h) x m) [
      | inl l ↦ tells_on (enqueue_ended t n v) (enqueue_tells h (tail_formed (enqueue_ended t n v) h w) x l.0)
      | inr r ↦ let b = enqueue_tells h (tail_formed (enqueue_ended t n v) h w) r.0 r.1 in
          let c = at_most _ _ h b.started in
          let i = ends_its_own t n v h w r.0 r.1 r.2 r.3 in
          subst (λ y. EnqueueTold y (enqueue_ended t n v ∷ h)) (sym r.4)
          (record {
            started = inr b.started;
            ended = λ z. inl
                (refl, cc (r.2, i.0, i.1));
            forward = λ z. omega arith;
            within = omega arith;
          })
    ]
enqueue_tells (dequeue_started ∷ h) w x m =
    elim (in_snoc (enq x) (calls h) _ m) [
      | inl l ↦ tells_on dequeue_started (enqueue_tells h (tail_formed dequeue_started h w) x l)
      | inr e ↦ absurd (enq_not_deq e)
    ]
enqueue_tells (gave_item n v ∷ h) w x m =
    tells_on (gave_item n v)
    (enqueue_tells h (tail_formed (gave_item n v) h w) x (enqueue_in_answered _ (item n v) (calls h) x m))
enqueue_tells (gave_empty ∷ h) w x m =
    tells_on gave_empty (enqueue_tells h (tail_formed gave_empty h w) x (enqueue_in_answered _ empty (calls h) x m))
enqueue_tells [] w x m = elim m [ ]

-- what a dequeue tells
abbrev pub Gave : Answer → ℕ → History → Type 0
Gave nothing k h = ⊥
Gave (item n v) k h = At k (gave_item n v) h
Gave empty k h = At k gave_empty h

gave_on : (a : Answer) (k : ℕ) (f : Event) (h : History) → Gave a k h → Gave a k (f ∷ h)
gave_on (item n v) k f h g = inr g
gave_on empty k f h g = inr g
gave_on nothing k f h g = elim g [ ]

pub record DequeueTold (d : Dequeue) (h : History) : Type 0 where
  pub started : At d.start dequeue_started h
  pub ended : d.end ≢ 0 → Gave d.answer d.end h
  pub forward : d.end ≢ 0 → d.start < d.end
  pub within : d.end ≤ length h
  pub unanswered : d.end ≡ 0 → d.answer ≡ nothing

told_on : {d : Dequeue} {h : History} (f : Event) → DequeueTold d h → DequeueTold d (f ∷ h)
told_on {d} {h} f r = record {
  started = inr r.started;
  ended = λ z. gave_on d.answer d.end f h
      (r.ended z);
  forward = r.forward;
  within = let l = r.within in omega arith;
  unanswered = r.unanswered;
}

-- a dequeue after one has been answered
told_answered :
    (a : Answer) (f : Event) (h : History) (d : Dequeue) → Gave a (suc (length h)) (f ∷ h)
    → ((b : Dequeue) → Member (deq b) (calls h) → DequeueTold b h)
    → Member (deq d) (map (end_dequeue (suc (length h)) a) (calls h)) → DequeueTold d (f ∷ h)
told_answered a f h d g ih m =
    elim (dequeue_in_answered _ a (calls h) d m) [
      | inl l ↦ told_on f (ih d l.0)
      | inr r ↦ let b = ih r.0 r.1 in
          let c = at_most _ _ h b.started in
          subst (λ y. DequeueTold y (f ∷ h)) (sym r.3)
          (record { started = inr b.started; ended = λ z. g; forward = λ z. omega arith; within = omega arith; unanswered = λ z. absurd (let q : suc (length h) ≡ 0 = z in omega arith) })
    ]

pub dequeue_tells : (h : History) → well_formed h ≡ true → (d : Dequeue) → Member (deq d) (calls h) → DequeueTold d h
dequeue_tells (enqueue_started t n v ∷ h) w d m =
    elim (in_snoc (deq d) (calls h) _ m) [
      | inl l ↦ told_on (enqueue_started t n v) (dequeue_tells h (tail_formed (enqueue_started t n v) h w) d l)
      | inr e ↦ absurd (enq_not_deq (sym e))
    ]
dequeue_tells (enqueue_ended t n v ∷ h) w d m =
    told_on (enqueue_ended t n v) (dequeue_tells h (tail_formed (enqueue_ended t n v) h w) d (dequeue_in_ended t _ (calls h) d m))
dequeue_tells (dequeue_started ∷ h) w d m =
    elim (in_snoc (deq d) (calls h) _ m) [
      | inl l ↦ told_on dequeue_started (dequeue_tells h (tail_formed dequeue_started h w) d l)
      | inr e ↦ subst (λ y. DequeueTold y (dequeue_started ∷ h)) (sym (same_deq e))
          (record {
            started = inl (refl, refl);
            ended = λ z. absurd (z refl);
            forward = λ z. absurd
                (z refl);
            within = omega arith;
            unanswered = λ z. refl;
          })
    ]
dequeue_tells (gave_item n v ∷ h) w d m =
    told_answered (item n v) (gave_item n v) h d (inl (refl, refl)) (dequeue_tells h (tail_formed (gave_item n v) h w)) m
dequeue_tells (gave_empty ∷ h) w d m = told_answered empty gave_empty h d (inl (refl, refl)) (dequeue_tells h (tail_formed gave_empty h w)) m
dequeue_tells [] w d m = elim m [ ]

-- Every event has its call.
pub enqueue_of_start :
    (k t n v : ℕ) (h : History) → At k (enqueue_started t n v) h → (j : ℕ) × Member (enq (closed j (opened t n v k))) (calls h)
enqueue_of_start k t n v (f ∷ h) (inl p) = (
  0,
  subst (λ e. Member (enq (opened t n v k)) (calls (e ∷ h))) p.1
      (in_right _ (calls h) _ (inl (ap (λ j. enq (opened t n v j)) p.0))),
)
enqueue_of_start k t n v (f ∷ h) (inr a) = let r = enqueue_of_start k t n v h a in enqueue_goes_on f h _ r.1
enqueue_of_start k t n v [] m = elim m [ ]

pub dequeue_of_start : (k : ℕ) (h : History) → At k dequeue_started h → (d : Dequeue) × Member (deq d) (calls h) × (d.start ≡ k)
dequeue_of_start k (f ∷ h) (inl p) = (
  asked k,
  subst (λ e. Member (deq (asked k)) (calls (e ∷ h))) p.1
      (in_right _ (calls h) _ (inl (ap (λ j. deq (asked j)) p.0))),
  refl,
)
dequeue_of_start k (f ∷ h) (inr a) =
    let r = dequeue_of_start k h a in
    let s = dequeue_goes_on f h r.0 r.1 in
    (_, s.2, r.2)
dequeue_of_start k [] m = elim m [ ]

abbrev EnqueueEnds : (k n v : ℕ) → History → Type 0
EnqueueEnds k n v h = (x : Enqueue) × Member (enq x) (calls h) × (x.end ≡ k) × (x.number ≡ n) × (x.value ≡ v)

pub enqueue_of_end : (k t n v : ℕ) (h : History) → well_formed h ≡ true → At k (enqueue_ended t n v) h → EnqueueEnds k n v h
enqueue_of_end k t n v (f ∷ h) w (inl p) = subst (λ e. well_formed (e ∷ h) ≡ true → EnqueueEnds k n v (e ∷ h)) p.1 own w
  where
    own : well_formed (enqueue_ended t n v ∷ h) ≡ true → EnqueueEnds k n v (enqueue_ended t n v ∷ h)
    own u =
        let r = has_its_start t n v (calls h) (head_follows (enqueue_ended t n v) h u) in
        (closed (suc (length h)) r.0, enqueue_ends t _ (calls h) r.0 r.1 r.2 r.3, sym p.0, r.4, r.5)
enqueue_of_end k t n v (f ∷ h) w (inr a) =
    let r = enqueue_of_end k t n v h (tail_formed f h w) a in
    let b = at_most k _ h a in
    (r.0, ended_stays f h (enq r.0) r.1 (λ z. let q = r.2 in omega arith), r.2, r.3, r.4)
enqueue_of_end k t n v [] w m = elim m [ ]

abbrev DequeueEnds : ℕ → Answer → History → Type 0
DequeueEnds k a h = (d : Dequeue) × Member (deq d) (calls h) × (d.end ≡ k) × (d.answer ≡ a)

module _ (a : Answer) (f : Event) (h : History) where
  ends_now :
      follows f (calls h) ≡ any dequeues (calls h) → calls (f ∷ h) ≡ map (end_dequeue (suc (length h)) a) (calls h)
      → well_formed (f ∷ h) ≡ true → DequeueEnds (suc (length h)) a (f ∷ h)
  ends_now e q w =
      let r = has_its_dequeue (calls h) (sym e ∙ head_follows f h w) in
      (answered (suc (length h)) a r.0, subst (Member _) (sym q) (dequeue_ends _ a (calls h) r.0 r.1 r.2), refl, refl)

  ended_on : (k : ℕ) → 1 ≤ k → DequeueEnds k a h → DequeueEnds k a (f ∷ h)
  ended_on k l r = (r.0, ended_stays f h (deq r.0) r.1 (λ z. let q = r.2 in omega arith), r.2, r.3)

pub dequeue_of_end : (k : ℕ) (a : Answer) (h : History) → well_formed h ≡ true → Gave a k h → DequeueEnds k a h
dequeue_of_end k (item n v) (f ∷ h) w (inl p) =
    subst (λ e. well_formed (e ∷ h) ≡ true → DequeueEnds k (item n v) (e ∷ h)) p.1
    (rw p.0 (ends_now (item n v) (gave_item n v) h refl refl)) w
dequeue_of_end k (item n v) (f ∷ h) w (inr g) =
    ended_on (item n v) f h k (at_most k _ h g).0 (dequeue_of_end k (item n v) h (tail_formed f h w) g)
dequeue_of_end k empty (f ∷ h) w (inl p) =
    subst (λ e. well_formed (e ∷ h) ≡ true → DequeueEnds k empty (e ∷ h)) p.1 (rw p.0 (ends_now empty gave_empty h refl refl)) w
dequeue_of_end k empty (f ∷ h) w (inr g) = ended_on empty f h k (at_most k _ h g).0 (dequeue_of_end k empty h (tail_formed f h w) g)
dequeue_of_end k nothing h w m = elim m [ ]
dequeue_of_end k (item n v) [] w m = elim m [ ]
dequeue_of_end k empty [] w m = elim m [ ]
