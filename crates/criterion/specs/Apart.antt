-- The calls of a well-formed history are told apart by their starts, its enqueues also by their numbers, and one dequeue has
-- ended before the next starts.
use Rattle.std.specs.Prelude.{◌≡◌, refl, ◌≢◌, true, List, [], ◌∷◌, ◌++◌, map, ℕ, suc, ◌≤◌, ◌<◌, length}
use Rattle.std.proofs.Common.{sym, ap, subst, inl, inr, arith}
use Rattle.std.proofs.Math.Decide.{dec_lt}
use Rattle.history.specs.Lists.{Pairwise, Member}
use Rattle.history.specs.Event.{Event, History, enqueue_started, enqueue_ended, dequeue_started, gave_item, gave_empty}
use Rattle.history.specs.Calls.{Answer, item, empty, Enqueue, Dequeue, Call, enq, deq, start_of, end_enqueue, end_dequeue, calls}
use Rattle.history.specs.Form.{well_formed}
use Rattle.history.specs.Linearization.{Precedes}
use Rattle.criterion.specs.Explained.{EndedBefore}
use Rattle.criterion.specs.Members.{all_of, in_snoc, pairwise_append, pairwise_map, pairwise_at}
use Rattle.criterion.specs.Following.{head_follows, tail_formed, number_is_new, consumer_is_free}
use Rattle.criterion.specs.Entering.{same_enq, enq_not_deq, dequeue_in_ended, dequeue_in_answered}
use Rattle.criterion.specs.Times.{At, at_most, before_when, when_before}
use Rattle.criterion.specs.Tidy.{enqueue_tells, dequeue_tells, enqueue_of_start, enqueue_of_end}

-- Calls have different starts, in rising order.
pub start_at_most : (h : History) → well_formed h ≡ true → (c : Call) → Member c (calls h) → start_of c ≤ length h
start_at_most h w (enq x) m = (at_most _ _ h (enqueue_tells h w x m).started).1
start_at_most h w (deq d) m = (at_most _ _ h (dequeue_tells h w d m).started).1

abbrev Earlier : Call → Call → Type 0
Earlier a b = start_of a < start_of b

one_more :
    (h : History) → well_formed h ≡ true → (c : Call) → start_of c ≡ suc (length h) → Pairwise Earlier (calls h)
    → Pairwise Earlier (calls h ++ (c ∷ []))
one_more h w c e p =
    pairwise_append Earlier (calls h) (c ∷ []) p (tt, tt)
    (all_of _ (calls h) (λ b m. (let l = start_at_most h w b m in omega arith, tt)))

kept : (f : Call → Call) (cs : List Call) → ((c : Call) → start_of (f c) ≡ start_of c) → Pairwise Earlier cs → Pairwise Earlier (map f cs)
kept f cs e p = pairwise_map Earlier Earlier f cs (λ a b l. let p = e a in let q = e b in omega arith) p

end_keeps_start : (t k : ℕ) (c : Call) → start_of (end_enqueue t k c) ≡ start_of c
end_keeps_start t k (enq x) = refl
end_keeps_start t k (deq d) = refl

answer_keeps_start : (k : ℕ) (a : Answer) (c : Call) → start_of (end_dequeue k a c) ≡ start_of c
answer_keeps_start k a (enq x) = refl
answer_keeps_start k a (deq d) = refl

pub starts_rise : (h : History) → well_formed h ≡ true → Pairwise (λ a b. start_of a < start_of b) (calls h)
starts_rise [] w = tt
starts_rise (enqueue_started t n v ∷ h) w = let u = tail_formed (enqueue_started t n v) h w in one_more h u _ refl (starts_rise h u)
starts_rise (enqueue_ended t n v ∷ h) w =
    kept (end_enqueue t _) (calls h) (end_keeps_start t _) (starts_rise h (tail_formed (enqueue_ended t n v) h w))
starts_rise (dequeue_started ∷ h) w = let u = tail_formed dequeue_started h w in one_more h u _ refl (starts_rise h u)
starts_rise (gave_item n v ∷ h) w =
    kept (end_dequeue _ (item n v)) (calls h) (answer_keeps_start _ (item n v)) (starts_rise h (tail_formed (gave_item n v) h w))
starts_rise (gave_empty ∷ h) w = kept (end_dequeue _ empty) (calls h) (answer_keeps_start _ empty) (starts_rise h (tail_formed gave_empty h w))

pub same_start :
    (h : History) → well_formed h ≡ true → (a b : Call) → Member a (calls h) → Member b (calls h) → start_of a ≡ start_of b → a ≡ b
same_start h w a b m n e =
    elim (pairwise_at Earlier (calls h) (starts_rise h w) a b m n)
    [ inl q ↦ q | inr (inl l) ↦ absurd (omega arith) | inr (inr l) ↦ absurd (omega arith) ]

-- Enqueues have different numbers.
starts_anew :
    (t n v u w j : ℕ) (f : Event) (h : History) → well_formed (f ∷ h) ≡ true → enqueue_started t n v ≡ f
    → At j (enqueue_started u n w) h → ⊥
starts_anew t n v u w j f h f-ok e b =
    let r = enqueue_of_start j u n w h b in
    number_is_new t n v (calls h) (head_follows (enqueue_started t n v) h (rw (← e) at f-ok)) _ r.1 refl

number_starts_once :
    (i t v j u w n : ℕ) (h : History) → well_formed h ≡ true → At i (enqueue_started t n v) h → At j (enqueue_started u n w) h
    → i ≡ j
number_starts_once i t v j u w n (f ∷ h) f-ok (inl p) (inl q) = cc (p.0, q.0)
number_starts_once i t v j u w n (f ∷ h) f-ok (inl p) (inr b) = absurd (starts_anew t n v u w j f h f-ok p.1 b)
number_starts_once i t v j u w n (f ∷ h) f-ok (inr a) (inl q) = absurd (starts_anew u n w t v i f h f-ok q.1 a)
number_starts_once i t v j u w n (f ∷ h) f-ok (inr a) (inr b) = number_starts_once i t v j u w n h (tail_formed f h f-ok) a b
number_starts_once i t v j u w n [] f-ok m _ = elim m [ ]

pub same_number :
    (h : History) → well_formed h ≡ true → (x y : Enqueue) → Member (enq x) (calls h) → Member (enq y) (calls h)
    → x.number ≡ y.number → x ≡ y
same_number h w x y m n e =
    same_enq (same_start h w (enq x) (enq y) m n
    (number_starts_once _ _ _ _ _ _ _ h w
    (subst (λ k. At x.start (enqueue_started x.thread k x.value) h) e (enqueue_tells h w x m).started)
    (enqueue_tells h w y n).started))

-- One dequeue has ended before the next starts.
abbrev EndedBy : ℕ → Dequeue → Type 0
EndedBy j d = (d.end ≢ 0) × (d.end < j)

starts_next :
    (h : History) → well_formed (dequeue_started ∷ h) ≡ true → (d : Dequeue) → Member (deq d) (calls (dequeue_started ∷ h))
    → d.start < suc (length h) → EndedBy (suc (length h)) d
starts_next h w d m l =
    elim (in_snoc (deq d) (calls h) _ m) [
      | inl b ↦ (
        consumer_is_free (calls h) (head_follows dequeue_started h w) d b,
        let r =
            (dequeue_tells h (tail_formed dequeue_started h w) d b).within in omega arith,
      )
      | inr e ↦ absurd (let q = ap start_of e in omega arith)
    ]

answers_first :
    (k : ℕ) (a : Answer) (cs : List Call) (j : ℕ) (d : Dequeue)
    → ((b : Dequeue) → Member (deq b) cs → b.start < j → EndedBy j b) → Member (deq d) (map (end_dequeue k a) cs) → d.start < j
    → EndedBy j d
answers_first k a cs j d ih m l =
    elim (dequeue_in_answered k a cs d m) [
      | inl b ↦ ih d b.0 l
      | inr r ↦ absurd ((ih r.0 r.1 (let q = ap (λ (b : Dequeue). b.start) r.3 in omega arith)).0 r.2)
    ]

ended_by_next :
    (h : History) → well_formed h ≡ true → (d : Dequeue) → Member (deq d) (calls h) → (j : ℕ) → At j dequeue_started h
    → d.start < j → EndedBy j d
ended_by_next (f ∷ h) w d m j (inl p) l =
    rw p.0 (starts_next h (rw (← p.1) at w) d (rw (← p.1) at m) (rw p.0 at l))
ended_by_next (enqueue_started t n v ∷ h) w d m j (inr a) l =
    elim (in_snoc (deq d) (calls h) _ m) [
      | inl b ↦ ended_by_next h (tail_formed (enqueue_started t n v) h w) d b j a l
      | inr e ↦ absurd (enq_not_deq (sym e))
    ]
ended_by_next (enqueue_ended t n v ∷ h) w d m j (inr a) l =
    ended_by_next h (tail_formed (enqueue_ended t n v) h w) d (dequeue_in_ended t _ (calls h) d m) j a l
ended_by_next (dequeue_started ∷ h) w d m j (inr a) l =
    elim (in_snoc (deq d) (calls h) _ m) [
      | inl b ↦ ended_by_next h (tail_formed dequeue_started h w) d b j a l
      | inr e ↦ absurd (let q = ap start_of e in let b = at_most j _ h a in omega arith)
    ]
ended_by_next (gave_item n v ∷ h) w d m j (inr a) l =
    answers_first _ (item n v) (calls h) j d (λ b o s. ended_by_next h (tail_formed (gave_item n v) h w) b o j a s) m l
ended_by_next (gave_empty ∷ h) w d m j (inr a) l =
    answers_first _ empty (calls h) j d (λ b o s. ended_by_next h (tail_formed gave_empty h w) b o j a s) m l
ended_by_next [] w d m j _ l = elim m [ ]

pub one_at_a_time :
    (h : History) → well_formed h ≡ true → (d b : Dequeue) → Member (deq d) (calls h) → Member (deq b) (calls h)
    → d.start < b.start → (d.end ≢ 0) × (d.end < b.start)
one_at_a_time h w d b m n l = ended_by_next h w d m b.start (dequeue_tells h w b n).started l

-- No dequeue starts while another is under way.
pub none_meanwhile :
    (h : History) → well_formed h ≡ true → (d b : Dequeue) → Member (deq d) (calls h) → Member (deq b) (calls h)
    → b.start < d.end → b.start ≤ d.start
none_meanwhile h w d b m n l = go (dec_lt d.start b.start)
  where
    go : Dec (d.start < b.start) → b.start ≤ d.start
    go (yes p) = absurd (let r = one_at_a_time h w d b m n p in omega arith)
    go (no f) = omega arith

-- One enqueue ended before another started: so say the calls, and so the facts.
module _ (h : History) (w : well_formed h ≡ true) (x y : Enqueue) (m : Member (enq x) (calls h)) (n : Member (enq y) (calls h)) where
  pub precedes_ends : Precedes (enq x) (enq y) → EndedBefore x.number y.number h
  precedes_ends p = when_before _ _ _ _ _ _ _ _ h ((enqueue_tells h w x m).ended p.0) (enqueue_tells h w y n).started p.1

  pub ends_precedes : EndedBefore x.number y.number h → Precedes (enq x) (enq y)
  ends_precedes r =
      let b = before_when x.number y.number h r in
      let l = b.in_order in
      let first = enqueue_of_end b.first.time _ x.number _ h w b.first.there in
      let second = enqueue_of_start b.second.time _ y.number _ h b.second.there in
      let c = at_most _ _ h b.first.there in
      let e = first.2 in
      let i = ap (λ (z : Enqueue). z.end) (same_number h w first.0 x first.1 m first.3) in
      let j : b.second.time ≡ y.start = ap (λ (z : Enqueue). z.start) (same_number h w _ y second.1 n refl) in
      (λ z. omega arith, omega arith)
