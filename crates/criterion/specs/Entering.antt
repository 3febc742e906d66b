-- How the calls change with one event: which call of the longer history each call of the shorter one becomes, and where each
-- call of the longer one comes from. By the clauses of `enter`.
use Rattle.std.specs.Prelude.{◌≡◌, refl, ◌⊎◌, ◌≢◌, Bool, true, false, cond, List, ◌∷◌, map, ℕ, suc, eqb, length}
use Rattle.std.proofs.Common.{sym, ◌∙◌, inl, inr, true≢false, arith, eqb-true, eq-eqb, ne_eqb}
use Rattle.std.proofs.Math.Bool.{and-eq-true_iff}
use Rattle.std.proofs.lemmas.Bool.{eqb-false}
use Rattle.history.specs.Lists.{Member}
use Rattle.history.specs.Event.{Event, History, enqueue_started, enqueue_ended, dequeue_started, gave_item, gave_empty}
use Rattle.history.specs.Calls.{Answer, nothing, item, empty, Enqueue, Dequeue, Call, enq, deq, end_of, end_enqueue, end_dequeue, calls}
use Rattle.history.specs.Form.{enqueues}
use Rattle.criterion.specs.Following.{is_busy, is_idle}
use Rattle.criterion.specs.Members.{in_left, in_map, from_map}

-- an enqueue that event k started, or ended
abbrev pub opened : (t n v k : ℕ) → Enqueue
opened t n v k = record { thread = t; number = n; value = v; start = k; end = 0 }

abbrev pub closed : ℕ → Enqueue → Enqueue
closed k x = record { thread = x.thread; number = x.number; value = x.value; start = x.start; end = k }

-- a dequeue that event k started, or ended
abbrev pub asked : ℕ → Dequeue
asked k = record { start = k; end = 0; answer = nothing }

abbrev pub answered : ℕ → Answer → Dequeue → Dequeue
answered k a d = record { start = d.start; end = k; answer = a }

pub same_enq : {x y : Enqueue} → enq x ≡ enq y → x ≡ y
same_enq e = cc

pub same_deq : {x y : Dequeue} → deq x ≡ deq y → x ≡ y
same_deq e = cc

pub enq_not_deq : {x : Enqueue} {d : Dequeue} → enq x ≡ deq d → ⊥
enq_not_deq e = let z : ◌≡◌ {A = ℕ} 0 1 = cc in omega arith

-- the test of an enqueue's end, as its record shows it
ends_enqueue : (t k : ℕ) (x : Enqueue) (b : Bool) → enqueues t (enq x) ≡ b → end_enqueue t k (enq x) ≡ enq (cond b (closed k x) x)
ends_enqueue t k x true e = rw e
ends_enqueue t k x false e = rw e

ends_dequeue : (k : ℕ) (a : Answer) (d : Dequeue) (b : Bool) → eqb d.end 0 ≡ b → end_dequeue k a (deq d) ≡ deq (cond b (answered k a d) d)
ends_dequeue k a d true e = rw e
ends_dequeue k a d false e = rw e

-- An enqueue after thread t's has ended at event k: another, as it was, or that one.
abbrev pub Ends : (t k : ℕ) → List Call → Enqueue → Type 0
Ends t k cs x =
    (Member (enq x) cs × (x.thread ≡ t → x.end ≢ 0))
    ⊎ ((y : Enqueue) × Member (enq y) cs × (y.thread ≡ t) × (y.end ≡ 0) × (x ≡ closed k y))

-- A dequeue after the one under way has ended at event k with answer a: another, as it was, or that one.
abbrev pub Answers : (k : ℕ) → Answer → List Call → Dequeue → Type 0
Answers k a cs d = (Member (deq d) cs × (d.end ≢ 0)) ⊎ ((b : Dequeue) × Member (deq b) cs × (b.end ≡ 0) × (d ≡ answered k a b))

module _ (t k : ℕ) (cs : List Call) where
  pub enqueue_in_ended : (x : Enqueue) → Member (enq x) (map (end_enqueue t k) cs) → Ends t k cs x
  enqueue_in_ended x m = let r = from_map (end_enqueue t k) (enq x) cs m in at r.0 r.1 r.2
    where
      test : (y : Enqueue) → Member (enq y) cs → (b : Bool) → enqueues t (enq y) ≡ b → x ≡ cond b (closed k y) y → Ends t k cs x
      test y l true q e = let both = (and-eq-true_iff _ _).0 q in inr (y, l, eqb-true _ _ both.0, eqb-true _ _ both.1, e)
      test y l false q e = inl (rw e l, λ p z. true≢false (sym (is_busy t y (cc) (cc)) ∙ q))

      at : (c : Call) → Member c cs → enq x ≡ end_enqueue t k c → Ends t k cs x
      at (enq y) l e = test y l (enqueues t (enq y)) refl (same_enq (rw (← ends_enqueue t k y _ refl) e))
      at (deq d) l e = absurd (enq_not_deq e)

  pub dequeue_in_ended : (d : Dequeue) → Member (deq d) (map (end_enqueue t k) cs) → Member (deq d) cs
  dequeue_in_ended d m = let r = from_map (end_enqueue t k) (deq d) cs m in at r.0 r.1 r.2
    where
      at : (c : Call) → Member c cs → deq d ≡ end_enqueue t k c → Member (deq d) cs
      at (enq y) l e = absurd (enq_not_deq (sym e))
      at (deq b) l e = rw e l

  pub enqueue_ends : (x : Enqueue) → Member (enq x) cs → x.thread ≡ t → x.end ≡ 0 → Member (enq (closed k x)) (map (end_enqueue t k) cs)
  enqueue_ends x m p q = rw (ends_enqueue t k x true (is_busy t x p q)) at (in_map (end_enqueue t k) (enq x) cs m)

  pub enqueue_stays : (x : Enqueue) → Member (enq x) cs → (x.thread ≡ t → x.end ≢ 0) → Member (enq x) (map (end_enqueue t k) cs)
  enqueue_stays x m f = rw (ends_enqueue t k x false (is_idle t x f)) at (in_map (end_enqueue t k) (enq x) cs m)

module _ (k : ℕ) (a : Answer) (cs : List Call) where
  pub dequeue_in_answered : (d : Dequeue) → Member (deq d) (map (end_dequeue k a) cs) → Answers k a cs d
  dequeue_in_answered d m = let r = from_map (end_dequeue k a) (deq d) cs m in at r.0 r.1 r.2
    where
      test : (b : Dequeue) → Member (deq b) cs → (t : Bool) → eqb b.end 0 ≡ t → d ≡ cond t (answered k a b) b → Answers k a cs d
      test b l true q e = inr (b, l, eqb-true _ _ q, e)
      test b l false q e = inl (rw e l, λ z. eqb-false b.end 0 q (cc))

      at : (c : Call) → Member c cs → deq d ≡ end_dequeue k a c → Answers k a cs d
      at (enq y) l e = absurd (enq_not_deq (sym e))
      at (deq b) l e = test b l (eqb b.end 0) refl (same_deq (rw (← ends_dequeue k a b _ refl) e))

  pub enqueue_in_answered : (x : Enqueue) → Member (enq x) (map (end_dequeue k a) cs) → Member (enq x) cs
  enqueue_in_answered x m = let r = from_map (end_dequeue k a) (enq x) cs m in at r.0 r.1 r.2
    where
      at : (c : Call) → Member c cs → enq x ≡ end_dequeue k a c → Member (enq x) cs
      at (enq y) l e = rw e l
      at (deq b) l e = absurd (enq_not_deq e)

  pub dequeue_ends : (d : Dequeue) → Member (deq d) cs → d.end ≡ 0 → Member (deq (answered k a d)) (map (end_dequeue k a) cs)
  dequeue_ends d m q = rw (ends_dequeue k a d true (eq-eqb _ _ q)) at (in_map (end_dequeue k a) (deq d) cs m)

  pub dequeue_stays : (d : Dequeue) → Member (deq d) cs → d.end ≢ 0 → Member (deq d) (map (end_dequeue k a) cs)
  dequeue_stays d m f = rw (ends_dequeue k a d false (ne_eqb _ _ f)) at (in_map (end_dequeue k a) (deq d) cs m)

-- A call that has ended stays as it is.
pub ended_stays : (e : Event) (h : History) (c : Call) → Member c (calls h) → end_of c ≢ 0 → Member c (calls (e ∷ h))
ended_stays (enqueue_started t n v) h c m z = in_left c (calls h) _ m
ended_stays (enqueue_ended t n v) h (enq x) m z = enqueue_stays t _ (calls h) x m (λ p. z)
ended_stays (enqueue_ended t n v) h (deq d) m z = in_map (end_enqueue t (suc (length h))) (deq d) (calls h) m
ended_stays dequeue_started h c m z = in_left c (calls h) _ m
ended_stays (gave_item n v) h (enq x) m z = in_map (end_dequeue (suc (length h)) (item n v)) (enq x) (calls h) m
ended_stays (gave_item n v) h (deq d) m z = dequeue_stays _ (item n v) (calls h) d m z
ended_stays gave_empty h (enq x) m z = in_map (end_dequeue (suc (length h)) empty) (enq x) (calls h) m
ended_stays gave_empty h (deq d) m z = dequeue_stays _ empty (calls h) d m z

-- An enqueue changes at most its end.
pub enqueue_goes_on :
    (e : Event) (h : History) (x : Enqueue) → Member (enq x) (calls h) → (k : ℕ) × Member (enq (closed k x)) (calls (e ∷ h))
enqueue_goes_on (enqueue_started t n v) h x m = (x.end, in_left (enq x) (calls h) _ m)
enqueue_goes_on (enqueue_ended t n v) h x m = (_, in_map (end_enqueue t (suc (length h))) (enq x) (calls h) m)
enqueue_goes_on dequeue_started h x m = (x.end, in_left (enq x) (calls h) _ m)
enqueue_goes_on (gave_item n v) h x m = (x.end, in_map (end_dequeue (suc (length h)) (item n v)) (enq x) (calls h) m)
enqueue_goes_on gave_empty h x m = (x.end, in_map (end_dequeue (suc (length h)) empty) (enq x) (calls h) m)

-- A dequeue changes at most its end and its answer.
pub dequeue_goes_on :
    (e : Event) (h : History) (d : Dequeue) → Member (deq d) (calls h)
    → (k : ℕ) × (a : Answer) × Member (deq (answered k a d)) (calls (e ∷ h))
dequeue_goes_on (enqueue_started t n v) h d m = (d.end, d.answer, in_left (deq d) (calls h) _ m)
dequeue_goes_on (enqueue_ended t n v) h d m = (d.end, d.answer, in_map (end_enqueue t (suc (length h))) (deq d) (calls h) m)
dequeue_goes_on dequeue_started h d m = (d.end, d.answer, in_left (deq d) (calls h) _ m)
dequeue_goes_on (gave_item n v) h d m = (_, _, in_map (end_dequeue (suc (length h)) (item n v)) (deq d) (calls h) m)
dequeue_goes_on gave_empty h d m = (_, _, in_map (end_dequeue (suc (length h)) empty) (deq d) (calls h) m)
