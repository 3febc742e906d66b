-- What it says of the calls of a history that an event follows them, read off the Boolean tests of `follows`, and the other
-- way round.
use Rattle.std.specs.Prelude.{◌≡◌, refl, ◌≢◌, Bool, true, false, ◌&&◌, ◌||◌, not, List, [], ◌∷◌, ℕ, eqb}
use Rattle.std.proofs.Common.{sym, ◌∙◌, inl, inr, true≢false, eqb-true, eq-eqb, ne_eqb}
use Rattle.std.proofs.Math.Bool.{and-eq-true_iff}
use Rattle.std.proofs.lemmas.Bool.{false≢true, eqb-false, not-true}
use Rattle.history.specs.Lists.{Member}
use Rattle.history.specs.Event.{Event, History, enqueue_started, enqueue_ended, dequeue_started}
use Rattle.history.specs.Calls.{Enqueue, Dequeue, Call, enq, deq, calls}
use Rattle.history.specs.Form.{any, enqueues, enqueues_item, dequeues, has_number, follows, well_formed}

pub or_right : (a b : Bool) → b ≡ true → (a || b) ≡ true
or_right true b e = refl
or_right false b e = e

-- a test that some call passes, and one that none does
pub any_of : (p : Call → Bool) (cs : List Call) (c : Call) → Member c cs → p c ≡ true → any p cs ≡ true
any_of p (b ∷ cs) c (inl e) q = rw (← e, q)
any_of p (b ∷ cs) c (inr m) q = or_right (p b) (any p cs) (any_of p cs c m q)
any_of p [] c m q = elim m [ ]

pub any_at : (p : Call → Bool) (cs : List Call) → any p cs ≡ true → (c : Call) × Member c cs × (p c ≡ true)
any_at p [] e = absurd (false≢true e)
any_at p (b ∷ cs) e = go (p b) refl (any_at p cs)
  where
    go :
        (t : Bool) → p b ≡ t → (any p cs ≡ true → (c : Call) × Member c cs × (p c ≡ true))
        → (c : Call) × Member c (b ∷ cs) × (p c ≡ true)
    go true q r = (b, inl refl, q)
    go false q r = let s = r (rw q at e) in (s.0, inr s.1, s.2)

pub none_of : (p : Call → Bool) (cs : List Call) → ((c : Call) → Member c cs → p c ≡ false) → any p cs ≡ false
none_of p [] f = refl
none_of p (b ∷ cs) f = rw (f b (inl refl)) (none_of p cs (λ c m. f c (inr m)))

pub none_at : (p : Call → Bool) (cs : List Call) → any p cs ≡ false → (c : Call) → Member c cs → p c ≡ false
none_at p cs e c m = go (p c) refl
  where
    go : (b : Bool) → p c ≡ b → b ≡ false
    go true q = absurd (true≢false (sym (any_of p cs c m q) ∙ e))
    go false q = refl

pub head_follows : (e : Event) (h : History) → well_formed (e ∷ h) ≡ true → follows e (calls h) ≡ true
head_follows e h w = ((and-eq-true_iff (follows e (calls h)) (well_formed h)).0 w).0

pub tail_formed : (e : Event) (h : History) → well_formed (e ∷ h) ≡ true → well_formed h ≡ true
tail_formed e h w = ((and-eq-true_iff (follows e (calls h)) (well_formed h)).0 w).1

pub grows : (e : Event) (h : History) → follows e (calls h) ≡ true → well_formed h ≡ true → well_formed (e ∷ h) ≡ true
grows e h f w = (and-eq-true_iff (follows e (calls h)) (well_formed h)).1 (f, w)

-- The tests of a thread, of an item and of a number, as a call passes them.
pub is_busy : (t : ℕ) (x : Enqueue) → x.thread ≡ t → x.end ≡ 0 → enqueues t (enq x) ≡ true
is_busy t x p q = (and-eq-true_iff _ _).1 (eq-eqb x.thread t p, eq-eqb x.end 0 q)

pub is_idle : (t : ℕ) (x : Enqueue) → (x.thread ≡ t → x.end ≢ 0) → enqueues t (enq x) ≡ false
is_idle t x f = go (enqueues t (enq x)) refl
  where
    go : (b : Bool) → enqueues t (enq x) ≡ b → b ≡ false
    go true q = let both = (and-eq-true_iff _ _).0 q in absurd (f (eqb-true _ _ both.0) (eqb-true _ _ both.1))
    go false q = refl

module _ (t n v : ℕ) (cs : List Call) where
  both_tests : follows (enqueue_started t n v) cs ≡ true → (any (enqueues t) cs ≡ false) × (any (has_number n) cs ≡ false)
  both_tests f =
      let r = (and-eq-true_iff (not (any (enqueues t) cs)) (not (any (has_number n) cs))).0 f in
      (not-true _ r.0, not-true _ r.1)

  pub thread_is_free : follows (enqueue_started t n v) cs ≡ true → (x : Enqueue) → Member (enq x) cs → x.thread ≡ t → x.end ≢ 0
  thread_is_free f x m p q = true≢false (sym (is_busy t x p q) ∙ none_at (enqueues t) cs (both_tests f).0 (enq x) m)

  pub number_is_new : follows (enqueue_started t n v) cs ≡ true → (x : Enqueue) → Member (enq x) cs → x.number ≢ n
  number_is_new f x m p = true≢false (sym (eq-eqb x.number n p) ∙ none_at (has_number n) cs (both_tests f).1 (enq x) m)

  pub may_start :
      ((x : Enqueue) → Member (enq x) cs → x.thread ≡ t → x.end ≢ 0) → ((x : Enqueue) → Member (enq x) cs → x.number ≢ n)
      → follows (enqueue_started t n v) cs ≡ true
  may_start f g = rw (none_of (enqueues t) cs idle, none_of (has_number n) cs new)
    where
      idle : (c : Call) → Member c cs → enqueues t c ≡ false
      idle (enq x) m = is_idle t x (f x m)
      idle (deq d) m = refl

      new : (c : Call) → Member c cs → has_number n c ≡ false
      new (enq x) m = ne_eqb _ _ (g x m)
      new (deq d) m = refl

  pub has_its_start :
      follows (enqueue_ended t n v) cs ≡ true
      → (x : Enqueue) × Member (enq x) cs × (x.thread ≡ t) × (x.end ≡ 0) × (x.number ≡ n) × (x.value ≡ v)
  has_its_start f = let r = any_at (enqueues_item t n v) cs f in at r.0 r.1 r.2
    where
      at :
          (c : Call) → Member c cs → enqueues_item t n v c ≡ true
          → (x : Enqueue) × Member (enq x) cs × (x.thread ≡ t) × (x.end ≡ 0) × (x.number ≡ n) × (x.value ≡ v)
      at (enq x) m e =
          let a = (and-eq-true_iff (eqb x.thread t && eqb x.end 0 && eqb x.number n) (eqb x.value v)).0 e in
          let b = (and-eq-true_iff (eqb x.thread t && eqb x.end 0) (eqb x.number n)).0 a.0 in
          let c = (and-eq-true_iff (eqb x.thread t) (eqb x.end 0)).0 b.0 in
          (x, m, eqb-true _ _ c.0, eqb-true _ _ c.1, eqb-true _ _ b.1, eqb-true _ _ a.1)
      at (deq d) m e = absurd (false≢true e)

  pub may_end :
      (x : Enqueue) → Member (enq x) cs → x.thread ≡ t → x.end ≡ 0 → x.number ≡ n → x.value ≡ v
      → follows (enqueue_ended t n v) cs ≡ true
  may_end x m p q r s = any_of (enqueues_item t n v) cs (enq x) m (rw (eq-eqb _ _ p, eq-eqb _ _ q, eq-eqb _ _ r, eq-eqb _ _ s))

module _ (cs : List Call) where
  pub consumer_is_free : follows dequeue_started cs ≡ true → (d : Dequeue) → Member (deq d) cs → d.end ≢ 0
  consumer_is_free f d m = eqb-false _ _ (none_at dequeues cs (not-true _ f) (deq d) m)

  pub may_dequeue : ((d : Dequeue) → Member (deq d) cs → d.end ≢ 0) → follows dequeue_started cs ≡ true
  may_dequeue f = rw (none_of dequeues cs idle)
    where
      idle : (c : Call) → Member c cs → dequeues c ≡ false
      idle (enq x) m = refl
      idle (deq d) m = ne_eqb _ _ (f d m)

  pub has_its_dequeue : any dequeues cs ≡ true → (d : Dequeue) × Member (deq d) cs × (d.end ≡ 0)
  has_its_dequeue f = let r = any_at dequeues cs f in at r.0 r.1 r.2
    where
      at : (c : Call) → Member c cs → dequeues c ≡ true → (d : Dequeue) × Member (deq d) cs × (d.end ≡ 0)
      at (enq x) m e = absurd (false≢true e)
      at (deq d) m e = (d, m, eqb-true _ _ e)

  pub may_answer : (d : Dequeue) → Member (deq d) cs → d.end ≡ 0 → any dequeues cs ≡ true
  may_answer d m e = any_of dequeues cs (deq d) m (eq-eqb _ _ e)
