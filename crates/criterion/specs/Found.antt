-- What the order is made of: the answered dequeues of some calls, and the enqueues that are looked up by number.
use Rattle.std.specs.Prelude.{◌≡◌, refl, ◌≢◌, Bool, true, false, cond, List, [], ◌∷◌, ℕ, eqb}
use Rattle.std.proofs.Common.{sym, ap, subst, subst₂, ◌∙◌, inl, inr, eqb-true}
use Rattle.std.proofs.lemmas.Bool.{eqb-false}
use Rattle.history.specs.Lists.{Pairwise, Member}
use Rattle.history.specs.Calls.{Answer, nothing, item, empty, Enqueue, Dequeue, Call, enq, deq}
use Rattle.criterion.specs.Parts.{if_answered, dequeue_of, dequeues_of, look}
use Rattle.criterion.specs.Members.{in_gather, from_gather, pairwise_gather}
use Rattle.criterion.specs.Entering.{same_enq, enq_not_deq}
use Rattle.criterion.specs.Order.{look_answer, taken}
use Rattle.criterion.specs.Orderly.{item_not_nothing, empty_not_nothing}

-- the answered dequeues
is_answered : (a : Answer) (d b : Dequeue) → Member b (if_answered a d) → (b ≡ d) × (a ≢ nothing)
is_answered (item n v) d b (inl e) = (e, item_not_nothing)
is_answered empty d b (inl e) = (e, empty_not_nothing)
is_answered nothing d b m = elim m [ ]
is_answered (item n v) d b (inr m) = elim m [ ]
is_answered empty d b (inr m) = elim m [ ]

answered_is : (a : Answer) (d : Dequeue) → a ≢ nothing → Member d (if_answered a d)
answered_is nothing d f = absurd (f refl)
answered_is (item n v) d f = inl refl
answered_is empty d f = inl refl

is_dequeue : (c : Call) (d : Dequeue) → Member d (dequeue_of c) → (c ≡ deq d) × (d.answer ≢ nothing)
is_dequeue (deq b) d m =
    let r = is_answered b.answer b d m in
    (ap deq (sym r.0), λ q. r.1 (ap (λ (z : Dequeue). z.answer) (sym r.0) ∙ q))
is_dequeue (enq _) d m = elim m [ ]

pub of_calls : (cs : List Call) (d : Dequeue) → Member d (dequeues_of cs) → Member (deq d) cs × (d.answer ≢ nothing)
of_calls cs d m =
    let r = from_gather dequeue_of d cs m in
    let e = is_dequeue r.0 d r.2 in
    (subst (λ c. Member c cs) e.0 r.1, e.1)

pub answered_in : (cs : List Call) (d : Dequeue) → Member (deq d) cs → d.answer ≢ nothing → Member d (dequeues_of cs)
answered_in cs d m f = in_gather dequeue_of (deq d) d cs m (answered_is d.answer d f)

pub pairwise_dequeues : (R : Call → Call → Type 0) (cs : List Call) → Pairwise R cs → Pairwise (λ d b. R (deq d) (deq b)) (dequeues_of cs)
pairwise_dequeues R cs p =
    pairwise_gather R (λ d b. R (deq d) (deq b)) dequeue_of cs p alone
    (λ a c b d r m n. subst₂ R (is_dequeue a b m).0 (is_dequeue c d n).0 r)
  where
    of-answer : (a : Answer) (d : Dequeue) → Pairwise (λ d b. R (deq d) (deq b)) (if_answered a d)
    of-answer nothing d = tt
    of-answer (item n v) d = (tt, tt)
    of-answer empty d = (tt, tt)

    alone : (c : Call) → Pairwise (λ d b. R (deq d) (deq b)) (dequeue_of c)
    alone (enq x) = tt
    alone (deq d) = of-answer d.answer d

-- the enqueue with a number
pub look_finds :
    (n : ℕ) (x : Enqueue) (cs : List Call) → Member (enq x) cs → x.number ≡ n
    → ((y : Enqueue) → Member (enq y) cs → y.number ≡ n → y ≡ x) → look n cs ≡ x ∷ []
look_finds n x (enq y ∷ cs) m e u = go (eqb y.number n) refl m (look_finds n x cs)
  where
    go :
        (b : Bool) → eqb y.number n ≡ b → Member (enq x) (enq y ∷ cs)
        → (Member (enq x) cs → x.number ≡ n → ((z : Enqueue) → Member (enq z) cs → z.number ≡ n → z ≡ x) → look n cs ≡ x ∷ [])
        → cond b (y ∷ []) (look n cs) ≡ x ∷ []
    go true q m ih = ap (λ z. z ∷ []) (u y (inl refl) (eqb-true _ _ q))
    go false q (inl p) ih = absurd (eqb-false _ _ q (ap (λ (z : Enqueue). z.number) (sym (same_enq p)) ∙ e))
    go false q (inr m) ih = ih m e (λ z k. u z (inr k))
look_finds n x (deq d ∷ cs) (inl p) e u = absurd (enq_not_deq p)
look_finds n x (deq d ∷ cs) (inr m) e u = look_finds n x cs m e (λ y k. u y (inr k))
look_finds n x [] m e u = elim m [ ]

pub look_is : (n : ℕ) (y : Enqueue) (cs : List Call) → Member y (look n cs) → Member (enq y) cs × (y.number ≡ n)
look_is n y (enq x ∷ cs) m = go (eqb x.number n) refl m (look_is n y cs)
  where
    go :
        (b : Bool) → eqb x.number n ≡ b → Member y (cond b (x ∷ []) (look n cs))
        → (Member y (look n cs) → Member (enq y) cs × (y.number ≡ n)) → Member (enq y) (enq x ∷ cs) × (y.number ≡ n)
    go true q (inl e) ih = (inl (ap enq e), ap (λ (z : Enqueue). z.number) e ∙ eqb-true _ _ q)
    go false q m ih = let r = ih m in (inr r.0, r.1)
    go true q (inr m) ih = elim m [ ]
look_is n y (deq d ∷ cs) m = let r = look_is n y cs m in (inr r.0, r.1)
look_is n y [] m = elim m [ ]

-- the enqueues that the dequeues take
pub record TakenBy (cs : List Call) (ds : List Dequeue) (y : Enqueue) : Type 0 where
  pub by : Dequeue
  pub value : ℕ
  pub among : Member by ds
  pub gives : by.answer ≡ item y.number value
  pub member : Member (enq y) cs

pub taken_by : (cs : List Call) (ds : List Dequeue) (y : Enqueue) → Member y (taken cs ds) → TakenBy cs ds y
taken_by cs ds y m = let r = from_gather (λ d. look_answer cs d.answer) y ds m in at r.0 r.1 r.0.answer refl r.2
  where
    at : (d : Dequeue) → Member d ds → (a : Answer) → d.answer ≡ a → Member y (look_answer cs a) → TakenBy cs ds y
    at d k (item n v) e l =
        let r = look_is n y cs l in
        record { by = d; value = v; among = k; gives = e ∙ ap (λ i. item i v) (sym r.1); member = r.0 }
    at d k nothing e l = elim l [ ]
    at d k empty e l = elim l [ ]

pub taken_has :
    (cs : List Call) (ds : List Dequeue) (d : Dequeue) (n v : ℕ) (x : Enqueue) → Member d ds → d.answer ≡ item n v
    → look n cs ≡ x ∷ [] → Member x (taken cs ds)
taken_has cs ds d n v x m e l = in_gather (λ d. look_answer cs d.answer) d x ds m (rw (e, l) (inl refl))
