-- A thread's calls are the calls of its own events, with the numbers of those events replaced by their places in the history. So
-- of every history, well-formed or not.
use Rattle.std.specs.Prelude.{◌≡◌, refl, ◌≢◌, Bool, true, false, ◌&&◌, cond, List, [], ◌∷◌, ◌++◌, map, ℕ, suc, ◌≤◌, eqb, length}
use Rattle.std.proofs.Common.{sym, ap, subst, ◌∙◌, arith, eqb-true, eq-eqb, ne_eqb}
use Rattle.std.proofs.Math.Decide.{ℕ_discrete}
use Rattle.std.proofs.lemmas.Bool.{eqb-false}
use Rattle.history.specs.Lists.{All}
use Rattle.history.specs.Event.{Event, History, enqueue_started, enqueue_ended, dequeue_started, gave_item, gave_empty}
use Rattle.history.specs.Calls.{Answer, item, empty, Call, enq, deq, start_of, end_of, end_enqueue, end_dequeue, enter, calls}
use Rattle.equivalence.specs.Threads.{thread_of, events_of, caller_of, calls_of}
use Rattle.equivalence.specs.Tests.{place}
use Rattle.equivalence.specs.Place.{own_event, other_event, place_last, place_of_other, place_stays, place_zero, place_there}

-- a call with its events' numbers replaced
abbrev pub moved : (ℕ → ℕ) → Call → Call
moved f (enq x) = enq (record { thread = x.thread; number = x.number; value = x.value; start = f x.start; end = f x.end })
moved f (deq d) = deq (record { start = f d.start; end = f d.end; answer = d.answer })

-- Numbers of events up to n.
abbrev Within : ℕ → Call → Type 0
Within n c = (start_of c ≤ n) × (end_of c ≤ n)

within_on : (n : ℕ) (cs : List Call) → All (Within n) cs → All (Within (suc n)) cs
within_on n [] p = tt
within_on n (c ∷ cs) p = (omega (arith, p.0), within_on n cs p.1)

within_last : (n : ℕ) (c : Call) (cs : List Call) → Within n c → All (Within n) cs → All (Within n) (cs ++ (c ∷ []))
within_last n c [] q p = (q, tt)
within_last n c (x ∷ cs) q p = (p.0, within_last n c cs q p.1)

within_map :
    (n : ℕ) (f : Call → Call) → ((c : Call) → Within n c → Within n (f c)) → (cs : List Call) → All (Within n) cs
    → All (Within n) (map f cs)
within_map n f g [] p = tt
within_map n f g (c ∷ cs) p = (g c p.0, within_map n f g cs p.1)

either_within : (n k i : ℕ) (b : Bool) → k ≤ n → i ≤ n → cond b k i ≤ n
either_within n k i true p q = p
either_within n k i false p q = q

end_within : (n t k : ℕ) → k ≤ n → (c : Call) → Within n c → Within n (end_enqueue t k c)
end_within n t k l (enq x) p = (p.0, either_within n k x.end (eqb x.thread t && eqb x.end 0) l p.1)
end_within n t k l (deq d) p = p

answer_within : (n k : ℕ) (a : Answer) → k ≤ n → (c : Call) → Within n c → Within n (end_dequeue k a c)
answer_within n k a l (enq x) p = p
answer_within n k a l (deq d) p = (p.0, either_within n k d.end (eqb d.end 0) l p.1)

pub within : (h : History) → All (λ c. (start_of c ≤ length h) × (end_of c ≤ length h)) (calls h)
within [] = tt
within (enqueue_started t n v ∷ h) = within_last _ _ (calls h) (omega arith) (within_on _ (calls h) (within h))
within (enqueue_ended t n v ∷ h) = within_map _ _ (end_within _ t (suc (length h)) (omega arith)) (calls h) (within_on _ (calls h) (within h))
within (dequeue_started ∷ h) = within_last _ _ (calls h) (omega arith) (within_on _ (calls h) (within h))
within (gave_item n v ∷ h) =
    within_map _ _ (answer_within _ (suc (length h)) (item n v) (omega arith)) (calls h) (within_on _ (calls h) (within h))
within (gave_empty ∷ h) = within_map _ _ (answer_within _ (suc (length h)) empty (omega arith)) (calls h) (within_on _ (calls h) (within h))

-- A thread's calls after one event. First a call more.
own_last : (t : ℕ) (c : Call) (cs : List Call) → caller_of c ≡ t → calls_of t (cs ++ (c ∷ [])) ≡ calls_of t cs ++ (c ∷ [])
own_last t c [] p = rw (eq-eqb (caller_of c) t p)
own_last t c (x ∷ cs) p = go (eqb (caller_of x) t) (own_last t c cs p)
  where
    go :
        (b : Bool) → calls_of t (cs ++ (c ∷ [])) ≡ calls_of t cs ++ (c ∷ [])
        → cond b (x ∷ calls_of t (cs ++ (c ∷ []))) (calls_of t (cs ++ (c ∷ []))) ≡ cond b (x ∷ calls_of t cs) (calls_of t cs) ++ (c ∷ [])
    go true ih = ap (λ l. x ∷ l) ih
    go false ih = ih

other_last : (t : ℕ) (c : Call) (cs : List Call) → caller_of c ≢ t → calls_of t (cs ++ (c ∷ [])) ≡ calls_of t cs
other_last t c [] f = rw (ne_eqb (caller_of c) t f)
other_last t c (x ∷ cs) f = rw (other_last t c cs f)

-- Then a change that leaves every call its thread.
own_map :
    (t : ℕ) (f : Call → Call) → ((c : Call) → caller_of (f c) ≡ caller_of c) → (cs : List Call)
    → calls_of t (map f cs) ≡ map f (calls_of t cs)
own_map t f e [] = refl
own_map t f e (c ∷ cs) = rw (e c) (go (eqb (caller_of c) t) (own_map t f e cs))
  where
    go :
        (b : Bool) → calls_of t (map f cs) ≡ map f (calls_of t cs)
        → cond b (f c ∷ calls_of t (map f cs)) (calls_of t (map f cs)) ≡ map f (cond b (c ∷ calls_of t cs) (calls_of t cs))
    go true ih = ap (λ l. f c ∷ l) ih
    go false ih = ih

-- and one that changes no call of the thread
other_map :
    (t : ℕ) (f : Call → Call) → ((c : Call) → caller_of (f c) ≡ caller_of c) → ((c : Call) → caller_of c ≡ t → f c ≡ c)
    → (cs : List Call) → calls_of t (map f cs) ≡ calls_of t cs
other_map t f e g [] = refl
other_map t f e g (c ∷ cs) = rw (e c) (go (eqb (caller_of c) t) refl (other_map t f e g cs))
  where
    go :
        (b : Bool) → eqb (caller_of c) t ≡ b → calls_of t (map f cs) ≡ calls_of t cs
        → cond b (f c ∷ calls_of t (map f cs)) (calls_of t (map f cs)) ≡ cond b (c ∷ calls_of t cs) (calls_of t cs)
    go true q ih = let s = g c (eqb-true _ _ q) in cc
    go false q ih = ih

end_caller : (t k : ℕ) (c : Call) → caller_of (end_enqueue t k c) ≡ caller_of c
end_caller t k (enq x) = refl
end_caller t k (deq d) = refl

answer_caller : (k : ℕ) (a : Answer) (c : Call) → caller_of (end_dequeue k a c) ≡ caller_of c
answer_caller k a (enq x) = refl
answer_caller k a (deq d) = refl

ends_no_other : (u k t : ℕ) → u ≢ t → (c : Call) → caller_of c ≡ t → end_enqueue u k c ≡ c
ends_no_other u k t f (enq x) p = rw (ne_eqb x.thread u (λ e. f (sym e ∙ p)))
ends_no_other u k t f (deq d) p = refl

answers_no_other : (k : ℕ) (a : Answer) (t : ℕ) → 0 ≢ t → (c : Call) → caller_of c ≡ t → end_dequeue k a c ≡ c
answers_no_other k a t f (enq x) p = refl
answers_no_other k a t f (deq d) p = absurd (f p)

own_enter : (k : ℕ) (e : Event) (cs : List Call) → calls_of (thread_of e) (enter k e cs) ≡ enter k e (calls_of (thread_of e) cs)
own_enter k (enqueue_started t n v) cs = own_last t _ cs refl
own_enter k (enqueue_ended t n v) cs = own_map t (end_enqueue t k) (end_caller t k) cs
own_enter k dequeue_started cs = own_last 0 _ cs refl
own_enter k (gave_item n v) cs = own_map 0 (end_dequeue k (item n v)) (answer_caller k (item n v)) cs
own_enter k gave_empty cs = own_map 0 (end_dequeue k empty) (answer_caller k empty) cs

other_enter : (t k : ℕ) (e : Event) (cs : List Call) → thread_of e ≢ t → calls_of t (enter k e cs) ≡ calls_of t cs
other_enter t k (enqueue_started u n v) cs f = other_last t _ cs f
other_enter t k (enqueue_ended u n v) cs f = other_map t (end_enqueue u k) (end_caller u k) (ends_no_other u k t f) cs
other_enter t k dequeue_started cs f = other_last t _ cs f
other_enter t k (gave_item n v) cs f =
    other_map t (end_dequeue k (item n v)) (answer_caller k (item n v)) (answers_no_other k (item n v) t f) cs
other_enter t k gave_empty cs f = other_map t (end_dequeue k empty) (answer_caller k empty) (answers_no_other k empty t f) cs

-- Numbers replaced before an event, and after it: the event's number j becomes k, and up to n 0 alone becomes 0.
module _ (f : ℕ → ℕ) (n j k : ℕ) (becomes : f j ≡ k) (none : f 0 ≡ 0) (some : (i : ℕ) → i ≢ 0 → i ≤ n → f i ≢ 0) where
  same_test : (i : ℕ) → i ≤ n → eqb (f i) 0 ≡ eqb i 0
  same_test i l = go (eqb i 0) refl
    where
      go : (b : Bool) → eqb i 0 ≡ b → eqb (f i) 0 ≡ b
      go true q = eq-eqb (f i) 0 (ap f (eqb-true i 0 q) ∙ none)
      go false q = ne_eqb (f i) 0 (some i (eqb-false i 0 q) l)

  moved_end : (t : ℕ) (c : Call) → Within n c → end_enqueue t k (moved f c) ≡ moved f (end_enqueue t j c)
  moved_end t (enq x) p = rw (same_test x.end p.1) (go (eqb x.thread t && eqb x.end 0))
    where
      go :
          (b : Bool)
          → enq (record { thread = x.thread; number = x.number; value = x.value; start = f x.start; end = cond b k (f x.end) })
          ≡ enq (record { thread = x.thread; number = x.number; value = x.value; start = f x.start; end = f (cond b j x.end) })
      go true = rw becomes
      go false = refl
  moved_end t (deq d) p = refl

  moved_answer : (a : Answer) (c : Call) → Within n c → end_dequeue k a (moved f c) ≡ moved f (end_dequeue j a c)
  moved_answer a (enq x) p = refl
  moved_answer a (deq d) p = rw (same_test d.end p.1) (go (eqb d.end 0))
    where
      go :
          (b : Bool)
          → deq (record { start = f d.start; end = cond b k (f d.end); answer = cond b a d.answer })
          ≡ deq (record { start = f d.start; end = f (cond b j d.end); answer = cond b a d.answer })
      go true = rw becomes
      go false = refl

  moved_all :
      (g g' : Call → Call) → ((c : Call) → Within n c → g (moved f c) ≡ moved f (g' c)) → (cs : List Call) → All (Within n) cs
      → map g (map (moved f) cs) ≡ map (moved f) (map g' cs)
  moved_all g g' e [] p = refl
  moved_all g g' e (c ∷ cs) p = let q = e c p.0 in let r = moved_all g g' e cs p.1 in cc

  moved_last : (c d : Call) → d ≡ moved f c → (cs : List Call) → map (moved f) cs ++ (d ∷ []) ≡ map (moved f) (cs ++ (c ∷ []))
  moved_last c d e [] = rw e
  moved_last c d e (x ∷ cs) = ap (λ l. moved f x ∷ l) (moved_last c d e cs)

  moved_enter : (e : Event) (cs : List Call) → All (Within n) cs → enter k e (map (moved f) cs) ≡ map (moved f) (enter j e cs)
  moved_enter (enqueue_started t m v) cs p = moved_last _ _ (rw (becomes, none)) cs
  moved_enter (enqueue_ended t m v) cs p = moved_all (end_enqueue t k) (end_enqueue t j) (moved_end t) cs p
  moved_enter dequeue_started cs p = moved_last _ _ (rw (becomes, none)) cs
  moved_enter (gave_item m v) cs p = moved_all (end_dequeue k (item m v)) (end_dequeue j (item m v)) (moved_answer (item m v)) cs p
  moved_enter gave_empty cs p = moved_all (end_dequeue k empty) (end_dequeue j empty) (moved_answer empty) cs p

-- What two replacements agree on.
moved_alike :
    (f g : ℕ → ℕ) (n : ℕ) → ((i : ℕ) → i ≤ n → f i ≡ g i) → (cs : List Call) → All (Within n) cs
    → map (moved f) cs ≡ map (moved g) cs
moved_alike f g n e [] p = refl
moved_alike f g n e (enq x ∷ cs) p =
    let a = e x.start p.0.0 in let b = e x.end p.0.1 in let r = moved_alike f g n e cs p.1 in cc
moved_alike f g n e (deq d ∷ cs) p =
    let a = e d.start p.0.0 in let b = e d.end p.0.1 in let r = moved_alike f g n e cs p.1 in cc

-- A thread's calls are those of its own events, each number replaced by its place.
abbrev Owned : History → ℕ → Type 0
Owned h t = calls_of t (calls h) ≡ map (moved (place h t)) (calls (events_of t h))

own_step : (e : Event) (h : History) (t : ℕ) → thread_of e ≡ t → Owned h t → Owned (e ∷ h) t
own_step e h t p ih =
    let k = suc (length h) in
    let own = events_of t h in
    let now = place (e ∷ h) t in
    let entered : calls_of t (calls (e ∷ h)) ≡ enter k e (calls_of t (calls h)) =
    subst (λ u. calls_of u (enter k e (calls h)) ≡ enter k e (calls_of u (calls h))) p (own_enter k e (calls h)) in
    let before = moved_alike (place h t) now (length own) (λ i l. sym (place_stays e h t i (omega arith))) (calls own) (within own) in
    let there : (i : ℕ) → i ≢ 0 → i ≤ length own → now i ≢ 0 = λ i z l. place_there (e ∷ h) t i z
    (let n = ap length (own_event e h t p) in omega arith) in
    let after =
    moved_enter now (length own) (suc (length own)) k (place_last e h t p) (place_zero (e ∷ h) t) there e (calls own) (within own) in
    entered ∙ ap (enter k e) (ih ∙ before) ∙ after ∙ ap (λ l. map (moved now) (calls l)) (sym (own_event e h t p))

other_step : (e : Event) (h : History) (t : ℕ) → thread_of e ≢ t → Owned h t → Owned (e ∷ h) t
other_step e h t f ih =
    let own = events_of t h in
    let now = place (e ∷ h) t in
    let before = moved_alike (place h t) now (length own) (λ i l. sym (place_of_other e h t i f)) (calls own) (within own) in
    other_enter t _ e (calls h) f ∙ ih ∙ before ∙ ap (λ l. map (moved now) (calls l)) (sym (other_event e h t f))

pub own_calls : (h : History) (t : ℕ) → calls_of t (calls h) ≡ map (moved (place h t)) (calls (events_of t h))
own_calls [] t = refl
own_calls (e ∷ h) t = elim (ℕ_discrete (thread_of e) t) [ yes p ↦ own_step e h t p (own_calls h t) | no f ↦ other_step e h t f (own_calls h t) ]
