-- A call of a history, by its thread and its rank on it: starts rise along a thread's calls, so as many of them started before a
-- call as its rank says.
use Rattle.std.specs.Prelude.{◌≡◌, refl, Bool, true, false, cond, List, [], ◌∷◌, ℕ, zero, suc, ◌<◌, eqb, length, get_or}
use Rattle.std.proofs.Common.{sym, ap, subst, ◌∙◌, inl, inr, arith, eqb-true, eq-eqb, lt-ltb, le-ltb}
use Rattle.history.specs.Lists.{All, Pairwise, Member}
use Rattle.history.specs.Event.{History}
use Rattle.history.specs.Calls.{Call, start_of, calls}
use Rattle.history.specs.Shows.{no_call}
use Rattle.history.specs.Starts.{starts_rise}
use Rattle.criterion.specs.Members.{all_at, all_of, pairwise_at, pairwise_unmap}
use Rattle.equivalence.specs.Threads.{caller_of, calls_of, ranked}
use Rattle.equivalence.specs.Statement.{started_before}

-- a started before b
abbrev pub Earlier : Call → Call → Type 0
Earlier a b = start_of a < start_of b

-- A thread's calls are calls, and its own.
pub from_own : (t : ℕ) (c : Call) (cs : List Call) → Member c (calls_of t cs) → Member c cs × (caller_of c ≡ t)
from_own t c (x ∷ cs) m = go (eqb (caller_of x) t) refl m (from_own t c cs)
  where
    go :
        (b : Bool) → eqb (caller_of x) t ≡ b → Member c (cond b (x ∷ calls_of t cs) (calls_of t cs))
        → (Member c (calls_of t cs) → Member c cs × (caller_of c ≡ t)) → Member c (x ∷ cs) × (caller_of c ≡ t)
    go true q (inl e) ih = (inl e, ap caller_of e ∙ eqb-true _ _ q)
    go true q (inr n) ih = let r = ih n in (inr r.0, r.1)
    go false q n ih = let r = ih n in (inr r.0, r.1)
from_own t c [] m = elim m [ ]

pub in_own : (c : Call) (cs : List Call) → Member c cs → Member c (calls_of (caller_of c) cs)
in_own c (x ∷ cs) (inl e) = rw (eq-eqb (caller_of x) (caller_of c) (ap caller_of (sym e))) (inl e)
in_own c (x ∷ cs) (inr m) = go (eqb (caller_of x) (caller_of c)) (in_own c cs m)
  where
    go : (b : Bool) → Member c (calls_of (caller_of c) cs) → Member c (cond b (x ∷ calls_of (caller_of c) cs) (calls_of (caller_of c) cs))
    go true n = inr n
    go false n = n
in_own c [] m = elim m [ ]

own_rise : (t : ℕ) (cs : List Call) → Pairwise Earlier cs → Pairwise Earlier (calls_of t cs)
own_rise t [] p = tt
own_rise t (x ∷ cs) p = go (eqb (caller_of x) t) (own_rise t cs p.1)
  where
    go : (b : Bool) → Pairwise Earlier (calls_of t cs) → Pairwise Earlier (cond b (x ∷ calls_of t cs) (calls_of t cs))
    go true ih = (all_of (Earlier x) (calls_of t cs) (λ a m. all_at (Earlier x) cs p.0 a (from_own t a cs m).0), ih)
    go false ih = ih

-- An element has a place, and what stands at a place is an element.
placed : (c : Call) (cs : List Call) → Member c cs → (k : ℕ) × (k < length cs) × (c ≡ get_or cs k no_call)
placed c (x ∷ cs) (inl e) = (0, omega arith, e)
placed c (x ∷ cs) (inr m) = let r = placed c cs m in (suc r.0, omega (arith, r.1), r.2)
placed c [] m = elim m [ ]

at_place : (cs : List Call) (k : ℕ) → k < length cs → Member (get_or cs k no_call) cs
at_place [] k l = absurd (omega arith)
at_place (x ∷ cs) zero l = inl refl
at_place (x ∷ cs) (suc k) l = inr (at_place cs k (omega arith))

-- Where starts rise, as many started before a call as stand before it.
none_before : (s : ℕ) (cs : List Call) → All (λ c. s < start_of c) cs → started_before s cs ≡ 0
none_before s [] p = refl
none_before s (c ∷ cs) p = rw (le-ltb (start_of c) s (omega (arith, p.0))) (none_before s cs p.1)

started_at : (cs : List Call) → Pairwise Earlier cs → (k : ℕ) → k < length cs → started_before (start_of (get_or cs k no_call)) cs ≡ k
started_at [] p k l = absurd (omega arith)
started_at (c ∷ cs) p zero l = rw (le-ltb (start_of c) (start_of c) (omega arith)) (none_before (start_of c) cs p.0)
started_at (c ∷ cs) p (suc k) l =
    let m = all_at (Earlier c) cs p.0 (get_or cs k no_call) (at_place cs k (omega arith)) in
    rw (lt-ltb (start_of c) (start_of (get_or cs k no_call)) m) (ap suc (started_at cs p.1 k (omega arith)))

pub calls_rise : (h : History) → Pairwise Earlier (calls h)
calls_rise h = pairwise_unmap ◌<◌ start_of (calls h) (starts_rise h).rises

-- Two calls with one start are the same.
pub one_start : (h : History) (a b : Call) → Member a (calls h) → Member b (calls h) → start_of a ≡ start_of b → a ≡ b
one_start h a b m n e =
    elim (pairwise_at Earlier (calls h) (calls_rise h) a b m n)
    [ inl q ↦ q | inr (inl l) ↦ absurd (omega arith) | inr (inr l) ↦ absurd (omega arith) ]

-- thread t has started a call of rank k
abbrev pub Started : History → (t k : ℕ) → Type 0
Started h t k = k < length (calls_of t (calls h))

module _ (h : History) (t k : ℕ) (l : Started h t k) where
  pub ranked_member : Member (ranked h t k) (calls h)
  ranked_member = (from_own t (ranked h t k) (calls h) (at_place (calls_of t (calls h)) k l)).0

  pub ranked_caller : caller_of (ranked h t k) ≡ t
  ranked_caller = (from_own t (ranked h t k) (calls h) (at_place (calls_of t (calls h)) k l)).1

  pub ranked_rank : started_before (start_of (ranked h t k)) (calls_of t (calls h)) ≡ k
  ranked_rank = started_at (calls_of t (calls h)) (own_rise t (calls h) (calls_rise h)) k l

-- the rank of a call of the history
abbrev pub rank_in : History → Call → ℕ
rank_in h c = started_before (start_of c) (calls_of (caller_of c) (calls h))

pub rank_of : (h : History) (c : Call) → Member c (calls h) → Started h (caller_of c) (rank_in h c) × (c ≡ ranked h (caller_of c) (rank_in h c))
rank_of h c m =
    let t = caller_of c in
    let r = placed c (calls_of t (calls h)) (in_own c (calls h) m) in
    let e : rank_in h c ≡ r.0 = ap (λ x. started_before (start_of x) (calls_of t (calls h))) r.2 ∙ ranked_rank h t r.0 r.1 in
    (subst (λ k. Started h t k) (sym e) r.1, r.2 ∙ ap (ranked h t) (sym e))
