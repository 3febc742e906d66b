-- The calls of two histories with the same calls, matched by thread and by rank: the same number and value, the same answer,
-- ended in both or in neither; and matching there and back leads to the same call.
use Rattle.std.specs.Prelude.{◌≡◌, refl, ◌≢◌, List, [], ◌∷◌, map, ℕ, zero, suc, ◌≤◌, length, get_or}
use Rattle.std.proofs.Common.{sym, ap, subst, ◌∙◌, arith}
use Rattle.std.proofs.lemmas.List.{length-map}
use Rattle.std.proofs.Math.ListN.{get_or-map}
use Rattle.history.specs.Lists.{All, Member}
use Rattle.history.specs.Event.{History}
use Rattle.history.specs.Calls.{Call, enq, deq, start_of, end_of, calls}
use Rattle.history.specs.Linearization.{Queue, perform}
use Rattle.history.specs.Shows.{no_call}
use Rattle.equivalence.specs.Threads.{events_of, caller_of, calls_of, ranked}
use Rattle.equivalence.specs.Tests.{place}
use Rattle.equivalence.specs.Statement.{SameCalls, started_before, counterpart}
use Rattle.equivalence.specs.Place.{place_zero, place_there}
use Rattle.equivalence.specs.Own.{moved, within, own_calls}
use Rattle.equivalence.specs.Ranks.{Started, ranked_member, ranked_caller, ranked_rank, rank_in, rank_of, one_start}

-- thread t's call of rank k among the calls of its own events
abbrev pub own_call : History → (t k : ℕ) → Call
own_call h t k = get_or (calls (events_of t h)) k no_call

pub own_call_lem : (h : History) (t k : ℕ) → ranked h t k ≡ moved (place h t) (own_call h t k)
own_call_lem h t k =
    let z = place_zero h t in
    let n : no_call ≡ moved (place h t) no_call = rw z in
    ap (λ cs. get_or cs k no_call) (own_calls h t) ∙ ap (get_or (map (moved (place h t)) (calls (events_of t h))) k) n
    ∙ get_or-map (moved (place h t)) (calls (events_of t h)) k no_call

moved_start : (f : ℕ → ℕ) (c : Call) → start_of (moved f c) ≡ f (start_of c)
moved_start f (enq x) = refl
moved_start f (deq d) = refl

moved_end : (f : ℕ → ℕ) (c : Call) → end_of (moved f c) ≡ f (end_of c)
moved_end f (enq x) = refl
moved_end f (deq d) = refl

moved_performs : (f : ℕ → ℕ) (c : Call) (q : Queue) → perform (moved f c) q ≡ perform c q
moved_performs f (enq x) q = refl
moved_performs f (deq d) q = refl

pub ranked_start : (h : History) (t k : ℕ) → start_of (ranked h t k) ≡ place h t (start_of (own_call h t k))
ranked_start h t k = ap start_of (own_call_lem h t k) ∙ moved_start (place h t) (own_call h t k)

pub ranked_end : (h : History) (t k : ℕ) → end_of (ranked h t k) ≡ place h t (end_of (own_call h t k))
ranked_end h t k = ap end_of (own_call_lem h t k) ∙ moved_end (place h t) (own_call h t k)

-- a call's numbers are of the thread's events
within_at :
    (n : ℕ) (cs : List Call) → All (λ c. (start_of c ≤ n) × (end_of c ≤ n)) cs → (k : ℕ)
    → (start_of (get_or cs k no_call) ≤ n) × (end_of (get_or cs k no_call) ≤ n)
within_at n [] p k = omega arith
within_at n (c ∷ cs) p zero = p.0
within_at n (c ∷ cs) p (suc k) = within_at n cs p.1 k

pub own_within :
    (h : History) (t k : ℕ) → (start_of (own_call h t k) ≤ length (events_of t h)) × (end_of (own_call h t k) ≤ length (events_of t h))
own_within h t k = within_at _ (calls (events_of t h)) (within (events_of t h)) k

module _ (h g : History) (same : SameCalls h g) where
  pub same_own : (t k : ℕ) → own_call h t k ≡ own_call g t k
  same_own t k = ap (λ l. get_or (calls l) k no_call) (same t)

  pub same_many : (t k : ℕ) → Started h t k → Started g t k
  same_many t k l =
      let a = ap length (own_calls h t) ∙ length-map (calls (events_of t h)) (moved (place h t)) in
      let b = ap length (own_calls g t) ∙ length-map (calls (events_of t g)) (moved (place g t)) in
      let e = ap (λ l. length (calls l)) (same t) in
      omega arith

  pub same_performs : (t k : ℕ) (q : Queue) → perform (ranked h t k) q ≡ perform (ranked g t k) q
  same_performs t k q =
      ap (λ c. perform c q) (own_call_lem h t k) ∙ moved_performs (place h t) (own_call h t k) q ∙ ap (λ c. perform c q) (same_own t k)
      ∙ sym (ap (λ c. perform c q) (own_call_lem g t k) ∙ moved_performs (place g t) (own_call g t k) q)

  pub same_ended : (t k : ℕ) → end_of (ranked h t k) ≢ 0 → end_of (ranked g t k) ≢ 0
  same_ended t k f =
      let own = own_call g t k in
      let e = ranked_end h t k ∙ ap (λ c. place h t (end_of c)) (same_own t k) in
      let there = place_there g t (end_of own) (λ z. f (e ∙ ap (place h t) z ∙ place_zero h t)) (own_within g t k).1 in
      λ z. there (sym (ranked_end g t k) ∙ z)

-- Matching there and back.
module _ (h g : History) (same : SameCalls h g) (c : Call) (m : Member c (calls h)) where
  started : Started g (caller_of c) (rank_in h c)
  started = same_many h g same (caller_of c) (rank_in h c) (rank_of h c m).0

  pub counterpart_member : Member (counterpart h g c) (calls g)
  counterpart_member = ranked_member g (caller_of c) (rank_in h c) started

  pub counterpart_performs : (q : Queue) → perform (counterpart h g c) q ≡ perform c q
  counterpart_performs q = sym (ap (λ d. perform d q) (rank_of h c m).1 ∙ same_performs h g same (caller_of c) (rank_in h c) q)

  pub counterpart_ended : end_of c ≢ 0 → end_of (counterpart h g c) ≢ 0
  counterpart_ended f = same_ended h g same (caller_of c) (rank_in h c) (subst (λ d. end_of d ≢ 0) (rank_of h c m).1 f)

  pub counterpart_back : counterpart g h (counterpart h g c) ≡ c
  counterpart_back =
      let d = counterpart h g c in
      let t = ranked_caller g (caller_of c) (rank_in h c) started in
      ap (λ u. ranked h u (started_before (start_of d) (calls_of u (calls g)))) t
      ∙ ap (ranked h (caller_of c)) (ranked_rank g (caller_of c) (rank_in h c) started)
      ∙ sym (rank_of h c m).1

-- So two calls whose matches have one start are the same.
pub counterpart_once :
    (h g : History) → SameCalls h g → (a b : Call) → Member a (calls h) → Member b (calls h)
    → start_of (counterpart h g a) ≡ start_of (counterpart h g b) → a ≡ b
counterpart_once h g same a b m n e =
    let d = one_start g _ _ (counterpart_member h g same a m) (counterpart_member h g same b n) e in
    sym (counterpart_back h g same a m) ∙ ap (counterpart g h) d ∙ counterpart_back h g same b n
