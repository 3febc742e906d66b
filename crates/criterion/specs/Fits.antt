-- An order of enqueues and dequeues that fits: a derivation that follows the queue, and what such an order has. It holds just the
-- calls put into it, runs on a queue, and keeps to the times.
use Rattle.std.specs.Prelude.{◌≡◌, refl, ◌≢◌, List, [], ◌∷◌, ◌++◌, map, ◌≤◌, ◌<◌}
use Rattle.std.proofs.Common.{sym, ap, subst, ◌∙◌, inl, inr, append-nil, append_assoc, arith, eq-eqb}
use Rattle.std.proofs.Math.Option.{Option, none, some}
use Rattle.history.specs.Lists.{All, Pairwise, Member}
use Rattle.history.specs.Calls.{item, empty, Enqueue, Dequeue, Call, enq, deq, start_of}
use Rattle.history.specs.Linearization.{Queue, Precedes, perform, dequeue, run}
use Rattle.criterion.specs.Parts.{item_of}
use Rattle.criterion.specs.Members.{all_at, all_of, all_map, in_map, from_map, pairwise_map}

-- `Fits ds q p r ord`: with q in the queue, the enqueues p and the dequeues ds make up ord, and leave r.
pub data Fits : List Dequeue → (q p r : List Enqueue) → List Call → Type 0 where
  done : {q p : List Enqueue} → Fits [] q p (q ++ p) (map enq p)
  put :
      {d : Dequeue} {ds : List Dequeue} {x : Enqueue} {q p r : List Enqueue} {ord : List Call} → x.start ≤ d.end
      → Fits (d ∷ ds) (q ++ (x ∷ [])) p r ord → Fits (d ∷ ds) q (x ∷ p) r (enq x ∷ ord)
  give :
      {d : Dequeue} {ds : List Dequeue} {x : Enqueue} {q p r : List Enqueue} {ord : List Call}
      → d.answer ≡ item x.number x.value → All (λ y. Precedes (enq y) (deq d) → ⊥) p → Fits ds q p r ord
      → Fits (d ∷ ds) (x ∷ q) p r (deq d ∷ ord)
  find_none :
      {d : Dequeue} {ds : List Dequeue} {p r : List Enqueue} {ord : List Call} → d.answer ≡ empty
      → All (λ y. Precedes (enq y) (deq d) → ⊥) p → Fits ds [] p r ord → Fits (d ∷ ds) [] p r (deq d ∷ ord)

-- It runs.
pub run_step : (c : Call) (q r : Queue) (cs : List Call) → perform c q ≡ some r → run q (c ∷ cs) ≡ run r cs
run_step c q r cs e = ap (λ (o : Option Queue). elim o as (λ _. Option Queue) [ none ↦ none | some z ↦ run z cs ]) e

gives_front : (x : Enqueue) (q : Queue) → dequeue (item x.number x.value) (item_of x ∷ q) ≡ some q
gives_front x q = rw (eq-eqb x.number x.number refl, eq-eqb x.value x.value refl)

map_snoc : (q : List Enqueue) (x : Enqueue) → map item_of (q ++ (x ∷ [])) ≡ map item_of q ++ (item_of x ∷ [])
map_snoc [] x = refl
map_snoc (y ∷ q) x = ap (λ z. item_of y ∷ z) (map_snoc q x)

run_enqueues : (q p : List Enqueue) → run (map item_of q) (map enq p) ≡ some (map item_of (q ++ p))
run_enqueues q [] = rw append-nil
run_enqueues q (x ∷ p) = rw (← map_snoc q x, ← append_assoc q (x ∷ []) p) (run_enqueues (q ++ (x ∷ [])) p)

pub fits_runs :
    {ds : List Dequeue} {q p r : List Enqueue} {ord : List Call} → Fits ds q p r ord
    → run (map item_of q) ord ≡ some (map item_of r)
fits_runs (done {q = q} {p = p}) = run_enqueues q p
fits_runs (put {x = x} {q = q} {r = r} {ord = ord} l f) = subst (λ z. run z ord ≡ some (map item_of r)) (map_snoc q x) (fits_runs f)
fits_runs (give {d = d} {x = x} {q = q} {ord = ord} e a f) = run_step (deq d) _ _ ord
    (ap (λ b. dequeue b (map item_of (x ∷ q))) e ∙ gives_front x (map item_of q)) ∙ fits_runs f
fits_runs (find_none e a f) = rw e (fits_runs f)

-- It holds just those calls.
abbrev pub Among : List Dequeue → List Enqueue → Call → Type 0
Among ds p (enq x) = Member x p
Among ds p (deq d) = Member d ds

among_put : (ds : List Dequeue) (x : Enqueue) (p : List Enqueue) (c : Call) → Among ds p c → Among ds (x ∷ p) c
among_put ds x p (enq y) m = inr m
among_put ds x p (deq d) m = m

among_dequeue : (d : Dequeue) (ds : List Dequeue) (p : List Enqueue) (c : Call) → Among ds p c → Among (d ∷ ds) p c
among_dequeue d ds p (enq y) m = m
among_dequeue d ds p (deq b) m = inr m

pub fits_among : {ds : List Dequeue} {q p r : List Enqueue} {ord : List Call} → Fits ds q p r ord → (c : Call) → Member c ord → Among ds p c
fits_among (done {p = p}) c m = let r = from_map enq c p m in subst (Among [] p) (sym r.2) r.1
fits_among (put {d = d} {ds = ds} {x = x} {p = p} l f) c (inl e) = subst (Among (d ∷ ds) (x ∷ p)) (sym e) (inl refl)
fits_among (put {d = d} {ds = ds} {x = x} {p = p} l f) c (inr m) = among_put (d ∷ ds) x p c (fits_among f c m)
fits_among (give {d = d} {ds = ds} {p = p} e a f) c (inl q) = subst (Among (d ∷ ds) p) (sym q) (inl refl)
fits_among (give {d = d} {ds = ds} {p = p} e a f) c (inr m) = among_dequeue d ds p c (fits_among f c m)
fits_among (find_none {d = d} {ds = ds} {p = p} e a f) c (inl q) = subst (Among (d ∷ ds) p) (sym q) (inl refl)
fits_among (find_none {d = d} {ds = ds} {p = p} e a f) c (inr m) = among_dequeue d ds p c (fits_among f c m)

pub fits_enqueue :
    {ds : List Dequeue} {q p r : List Enqueue} {ord : List Call} → Fits ds q p r ord → (x : Enqueue) → Member x p
    → Member (enq x) ord
fits_enqueue (done {p = p}) x m = in_map enq x p m
fits_enqueue (put l f) x (inl e) = inl (ap enq e)
fits_enqueue (put l f) x (inr m) = inr (fits_enqueue f x m)
fits_enqueue (give e a f) x m = inr (fits_enqueue f x m)
fits_enqueue (find_none e a f) x m = inr (fits_enqueue f x m)

pub fits_dequeue :
    {ds : List Dequeue} {q p r : List Enqueue} {ord : List Call} → Fits ds q p r ord → (d : Dequeue) → Member d ds
    → Member (deq d) ord
fits_dequeue (put l f) d m = inr (fits_dequeue f d m)
fits_dequeue (give e a f) d (inl q) = inl (ap deq q)
fits_dequeue (give e a f) d (inr m) = inr (fits_dequeue f d m)
fits_dequeue (find_none e a f) d (inl q) = inl (ap deq q)
fits_dequeue (find_none e a f) d (inr m) = inr (fits_dequeue f d m)
fits_dequeue (done {q = q} {p = p}) d m = elim m [ ]

-- It keeps to the times, and no two of its calls start at one event.
abbrev pub Timely : Call → Call → Type 0
Timely a b = (Precedes b a → ⊥) × (start_of a ≢ start_of b)

-- one dequeue after another
abbrev pub Next : Dequeue → Dequeue → Type 0
Next d e = d.end < e.start

-- what the calls put into it have
pub record Sorted (ds : List Dequeue) (p : List Enqueue) : Type 0 where
  pub enqueues_in_order : Pairwise (λ x y. Timely (enq x) (enq y)) p
  pub dequeues_in_order : Pairwise Next ds
  pub forward : All (λ d. (d.end ≢ 0) × (d.start < d.end)) ds
  pub apart : All (λ x. All (λ d. x.start ≢ d.start) ds) p

without_enqueue : {ds : List Dequeue} {x : Enqueue} {p : List Enqueue} → Sorted ds (x ∷ p) → Sorted ds p
without_enqueue s = record { enqueues_in_order = s.enqueues_in_order.1; dequeues_in_order = s.dequeues_in_order; forward = s.forward; apart = s.apart.1 }

without_dequeue : {d : Dequeue} {ds : List Dequeue} {p : List Enqueue} → Sorted (d ∷ ds) p → Sorted ds p
without_dequeue {p = p} s =
    record { enqueues_in_order = s.enqueues_in_order; dequeues_in_order = s.dequeues_in_order.1; forward = s.forward.1; apart = all_map _ _ p (λ x a. a.1) s.apart }

-- the first of the calls against the others
first_enqueue :
    (d : Dequeue) (ds : List Dequeue) (x : Enqueue) (p : List Enqueue) → Sorted (d ∷ ds) (x ∷ p) → x.start ≤ d.end
    → (c : Call) → Among (d ∷ ds) p c → Timely (enq x) c
first_enqueue d ds x p s l (enq y) m = all_at _ p s.enqueues_in_order.0 y m
first_enqueue d ds x p s l (deq b) m = (λ r. late m r, all_at _ (d ∷ ds) s.apart.0 b m)
  where
    late : Member b (d ∷ ds) → Precedes (deq b) (enq x) → ⊥
    late (inl e) r = let q : b.end ≡ d.end = ap (λ (z : Dequeue). z.end) e in let t = r.1 in omega arith
    late (inr n) r = let t = r.1 in let u = all_at _ ds s.dequeues_in_order.0 b n in let v = all_at _ ds s.forward.1 b n in omega arith

first_dequeue :
    (d : Dequeue) (ds : List Dequeue) (p : List Enqueue) → Sorted (d ∷ ds) p → All (λ y. Precedes (enq y) (deq d) → ⊥) p
    → (c : Call) → Among ds p c → Timely (deq d) c
first_dequeue d ds p s a (enq y) m = (all_at _ p a y m, λ e. (all_at _ p s.apart y m).0 (sym e))
first_dequeue d ds p s a (deq b) m =
    let t = s.forward.0 in
    let u = all_at _ ds s.dequeues_in_order.0 b m in
    let v = all_at _ ds s.forward.1 b m in
    (λ r. let w = r.1 in omega arith, λ e. omega arith)

pub fits_timely : {ds : List Dequeue} {q p r : List Enqueue} {ord : List Call} → Fits ds q p r ord → Sorted ds p → Pairwise Timely ord
fits_timely (done {p = p}) s = pairwise_map Timely (λ x y. Timely (enq x) (enq y)) enq p (λ a b t. t) s.enqueues_in_order
fits_timely (put {d = d} {ds = ds} {x = x} {p = p} {ord = ord} l f) s = (
  all_of _ ord
      (λ c m. first_enqueue d ds x p s l c (fits_among f c m)),
  fits_timely f (without_enqueue s),
)
fits_timely (give {d = d} {ds = ds} {p = p} {ord = ord} e a f) s = (
  all_of _ ord
      (λ c m. first_dequeue d ds p s a c (fits_among f c m)),
  fits_timely f (without_dequeue s),
)
fits_timely (find_none {d = d} {ds = ds} {p = p} {ord = ord} e a f) s = (
  all_of _ ord
      (λ c m. first_dequeue d ds p s a c (fits_among f c m)),
  fits_timely f (without_dequeue s),
)
