-- A call starts: its event follows exactly when its thread is idle and its number is new, and the memory then holds the calls
-- with it.
use mathlib.Core.Path.{◌≡◌, refl, ap, sym, subst, ◌∙◌}
use mathlib.Core.Logic.{◌⊎◌, inl, inr, ◌≢◌}
use mathlib.Core.Bool.{Bool, true, false, not}
use mathlib.Core.List.{List, [], ◌∷◌, ◌++◌}
use Prim.Native.Nat.{ℕ, zero, suc, ◌+◌, ◌≤◌, ◌<◌}
use native.Mathlib.Nat.{le-max_left, le-max_right}
use native.Mathlib.Numerals.{add-one}
use native.Mathlib.Omega.{arith}
use lib.Dec.{lit≤}
use Rattle.std.specs.Prelude.{Option, None, Some}
use Rattle.std.specs.Option.{is_some}
use Rattle.std.proofs.Common.{zero-le}
use lib.ListN.{get_or}
use Rattle.history.specs.Event.{Event}
use Rattle.history.specs.Calls.{Call, enter}
use Rattle.history.specs.Form.{any, enqueues, dequeues, has_number, follows}
use Rattle.reading.specs.Table.{start_at, end_at, answer_at, thread_at, number_at, value_at, busy_at, top_of, mark_of, call_of, call_at, calls_in, Table}
use Rattle.reading.specs.Steps.{start_event, Starts, begun, First, Fresh, Enters}
use Rattle.reading.proofs.Logic.{true_not_false, false_not_true, same_or_not, before_or_last, and_right_false}
use Rattle.reading.proofs.Builds.{build_same, build_snoc, none_of, one_of}
use Rattle.reading.proofs.Cells.{Begun, begun_is}
use Rattle.reading.proofs.Words

pub refusing : (k : ℕ) (e : Event) (m : List ℕ) (c : ℕ) (m' : List ℕ) (c' : ℕ) → follows e (calls_in m c) ≡ false → Enters k e m c m' c' false
refusing k e m c m' c' f = record { as_formed = sym f; table = λ z. absurd (false_not_true z); entered = λ z. absurd (false_not_true z) }

pub accepting :
    (k : ℕ) (e : Event) (m : List ℕ) (c : ℕ) (m' : List ℕ) (c' : ℕ) → follows e (calls_in m c) ≡ true → Table m' c'
    → calls_in m' c' ≡ enter k e (calls_in m c) → Enters k e m c m' c' true
accepting k e m c m' c' f t i = record { as_formed = sym f; table = λ z. t; entered = λ z. i }

module _ (m : List ℕ) (c : ℕ) (table : Table m c) where
  -- thread t has no call under way
  pub idle_dequeue : busy_at m 0 ≡ 0 → any dequeues (calls_in m c) ≡ false
  idle_dequeue idle =
      none_of dequeues (call_at m) c
      (λ j l. Words.not_dequeuing _ _ _ _ _ _ (λ p q. let b = table.known 0 j (lit≤ tt) l p q in omega arith))

  pub idle_enqueue : (t : ℕ) → suc t ≤ 16 → busy_at m (suc t) ≡ 0 → any (enqueues (suc t)) (calls_in m c) ≡ false
  idle_enqueue t a idle =
      none_of (enqueues (suc t)) (call_at m) c
      (λ j l. Words.not_enqueuing _ _ _ _ _ _ _ (λ p q. let b = table.known (suc t) j a l p q in omega arith))

  -- thread t has call i under way
  pub busy_dequeue : (i : ℕ) → busy_at m 0 ≡ suc i → any dequeues (calls_in m c) ≡ true
  busy_dequeue i busy =
      let u = table.under_way 0 i (lit≤ tt) busy in
      one_of dequeues (call_at m) c i u.0 (Words.is_dequeuing _ _ _ _ _ _ u.1 u.2)

  pub busy_enqueue : (t i : ℕ) → suc t ≤ 16 → busy_at m (suc t) ≡ suc i → any (enqueues (suc t)) (calls_in m c) ≡ true
  busy_enqueue t i a busy =
      let u = table.under_way (suc t) i a busy in
      one_of (enqueues (suc t)) (call_at m) c i u.0 (Words.is_enqueuing _ _ _ _ _ _ _ u.1 u.2)

  -- the number of a call that was started
  old_number : (n j : ℕ) → n ≢ 0 → j < c → number_at m j ≡ n → any (has_number n) (calls_in m c) ≡ true
  old_number n j d l e =
      one_of (has_number n) (call_at m) c j l
      (Words.has_number_lem _ _ _ _ _ _ _ (λ p. let z = table.plain j l p in d (omega arith)) e)

  new_number : (n : ℕ) → ((j : ℕ) → j < c → number_at m j ≢ n) → any (has_number n) (calls_in m c) ≡ false
  new_number n f = none_of (has_number n) (call_at m) c (λ j l. Words.not_number (number_at m j) (value_at m j) (start_at m j) (end_at m j) (answer_at m j) (thread_at m j) n (f j l))

  -- a number whose mark is not set
  pub unmarked : (n a : ℕ) → a ≡ mark_of n → get_or m a 0 ≡ 0 → (j : ℕ) → j < c → number_at m j ≢ n
  unmarked n a e z j l p = table.marked j l (ap (λ x. get_or m (mark_of x) 0) p ∙ ap (λ x. get_or m x 0) (sym e) ∙ z)

  pub busy_start : (t n v : ℕ) → t ≤ 16 → busy_at m t ≢ 0 → follows (start_event t n v) (calls_in m c) ≡ false
  busy_start t n v a b = go t a (busy_at m t) refl b
    where
      go : (t : ℕ) → t ≤ 16 → (x : ℕ) → busy_at m t ≡ x → x ≢ 0 → follows (start_event t n v) (calls_in m c) ≡ false
      go t a zero e f = absurd (f refl)
      go zero a (suc i) e f = ap not (busy_dequeue i e)
      go (suc t) a (suc i) e f = rw (busy_enqueue t i a e)

  pub old_start : (t n v j : ℕ) → t ≢ 0 → n ≢ 0 → j < c → number_at m j ≡ n → follows (start_event t n v) (calls_in m c) ≡ false
  old_start zero n v j f d l e = absurd (f refl)
  old_start (suc t) n v j f d l e = rw (old_number n j d l e) (and_right_false (not (any (enqueues (suc t)) (calls_in m c))) false refl)

  pub good_start :
      (t n v : ℕ) → Starts t n → busy_at m t ≡ 0 → (n ≢ 0 → (j : ℕ) → j < c → number_at m j ≢ n)
      → follows (start_event t n v) (calls_in m c) ≡ true
  good_start zero n v s idle new = ap not (idle_dequeue idle)
  good_start (suc t) n v s idle new =
      rw (idle_enqueue t s.thread_fits idle, new_number n (new (s.some_if_producer (λ p. omega arith))))

module _ (m m' : List ℕ) (c k t n v : ℕ) (b : Begun m m' c k t n v) where
  begun_call : (j : ℕ) → j < c → call_at m' j ≡ call_at m j
  begun_call j l =
      let e₁ = b.old 1 j (lit≤ tt) (lit≤ tt) l in
      let e₂ = b.old 2 j (lit≤ tt) (lit≤ tt) l in
      let e₃ = b.old 3 j (lit≤ tt) (lit≤ tt) l in
      let e₄ = b.old 4 j (lit≤ tt) (lit≤ tt) l in
      let e₅ = b.old 5 j (lit≤ tt) (lit≤ tt) l in
      let e₆ = b.old 6 j (lit≤ tt) (lit≤ tt) l in
      cc

  new_call : call_at m' c ≡ call_of t n v k 0 0
  new_call = cc (b.start_is, b.end_is, b.answer_is, b.thread_is, b.number_is, b.value_is)

  started : (t : ℕ) (cs : List Call) → cs ++ (call_of t n v k 0 0 ∷ []) ≡ enter k (start_event t n v) cs
  started zero cs = refl
  started (suc t) cs = refl

  pub calls_begun : calls_in m' (suc c) ≡ enter k (start_event t n v) (calls_in m c)
  calls_begun =
      build_snoc (call_at m') c
      ∙ (rw (build_same (call_at m') (call_at m) c begun_call, new_call) (started t (calls_in m c)))

  module _ (table : Table m c) (s : Starts t n) (idle : busy_at m t ≡ 0) (new : n ≢ 0 → (j : ℕ) → j < c → number_at m j ≢ n) where
    known_on : (u j : ℕ) → u ≤ 16 → j < suc c → thread_at m' j ≡ u → end_at m' j ≡ 0 → (j < c) ⊎ (j ≡ c) → busy_at m' u ≡ suc j
    known_on u j a l p q (inl o) =
        let z = table.known u j a o (sym (b.old 4 j (lit≤ tt) (lit≤ tt) o) ∙ p) (sym (b.old 2 j (lit≤ tt) (lit≤ tt) o) ∙ q) in
        b.others u a (λ e. let y = ap (busy_at m) e in omega arith) ∙ z
    known_on u j a l p q (inr e) = ap (busy_at m') (sym p ∙ ap (thread_at m') e ∙ b.thread_is) ∙ b.busy_is ∙ ap suc (sym e)

    under_way_on :
        (u i : ℕ) → u ≤ 16 → busy_at m' u ≡ suc i → (u ≡ t) ⊎ (u ≢ t) → (i < suc c) × (thread_at m' i ≡ u) × (end_at m' i ≡ 0)
    under_way_on u i a e (inl d) =
        let z = ap (busy_at m') d ∙ b.busy_is in
        let y : i ≡ c = omega arith in
        (omega arith, ap (thread_at m') y ∙ b.thread_is ∙ sym d, ap (end_at m') y ∙ b.end_is)
    under_way_on u i a e (inr d) =
        let w = table.under_way u i a (sym (b.others u a d) ∙ e) in
        (omega arith, b.old 4 i (lit≤ tt) (lit≤ tt) w.0 ∙ w.1, b.old 2 i (lit≤ tt) (lit≤ tt) w.0 ∙ w.2)

    plain_on : (j : ℕ) → thread_at m' j ≡ 0 → (j < c) ⊎ (j ≡ c) → number_at m' j ≡ 0
    plain_on j p (inl o) = b.old 5 j (lit≤ tt) (lit≤ tt) o ∙ table.plain j o (sym (b.old 4 j (lit≤ tt) (lit≤ tt) o) ∙ p)
    plain_on j p (inr e) =
        ap (number_at m') e ∙ b.number_is ∙ s.none_if_consumer (sym b.thread_is ∙ ap (thread_at m') (sym e) ∙ p)

    highest_on : (j : ℕ) → (j < c) ⊎ (j ≡ c) → number_at m' j ≤ top_of m'
    highest_on j (inl o) =
        omega (arith, b.old 5 j (lit≤ tt) (lit≤ tt) o, table.highest j o, b.top_is, le-max_left (top_of m) n)
    highest_on j (inr e) = omega (arith, ap (number_at m') e, b.number_is, b.top_is, le-max_right (top_of m) n)

    distinct_on :
        (i j : ℕ) → number_at m' i ≡ number_at m' j → number_at m' i ≢ 0 → (i < c) ⊎ (i ≡ c) → (j < c) ⊎ (j ≡ c) → i ≡ j
    distinct_on i j e z (inl o) (inl p) =
        let x = b.old 5 i (lit≤ tt) (lit≤ tt) o in
        let y = b.old 5 j (lit≤ tt) (lit≤ tt) p in
        table.distinct i j o p (sym x ∙ e ∙ y) (λ w. z (x ∙ w))
    distinct_on i j e z (inl o) (inr p) =
        let x = b.old 5 i (lit≤ tt) (lit≤ tt) o in
        let y = ap (number_at m') p ∙ b.number_is in
        absurd (new (λ w. z (e ∙ y ∙ w)) i o (sym x ∙ e ∙ y))
    distinct_on i j e z (inr o) (inl p) =
        let x = ap (number_at m') o ∙ b.number_is in
        let y = b.old 5 j (lit≤ tt) (lit≤ tt) p in
        absurd (new (λ w. z (x ∙ w)) j p (sym y ∙ sym e ∙ x))
    distinct_on i j e z (inr o) (inr p) = o ∙ sym p

    -- no mark is taken back
    still_marked : (a : ℕ) → 18 ≤ a → a < 4096 → get_or m a 0 ≢ 0 → (a ≡ mark_of n) ⊎ (a ≢ mark_of n) → get_or m' a 0 ≢ 0
    still_marked a l u z (inl e) = λ w. let y = ap (λ x. get_or m' x 0) e ∙ b.mark_is in omega arith
    still_marked a l u z (inr d) = λ w. z (sym (b.marks a l u d) ∙ w)

    marked_on : (j : ℕ) → (j < c) ⊎ (j ≡ c) → get_or m' (mark_of (number_at m' j)) 0 ≢ 0
    marked_on j (inl o) =
        rw (b.old 5 j (lit≤ tt) (lit≤ tt) o)
        (still_marked (mark_of (number_at m j)) (omega arith) (omega arith) (table.marked j o) (same_or_not _ _))
    marked_on j (inr e) =
        λ w. let y = ap (λ x. get_or m' (mark_of x) 0) (ap (number_at m') e ∙ b.number_is) ∙ b.mark_is in omega arith

    pub table_begun : Table m' (suc c)
    table_begun = record {
      size = b.size ∙ table.size;
      known = λ u j a l p q. known_on u j a l p q (before_or_last j c l);
      under_way = λ u i a e. under_way_on u i a e (same_or_not u t);
      plain = λ j l p. plain_on j p (before_or_last j c l);
      highest = λ j l. highest_on j (before_or_last j c l);
      distinct = λ i j l o e z. distinct_on i j e z (before_or_last i c l) (before_or_last j c o);
      marked = λ j l. marked_on j (before_or_last j c l);
    }

-- A number is new where the scan of the calls finds none with it.
pub fresh_by : (m : List ℕ) (c n : ℕ) (o : Option ℕ) (r : Bool) → is_some o ≡ not r → First m 0 c n o → n ≢ 0 → Fresh m c n r
fresh_by m c n None true e f d = record { is_new = λ x z j l. f j zero-le l; is_old = λ x. absurd (true_not_false x) }
fresh_by m c n None false e f d = absurd (false_not_true e)
fresh_by m c n (Some i) true e f d = absurd (true_not_false e)
fresh_by m c n (Some i) false e f d = record { is_new = λ x. absurd (false_not_true x); is_old = λ x. (d, (i, f.1, f.2)) }

-- The three ways out of a start.
module _ (m : List ℕ) (c k t n v : ℕ) (table : Table m c) (s : Starts t n) where
  pub start_busy : (m' : List ℕ) → busy_at m t ≢ 0 → Enters k (start_event t n v) m c m' (c + 1) false
  start_busy m' b = refusing k _ m c m' (c + 1) (busy_start m c table t n v s.thread_fits b)

  pub start_old : (m' : List ℕ) (r : Bool) → r ≡ false → Fresh m c n r → Enters k (start_event t n v) m c m' (c + 1) false
  start_old m' r e f =
      let o = f.is_old e in
      refusing k _ m c m' (c + 1)
      (old_start m c table t n v o.1.0 (λ z. o.0 (s.none_if_consumer z)) o.0 o.1.1 o.1.2)

  pub start_good :
      (m' : List ℕ) (r : Bool) → m' ≡ begun m c k t n v → c < 4096 → busy_at m t ≡ 0 → r ≡ true → Fresh m c n r
      → Enters k (start_event t n v) m c m' (c + 1) true
  start_good m' r e room idle y f =
      let b = subst (λ l. Begun m l c k t n v) (sym e) (begun_is m c k t n v table.size room s.thread_fits) in
      let new = f.is_new y in
      accepting k _ m c m' (c + 1) (good_start m c table t n v s idle new)
      (rw (add-one c) (table_begun m m' c k t n v b table s idle new)) (rw (add-one c) (calls_begun m m' c k t n v b))
