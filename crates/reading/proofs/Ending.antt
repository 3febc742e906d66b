-- A call ends: its event follows exactly when its thread has it under way, and the memory then holds the calls with it ended.
use mathlib.Core.Path.{◌≡◌, refl, ap, sym, subst, ◌∙◌}
use mathlib.Core.Logic.{◌⊎◌, inl, inr, ◌≢◌}
use mathlib.Core.Bool.{true, false}
use mathlib.Core.List.{List, map}
use Prim.Native.Nat.{ℕ, zero, suc, ◌-◌, ◌≤◌, ◌<◌}
use native.Mathlib.Omega.{arith}
use lib.Dec.{lit≤, eqb, eqb-suc-zero}
use borrow.Author.Tests.{eqb-true}
use Rattle.history.specs.Calls.{Call, end_enqueue, end_dequeue, enter}
use Rattle.history.specs.Form.{enqueues_item, follows}
use Rattle.reading.specs.Table.{start_at, end_at, answer_at, thread_at, number_at, value_at, busy_at, mark_of, answer_of, call_of, call_at, calls_in, Table}
use Rattle.reading.specs.Steps.{end_event, ended, repeats_at, Enters}
use Rattle.reading.proofs.Logic.{same_or_not, true_not_false, both}
use Rattle.reading.proofs.Builds.{build_same, map_build, none_of, one_of}
use Rattle.reading.proofs.Cells.{Ended, ended_is}
use Rattle.reading.proofs.Starting.{refusing, accepting, idle_dequeue, busy_dequeue}
use Rattle.reading.proofs.Words

module _ (m : List ℕ) (c : ℕ) (table : Table m c) where
  pub idle_end : (t n v : ℕ) → t ≤ 16 → busy_at m t ≡ 0 → follows (end_event t n v) (calls_in m c) ≡ false
  idle_end zero zero v a idle = idle_dequeue m c table idle
  idle_end zero (suc n) v a idle = idle_dequeue m c table idle
  idle_end (suc t) n v a idle =
      none_of (enqueues_item (suc t) n v) (call_at m) c
      (λ j l.
      Words.not_enqueuing_item _ _ _ _ _ _ _ _ _ (λ p q. let b = table.known (suc t) j a l p q in absurd (omega arith)))

  pub other_end :
      (t n v i : ℕ) → t ≤ 16 → busy_at m t ≡ suc i → repeats_at m i t n v ≡ false → follows (end_event t n v) (calls_in m c) ≡ false
  other_end zero n v i a busy r = absurd (true_not_false r)
  other_end (suc t) n v i a busy r =
      none_of (enqueues_item (suc t) n v) (call_at m) c
      (λ j l.
      Words.not_enqueuing_item _ _ _ _ _ _ _ _ _
      (λ p q.
      let b = table.known (suc t) j a l p q in
      let e : j ≡ i = omega arith in
      rw e (rw (eqb-suc-zero t) at r)))

  pub good_end :
      (t n v i : ℕ) → t ≤ 16 → busy_at m t ≡ suc i → repeats_at m i t n v ≡ true → follows (end_event t n v) (calls_in m c) ≡ true
  good_end zero zero v i a busy r = busy_dequeue m c table i busy
  good_end zero (suc n) v i a busy r = busy_dequeue m c table i busy
  good_end (suc t) n v i a busy r =
      let u = table.under_way (suc t) i a busy in
      let w = both (eqb (number_at m i) n) (eqb (value_at m i) v) (rw (eqb-suc-zero t) at r) in
      one_of (enqueues_item (suc t) n v) (call_at m) c i u.0
      (Words.is_enqueuing_item _ _ _ _ _ _ _ _ _ u.1 u.2 (eqb-true _ _ w.0) (eqb-true _ _ w.1))

-- what ends the call of thread t
abbrev ending : (t k n v : ℕ) → Call → Call
ending zero k n v = end_dequeue k (answer_of k n v)
ending (suc t) k n v = end_enqueue (suc t) k

entered : (t k n v : ℕ) (cs : List Call) → 1 ≤ k → enter k (end_event t n v) cs ≡ map (ending t k n v) cs
entered zero zero n v cs l = absurd (omega arith)
entered zero (suc k) zero v cs l = refl
entered zero (suc k) (suc n) v cs l = refl
entered (suc t) k n v cs l = refl

stays : (t k n v : ℕ) (th m w s e a : ℕ) → (th ≡ t → e ≢ 0) → ending t k n v (call_of th m w s e a) ≡ call_of th m w s e a
stays zero k n v th m w s e a f = Words.dequeue_stays m w s e a th k (answer_of k n v) f
stays (suc t) k n v th m w s e a f = Words.enqueue_stays m w s e a t th k f

ends :
    (t k n v : ℕ) (th m w s e a : ℕ) → 1 ≤ k → th ≡ t → e ≡ 0 → (t ≢ 0 → w ≡ v) → ending t k n v (call_of th m w s e a) ≡ call_of th m v s k n
ends zero k n v th m w s e a l p q f = Words.dequeue_ends m w s e a th k n v l p q
ends (suc t) k n v th m w s e a l p q f = rw (← f (λ z. omega arith)) (Words.enqueue_ends m w s e a t th k n p q)

module _ (m m' : List ℕ) (c i k t n v : ℕ) (b : Ended m m' i k t n v) (table : Table m c) (room : c ≤ 4096) (a : t ≤ 16)
    (busy : busy_at m t ≡ suc i) where
  abbrev mine : (i < c) × (thread_at m i ≡ t) × (end_at m i ≡ 0)
  mine = table.under_way t i a busy

  -- a call that thread t has under way is call i
  its_own : (j : ℕ) → j < c → thread_at m j ≡ t → end_at m j ≡ 0 → j ≡ i
  its_own j l p q = let z = table.known t j a l p q in omega arith

  pub calls_ended : 1 ≤ k → (t ≢ 0 → value_at m i ≡ v) → calls_in m' c ≡ enter k (end_event t n v) (calls_in m c)
  calls_ended late same =
      build_same (call_at m') (λ j. ending t k n v (call_at m j)) c (λ j l. each j l (same_or_not j i))
      ∙ sym (map_build (ending t k n v) (call_at m) c)
      ∙ sym (entered t k n v (calls_in m c) late)
    where
      each : (j : ℕ) → j < c → (j ≡ i) ⊎ (j ≢ i) → call_at m' j ≡ ending t k n v (call_at m j)
      each j l (inl e) =
          let e₁ = b.start_is i (omega arith) in
          let e₄ = b.thread_is i (omega arith) ∙ mine.1 in
          let e₅ = b.number_is i (omega arith) in
          let f = ends t k n v (thread_at m i) (number_at m i) (value_at m i) (start_at m i) (end_at m i) (answer_at m i) late mine.1 mine.2 same in
          rw (e, f, b.end_is, b.answer_is, b.value_is, e₁, e₄, e₅) (ap (λ x. call_of x (number_at m i) v (start_at m i) k n) (sym mine.1))
      each j l (inr d) =
          let s = stays t k n v (thread_at m j) (number_at m j) (value_at m j) (start_at m j) (end_at m j) (answer_at m j) (λ p q. d (its_own j l p q)) in
          let e₁ = b.old 1 j (lit≤ tt) (lit≤ tt) (omega arith) d in
          let e₂ = b.old 2 j (lit≤ tt) (lit≤ tt) (omega arith) d in
          let e₃ = b.old 3 j (lit≤ tt) (lit≤ tt) (omega arith) d in
          let e₄ = b.old 4 j (lit≤ tt) (lit≤ tt) (omega arith) d in
          let e₅ = b.old 5 j (lit≤ tt) (lit≤ tt) (omega arith) d in
          let e₆ = b.old 6 j (lit≤ tt) (lit≤ tt) (omega arith) d in
          rw (s, e₁, e₂, e₃, e₄, e₅, e₆)

  known_on :
      1 ≤ k → (u j : ℕ) → u ≤ 16 → j < c → thread_at m' j ≡ u → end_at m' j ≡ 0 → (j ≡ i) ⊎ (j ≢ i) → busy_at m' u ≡ suc j
  known_on late u j x l p q (inl e) = let z = ap (end_at m') e ∙ b.end_is in absurd (omega arith)
  known_on late u j x l p q (inr d) =
      let th = sym (b.thread_is j (omega arith)) ∙ p in
      let en = sym (b.old 2 j (lit≤ tt) (lit≤ tt) (omega arith) d) ∙ q in
      b.others u x (λ e. d (its_own j l (th ∙ e) en)) ∙ table.known u j x l th en

  under_way_on :
      (u j : ℕ) → u ≤ 16 → busy_at m' u ≡ suc j → (u ≡ t) ⊎ (u ≢ t) → (j < c) × (thread_at m' j ≡ u) × (end_at m' j ≡ 0)
  under_way_on u j x e (inl d) = let z = ap (busy_at m') d ∙ b.busy_is in absurd (omega arith)
  under_way_on u j x e (inr d) =
      let w = table.under_way u j x (sym (b.others u x d) ∙ e) in
      let o : j ≢ i = λ y. d (sym w.1 ∙ ap (thread_at m) y ∙ mine.1) in
      (w.0, b.thread_is j (omega arith) ∙ w.1, b.old 2 j (lit≤ tt) (lit≤ tt) (omega arith) o ∙ w.2)

  pub table_ended : 1 ≤ k → Table m' c
  table_ended late = record {
    size = b.size ∙ table.size;
    known = λ u j x l p q. known_on late u j x l p q (same_or_not j i);
    under_way = λ u j x e. under_way_on u j x e (same_or_not u t);
    plain = λ j l p. b.number_is j (omega arith) ∙ table.plain j l (sym (b.thread_is j (omega arith)) ∙ p);
    highest = λ j l. omega (arith, b.number_is j (omega arith), table.highest j l, b.top_and_marks 17 (lit≤ tt) (lit≤ tt));
    distinct =
        λ h j l o e z.
        let x = b.number_is h (omega arith) in
        let y = b.number_is j (omega arith) in
        table.distinct h j l o (sym x ∙ e ∙ y) (λ w. z (x ∙ w));
    marked =
        λ j l.
        rw (b.number_is j (omega arith), b.top_and_marks (mark_of (number_at m j)) (omega arith) (omega arith)) (table.marked j l);
  }

-- where the call under way stands
pub its_place :
    (m : List ℕ) (c t : ℕ) → Table m c → c ≤ 4096 → t ≤ 16 → busy_at m t ≢ 0 → (busy_at m t ≡ suc (busy_at m t - 1)) × (busy_at m t - 1 < 4096)
its_place m c t table room a b =
    let e : busy_at m t ≡ suc (busy_at m t - 1) = omega arith in
    let l = (table.under_way t (busy_at m t - 1) a e).0 in
    (e, omega arith)

-- The three ways out of an end.
module _ (m : List ℕ) (c k t n v : ℕ) (table : Table m c) (a : t ≤ 16) where
  pub end_idle : (m' : List ℕ) → busy_at m t ≡ 0 → Enters k (end_event t n v) m c m' c false
  end_idle m' idle = refusing k _ m c m' c (idle_end m c table t n v a idle)

  pub end_other :
      (m' : List ℕ) (i : ℕ) → busy_at m t ≡ suc i → repeats_at m i t n v ≡ false → Enters k (end_event t n v) m c m' c false
  end_other m' i busy r = refusing k _ m c m' c (other_end m c table t n v i a busy r)

  pub end_good :
      (m' : List ℕ) (i : ℕ) → m' ≡ ended m i k t n v → c ≤ 4096 → 1 ≤ k → busy_at m t ≡ suc i → repeats_at m i t n v ≡ true
      → Enters k (end_event t n v) m c m' c true
  end_good m' i e room late busy r =
      let l = (table.under_way t i a busy).0 in
      let b = subst (λ x. Ended m x i k t n v) (sym e) (ended_is m i k t n v table.size (omega arith) a) in
      accepting k _ m c m' c (good_end m c table t n v i a busy r) (table_ended m m' c i k t n v b table room a busy late)
      (calls_ended m m' c i k t n v b table room a busy late (λ z. same t z r))
    where
      same : (u : ℕ) → u ≢ 0 → repeats_at m i u n v ≡ true → value_at m i ≡ v
      same zero z r = absurd (z refl)
      same (suc u) z r = eqb-true _ _ (both (eqb (number_at m i) n) (eqb (value_at m i) v) (rw (eqb-suc-zero u) at r)).1
