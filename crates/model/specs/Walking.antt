-- Producer moves between records, phases 2 to 7, keep the invariant. From the frame of moves that change one thread and places.
use Rattle.std.specs.Prelude.{◌≡◌, refl, Bool, true, false, cond, ℕ, suc, ◌+◌, ◌*◌, ◌≤◌, ◌<◌, leb, ltb}
use Rattle.std.proofs.Common.{sym, ap, subst, arith, leb-true, leb-false, ltb-true, ltb-false}
use Rattle.std.proofs.Math.Option.{some}
use Rattle.model.specs.State.{Producer, seeking, ahead, shifting, behind, writing, State, override, call_of}
use Rattle.model.specs.Invariant.{AtPosition, ProducerOk, Invariant}
use Rattle.model.specs.Moves.{with_producer, chosen, load_tail, pass_on, link_last, shift_tail, leave_tail, go_back}
use Rattle.model.specs.Frame.{producer_kept}
use Rattle.model.specs.Threads.{calls_same, producers_after, kept_moved, producer_moves, producer_goes_on}

-- "choose", by cases
chosen_all : (P : Producer → Type 0) (B n v L k : ℕ) → (B * k ≤ L → P (ahead n v L k)) → (L + B < B * k → P (behind n v L k))
    → (L < B * k → B * k ≤ L + B → P (writing n v L k)) → P (chosen B n v L k)
chosen_all P B n v L k far near here = outer (leb (B * k) L) refl
  where
    inner : (b : Bool) → ltb (L + B) (B * k) ≡ b → L < B * k → P (cond b (behind n v L k) (writing n v L k))
    inner true e l = near (ltb-true (L + B) (B * k) e)
    inner false e l = here l (ltb-false (L + B) (B * k) e)

    outer : (b : Bool) → leb (B * k) L ≡ b
        → P (cond b (ahead n v L k) (cond (ltb (L + B) (B * k)) (behind n v L k) (writing n v L k)))
    outer true e = far (leb-true (B * k) L e)
    outer false e = inner (ltb (L + B) (B * k)) refl (leb-false (B * k) L e)

module _ (B : ℕ) (s : State) (i : Invariant B s) (t : ℕ) where
  -- the clause of the phase that the producer is in
  pub producer_clause : (x : Producer) → s.producer t ≡ x → ProducerOk B s x
  producer_clause x e = subst (ProducerOk B s) e (i.producers t)

  choose : (n v L k : ℕ) (x : Producer) → s.producer t ≡ x → call_of x ≡ some (record { number = n; value = v })
      → AtPosition s.tail n v L s.entry s.history → k ≤ s.tp → Invariant B (with_producer s t (chosen B n v L k))
  choose n v L k x is_x has o below =
      chosen_all (λ z. Invariant B (with_producer s t z)) B n v L k
      (λ l. producer_goes_on B s i t x (ahead n v L k) _ is_x has refl (o, below, l))
      (λ l. producer_goes_on B s i t x (behind n v L k) _ is_x has refl (o, below, l))
      (λ l g. producer_goes_on B s i t x (writing n v L k) _ is_x has refl (o, below, (l, g)))

  pub load_tail_lem : (n v L : ℕ) → s.producer t ≡ seeking n v L → Invariant B (load_tail B s t n v L)
  load_tail_lem n v L e = choose n v L s.tp _ e refl (producer_clause _ e) (omega arith)

  pub pass_on_lem : (n v L k : ℕ) → s.producer t ≡ ahead n v L k → k < s.hi → Invariant B (pass_on s t n v L k)
  pass_on_lem n v L k e l =
      let o = producer_clause _ e in
      producer_goes_on B s i t _ (shifting n v L k) _ e refl refl (o.0, o.1, o.2, l)

  pub leave_tail_lem : (n v L k : ℕ) → s.producer t ≡ shifting n v L k → Invariant B (leave_tail s t n v L k)
  leave_tail_lem n v L k e = producer_goes_on B s i t _ (seeking n v L) _ e refl refl (producer_clause _ e).0

  pub shift_tail_lem : (n v L k : ℕ) → s.producer t ≡ shifting n v L k → k ≡ s.tp → Invariant B (shift_tail s t n v L k)
  shift_tail_lem n v L k e last =
      let o = producer_clause _ e in
      producer_moves B s i (suc k) s.hi (omega arith) (omega arith) (omega arith) (override s.producer t (seeking n v L))
      (calls_same s.producer t (seeking n v L) _ _ (sym (ap call_of e)) i.calls)
      (producers_after B s i (shift_tail s t n v L k) t _ (seeking n v L) _ e refl
      (λ m ne. kept_moved s s.hp s.lo (suc k) s.hi (override s.producer t (seeking n v L)) s.consumer (omega arith)
      (omega arith) m)
      o.0)

  -- to some record of smaller place
  pub go_back_lem : (n v L k j : ℕ) → s.producer t ≡ behind n v L k → j < k → Invariant B (go_back B s t n v L j)
  go_back_lem n v L k j e less =
      let o = producer_clause _ e in
      choose n v L j _ e refl o.0 (omega arith)

pub link_last_lem : (B : ℕ) (s : State) → Invariant B s → Invariant B (link_last s)
link_last_lem B s i =
    producer_moves B s i s.tp (suc s.hi) (omega arith) (omega arith) (omega (arith, i.places)) s.producer i.calls
    (λ u. producer_kept B s (link_last s) (s.producer u)
    (λ y e. kept_moved s s.hp s.lo s.tp (suc s.hi) s.producer s.consumer (omega arith) (omega arith) y.number)
    (i.producers u))
