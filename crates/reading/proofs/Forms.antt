-- The forms of four words, kind by kind.
use mathlib.Core.Path.{◌≡◌, refl, sym, ◌∙◌, ap}
use mathlib.Core.Logic.{◌≢◌}
use mathlib.Core.Bool.{Bool, true, false, ◌&&◌, ◌||◌}
use mathlib.Core.Option.{some}
use Prim.Native.Nat.{ℕ, zero, suc, ◌≤◌}
use native.Mathlib.Omega.{arith}
use lib.Dec.{leb, eqb}
use borrow.Author.Tests.{leb-true, eqb-true}
use Rattle.history.specs.Event.{Event, enqueue_started, enqueue_ended, dequeue_started, gave_item, gave_empty, given, is_producer, decode}
use Rattle.reading.proofs.Logic.{true_not_false, false_not_true, both}
use Rattle.reading.specs.Steps.{is_event, start_event, end_event, Starts}

given_is : (b : Bool) (e : Event) → is_event (given b e) ≡ b
given_is true e = refl
given_is false e = refl

pub kind_1_or_2 : (k t n v : ℕ) → 1 ≤ k → k ≤ 2 → is_event (decode k t n v) ≡ (is_producer t && leb 1 n)
unfolding decode
kind_1_or_2 zero t n v l u = absurd (omega arith)
kind_1_or_2 (suc zero) t n v l u = given_is (is_producer t && leb 1 n) _
kind_1_or_2 (suc (suc zero)) t n v l u = given_is (is_producer t && leb 1 n) _
kind_1_or_2 (suc (suc (suc k))) t n v l u = absurd (omega arith)

module _ (k t n v : ℕ) where
  pub kind_3 : k ≡ 3 → is_event (decode k t n v) ≡ (eqb t 0 && eqb n 0 && eqb v 0)
  unfolding decode
  kind_3 e = rw e (given_is (eqb t 0 && eqb n 0 && eqb v 0) _)

  pub kind_4 : k ≡ 4 → is_event (decode k t n v) ≡ (eqb t 0 && leb 1 n)
  unfolding decode
  kind_4 e = rw e (given_is (eqb t 0 && leb 1 n) _)

  pub kind_5 : k ≡ 5 → is_event (decode k t n v) ≡ (eqb t 0 && eqb n 0 && eqb v 0)
  unfolding decode
  kind_5 e = rw e (given_is (eqb t 0 && eqb n 0 && eqb v 0) _)

pub no_kind : (k t n v : ℕ) → k ≢ 1 → k ≢ 2 → k ≢ 3 → k ≢ 4 → k ≢ 5 → is_event (decode k t n v) ≡ false
unfolding decode
no_kind zero t n v a b c d e = refl
no_kind (suc zero) t n v a b c d e = absurd (a refl)
no_kind (suc (suc zero)) t n v a b c d e = absurd (b refl)
no_kind (suc (suc (suc zero))) t n v a b c d e = absurd (c refl)
no_kind (suc (suc (suc (suc zero)))) t n v a b c d e = absurd (d refl)
no_kind (suc (suc (suc (suc (suc zero))))) t n v a b c d e = absurd (e refl)
no_kind (suc (suc (suc (suc (suc (suc k)))))) t n v a b c d e = refl

given_some : (b : Bool) (e : Event) → is_event (given b e) ≡ true → (b ≡ true) × (given b e ≡ some e)
given_some true e h = (refl, refl)
given_some false e h = absurd (false_not_true h)

producer : (t n : ℕ) → (is_producer t && leb 1 n) ≡ true → (1 ≤ t) × (t ≤ 16) × (1 ≤ n)
producer t n e =
    let a = both (is_producer t) (leb 1 n) e in
    let b = both (leb 1 t) (leb t 16) a.0 in
    (leb-true 1 t b.0, leb-true t 16 b.1, leb-true 1 n a.1)

zeros : (t n v : ℕ) → (eqb t 0 && eqb n 0 && eqb v 0) ≡ true → (t ≡ 0) × (n ≡ 0)
zeros t n v e =
    let a = both (eqb t 0 && eqb n 0) (eqb v 0) e in
    let b = both (eqb t 0) (eqb n 0) a.0 in
    (eqb-true t 0 b.0, eqb-true n 0 b.1)

-- the events as their last three words give them
producer_start : (t n v : ℕ) → 1 ≤ t → start_event t n v ≡ enqueue_started t n v
producer_start zero n v l = absurd (omega arith)
producer_start (suc t) n v l = refl

producer_end : (t n v : ℕ) → 1 ≤ t → end_event t n v ≡ enqueue_ended t n v
producer_end zero n v l = absurd (omega arith)
producer_end (suc t) n v l = refl

consumer_end : (t n v : ℕ) → t ≡ 0 → 1 ≤ n → end_event t n v ≡ gave_item n v
consumer_end t zero v e l = absurd (omega arith)
consumer_end t (suc n) v e l = rw e

pub start_formed :
    (k t n v : ℕ) → is_event (decode k t n v) ≡ true → (eqb k 1 || eqb k 3) ≡ true
    → (decode k t n v ≡ some (start_event t n v)) × Starts t n
unfolding decode
start_formed zero t n v e s = absurd (false_not_true e)
start_formed (suc zero) t n v e s =
    let g = given_some (is_producer t && leb 1 n) (enqueue_started t n v) e in
    let p = producer t n g.0 in (
      g.1 ∙ ap some (sym (producer_start t n v p.0)),
      record { thread_fits = p.1; none_if_consumer = λ z. absurd (omega arith); some_if_producer = λ z w. omega arith },
    )
start_formed (suc (suc zero)) t n v e s = absurd (false_not_true s)
start_formed (suc (suc (suc zero))) t n v e s =
    let g = given_some (eqb t 0 && eqb n 0 && eqb v 0) dequeue_started e in
    let p = zeros t n v g.0 in (
      g.1 ∙ ap (λ x. some (start_event x n v)) (sym p.0),
      record { thread_fits = omega arith; none_if_consumer = λ z. p.1; some_if_producer = λ z w. z p.0 },
    )
start_formed (suc (suc (suc (suc zero)))) t n v e s = absurd (false_not_true s)
start_formed (suc (suc (suc (suc (suc zero))))) t n v e s = absurd (false_not_true s)
start_formed (suc (suc (suc (suc (suc (suc k)))))) t n v e s = absurd (false_not_true e)

pub end_formed :
    (k t n v : ℕ) → is_event (decode k t n v) ≡ true → (eqb k 1 || eqb k 3) ≡ false
    → (decode k t n v ≡ some (end_event t n v)) × (t ≤ 16)
unfolding decode
end_formed zero t n v e s = absurd (false_not_true e)
end_formed (suc zero) t n v e s = absurd (true_not_false s)
end_formed (suc (suc zero)) t n v e s =
    let g = given_some (is_producer t && leb 1 n) (enqueue_ended t n v) e in
    let p = producer t n g.0 in
    (g.1 ∙ ap some (sym (producer_end t n v p.0)), p.1)
end_formed (suc (suc (suc zero))) t n v e s = absurd (true_not_false s)
end_formed (suc (suc (suc (suc zero)))) t n v e s =
    let g = given_some (eqb t 0 && leb 1 n) (gave_item n v) e in
    let p = both (eqb t 0) (leb 1 n) g.0 in
    let z = eqb-true t 0 p.0 in
    (g.1 ∙ ap some (sym (consumer_end t n v z (leb-true 1 n p.1))), omega arith)
end_formed (suc (suc (suc (suc (suc zero))))) t n v e s =
    let g = given_some (eqb t 0 && eqb n 0 && eqb v 0) gave_empty e in
    let p = zeros t n v g.0 in
    (g.1 ∙ rw (p.0, p.1), omega arith)
end_formed (suc (suc (suc (suc (suc (suc k)))))) t n v e s = absurd (false_not_true e)
