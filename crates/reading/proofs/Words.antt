-- What the tests on calls say of a call's six words.
use mathlib.Core.Path.{◌≡◌, refl}
use mathlib.Core.Logic.{◌≢◌}
use mathlib.Core.Bool.{true, false, ◌&&◌}
use Prim.Native.Nat.{ℕ, zero, suc, ◌≤◌}
use lib.Dec.{eqb}
use borrow.Author.Tests.{eqb-true, eq-eqb, ne_eqb}
use Rattle.history.specs.Calls.{Answer, end_enqueue, end_dequeue}
use Rattle.history.specs.Form.{enqueues, enqueues_item, dequeues, has_number}
use Rattle.reading.specs.Table.{call_of, answer_of}
use Rattle.reading.proofs.Logic.{and_false, last_two_false}

module _ (n v s e a : ℕ) where
  pub is_dequeuing : (th : ℕ) → th ≡ 0 → e ≡ 0 → dequeues (call_of th n v s e a) ≡ true
  is_dequeuing th p q = rw (p, q)

  pub not_dequeuing : (th : ℕ) → (th ≡ 0 → e ≢ 0) → dequeues (call_of th n v s e a) ≡ false
  not_dequeuing zero f = ne_eqb e 0 (f refl)
  not_dequeuing (suc th) f = refl

  pub is_enqueuing : (t th : ℕ) → th ≡ suc t → e ≡ 0 → enqueues (suc t) (call_of th n v s e a) ≡ true
  is_enqueuing t th p q = rw (p, q, eq-eqb (suc t) (suc t) refl)

  pub not_enqueuing : (t th : ℕ) → (th ≡ suc t → e ≢ 0) → enqueues (suc t) (call_of th n v s e a) ≡ false
  not_enqueuing t zero f = refl
  not_enqueuing t (suc th) f = and_false (eqb (suc th) (suc t)) (eqb e 0) (λ p. ne_eqb e 0 (f (eqb-true (suc th) (suc t) p)))

  pub is_enqueuing_item :
      (t th m w : ℕ) → th ≡ suc t → e ≡ 0 → n ≡ m → v ≡ w → enqueues_item (suc t) m w (call_of th n v s e a) ≡ true
  is_enqueuing_item t th m w p q i j = rw (p, q, i, j, eq-eqb (suc t) (suc t) refl, eq-eqb m m refl, eq-eqb w w refl)

  pub not_enqueuing_item :
      (t th m w : ℕ) → (th ≡ suc t → e ≡ 0 → (eqb n m && eqb v w) ≡ false) → enqueues_item (suc t) m w (call_of th n v s e a) ≡ false
  not_enqueuing_item t zero m w f = refl
  not_enqueuing_item t (suc th) m w f =
      last_two_false (eqb (suc th) (suc t)) (eqb e 0) (eqb n m) (eqb v w)
      (λ p q. f (eqb-true (suc th) (suc t) p) (eqb-true e 0 q))

  pub has_number_lem : (th m : ℕ) → th ≢ 0 → n ≡ m → has_number m (call_of th n v s e a) ≡ true
  has_number_lem zero m f p = absurd (f refl)
  has_number_lem (suc th) m f p = eq-eqb n m p

  pub not_number : (th m : ℕ) → n ≢ m → has_number m (call_of th n v s e a) ≡ false
  not_number zero m f = refl
  not_number (suc th) m f = ne_eqb n m f

  -- a call that is not the thread's, or has ended, stays
  pub enqueue_stays : (t th k : ℕ) → (th ≡ suc t → e ≢ 0) → end_enqueue (suc t) k (call_of th n v s e a) ≡ call_of th n v s e a
  enqueue_stays t zero k f = refl
  enqueue_stays t (suc th) k f =
      rw (and_false (eqb (suc th) (suc t)) (eqb e 0) (λ p. ne_eqb e 0 (f (eqb-true (suc th) (suc t) p))))

  pub dequeue_stays : (th k : ℕ) (b : Answer) → (th ≡ 0 → e ≢ 0) → end_dequeue k b (call_of th n v s e a) ≡ call_of th n v s e a
  dequeue_stays zero k b f = rw (ne_eqb e 0 (f refl))
  dequeue_stays (suc th) k b f = refl

  -- the one under way ends
  pub enqueue_ends : (t th k b : ℕ) → th ≡ suc t → e ≡ 0 → end_enqueue (suc t) k (call_of th n v s e a) ≡ call_of th n v s k b
  enqueue_ends t th k b p q = rw (p, q, eq-eqb (suc t) (suc t) refl)

  pub dequeue_ends : (th k b w : ℕ) → 1 ≤ k → th ≡ 0 → e ≡ 0 → end_dequeue k (answer_of k b w) (call_of th n v s e a) ≡ call_of th n w s k b
  dequeue_ends th k b w l p q = rw (p, q)
