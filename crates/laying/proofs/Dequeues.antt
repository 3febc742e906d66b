-- What a call is to the laying: no ended dequeue, or one, and then whether it gave an item.
use mathlib.Core.Path.{◌≡◌, refl}
use mathlib.Core.Logic.{◌⊎◌, inl, inr}
use mathlib.Core.Bool.{Bool, true, false, ◌&&◌, not}
use mathlib.Core.List.{List, [], ◌∷◌}
use Prim.Native.Nat.{ℕ, zero, suc}
use lib.Dec.{eqb}
use Rattle.history.specs.Calls.{item, empty, Dequeue, deq}
use Rattle.criterion.specs.Parts.{dequeue_of}
use Rattle.criterion.specs.Order.{is_item}
use Rattle.reading.specs.Table.{start_at, end_at, answer_at, thread_at, number_at, value_at, call_of, call_at}
use Rattle.laying.specs.Line.{answers_at, gives_at}
use Rattle.laying.proofs.Lining.{not_zero}

-- What a call is: no ended dequeue, or one.
pub record Answered (m : List ℕ) (j : ℕ) : Type 0 where
  pub dequeue : Dequeue
  pub answers : answers_at m j ≡ true
  pub is_call : call_at m j ≡ deq dequeue
  pub alone : dequeue_of (call_at m j) ≡ dequeue ∷ []
  pub start_is : dequeue.start ≡ start_at m j
  pub gives_is : gives_at m j ≡ is_item dequeue.answer

pub record Idle (m : List ℕ) (j : ℕ) : Type 0 where
  pub answers : answers_at m j ≡ false
  pub gives : gives_at m j ≡ false
  pub none : dequeue_of (call_at m j) ≡ []

-- the two tests, by the call's words
abbrev answers_of : (t e : ℕ) → Bool
answers_of t e = eqb t 0 && not (eqb e 0)

abbrev gives_of : (t e a : ℕ) → Bool
gives_of t e a = answers_of t e && not (eqb a 0)

pub either_kind : (m : List ℕ) (j : ℕ) → Idle m j ⊎ Answered m j
either_kind m j = go (thread_at m j) (end_at m j) (answer_at m j) refl refl refl
  where
    idle :
        (t e a : ℕ) → thread_at m j ≡ t → end_at m j ≡ e → answer_at m j ≡ a → answers_of t e ≡ false → gives_of t e a ≡ false
        → dequeue_of (call_of t (number_at m j) (value_at m j) (start_at m j) e a) ≡ [] → Idle m j
    idle t e a p q r x y z = record { answers = rw (p, q) x; gives = rw (p, q, r) y; none = rw (p, q, r) z }

    go : (t e a : ℕ) → thread_at m j ≡ t → end_at m j ≡ e → answer_at m j ≡ a → Idle m j ⊎ Answered m j
    go (suc t) e a p q r = inl (idle (suc t) e a p q r (rw (not_zero t)) (rw (not_zero t)) refl)
    go zero zero a p q r = inl (idle zero zero a p q r refl refl refl)
    go zero (suc e) zero p q r = inr (record {
      dequeue = record { start = start_at m j; end = suc e; answer = empty };
      answers = rw (p, q, not_zero e);
      is_call = rw (p, q, r);
      alone = rw (p, q, r);
      start_is = refl;
      gives_is = rw (p, q, r, not_zero e);
    })
    go zero (suc e) (suc a) p q r = inr (record {
      dequeue = record { start = start_at m j; end = suc e; answer = item (suc a) (value_at m j) };
      answers = rw (p, q, not_zero e);
      is_call = rw (p, q, r);
      alone = rw (p, q, r);
      start_is = refl;
      gives_is = rw (p, q, r, not_zero e, not_zero a);
    })
