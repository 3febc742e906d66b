-- One call on the queue: from a call's six words, and from the front of the queue alone.
use mathlib.Core.Path.{◌≡◌, refl}
use mathlib.Core.Logic.{◌≢◌}
use mathlib.Core.Bool.{Bool, true, false, ◌&&◌, cond, false≢true}
use mathlib.Core.List.{List, [], ◌∷◌, ◌++◌}
use mathlib.Core.Option.{Option, none, some}
use Prim.Native.Nat.{ℕ, zero, suc}
use lib.Dec.{eqb}
use Rattle.history.specs.Calls.{Answer, nothing, item, empty, Call, start_of, end_of}
use Rattle.history.specs.Linearization.{Item, Queue, dequeue, perform, run}
use Rattle.reading.specs.Table.{answer_of, call_of}
use Rattle.order_check.specs.Check.{is_some}
use Rattle.order_check.specs.Walk.{items}

-- A call by its six words.
module _ (n v s e a : ℕ) where
  pub start_is : (t : ℕ) → start_of (call_of t n v s e a) ≡ s
  start_is zero = refl
  start_is (suc t) = refl

  pub end_is : (t : ℕ) → end_of (call_of t n v s e a) ≡ e
  end_is zero = refl
  end_is (suc t) = refl

  pub enqueue_items : (t : ℕ) (cs : List Call) → t ≢ 0 → items (call_of t n v s e a ∷ cs) ≡ record { number = n; value = v } ∷ items cs
  enqueue_items zero cs d = absurd (d refl)
  enqueue_items (suc t) cs d = refl

  pub enqueue_performs : (t : ℕ) (q : Queue) → t ≢ 0 → perform (call_of t n v s e a) q ≡ some (q ++ (record { number = n; value = v } ∷ []))
  enqueue_performs zero q d = absurd (d refl)
  enqueue_performs (suc t) q d = refl

  pub dequeue_items : (t : ℕ) (cs : List Call) → t ≡ 0 → items (call_of t n v s e a ∷ cs) ≡ items cs
  dequeue_items t cs z = rw z

  pub dequeue_performs : (t : ℕ) (q : Queue) → t ≡ 0 → perform (call_of t n v s e a) q ≡ dequeue (answer_of e a v) q
  dequeue_performs t q z = rw z

pub run_one : (x : Call) (q : Queue) → run q (x ∷ []) ≡ perform x q
run_one x q = go (perform x q)
  where
    go : (o : Option Queue) → elim o [ none ↦ none | some r ↦ some r ] ≡ o
    go none = refl
    go (some r) = refl

-- A dequeue's answer hangs on the front alone.
pub front_decides :
    (a : Answer) (b : Bool) (x : Item) (q : Queue) → is_some (dequeue a (cond b (x ∷ []) [])) ≡ is_some (dequeue a (cond b (x ∷ q) []))
front_decides nothing true x q = refl
front_decides nothing false x q = refl
front_decides empty true x q = refl
front_decides empty false x q = refl
front_decides (item n v) false x q = refl
front_decides (item n v) true x q = go (eqb x.number n && eqb x.value v)
  where
    go : (b : Bool) → is_some {A = Queue} (cond b (some []) none) ≡ is_some {A = Queue} (cond b (some q) none)
    go true = refl
    go false = refl

pub leaves_rest :
    (a : Answer) (b : Bool) (x : Item) (q : Queue) → is_some (dequeue a (cond b (x ∷ q) [])) ≡ true
    → dequeue a (cond b (x ∷ q) []) ≡ some (cond b q [])
leaves_rest nothing true x q e = refl
leaves_rest nothing false x q e = refl
leaves_rest empty true x q e = absurd (false≢true e)
leaves_rest empty false x q e = refl
leaves_rest (item n v) false x q e = absurd (false≢true e)
leaves_rest (item n v) true x q e = go (eqb x.number n && eqb x.value v) e
  where
    go : (b : Bool) → is_some {A = Queue} (cond b (some q) none) ≡ true → cond b (some q) none ≡ some q
    go true e = refl
    go false e = absurd (false≢true e)
