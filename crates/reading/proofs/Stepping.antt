-- The ways out of a step.
use mathlib.Core.Path.{◌≡◌, refl, ◌∙◌}
use mathlib.Core.Bool.{Bool, true, false, cond}
use mathlib.Core.List.{List}
use mathlib.Core.Option.{Option, none, some}
use Prim.Native.Nat.{ℕ, zero, suc, ◌+◌}
use Rattle.std.specs.Prelude.{Result, Ok, Err}
use native.Mathlib.Omega.{arith}
use Rattle.history.specs.Event.{Event, decode}
use Rattle.history.specs.Form.{follows}
use Rattle.reading.specs.declared.Refusal.{Refusal}
use Rattle.reading.specs.declared.Refusal.TheVariants.{Form, Follows}
use Rattle.reading.specs.Table.{calls_in}
use Rattle.reading.specs.Steps.{is_event, start_event, end_event, started_by, Enters, Stepped}
use Rattle.reading.proofs.Logic.{true_not_false}

-- no two events are one
some_same : {A : Type 0} (o : Option A) (x y : A) → o ≡ some x → o ≡ some y → x ≡ y
some_same o x y p q = cc

some_not_none : {A : Type 0} (o : Option A) (x : A) → o ≡ some x → o ≡ none → ⊥
some_not_none o x p q = let z : ◌≡◌ {A = ℕ} 0 1 = cc in omega arith

pub not_formed : (o : Option Event) (k : ℕ) (m : List ℕ) (c : ℕ) (m' : List ℕ) → is_event o ≡ false → Stepped o k m c m' (Err Form)
not_formed none k m c m' e = record { replies = refl; enters = λ x p. absurd (some_not_none none x p refl) }
not_formed (some x) k m c m' e = absurd (true_not_false e)

-- how many calls have been started then
pub starts_one : (k t n v : ℕ) → decode k t n v ≡ some (start_event t n v) → (c : ℕ) → started_by (start_event t n v) c ≡ c + 1
starts_one k zero n v is c = refl
starts_one k (suc t) n v is c = refl

pub starts_none : (k t n v : ℕ) → decode k t n v ≡ some (end_event t n v) → (c : ℕ) → started_by (end_event t n v) c ≡ c
starts_none k zero zero v is c = refl
starts_none k zero (suc n) v is c = refl
starts_none k (suc t) n v is c = refl

-- event e is taken in where its test holds
module _ (o : Option Event) (e : Event) (k : ℕ) (m : List ℕ) (c : ℕ) (m' : List ℕ) (c' : ℕ) (r : Bool) (is : o ≡ some e) (counts : started_by e c ≡ c')
    (enters : Enters k e m c m' c' r) where
  stepped : (s : Result ℕ Refusal) → s ≡ cond r (Ok c') (Err Follows) → Stepped o k m c m' s
  stepped s y =
      let f : r ≡ follows e (calls_in m c) = enters.as_formed in
      record {
        replies = y ∙ rw (is, counts, ← f);
        enters = λ x p. rw (← some_same o e x is p, counts, ← f) enters;
      }

  pub taken_in : r ≡ true → Stepped o k m c m' (Ok c')
  taken_in y = stepped (Ok c') (rw y)

  pub turned_down : r ≡ false → Stepped o k m c m' (Err Follows)
  turned_down y = stepped (Err Follows) (rw y)
