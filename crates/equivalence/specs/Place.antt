-- Where a thread's events stand in a history: how the places and the thread's own events change with one event.
use Rattle.std.specs.Prelude.{◌≡◌, refl, ◌≢◌, Bool, true, false, ◌&&◌, cond, [], ◌∷◌, ℕ, suc, ◌≤◌, eqb, length}
use Rattle.std.proofs.Common.{ap, ◌∙◌, arith, eq-eqb, ne_eqb}
use Rattle.std.proofs.Math.Decide.{ℕ_discrete}
use Rattle.history.specs.Event.{Event, History}
use Rattle.equivalence.specs.Threads.{thread_of, events_of}
use Rattle.equivalence.specs.Tests.{place}

module _ (e : Event) (h : History) (t : ℕ) where
  pub own_event : thread_of e ≡ t → events_of t (e ∷ h) ≡ e ∷ events_of t h
  own_event p = rw (eq-eqb (thread_of e) t p)

  pub other_event : thread_of e ≢ t → events_of t (e ∷ h) ≡ events_of t h
  other_event f = rw (ne_eqb (thread_of e) t f)

  pub place_last : thread_of e ≡ t → place (e ∷ h) t (suc (length (events_of t h))) ≡ suc (length h)
  place_last p = rw (eq-eqb (thread_of e) t p, eq-eqb (suc (length (events_of t h))) (suc (length (events_of t h))) refl)

  pub place_of_other : (i : ℕ) → thread_of e ≢ t → place (e ∷ h) t i ≡ place h t i
  place_of_other i f = rw (ne_eqb (thread_of e) t f)

  pub place_stays : (i : ℕ) → i ≢ suc (length (events_of t h)) → place (e ∷ h) t i ≡ place h t i
  place_stays i f = go (eqb (thread_of e) t)
    where
      go : (b : Bool) → cond (b && eqb i (suc (length (events_of t h)))) (suc (length h)) (place h t i) ≡ place h t i
      go true = rw (ne_eqb i (suc (length (events_of t h))) f)
      go false = refl

pub place_zero : (h : History) (t : ℕ) → place h t 0 ≡ 0
place_zero [] t = refl
place_zero (e ∷ h) t = place_stays e h t 0 (omega arith) ∙ place_zero h t

-- An event of the thread has a place; no place is past the end.
pub place_there : (h : History) (t i : ℕ) → i ≢ 0 → i ≤ length (events_of t h) → place h t i ≢ 0
place_there [] t i z l = λ e. z (omega arith)
place_there (e ∷ h) t i z l = go (ℕ_discrete (thread_of e) t) (ℕ_discrete i (suc (length (events_of t h)))) (place_there h t i z)
  where
    go :
        Dec (thread_of e ≡ t) → Dec (i ≡ suc (length (events_of t h))) → (i ≤ length (events_of t h) → place h t i ≢ 0)
        → place (e ∷ h) t i ≢ 0
    go (yes p) (yes q) ih = let r = place_last e h t p in rw q (omega arith)
    go (yes p) (no q) ih =
        let r = place_stays e h t i q in
        let n = ap length (own_event e h t p) in
        let s = ih (omega arith) in
        omega arith
    go (no p) d ih =
        let r = place_of_other e h t i p in
        let n = ap length (other_event e h t p) in
        let s = ih (omega arith) in
        omega arith

pub place_at_most : (h : History) (t i : ℕ) → place h t i ≤ length h
place_at_most [] t i = omega arith
place_at_most (e ∷ h) t i = go (eqb (thread_of e) t && eqb i (suc (length (events_of t h)))) (place_at_most h t i)
  where
    go : (b : Bool) → place h t i ≤ length h → cond b (suc (length h)) (place h t i) ≤ suc (length h)
    go true l = omega arith
    go false l = omega arith
