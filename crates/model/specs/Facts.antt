-- Laws of the history's facts, of entries and of functions changed at one place. From the definitions of crate criterion and of
-- State alone.
use Rattle.std.specs.Prelude.{◌≡◌, refl, ◌≢◌, Bool, true, false, cond, ◌∷◌, ℕ, eqb, []}
use Rattle.std.proofs.Common.{sym, subst, inl, inr, arith, eqb-true, eq-eqb, ne_eqb}
use Rattle.std.proofs.lemmas.Bool.{eqb-false}
use Rattle.history.specs.Event.{History, enqueue_started, enqueue_ended, dequeue_started, gave_item, gave_empty}
use Rattle.criterion.specs.Explained.{Started, Begun, Ended, EndedBefore, EndedBeforeDequeue}
use Rattle.model.specs.State.{Entry, blank, put, gone, override}

pub started_begun : (n v : ℕ) (h : History) → Started n v h → Begun n h
started_begun n v (enqueue_started t m w ∷ h) (inl e) = inl e.0
started_begun n v (enqueue_started t m w ∷ h) (inr e) = inr (started_begun n v h e)
started_begun n v (enqueue_ended t m w ∷ h) e = started_begun n v h e
started_begun n v (dequeue_started ∷ h) e = started_begun n v h e
started_begun n v (gave_item m w ∷ h) e = started_begun n v h e
started_begun n v (gave_empty ∷ h) e = started_begun n v h e
started_begun n v [] e = elim e [ ]

pub ended_before_ended : (a b : ℕ) (h : History) → EndedBefore a b h → Ended a h
ended_before_ended a b (enqueue_started t m w ∷ h) (inl e) = e.1
ended_before_ended a b (enqueue_started t m w ∷ h) (inr e) = ended_before_ended a b h e
ended_before_ended a b (enqueue_ended t m w ∷ h) e = inr (ended_before_ended a b h e)
ended_before_ended a b (dequeue_started ∷ h) e = ended_before_ended a b h e
ended_before_ended a b (gave_item m w ∷ h) e = ended_before_ended a b h e
ended_before_ended a b (gave_empty ∷ h) e = ended_before_ended a b h e
ended_before_ended a b [] e = elim e [ ]

pub ended_before_dequeue_ended : (a : ℕ) (h : History) → EndedBeforeDequeue a h → Ended a h
ended_before_dequeue_ended a (enqueue_started t m w ∷ h) e = ended_before_dequeue_ended a h e
ended_before_dequeue_ended a (enqueue_ended t m w ∷ h) e = inr (ended_before_dequeue_ended a h e)
ended_before_dequeue_ended a (dequeue_started ∷ h) e = e
ended_before_dequeue_ended a (gave_item m w ∷ h) e = ended_before_dequeue_ended a h e
ended_before_dequeue_ended a (gave_empty ∷ h) e = ended_before_dequeue_ended a h e
ended_before_dequeue_ended a [] e = elim e [ ]

-- an entry has one state
pub put_not_blank : (e : Entry) → e ≡ put → e ≡ blank → ⊥
put_not_blank e p q = let z : ◌≡◌ {A = ℕ} 0 1 = cc in omega arith

pub put_not_gone : (e : Entry) → e ≡ put → e ≡ gone → ⊥
put_not_gone e p q = let z : ◌≡◌ {A = ℕ} 0 1 = cc in omega arith

pub gone_not_blank : (e : Entry) → e ≡ gone → e ≡ blank → ⊥
gone_not_blank e p q = let z : ◌≡◌ {A = ℕ} 0 1 = cc in omega arith

-- f, but x at k
module _ {A : Type 0} (f : ℕ → A) (k : ℕ) (x : A) where
  pub override_same : override f k x k ≡ x
  override_same = rw (eq-eqb k k refl)

  pub override_other : (j : ℕ) → j ≢ k → override f k x j ≡ f j
  override_other j ne = rw (ne_eqb k j (λ e. ne (sym e)))

  -- what holds of x at k, and of f everywhere else, holds everywhere
  pub override_all : (P : ℕ → A → Type 0) → P k x → ((j : ℕ) → j ≢ k → P j (f j)) → (j : ℕ) → P j (override f k x j)
  override_all P here there j = go (eqb k j) refl
    where
      go : (b : Bool) → eqb k j ≡ b → P j (cond b x (f j))
      go true e = subst (λ (i : ℕ). P i x) (eqb-true k j e) here
      go false e = there j (λ d. eqb-false k j e (sym d))
