-- No more positions lie past the tail record than producers have calls under way.
use Rattle.std.specs.Prelude.{◌≡◌, refl, ◌⊎◌, ◌≢◌, Bool, true, false, cond, ℕ, zero, suc, ◌+◌, ◌-◌, ◌*◌, ◌≤◌, ◌<◌, eqb}
use Rattle.std.proofs.Math.Path.{ap}
use Rattle.std.proofs.Common.{sym, ◌∙◌, inl, inr, ⊎_elim, eqb-true}
use Rattle.std.proofs.Math.Option.{none, some, none-ne-some}
use Rattle.std.proofs.Math.Decide.{dec_le, dec_lt}
use native.Mathlib.Omega.{arith}
use Rattle.std.proofs.lemmas.Bool.{eqb-false}
use Rattle.history.specs.Form.{well_formed}
use Rattle.history.specs.Linearization.{Item}
use Rattle.criterion.specs.Explained.{Ended}
use Rattle.criterion.specs.UnderWay.{same_number, begun_is_current}
use Rattle.model.specs.State.{Entry, blank, put, gone, idle, State, owner, call_of}
use Rattle.model.specs.Invariant.{Has, Invariant}

-- f p, but d in the place of k
module _ (f : ℕ → ℕ) (k d : ℕ) where
  abbrev instead : ℕ → ℕ
  instead p = cond (eqb (f p) k) d (f p)

  instead_cases : (p : ℕ) → ((f p ≡ k) × (instead p ≡ d)) ⊎ ((f p ≢ k) × (instead p ≡ f p))
  instead_cases p = go (eqb (f p) k) refl
    where
      go : (b : Bool) → eqb (f p) k ≡ b → ((f p ≡ k) × (cond b d (f p) ≡ d)) ⊎ ((f p ≢ k) × (cond b d (f p) ≡ f p))
      go true e = inl (eqb-true (f p) k e, refl)
      go false e = inr (eqb-false (f p) k e, refl)

-- m numbers from 1 to k that are all different are at most k
pub pigeonhole : (m k : ℕ) (f : ℕ → ℕ) → ((p : ℕ) → p < m → (1 ≤ f p) × (f p ≤ k))
    → ((p q : ℕ) → p < m → q < m → f p ≡ f q → p ≡ q) → m ≤ k
pigeonhole zero k f within apart = omega arith
pigeonhole (suc m) zero f within apart = omega (arith, within m (omega arith))
pigeonhole (suc m) (suc k) f within apart = omega (arith, pigeonhole m k g g_within g-apart)
  where
    -- m's number takes the place of suc k, so that no number below m is suc k
    g : ℕ → ℕ
    g = instead f (suc k) (f m)

    apart-last : (p : ℕ) → p < m → f p ≢ f m
    apart-last p l e = omega (arith, apart p m (omega arith) (omega arith) e)

    g_within : (p : ℕ) → p < m → (1 ≤ g p) × (g p ≤ k)
    g_within p l = go (instead_cases f (suc k) (f m) p)
      where
        go : ((f p ≡ suc k) × (g p ≡ f m)) ⊎ ((f p ≢ suc k) × (g p ≡ f p)) → (1 ≤ g p) × (g p ≤ k)
        go (inl c) = omega (arith, c, within m (omega arith), apart-last p l)
        go (inr c) = omega (arith, c, within p (omega arith))

    g-apart : (p q : ℕ) → p < m → q < m → g p ≡ g q → p ≡ q
    g-apart p q lp lq e = go (instead_cases f (suc k) (f m) p) (instead_cases f (suc k) (f m) q)
      where
        go : ((f p ≡ suc k) × (g p ≡ f m)) ⊎ ((f p ≢ suc k) × (g p ≡ f p))
            → ((f q ≡ suc k) × (g q ≡ f m)) ⊎ ((f q ≢ suc k) × (g q ≡ f q)) → p ≡ q
        go (inl c) (inl d) = apart p q (omega arith) (omega arith) (c.0 ∙ sym d.0)
        go (inl c) (inr d) = absurd (apart-last q lq (sym d.1 ∙ sym e ∙ c.1))
        go (inr c) (inl d) = absurd (apart-last p lp (sym c.1 ∙ e ∙ d.1))
        go (inr c) (inr d) = apart p q (omega arith) (omega arith) (sym c.1 ∙ e ∙ d.1)

-- Positions past the tail record belong to producers: each to another one, and none of them to an idle one.
module _ (B : ℕ) (s : State) (i : Invariant B s) (formed : well_formed s.history ≡ true) (P : ℕ)
    (outside : (t : ℕ) → ((1 ≤ t) × (t ≤ P) → ⊥) → s.producer t ≡ idle) where
  -- the producer whose call owns position p
  abbrev Taker : ℕ → Type 0
  Taker p = (t : ℕ) × (v : ℕ) × (call_of (s.producer t) ≡ some (record { number = owner p; value = v }))

  taker_of : (p : ℕ) → B * s.tp ≤ p → p < s.tail → Taker p
  taker_of p past l =
      let c = begun_is_current (owner p) s.history formed (i.owners.begun p l) not_ended in
      (c.0, c.1, sym (i.calls.of_producers c.0) ∙ c.2)
    where
      -- its entry is empty
      other : (e : Entry) → e ≢ blank → Has s.tail s.entry e (owner p) → ⊥
      other e n (q, m, own, is) =
          n (sym is ∙ ap s.entry (omega arith) ∙ i.entries.blank_ahead p past)

      not_ended : Ended (owner p) s.history → ⊥
      not_ended e = ⊎_elim (λ w. other gone (λ q. let x : ◌≡◌ {A = ℕ} 0 1 = cc in omega arith) (i.past.taken_has (owner p) w)) (other put (λ q. let x : ◌≡◌ {A = ℕ} 0 1 = cc in omega arith)) (i.past.ended_has (owner p) e)

  taker : (k : ℕ) → B * s.tp + k < s.tail → Taker (B * s.tp + k)
  taker k = taker_of (B * s.tp + k) (omega arith)

  -- a producer with a call is one of 1 to P
  is_there : (t : ℕ) (x : Item) → call_of (s.producer t) ≡ some x → (1 ≤ t) × (t ≤ P)
  is_there t x e = go (dec_le 1 t) (dec_le t P)
    where
      none_there : ((1 ≤ t) × (t ≤ P) → ⊥) → ⊥
      none_there n = let q : none ≡ some x = ap call_of (sym (outside t n)) ∙ e in let y : ◌≡◌ {A = ℕ} 0 1 = cc in omega arith

      go : Dec (1 ≤ t) → Dec (t ≤ P) → (1 ≤ t) × (t ≤ P)
      go (yes a) (yes b) = (a, b)
      go (yes a) (no b) = absurd (none_there (λ h. b h.1))
      go (no a) b = absurd (none_there (λ h. a h.0))

  module _ (t : ℕ) (a : (1 ≤ t) × (t ≤ P)) (e : s.producer t ≡ idle) where
    -- t has no call
    not_there : (u : ℕ) (x : Item) → call_of (s.producer u) ≡ some x → u ≢ t
    not_there u x c q = none-ne-some x (sym (ap (λ (k : ℕ). call_of (s.producer k)) q ∙ ap call_of e) ∙ c)

    -- the thread of the k-th such position, and t behind them
    thread : (k : ℕ) → Dec (B * s.tp + k < s.tail) → ℕ
    thread k (yes l) = (taker k l).0
    thread k (no l) = t

    within : (k : ℕ) (d : Dec (B * s.tp + k < s.tail)) → (1 ≤ thread k d) × (thread k d ≤ P)
    unfolding thread
    within k (yes l) = let w = taker k l in is_there w.0 _ w.2
    within k (no l) = a

    apart : (j k : ℕ) (d : Dec (B * s.tp + j < s.tail)) (f : Dec (B * s.tp + k < s.tail)) → j ≤ s.tail - B * s.tp → k ≤ s.tail - B * s.tp
        → thread j d ≡ thread k f → j ≡ k
    unfolding thread
    apart j k (yes l) (yes m) a b q =
        let own = same_number (sym (taker j l).2 ∙ ap (λ (u : ℕ). call_of (s.producer u)) q ∙ (taker k m).2) in
        omega (arith, own)
    apart j k (yes l) (no m) a b q = let w = taker j l in absurd (not_there w.0 _ w.2 q)
    apart j k (no l) (yes m) a b q = let w = taker k m in absurd (not_there w.0 _ w.2 (sym q))
    apart j k (no l) (no m) a b q = omega arith

    pub start_room : s.tail < B * s.tp + P
    start_room = go (dec_le (B * s.tp) s.tail)
      where
        go : Dec (B * s.tp ≤ s.tail) → s.tail < B * s.tp + P
        go (yes l) =
            omega (
              arith,
              pigeonhole (suc (s.tail - B * s.tp)) P (λ k. thread k (dec_lt (B * s.tp + k) s.tail))
                  (λ k h. within k (dec_lt (B * s.tp + k) s.tail))
                  (λ j k g h. apart j k (dec_lt (B * s.tp + j) s.tail) (dec_lt (B * s.tp + k) s.tail) (omega arith) (omega arith)),
            )
        go (no l) = omega arith
