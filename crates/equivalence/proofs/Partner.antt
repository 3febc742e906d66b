-- What the test of precedence says of events: an end and a start of the second that comes after it stand in the first in the
-- same order. An event's partner is the place in the first of the same thread's event of the same rank.
use Rattle.std.specs.Prelude.{◌≡◌, refl, ◌≢◌, Bool, true, false, ◌||◌, not, cond, [], ◌∷◌, ℕ, suc, max, ◌≤◌, ◌<◌, eqb, ltb, length}
use Rattle.std.proofs.Common.{sym, ap, ◌∙◌, inl, inr, arith, eq-eqb, ne_eqb, ltb-true, lt-ltb}
use Rattle.std.proofs.Math.Bool.{and-eq-true_iff}
use Rattle.std.proofs.Math.Decide.{ℕ_discrete}
use Rattle.history.specs.Event.{Event, History}
use Rattle.criterion.specs.Times.{At, at_most, now, later, at_earlier}
use Rattle.equivalence.specs.Threads.{thread_of, events_of}
use Rattle.equivalence.specs.Tests.{is_start, place, place_in, latest_end, keeps_precedence}
use Rattle.equivalence.specs.Place.{own_event, other_event, place_last, place_of_other, place_stays, place_there, place_at_most}

-- the place in the first of what is event p of the second; 0 where the second has no such event
abbrev pub partner : (first second : History) → ℕ → ℕ
partner first [] p = 0
partner first (e ∷ past) p = cond (eqb p (suc (length past))) (place_in first e past) (partner first past p)

module _ (h : History) (e : Event) (past : History) where
  partner_last : partner h (e ∷ past) (suc (length past)) ≡ place_in h e past
  partner_last = rw (eq-eqb (suc (length past)) (suc (length past)) refl)

  partner_stays : (p : ℕ) → p ≤ length past → partner h (e ∷ past) p ≡ partner h past p
  partner_stays p l = rw (ne_eqb p (suc (length past)) (omega arith))

-- The partner of the place of a thread's event is the place of that event in the first.
pub partner_of_place : (h g : History) (t i : ℕ) → i ≢ 0 → i ≤ length (events_of t g) → partner h g (place g t i) ≡ place h t i
partner_of_place h [] t i z l = absurd (z (omega arith))
partner_of_place h (e ∷ g) t i z l =
    go (ℕ_discrete (thread_of e) t) (ℕ_discrete i (suc (length (events_of t g)))) (partner_of_place h g t i z)
  where
    before :
        place (e ∷ g) t i ≡ place g t i → partner h g (place g t i) ≡ place h t i
        → partner h (e ∷ g) (place (e ∷ g) t i) ≡ place h t i
    before r ih = ap (partner h (e ∷ g)) r ∙ partner_stays h e g (place g t i) (place_at_most g t i) ∙ ih

    go :
        Dec (thread_of e ≡ t) → Dec (i ≡ suc (length (events_of t g)))
        → (i ≤ length (events_of t g) → partner h g (place g t i) ≡ place h t i)
        → partner h (e ∷ g) (place (e ∷ g) t i) ≡ place h t i
    go (yes p) (yes q) ih =
        ap (λ j. partner h (e ∷ g) (place (e ∷ g) t j)) q ∙ ap (partner h (e ∷ g)) (place_last e g t p) ∙ partner_last h e g
        ∙ ap (λ u. place h u (suc (length (events_of u g)))) p ∙ ap (place h t) (sym q)
    go (yes p) (no q) ih = before (place_stays e g t i q) (ih (let n = ap length (own_event e g t p) in omega arith))
    go (no f) d ih = before (place_of_other e g t i f) (ih (let n = ap length (other_event e g t f) in omega arith))

-- every thread has no more events in the second
abbrev pub NoMore : (first second : History) → Type 0
NoMore h g = (t : ℕ) → length (events_of t g) ≤ length (events_of t h)

no_more_before : (h : History) (e : Event) (past : History) → NoMore h (e ∷ past) → NoMore h past
no_more_before h e past m t = go (ℕ_discrete (thread_of e) t)
  where
    go : Dec (thread_of e ≡ t) → length (events_of t past) ≤ length (events_of t h)
    go (yes p) = let n = ap length (own_event e past t p) in let r = m t in omega arith
    go (no f) = let n = ap length (other_event e past t f) in let r = m t in omega arith

last_there : (h : History) (e : Event) (past : History) → NoMore h (e ∷ past) → place_in h e past ≢ 0
last_there h e past m =
    place_there h (thread_of e) _ (omega arith)
    (let n = ap length (own_event e past (thread_of e) refl) in let r = m (thread_of e) in omega arith)

-- The latest end is at or past every end, and below whatever is past every end.
module _ (h : History) where
  latest_past_ends :
      (g : History) (p : ℕ) (e : Event) → At p e g → is_start e ≡ false → partner h g p ≤ latest_end h g
  latest_past_ends (f ∷ g) p e (inl a) s =
      let r = ap (partner h (f ∷ g)) a.0 ∙ partner_last h f g in
      rw (sym (ap is_start a.1) ∙ s) (omega arith)
  latest_past_ends (f ∷ g) p e (inr a) s =
      let l = at_most p e g a in
      let r = partner_stays h f g p l.1 in
      go (is_start f) (let m = latest_past_ends g p e a s in omega arith)
    where
      go :
          (b : Bool) → partner h (f ∷ g) p ≤ latest_end h g
          → partner h (f ∷ g) p ≤ cond b (latest_end h g) (max (latest_end h g) (place_in h f g))
      go true m = m
      go false m = omega arith
  latest_past_ends [] p e m s = elim m [ ]

  latest_below :
      (g : History) (n : ℕ) → n ≢ 0 → ((p : ℕ) (e : Event) → At p e g → is_start e ≡ false → partner h g p < n) → latest_end h g < n
  latest_below [] n z f = omega arith
  latest_below (e ∷ g) n z f =
      go (is_start e) refl
      (latest_below g n z
      (λ p k a s. let l = at_most p k g a in let r = partner_stays h e g p l.1 in let m = f p k (inr a) s in omega arith))
    where
      go : (b : Bool) → is_start e ≡ b → latest_end h g < n → cond b (latest_end h g) (max (latest_end h g) (place_in h e g)) < n
      go true s m = m
      go false s m =
          let k = f (suc (length g)) e (inl (refl, refl)) s in
          let r = partner_last h e g in
          omega arith

-- An end and a start after it keep their order.
abbrev pub KeepsEvents : (first second : History) → Type 0
KeepsEvents h g =
    (p q : ℕ) (e f : Event) → At p e g → is_start e ≡ false → At q f g → is_start f ≡ true → p < q → partner h g p < partner h g q

shorter : (p : ℕ) (e f : Event) (g : History) → At p e (f ∷ g) → p ≤ length g → At p e g
shorter p e f g a l = at_earlier {h = f ∷ g} (later now) p e a l

-- the two tests of the last event
module _ (h : History) (e : Event) (past : History) (yes : keeps_precedence h (e ∷ past) ≡ true) where
  last_tests : (keeps_precedence h past ≡ true) × ((not (is_start e) || ltb (latest_end h past) (place_in h e past)) ≡ true)
  unfolding keeps_precedence
  last_tests = (and-eq-true_iff (keeps_precedence h past) _).0 yes

  kept_last : is_start e ≡ true → latest_end h past < place_in h e past
  kept_last s = ltb-true (latest_end h past) (place_in h e past) (rw s at last_tests.1)

pub keeps_events : (h g : History) → keeps_precedence h g ≡ true → KeepsEvents h g
keeps_events h (k ∷ g) t p q e f a s (inl b) r l =
    let m = shorter p e k g a (omega arith) in
    let c = kept_last h k g t (sym (ap is_start b.1) ∙ r) in
    let d = latest_past_ends h g p e m s in
    let x = partner_stays h k g p (omega arith) in
    let y = ap (partner h (k ∷ g)) b.0 ∙ partner_last h k g in
    omega arith
keeps_events h (k ∷ g) t p q e f a s (inr b) r l =
    let c = at_most q f g b in
    let d = keeps_events h g (last_tests h k g t).0 p q e f (shorter p e k g a (omega arith)) s b r l in
    let x = partner_stays h k g p (omega arith) in
    let y = partner_stays h k g q (omega arith) in
    omega arith
keeps_events h [] t p q e f a s _ r l = elim a [ ]

pub events_keep : (h g : History) → NoMore h g → KeepsEvents h g → keeps_precedence h g ≡ true
unfolding keeps_precedence
events_keep h [] m k = refl
events_keep h (e ∷ g) m k =
    (and-eq-true_iff (keeps_precedence h g) _).1 (events_keep h g (no_more_before h e g m) before, last (is_start e) refl)
  where
    before : KeepsEvents h g
    before p q d f a s b r l =
        let i = at_most p d g a in
        let j = at_most q f g b in
        let x = partner_stays h e g p i.1 in
        let y = partner_stays h e g q j.1 in
        let n = k p q d f (inr a) s (inr b) r l in
        omega arith

    last : (b : Bool) → is_start e ≡ b → (not b || ltb (latest_end h g) (place_in h e g)) ≡ true
    last true s =
        lt-ltb _ _
        (latest_below h g (place_in h e g) (last_there h e g m)
        (λ p d a r. let i = at_most p d g a in
        let x = partner_stays h e g p i.1 in
        let y = partner_last h e g in
        let n = k p (suc (length g)) d e (inr a) r (inl (refl, refl)) s (omega arith) in
        omega arith))
    last false s = refl
