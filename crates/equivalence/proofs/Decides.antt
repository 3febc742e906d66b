-- What the two tests mean: they say yes exactly when the two premises of the theorem hold.
use Rattle.std.specs.Prelude.{◌≡◌, refl, ◌≢◌, ◌↔◌, true, false, ℕ, suc, ◌≤◌, ◌<◌, length}
use Rattle.std.proofs.Common.{sym, ap, subst₂, ◌∙◌, true≢false, arith}
use Rattle.std.proofs.lemmas.Bool.{false≢true}
use Rattle.std.proofs.Math.Decide.{dec_lt}
use Rattle.std.proofs.Math.ListN.{get_or-eq_default}
use Rattle.history.specs.Lists.{All, Member}
use Rattle.history.specs.Event.{Event, History, enqueue_started, enqueue_ended, dequeue_started, gave_item, gave_empty, most_producers}
use Rattle.history.specs.Calls.{Answer, item, empty, Call, enq, deq, start_of, end_of, calls, nothing}
use Rattle.history.specs.Form.{well_formed}
use Rattle.history.specs.Shows.{no_call}
use Rattle.criterion.specs.Times.{At, at_most}
use Rattle.criterion.specs.Tidy.{Gave, enqueue_tells, dequeue_tells, enqueue_of_start, enqueue_of_end, dequeue_of_start, dequeue_of_end}
use Rattle.equivalence.specs.Threads.{thread_of, events_of, caller_of, calls_of, ranked}
use Rattle.equivalence.specs.Tests.{is_start, place, same_below, same_calls, keeps_precedence}
use Rattle.equivalence.specs.Statement.{SameCalls, KeepsPrecedence}
use Rattle.equivalence.specs.Place.{place_zero}
use Rattle.equivalence.specs.Ranks.{Started, ranked_member, rank_in, rank_of}
use Rattle.equivalence.specs.Matched.{ranked_start, ranked_end, own_within, same_own, same_ended}
use Rattle.equivalence.specs.Same.{below_same, same_below_lem, no_event}
use Rattle.equivalence.proofs.Partner.{partner, partner_of_place, KeepsEvents, keeps_events, events_keep}

-- The test of same calls, where the threads are 0 to 16.
pub same_exactly :
    (h g : History) → All (λ e. thread_of e ≤ most_producers) h → All (λ e. thread_of e ≤ most_producers) g
    → (same_calls h g ≡ true) ↔ SameCalls h g
unfolding same_calls
same_exactly h g p q = (λ e t. go e t (dec_lt t (suc most_producers)), same_below_lem (suc most_producers) h g)
  where
    go : same_below (suc most_producers) h g ≡ true → (t : ℕ) → Dec (t < suc most_producers) → events_of t h ≡ events_of t g
    go e t (yes l) = below_same (suc most_producers) h g e t l
    go e t (no f) = no_event most_producers h p t (omega arith) ∙ sym (no_event most_producers g q t (omega arith))

-- The calls of a well-formed history and its starts and ends.
gave_ends : (a : Answer) (k : ℕ) (h : History) → Gave a k h → (e : Event) × At k e h × (is_start e ≡ false)
gave_ends (item n v) k h g = (gave_item n v, g, refl)
gave_ends empty k h g = (gave_empty, g, refl)
gave_ends nothing k h g = elim g [ ]

module _ (g : History) (formed : well_formed g ≡ true) where
  start_event : (c : Call) → Member c (calls g) → (e : Event) × At (start_of c) e g × (is_start e ≡ true)
  start_event (enq x) m = (_, (enqueue_tells g formed x m).started, refl)
  start_event (deq d) m = (_, (dequeue_tells g formed d m).started, refl)

  end_event : (c : Call) → Member c (calls g) → end_of c ≢ 0 → (e : Event) × At (end_of c) e g × (is_start e ≡ false)
  end_event (enq x) m z = (_, (enqueue_tells g formed x m).ended z, refl)
  end_event (deq d) m z = gave_ends d.answer d.end g ((dequeue_tells g formed d m).ended z)

  start_call : (k : ℕ) (e : Event) → At k e g → is_start e ≡ true → (c : Call) × Member c (calls g) × (start_of c ≡ k)
  start_call k (enqueue_started t n v) a s = (_, (enqueue_of_start k t n v g a).1, refl)
  start_call k (enqueue_ended t n v) a s = absurd (false≢true s)
  start_call k dequeue_started a s = let r = dequeue_of_start k g a in (deq r.0, r.1, r.2)
  start_call k (gave_item n v) a s = absurd (false≢true s)
  start_call k gave_empty a s = absurd (false≢true s)

  end_call : (k : ℕ) (e : Event) → At k e g → is_start e ≡ false → (c : Call) × Member c (calls g) × (end_of c ≡ k)
  end_call k (enqueue_started t n v) a s = absurd (true≢false s)
  end_call k (enqueue_ended t n v) a s = let r = enqueue_of_end k t n v g formed a in (enq r.0, r.1, r.2)
  end_call k dequeue_started a s = absurd (true≢false s)
  end_call k (gave_item n v) a s = let r = dequeue_of_end k (item n v) g formed a in (deq r.0, r.1, r.2)
  end_call k gave_empty a s = let r = dequeue_of_end k empty g formed a in (deq r.0, r.1, r.2)

-- what is not the stand-in is a call
is_started : (h : History) (t k : ℕ) → ranked h t k ≢ no_call → Started h t k
is_started h t k f = go (dec_lt k (length (calls_of t (calls h))))
  where
    go : Dec (Started h t k) → Started h t k
    go (yes l) = l
    go (no n) = absurd (f (get_or-eq_default (calls_of t (calls h)) no_call (omega arith)))

-- Partners of the start and of the end of a call of the second are those of the same call of the first.
module _ (h g : History) (same : SameCalls h g) where
  partner_at : (t i : ℕ) → i ≤ length (events_of t g) → place g t i ≢ 0 → partner h g (place g t i) ≡ place h t i
  partner_at t i l f = partner_of_place h g t i (λ z. f (ap (place g t) z ∙ place_zero g t)) l

  partner_start : (t k : ℕ) → start_of (ranked g t k) ≢ 0 → partner h g (start_of (ranked g t k)) ≡ start_of (ranked h t k)
  partner_start t k f =
      let e = ranked_start g t k in
      ap (partner h g) e ∙ partner_at t _ (own_within g t k).0 (λ z. f (e ∙ z))
      ∙ sym (ranked_start h t k ∙ ap (λ c. place h t (start_of c)) (same_own h g same t k))

  partner_end : (t k : ℕ) → end_of (ranked g t k) ≢ 0 → partner h g (end_of (ranked g t k)) ≡ end_of (ranked h t k)
  partner_end t k f =
      let e = ranked_end g t k in
      ap (partner h g) e ∙ partner_at t _ (own_within g t k).1 (λ z. f (e ∙ z))
      ∙ sym (ranked_end h t k ∙ ap (λ c. place h t (end_of c)) (same_own h g same t k))

-- The test of precedence, of a well-formed second history with the same calls.
module _ (h g : History) (formed : well_formed g ≡ true) (same : SameCalls h g) where
  events_calls : KeepsEvents h g → KeepsPrecedence h g
  events_calls keeps t k u l p =
      let a = ranked g t k in
      let b = ranked g u l in
      let starts : start_of b ≢ 0 = let r = p.1 in omega arith in
      let m = ranked_member g t k (is_started g t k (λ z. p.0 (ap end_of z))) in
      let n = ranked_member g u l (is_started g u l (λ z. starts (ap start_of z))) in
      let e = end_event g formed a m p.0 in
      let f = start_event g formed b n in
      let r = keeps (end_of a) (start_of b) e.0 f.0 e.1 e.2 f.1 f.2 p.1 in (
        same_ended g h (λ t. sym (same t)) t k p.0,
        subst₂ ◌<◌ (partner_end h g same t k p.0) (partner_start h g same u l starts) r,
      )

  calls_events : KeepsPrecedence h g → KeepsEvents h g
  calls_events keeps p q e f a s b r l =
      let c = end_call g formed p e a s in
      let d = start_call g formed q f b r in
      let t = caller_of c.0 in
      let k = rank_in g c.0 in
      let u = caller_of d.0 in
      let j = rank_in g d.0 in
      let x : end_of (ranked g t k) ≡ p = sym (ap end_of (rank_of g c.0 c.1).1) ∙ c.2 in
      let y : start_of (ranked g u j) ≡ q = sym (ap start_of (rank_of g d.0 d.1).1) ∙ d.2 in
      let low = (at_most p e g a).0 in
      let ends : end_of (ranked g t k) ≢ 0 = omega arith in
      let starts : start_of (ranked g u j) ≢ 0 = omega arith in
      let o = (keeps t k u j (ends, omega arith)).1 in
      subst₂ ◌<◌ (sym (partner_end h g same t k ends) ∙ ap (partner h g) x) (sym (partner_start h g same u j starts) ∙ ap (partner h g) y) o

pub keeps_exactly : (h g : History) → well_formed g ≡ true → SameCalls h g → (keeps_precedence h g ≡ true) ↔ KeepsPrecedence h g
keeps_exactly h g formed same = (
  λ k. events_calls h g formed same (keeps_events h g k),
  λ k. events_keep h g (λ t. let e = ap length (same t) in omega arith) (calls_events h g formed same k),
)
