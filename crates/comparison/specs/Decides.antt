-- What the comparison's answers mean: a refusal exactly when the words are refused, same calls exactly when the histories have them; and
-- when the second recording may be trusted on the word of the first.
use Rattle.std.specs.Prelude.{◌≡◌, refl, ◌↔◌, Bool, true, false, ◌&&◌, cond, List, ℕ}
use Rattle.std.proofs.Common.{ap, sym, ◌∙◌, arith}
use Rattle.std.proofs.Math.Bool.{and-eq-true_iff}
use Rattle.std.proofs.lemmas.Bool.{false≢true}
use Rattle.history.specs.Event.{History}
use Rattle.history.specs.Form.{most_events, Reading, refused, history, read}
use Rattle.history.specs.Linearization.{Linearizable}
use Rattle.criterion.specs.Pass.{explains}
use Rattle.criterion.specs.Criterion.{verdict}
use Rattle.reading.specs.Admitted.{Refusal, refused_by_10_12_or_13}
use Rattle.equivalence.specs.Statement as carried
use Rattle.equivalence.specs.Tests.{same_calls, keeps_precedence}
use Rattle.equivalence.proofs.Decides.{same_exactly, keeps_exactly}
use Rattle.equivalence.specs.Theorem.{linearizable_carries_over}
use Rattle.matching.specs.Spelled.{Spelled, read_spells}
use Rattle.comparison.specs.declared.Recording.{Recording}
use Rattle.comparison.specs.declared.Recording.TheVariants.{First, Second}
use Rattle.comparison.specs.Compared.{Refused, SameCalls, OtherCalls, reply_to, compared, keeps_to}

same_only : (b : Bool) → cond b SameCalls OtherCalls ≡ SameCalls → b ≡ true
same_only true e = refl
same_only false e = absurd (let z : ◌≡◌ {A = ℕ} 0 1 = cc in omega arith)

-- Two recordings that are read as histories.
module _ (xs ys : List ℕ) (h g : History) (first : read most_events xs ≡ history h) (second : read most_events ys ≡ history g) where
  one : Spelled xs h
  one = read_spells xs h first

  two : Spelled ys g
  two = read_spells ys g second

  replies : (compared xs ys).reply ≡ cond (same_calls h g) SameCalls OtherCalls
  replies = rw (first, second)

  same : (same_calls h g ≡ true) ↔ carried.SameCalls h g
  same = same_exactly h g one.threads two.threads

  keeps : keeps_to (read most_events xs) (read most_events ys) ≡ (same_calls h g && keeps_precedence h g)
  keeps = rw (first, second)

-- The reply is same calls exactly when every thread has the same events in the same order in both.
pub same_calls_exactly :
    (xs ys : List ℕ) (h g : History) → read most_events xs ≡ history h → read most_events ys ≡ history g
    → ((compared xs ys).reply ≡ SameCalls) ↔ carried.SameCalls h g
same_calls_exactly xs ys h g first second = (
  λ e. (same xs ys h g first second).0 (same_only (same_calls h g) (sym (replies xs ys h g first second) ∙ e)),
  λ s. replies xs ys h g first second ∙ ap (λ b. cond b SameCalls OtherCalls) ((same xs ys h g first second).1 s),
)

-- Else it is other calls.
pub else_other_calls :
    (xs ys : List ℕ) (h g : History) → read most_events xs ≡ history h → read most_events ys ≡ history g
    → ((compared xs ys).reply ≡ SameCalls → ⊥) → (compared xs ys).reply ≡ OtherCalls
else_other_calls xs ys h g first second n = go (same_calls h g) (replies xs ys h g first second)
  where
    go : (b : Bool) → (compared xs ys).reply ≡ cond b SameCalls OtherCalls → (compared xs ys).reply ≡ OtherCalls
    go true e = absurd (n e)
    go false e = e

-- The second keeps to the first exactly when both premises hold.
pub keeps_to_exactly :
    (xs ys : List ℕ) (h g : History) → read most_events xs ≡ history h → read most_events ys ≡ history g
    → (keeps_to (read most_events xs) (read most_events ys) ≡ true) ↔ (carried.SameCalls h g × carried.KeepsPrecedence h g)
keeps_to_exactly xs ys h g first second =
    let formed = (two xs ys h g first second).formed in (
      λ e.
          let b = (and-eq-true_iff (same_calls h g) (keeps_precedence h g)).0 (sym (keeps xs ys h g first second) ∙ e) in
          let s = (same xs ys h g first second).0 b.0 in
          (s, (keeps_exactly h g formed s).0 b.1),
      λ p.
          keeps xs ys h g first second
          ∙ (and-eq-true_iff (same_calls h g) (keeps_precedence h g)).1 ((same xs ys h g first second).1 p.0, (keeps_exactly h g formed p.0).1 p.1),
    )

-- Neither of them is refused then.
pub kept_was_read :
    (xs ys : List ℕ) → keeps_to (read most_events xs) (read most_events ys) ≡ true
    → (h : History) × (g : History) × (read most_events xs ≡ history h) × (read most_events ys ≡ history g)
kept_was_read xs ys = go (read most_events xs) (read most_events ys)
  where
    go : (x y : Reading) → keeps_to x y ≡ true → (h : History) × (g : History) × (x ≡ history h) × (y ≡ history g)
    go (refused n) y e = absurd (false≢true e)
    go (history h) (refused n) e = absurd (false≢true e)
    go (history h) (history g) e = (h, g, refl, refl)

-- The second is linearizable if the first is,
pub kept_linearizable :
    (xs ys : List ℕ) (h g : History) → read most_events xs ≡ history h → read most_events ys ≡ history g
    → keeps_to (read most_events xs) (read most_events ys) ≡ true → Linearizable h → Linearizable g
kept_linearizable xs ys h g first second e = let p = (keeps_to_exactly xs ys h g first second).0 e in linearizable_carries_over h g p.0 p.1

-- and the judge's word on the second is explained if its word on the first is.
pub kept_explained :
    (xs ys : List ℕ) (h g : History) → read most_events xs ≡ history h → read most_events ys ≡ history g
    → keeps_to (read most_events xs) (read most_events ys) ≡ true → explains h ≡ true → explains g ≡ true
kept_explained xs ys h g first second e x =
    (verdict g (two xs ys h g first second).formed).1 (kept_linearizable xs ys h g first second e ((verdict h (one xs ys h g first second).formed).0 x))

-- Where neither is refused, the reply is no refusal.
pub no_refusal : (b : Bool) (r : Recording) (n : ℕ) → cond b SameCalls OtherCalls ≡ Refused r n → ⊥
no_refusal true r n e = let z : ◌≡◌ {A = ℕ} 0 1 = cc in omega arith
no_refusal false r n e = let z : ◌≡◌ {A = ℕ} 0 1 = cc in omega arith

-- The first is refused exactly when its words are, whatever the second is;
pub first_refused_exactly : (xs ys : List ℕ) (n : ℕ) → ((compared xs ys).reply ≡ Refused First n) ↔ (read most_events xs ≡ refused n)
first_refused_exactly xs ys n = (only (read most_events xs) (read most_events ys), λ e. rw e)
  where
    only : (x y : Reading) → reply_to x y ≡ Refused First n → x ≡ refused n
    only (refused k) y e = ap refused (cc)
    only (history h) (refused k) e = absurd (let z : ◌≡◌ {A = ℕ} 0 1 = cc in omega arith)
    only (history h) (history g) e = absurd (no_refusal (same_calls h g) First n e)

-- the second when its words are and those of the first are not.
pub second_refused_exactly :
    (xs ys : List ℕ) (n : ℕ)
    → ((compared xs ys).reply ≡ Refused Second n) ↔ ((h : History) × (read most_events xs ≡ history h) × (read most_events ys ≡ refused n))
second_refused_exactly xs ys n = (only (read most_events xs) (read most_events ys), λ p. rw (p.1, p.2))
  where
    only : (x y : Reading) → reply_to x y ≡ Refused Second n → (h : History) × (x ≡ history h) × (y ≡ refused n)
    only (refused k) y e = absurd (let z : ◌≡◌ {A = ℕ} 0 1 = cc in omega arith)
    only (history h) (refused k) e = (h, refl, ap refused (cc))
    only (history h) (history g) e = absurd (no_refusal (same_calls h g) Second n e)

-- Both are refused by 10, 12 and 13 alone.
pub refusals_are_10_12_or_13 : (xs ys : List ℕ) (n : ℕ) (r : Recording) → (compared xs ys).reply ≡ Refused r n → Refusal n
refusals_are_10_12_or_13 xs ys n First e = refused_by_10_12_or_13 xs n ((first_refused_exactly xs ys n).0 e)
refusals_are_10_12_or_13 xs ys n Second e = refused_by_10_12_or_13 ys n ((second_refused_exactly xs ys n).0 e).2
