-- What is shown of each phase: a step that goes on leaves fewer steps, and which replies end a call.
use Rattle.std.specs.Prelude.{◌≡◌, refl, ◌≢◌, List, ℕ, zero, suc, ◌≤◌, ◌<◌, length}
use native.Mathlib.Omega.{arith}
use Rattle.history.specs.Linearization.{Item}
use Rattle.rules.specs.Sizes.{Sizes}
use Rattle.rules.specs.Cell.{Reader, Write, consumer_phase, drain_limit, phase}
use Rattle.rules.specs.Update.{after}
use Rattle.rules.specs.Rule.{Reply, Effect, refuse, reply, ok, started, going, ended, empty, item, drained, goes}
use Rattle.progress.specs.Measure.{phase_of, steps_left}

-- The replies to the steps of thread t: a producer's call ends with end, the consumer's with empty or an item, or a drain's items.
abbrev pub OfThread : (t : ℕ) → Reply → Type 0
OfThread t ok = ⊥
OfThread t (started n) = ⊥
OfThread t going = Unit
OfThread t ended = 1 ≤ t
OfThread t empty = t ≡ 0
OfThread t (item n v) = t ≡ 0
OfThread t (drained xs) = t ≡ 0

pub enqueue_ended : (t : ℕ) → 1 ≤ t → (r : Reply) → OfThread t r → r ≢ going → r ≡ ended
enqueue_ended t l ok of other = absurd of
enqueue_ended t l (started n) of other = absurd of
enqueue_ended t l going of other = absurd (other refl)
enqueue_ended t l ended of other = refl
enqueue_ended t l empty of other = absurd (omega arith)
enqueue_ended t l (item n v) of other = absurd (omega arith)
enqueue_ended t l (drained xs) of other = absurd (omega arith)

-- A drain hands over no more items than its limit.
abbrev pub ItemsFit : Reader → Reply → Type 0
ItemsFit σ ok = Unit
ItemsFit σ (started n) = Unit
ItemsFit σ going = Unit
ItemsFit σ ended = Unit
ItemsFit σ empty = Unit
ItemsFit σ (item n v) = Unit
ItemsFit σ (drained xs) = (1 ≤ σ drain_limit) × (length xs ≤ σ drain_limit)

-- A drain goes on with its limit.
abbrev pub LimitKept : (t : ℕ) (σ σ' : Reader) → Type 0
LimitKept zero σ σ' = σ' drain_limit ≡ σ drain_limit
LimitKept (suc p) σ σ' = Unit

-- A step of thread t that goes on leaves it busy, with fewer steps left; one that ends leaves it idle.
abbrev Ends : Sizes → Reader → ℕ → Reply → List Write → Type 0
Ends z σ t r ws = OfThread t r × (after σ ws (phase_of t) ≡ 0)

unfoldable pub Lowers : Sizes → Reader → ℕ → Effect → Type 0
Lowers z σ t (refuse n) = Unit
Lowers z σ t (reply going ws) = (after σ ws (phase_of t) ≢ 0) × (steps_left z (after σ ws) t < steps_left z σ t) × LimitKept t σ (after σ ws)
Lowers z σ t (reply ok ws) = Ends z σ t ok ws
Lowers z σ t (reply (started n) ws) = Ends z σ t (started n) ws
Lowers z σ t (reply ended ws) = Ends z σ t ended ws
Lowers z σ t (reply empty ws) = Ends z σ t empty ws
Lowers z σ t (reply (item n v) ws) = Ends z σ t (item n v) ws
Lowers z σ t (reply (drained xs) ws) = Ends z σ t (drained xs) ws × ItemsFit σ (drained xs)

pub lowers_of_thread : (z : Sizes) (σ : Reader) (t : ℕ) (r : Reply) (ws : List Write) → Lowers z σ t (reply r ws) → OfThread t r
unfolding Lowers
lowers_of_thread z σ t going ws l = tt
lowers_of_thread z σ t ok ws l = l.0
lowers_of_thread z σ t (started n) ws l = l.0
lowers_of_thread z σ t ended ws l = l.0
lowers_of_thread z σ t empty ws l = l.0
lowers_of_thread z σ t (item n v) ws l = l.0
lowers_of_thread z σ t (drained xs) ws l = l.0.0

pub lowers_fit : (z : Sizes) (σ : Reader) (t : ℕ) (r : Reply) (ws : List Write) → Lowers z σ t (reply r ws) → ItemsFit σ r
unfolding Lowers
lowers_fit z σ t ok ws l = tt
lowers_fit z σ t (started n) ws l = tt
lowers_fit z σ t going ws l = tt
lowers_fit z σ t ended ws l = tt
lowers_fit z σ t empty ws l = tt
lowers_fit z σ t (item n v) ws l = tt
lowers_fit z σ t (drained xs) ws l = l.1

module _ (z : Sizes) (σ : Reader) where
  pub refused_lowers : (t n : ℕ) → Lowers z σ t (refuse n)
  unfolding Lowers
  refused_lowers t n = tt

  pub goes_lowers : (t : ℕ) (ws : List Write) → (after σ ws (phase_of t) ≢ 0) → steps_left z (after σ ws) t < steps_left z σ t → LimitKept t σ (after σ ws)
      → Lowers z σ t (goes ws)
  unfolding Lowers
  goes_lowers t ws busy less kept = (busy, less, kept)

  pub ended_lowers : (p : ℕ) (ws : List Write) → after σ ws (phase (suc p)) ≡ 0 → Lowers z σ (suc p) (reply ended ws)
  unfolding Lowers
  ended_lowers p ws idle = (omega arith, idle)

  pub empty_lowers : (ws : List Write) → after σ ws consumer_phase ≡ 0 → Lowers z σ 0 (reply empty ws)
  unfolding Lowers
  empty_lowers ws idle = (refl, idle)

  pub item_lowers : (n v : ℕ) (ws : List Write) → after σ ws consumer_phase ≡ 0 → Lowers z σ 0 (reply (item n v) ws)
  unfolding Lowers
  item_lowers n v ws idle = (refl, idle)

  pub drained_lowers : (xs : List Item) (ws : List Write) → after σ ws consumer_phase ≡ 0 → ItemsFit σ (drained xs) → Lowers z σ 0 (reply (drained xs) ws)
  unfolding Lowers
  drained_lowers xs ws idle fit = ((refl, idle), fit)
