-- How many steps a call makes (document 02, U3, U5 and U8), over every list of starts and steps after an accepted open. This module has the
-- statements alone; every name in it is a definition of `rules`. The proofs are `Counting.step_Counts`, `dequeue_ends`, `drain_ends`,
-- `refused_to_wait` and `all_Placed`.
use Rattle.std.specs.Prelude.{◌≡◌, ◌⊎◌, ◌≢◌, List, [], ℕ, suc, ◌+◌, ◌-◌, ◌*◌, ◌/◌, ◌≤◌, ◌<◌, length}
use Rattle.rules.specs.Sizes.{Sizes}
use Rattle.rules.specs.Cell.{reader, tail, starts, thread_phase, drain_limit}
use Rattle.rules.specs.Rule.{Reply, going, refused, accepted, ok}
use Rattle.rules.specs.Request.{step, Invocation, lending, result, open_store}
use Rattle.rules.specs.Play.{Played, play, steps_made}

-- What stands after an open, before any call.
abbrev pub opened_play : Sizes → List ℕ → Played
opened_play z m = record { words = (open_store z m).words; replies = []; history = [] }

-- The accepted steps of thread t's call in a list of calls after the open, counted there since its start, with a further one that was
-- accepted.
abbrev pub steps_with_this : Sizes → List ℕ → List Invocation → (t : ℕ) → ℕ
steps_with_this z m calls t = suc (steps_made t calls (opened_play z m) 0)

-- After every list, an accepted step's reply carries that number.
abbrev pub StepCounts : Type 0
StepCounts =
    (z : Sizes) (m : List ℕ) (calls : List Invocation)
    → (open_store z m).reply ≡ accepted ok 0
    → (t : ℕ) (buffer : List ℕ) (from : ℕ) (r : Reply) (k : ℕ)
    → (result (lending buffer from (step t)) (play calls (opened_play z m)).words).reply ≡ accepted r k
    → k ≡ steps_with_this z m calls t

-- The limit of the drain under way then, 0 if there is none.
abbrev pub limit_after : Sizes → List ℕ → List Invocation → ℕ
limit_after z m calls = reader z (play calls (opened_play z m)).words drain_limit

-- The most accepted steps of one dequeue: N × (5 × B + 3) + 3 × B + 1 + V × (V + 1) / 2, where V = N × (B + 1).
abbrev pub most_dequeue_steps : Sizes → ℕ
most_dequeue_steps z = let v = z.N * suc z.B in z.N * (5 * z.B + 3) + 3 * z.B + 1 + v * suc v / 2

-- After every list, the accepted steps of a dequeue are at most so many, and the one that reaches the number has ended it. (A call of the
-- consumer's is a dequeue where the limit's word is 0.)
abbrev pub DequeueEnds : Type 0
DequeueEnds =
    (z : Sizes) (m : List ℕ) (calls : List Invocation)
    → (open_store z m).reply ≡ accepted ok 0
    → (buffer : List ℕ) (from : ℕ) (r : Reply) (k : ℕ)
    → (result (lending buffer from (step 0)) (play calls (opened_play z m)).words).reply ≡ accepted r k
    → limit_after z m calls ≡ 0
    → (steps_with_this z m calls 0 ≤ most_dequeue_steps z) × (steps_with_this z m calls 0 ≡ most_dequeue_steps z → r ≢ going)

-- The most accepted steps of one drain: those of a dequeue, and N × (B + 1) + B + 4 for every further item that its limit allows.
abbrev pub most_drain_steps : Sizes → (limit : ℕ) → ℕ
most_drain_steps z l = most_dequeue_steps z + (l - 1) * (z.N * suc z.B + z.B + 4)

-- After every list, the accepted steps of a drain, by its limit.
abbrev pub DrainEnds : Type 0
DrainEnds =
    (z : Sizes) (m : List ℕ) (calls : List Invocation)
    → (open_store z m).reply ≡ accepted ok 0
    → (buffer : List ℕ) (from : ℕ) (r : Reply) (k : ℕ)
    → (result (lending buffer from (step 0)) (play calls (opened_play z m)).words).reply ≡ accepted r k
    → (steps_with_this z m calls 0 ≤ most_drain_steps z (limit_after z m calls)) × (steps_with_this z m calls 0 ≡ most_drain_steps z (limit_after z m calls) → r ≢ going)

-- After every list, a step of a call under way is refused only with 8, and only an enqueue's, or with 15, and only a drain's that was lent fewer
-- than two words for each item that its limit allows. So a dequeue's step is always accepted, and a drain's if it is lent so many.
abbrev pub RefusedToWait : Type 0
RefusedToWait =
    (z : Sizes) (m : List ℕ) (calls : List Invocation)
    → (open_store z m).reply ≡ accepted ok 0
    → (t : ℕ) (buffer : List ℕ) (from n : ℕ)
    → t ≤ z.P
    → reader z (play calls (opened_play z m)).words (thread_phase t) ≢ 0
    → (result (lending buffer from (step t)) (play calls (opened_play z m)).words).reply ≡ refused n
    → ((n ≡ 8) × (1 ≤ t)) ⊎ ((n ≡ 15) × (t ≡ 0) × (1 ≤ limit_after z m calls) × (length buffer < from + 2 * limit_after z m calls))

-- After every list, every start has taken its position: tail equals starts (document 02, U8).
abbrev pub AllPlaced : Type 0
AllPlaced =
    (z : Sizes) (m : List ℕ) (calls : List Invocation)
    → (open_store z m).reply ≡ accepted ok 0
    → let words = (play calls (opened_play z m)).words in reader z words tail ≡ reader z words starts
