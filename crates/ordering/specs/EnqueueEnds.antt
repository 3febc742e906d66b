-- An enqueue ends (document 02, U4): "On a store only the engine has written an enqueue ends within 5 × P + N + 6 accepted steps of its own,
-- whatever steps others make in between. A step refused with 8 isn't accepted." This module has the statements alone; every name in it is a
-- definition of `rules` or of `Steps`. The proofs are `Counting.enqueue_ends`, `enqueue_ends_sooner` and `count_below`.
use Rattle.std.specs.Prelude.{◌≡◌, List, ℕ, ◌+◌, ◌-◌, ◌*◌, ◌/◌, ◌≤◌, ◌<◌}
use Rattle.rules.specs.Sizes.{Sizes}
use Rattle.rules.specs.Cell.{reader, step_count}
use Rattle.rules.specs.Rule.{Reply, accepted, ok, ended}
use Rattle.rules.specs.Request.{step, Invocation, lending, result, open_store}
use Rattle.rules.specs.Play.{play}
use Rattle.ordering.specs.Steps.{opened_play, steps_with_this}

-- After every list of starts and steps, refused ones included: the accepted steps of a producer's enqueue, counted in the list since its start, are
-- at most so many, and the one that reaches the number, if any, replied end.
abbrev pub EnqueueEndsWithin : (most : Sizes → ℕ) → Type 0
EnqueueEndsWithin most =
    (z : Sizes) (m : List ℕ) (calls : List Invocation)
    → (open_store z m).reply ≡ accepted ok 0
    → (t : ℕ) (buffer : List ℕ) (from : ℕ) (r : Reply) (k : ℕ)
    → 1 ≤ t
    → (result (lending buffer from (step t)) (play calls (opened_play z m)).words).reply ≡ accepted r k
    → (steps_with_this z m calls t ≤ most z) × (steps_with_this z m calls t ≡ most z → r ≡ ended)

-- Document 02's number.
abbrev pub most_enqueue_steps : Sizes → ℕ
most_enqueue_steps z = 5 * z.P + z.N + 6

abbrev pub EnqueueEnds : Type 0
EnqueueEnds = EnqueueEndsWithin most_enqueue_steps

-- A smaller one holds too, P / B rounded up in place of P, N + 2 and at least 6 in place of N + 6: tests/test_longest_enqueue.py has runs that
-- reach it.
abbrev pub fewer_enqueue_steps : Sizes → ℕ
fewer_enqueue_steps z = 5 * ((z.P + z.B - 1) / z.B) + (z.N + 2 + (4 - z.N))

abbrev pub EnqueueEndsSooner : Type 0
EnqueueEndsSooner = EnqueueEndsWithin fewer_enqueue_steps

-- So word 7 of a producer stays below that number.
abbrev pub CountBelow : Type 0
CountBelow =
    (z : Sizes) (m : List ℕ) (calls : List Invocation)
    → (open_store z m).reply ≡ accepted ok 0
    → (t : ℕ)
    → 1 ≤ t
    → t ≤ z.P
    → reader z (play calls (opened_play z m)).words (step_count t) < fewer_enqueue_steps z
