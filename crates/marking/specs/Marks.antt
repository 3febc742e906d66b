-- The verdict's pass over the working memory: the replies, the flags of the items given, and where each was found.
use Rattle.std.specs.Prelude.{◌≡◌, ◌≢◌, Bool, false, ◌&&◌, ◌||◌, not, List, ℕ, suc, ◌≤◌, ◌<◌, leb, eqb, length, get_or, MatchOption}
use Rattle.std.specs.Prelude as rust
use Rattle.std.specs.Prelude.{None, Some}
use Rattle.std.proofs.Math.Option.{Option, none, some}
use Rattle.history.specs.Calls.{Enqueue}
use Rattle.criterion.specs.Pass.{has}
use Rattle.marking.specs.declared.Progress.{Progress}
use Rattle.reading.specs.Table.{start_at, end_at, answer_at, thread_at, number_at, value_at, call_at, calls_in}
use Rattle.marking.specs.Pass.{State, pass_call, passed}

-- The numbers of c calls: a dequeue has 0, an enqueue one that no other call has.
pub record Numbered (m : List ℕ) (c : ℕ) : Type 0 where
  pub plain : (j : ℕ) → j < c → thread_at m j ≡ 0 → number_at m j ≡ 0
  pub distinct : (i j : ℕ) → i < c → j < c → number_at m i ≡ number_at m j → number_at m i ≢ 0 → i ≡ j

-- enqueue i
abbrev pub enqueue_at : List ℕ → ℕ → Enqueue
enqueue_at m i =
    record { thread = thread_at m i; number = number_at m i; value = value_at m i; start = start_at m i; end = end_at m i }

-- Where a number stands among those of c calls.
abbrev pub Found : (m : List ℕ) (c number : ℕ) → rust.Option ℕ → Type 0
Found m c number r =
    MatchOption r ((j : ℕ) → j < c → number_at m j ≢ number) (λ i. (i < c) × (number_at m i ≡ number))

-- Enqueue i may be the item of dequeue j: the same value, not given before, started before j ended, not ended before the mark.
abbrev pub fair_at : (m : List ℕ) (flags : List Bool) (i j mark : ℕ) → Bool
fair_at m flags i j mark =
    eqb (value_at m i) (value_at m j)
    && not (get_or flags i false)
    && leb (start_at m i) (end_at m j)
    && (eqb (end_at m i) 0 || leb mark (end_at m i))

-- The flags of the calls: set exactly where the call's number is that of an item given.
pub record Given (m : List ℕ) (c : ℕ) (flags : List Bool) (given : List ℕ) : Type 0 where
  pub size : length flags ≡ 4096
  pub flagged : (i : ℕ) → i < c → has (number_at m i) given ≡ get_or flags i false

-- The flags in a state of the pass; of one that failed nothing is said.
abbrev pub Flagged : (m : List ℕ) (c : ℕ) (flags : List Bool) → Option State → Type 0
Flagged m c flags none = Unit
Flagged m c flags (some s) = Given m c flags s.given

-- Of the first n calls: where the item of a dequeue that gave one was found, which is the enqueue with its number.
abbrev pub Located : (m items : List ℕ) (c n : ℕ) → Type 0
Located m items c n =
    (j : ℕ) → j < n → thread_at m j ≡ 0 → end_at m j ≢ 0 → answer_at m j ≢ 0
    → (get_or items j 0 < c) × (number_at m (get_or items j 0) ≡ answer_at m j)

-- Where the next item is looked for first.
abbrev pub hint_of : rust.Option Progress → ℕ
hint_of None = 0
hint_of (Some p) = p.hint

-- The reply on the state after one call, with that hint.
abbrev pub moved_to : (hint : ℕ) → Option State → rust.Option Progress
moved_to hint none = None
moved_to hint (some s) = Some (record { mark = s.mark; hint = hint })

-- The state after call j, where given are the items given so far.
abbrev pub state_after : (m : List ℕ) (c j mark : ℕ) (given : List ℕ) → Option State
state_after m c j mark given = pass_call (calls_in m c) (call_at m j) (record { mark = mark; given = given })

-- Call j: the reply and the flags are those of the state after it, and an item of the call is noted. Any hint within the calls
-- will do.
pub record Moves (m : List ℕ) (c j mark : ℕ) (flags flags' : List Bool) (items items' : List ℕ) (r : rust.Option Progress) : Type 0 where
  pub hint_within : hint_of r ≤ c
  pub replies : (given : List ℕ) → Given m c flags given → r ≡ moved_to (hint_of r) (state_after m c j mark given)
  pub flags_then : (given : List ℕ) → Given m c flags given → Flagged m c flags' (state_after m c j mark given)
  pub size_stays : length items' ≡ length items
  pub located : (p : Progress) → r ≡ Some p → Located m items c j → Located m items' c (suc j)

-- The reply on the state that the pass leaves.
abbrev pub marked : Option State → rust.Option ℕ
marked none = None
marked (some s) = Some s.mark

-- The pass over all calls: the reply and the flags are those of the state that it leaves, and every item is noted.
pub record Marks (m : List ℕ) (c : ℕ) (flags : List Bool) (items : List ℕ) (r : rust.Option ℕ) : Type 0 where
  pub replies : r ≡ marked (passed (calls_in m c))
  pub flags_then : Flagged m c flags (passed (calls_in m c))
  pub located : (mark : ℕ) → r ≡ Some mark → Located m items c c
