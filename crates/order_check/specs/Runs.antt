-- Small histories with orders, and whether the check says yes, as one table and one statement.
use Rattle.std.specs.Prelude.{◌≡◌, refl, Bool, true, false, ◌&&◌, List, [], ◌∷◌, ℕ}
use Rattle.std.proofs.Common.{sym, ◌∙◌, true≢false}
use Rattle.std.specs.Bool.{beq}
use Rattle.history.specs.Lists.{All}
use Rattle.history.specs.Event.{History, enqueue_started, enqueue_ended, dequeue_started, gave_item, gave_empty}
use Rattle.history.specs.Form.{well_formed}
use Rattle.history.specs.Shows.{Shows}
use Rattle.order_check.specs.Check.{orderly, is_order}
use Rattle.order_check.specs.Tests.{both}
use Rattle.order_check.specs.Decides.{is_order_exactly_when_shows}

pub record OrderRun : Type 0 where
  pub history : History
  pub order : List ℕ
  pub yes : Bool

-- Histories with the newest event first. Enqueue 1 ends, then enqueue 2 ends, then a dequeue gives item 1.
abbrev in_turn : History
in_turn =
    gave_item 1 7 ∷ dequeue_started ∷ enqueue_ended 1 2 8 ∷ enqueue_started 1 2 8 ∷ enqueue_ended 1 1 7 ∷ enqueue_started 1 1 7 ∷ []

-- Enqueues 1 and 2 run at one time, then a dequeue gives item 2.
abbrev at_one_time : History
at_one_time =
    gave_item 2 8 ∷ dequeue_started ∷ enqueue_ended 2 2 8 ∷ enqueue_ended 1 1 7 ∷ enqueue_started 2 2 8 ∷ enqueue_started 1 1 7 ∷ []

-- Enqueue 1 is under way, and a dequeue gives its item.
abbrev under_way : History
under_way = gave_item 1 7 ∷ dequeue_started ∷ enqueue_started 1 1 7 ∷ []

-- A dequeue is under way; enqueue 1 starts and ends meanwhile.
abbrev waiting : History
waiting = enqueue_ended 1 1 7 ∷ enqueue_started 1 1 7 ∷ dequeue_started ∷ []

-- A dequeue answers empty, and enqueue 1, under way before it, ends after it.
abbrev missed : History
missed = enqueue_ended 1 1 7 ∷ gave_empty ∷ dequeue_started ∷ enqueue_started 1 1 7 ∷ []

abbrev pub order_runs : List OrderRun
order_runs =
    -- no calls, no order
    record { history = []; order = []; yes = true }
    -- the calls as they started
    ∷ record { history = in_turn; order = 1 ∷ 2 ∷ 3 ∷ []; yes = true }
    -- the item is taken before the second enqueue: the queue would allow it, real time does not
    ∷ record { history = in_turn; order = 1 ∷ 3 ∷ 2 ∷ []; yes = false }
    -- the enqueues exchanged: real time and the queue forbid it
    ∷ record { history = in_turn; order = 2 ∷ 1 ∷ 3 ∷ []; yes = false }
    -- an ended call is missing
    ∷ record { history = in_turn; order = 1 ∷ 3 ∷ []; yes = false }
    -- a number twice
    ∷ record { history = in_turn; order = 1 ∷ 2 ∷ 2 ∷ 3 ∷ []; yes = false }
    -- numbers out of range: counted from 0, and past the calls
    ∷ record { history = in_turn; order = 0 ∷ 1 ∷ 2 ∷ []; yes = false }
    ∷ record { history = in_turn; order = 1 ∷ 2 ∷ 3 ∷ 4 ∷ []; yes = false }
    -- at one time: either order in real time, and the queue decides
    ∷ record { history = at_one_time; order = 2 ∷ 1 ∷ 3 ∷ []; yes = true }
    ∷ record { history = at_one_time; order = 1 ∷ 2 ∷ 3 ∷ []; yes = false }
    -- a call under way is kept, and may not be dropped where its item was given
    ∷ record { history = under_way; order = 1 ∷ 2 ∷ []; yes = true }
    ∷ record { history = under_way; order = 2 ∷ []; yes = false }
    -- a dequeue under way is dropped, or kept: it finds the queue empty, or an item
    ∷ record { history = waiting; order = 2 ∷ []; yes = true }
    ∷ record { history = waiting; order = 1 ∷ 2 ∷ []; yes = true }
    ∷ record { history = waiting; order = 2 ∷ 1 ∷ []; yes = true }
    -- an empty answer needs an empty queue
    ∷ record { history = missed; order = 2 ∷ 1 ∷ []; yes = true }
    ∷ record { history = missed; order = 1 ∷ 2 ∷ []; yes = false }
    ∷ []

-- What a run says: the order shows that the history is linearizable, or it does not.
abbrev pub Says : Bool → History → List ℕ → Type 0
Says true h ns = Shows h ns
Says false h ns = Shows h ns → ⊥

-- What each run of a table must show, and a test that computes it.
abbrev pub Passes : OrderRun → Type 0
Passes r = (well_formed r.history ≡ true) × Says r.yes r.history r.order

test : OrderRun → Bool
test r = well_formed r.history && beq (is_order r.history r.order) r.yes

test_all : List OrderRun → Bool
test_all [] = true
test_all (r ∷ rs) = test r && test_all rs

says : (h : History) (ns : List ℕ) (b : Bool) → beq (is_order h ns) b ≡ true → Says b h ns
says h ns b e = go (is_order h ns) refl b e
  where
    go : (a : Bool) → is_order h ns ≡ a → (b : Bool) → beq a b ≡ true → Says b h ns
    go true i true e = (is_order_exactly_when_shows h ns).0 i
    go true i false e = absurd (true≢false (sym e))
    go false i true e = absurd (true≢false (sym e))
    go false i false e = λ s. true≢false (sym ((is_order_exactly_when_shows h ns).1 s) ∙ i)

tested : (rs : List OrderRun) → test_all rs ≡ true → All Passes rs
unfolding test test_all
tested [] e = tt
tested (r ∷ rs) e =
    let a = both (test r) (test_all rs) e in
    let b = both (well_formed r.history) (beq (is_order r.history r.order) r.yes) a.0 in
    ((b.0, says r.history r.order r.yes b.1), tested rs a.1)

pub order_runs_hold : All Passes order_runs
unfolding test test_all is_order orderly
order_runs_hold = tested order_runs refl
