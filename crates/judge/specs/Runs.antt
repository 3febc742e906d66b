-- The judge on small histories: its reply and the order buffer afterwards, as one table and one statement that the checker computes.
use Rattle.std.specs.Prelude.{◌≡◌, refl, List, [], ◌∷◌, map, ℕ, length, Option, None, Some, Result, Ok, Err}
use Rattle.history.specs.Event.{decode}
use Rattle.history.specs.Form.{read}
use Rattle.criterion.specs.Pass.{explains}
use Rattle.criterion.specs.Order.{ordered, order_numbers}
use Rattle.judge.specs.Contract.{judged, reply, order_written}

-- A history's words, judged with a table of eight entries and this buffer: the reply, and the buffer afterwards.
pub record OrderRun : Type 0 where
  pub words : List ℕ
  pub buffer : List ℕ
  pub replies : Result (Option ℕ) ℕ
  pub buffer' : List ℕ

-- A dequeue starts, enqueue 1 starts and ends, and the dequeue gives its item; enqueue 1 is under way, and a dequeue gives its item; a
-- dequeue gives an item that was never started; a dequeue starts twice; the first event has kind 6.
abbrev pub inside : List ℕ
inside = 3 ∷ 0 ∷ 0 ∷ 0 ∷ 1 ∷ 1 ∷ 1 ∷ 7 ∷ 2 ∷ 1 ∷ 1 ∷ 7 ∷ 4 ∷ 0 ∷ 1 ∷ 7 ∷ []

abbrev pub under_way : List ℕ
under_way = 1 ∷ 1 ∷ 1 ∷ 7 ∷ 3 ∷ 0 ∷ 0 ∷ 0 ∷ 4 ∷ 0 ∷ 1 ∷ 7 ∷ []

abbrev pub never_started : List ℕ
never_started = 3 ∷ 0 ∷ 0 ∷ 0 ∷ 4 ∷ 0 ∷ 1 ∷ 7 ∷ []

abbrev pub busy : List ℕ
busy = 3 ∷ 0 ∷ 0 ∷ 0 ∷ 3 ∷ 0 ∷ 0 ∷ 0 ∷ []

abbrev pub no_event : List ℕ
no_event = 6 ∷ 0 ∷ 0 ∷ 0 ∷ []

abbrev pub order_runs : List OrderRun
order_runs =
    -- the enqueue, which started second, goes first; a third word stays; an enqueue under way that was taken from is kept
    record { words = inside; buffer = 8 ∷ 8 ∷ 8 ∷ []; replies = Ok (Some 2); buffer' = 2 ∷ 1 ∷ 8 ∷ [] }
    ∷ record { words = under_way; buffer = 8 ∷ 8 ∷ []; replies = Ok (Some 2); buffer' = 1 ∷ 2 ∷ [] }
    -- no call, no word; unexplained, and no word either
    ∷ record { words = []; buffer = []; replies = Ok (Some 0); buffer' = [] }
    ∷ record { words = never_started; buffer = 8 ∷ []; replies = Ok None; buffer' = 8 ∷ [] }
    -- a word less than calls, also where the history would be unexplained; but 12 and 13 come first
    ∷ record { words = inside; buffer = 8 ∷ []; replies = Err 16; buffer' = 8 ∷ [] }
    ∷ record { words = never_started; buffer = []; replies = Err 16; buffer' = [] }
    ∷ record { words = busy; buffer = []; replies = Err 13; buffer' = [] }
    ∷ record { words = no_event; buffer = []; replies = Err 12; buffer' = [] }
    ∷ []

-- What a run of the table gives.
abbrev pub given : OrderRun → OrderRun
given r = record {
  words = r.words;
  buffer = r.buffer;
  replies = reply (judged 8 (length r.buffer) r.words);
  buffer' = order_written (judged 8 (length r.buffer) r.words) r.buffer;
}

-- Every run of the table is as the table says.
pub orders_as_written : map given order_runs ≡ order_runs
unfolding read decode explains ordered order_numbers
orders_as_written = refl
