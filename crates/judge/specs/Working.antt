-- What the judge's inner functions ask, compute and write.
use Rattle.std.specs.Prelude.{◌≡◌, Bool, true, false, ◌&&◌, ◌||◌, not, cond, List, [], ◌++◌, ℕ, zero, suc, ◌≤◌, ◌<◌, leb, eqb, length, get_or, drop, Option, None, Some}
use Rattle.history.specs.Event.{History}
use Rattle.history.specs.Calls as history
use Rattle.history.specs.Calls.{row, calls}
use Rattle.history.specs.Form.{most_events, well_formed}
use Rattle.criterion.specs.Pass.{passes}
use Rattle.criterion.specs.Order.{order_numbers}
use Rattle.reading.specs.Build.{build}
use Rattle.reading.specs.Table.{call_at, calls_in}
use Rattle.marking.specs.Marks.{Numbered}
use Rattle.judge.specs.declared.Call.{Call}
use Rattle.judge.specs.Contract.{entry, orders_over}

-- The entry of call j, from the working memory.
abbrev pub entry_in : List ℕ → ℕ → Call
entry_in m j = entry (row (call_at m j))

-- A table with the first n calls of the memory over its beginning.
abbrev pub filled : List ℕ → ℕ → List Call → List Call
filled m n table = build (entry_in m) n ++ drop n table

-- The last test on an entry, with the call's flag: it is no enqueue, or its item was given, or it has not ended before the mark.
abbrev pub stays_at : Call → (flag : Bool) (mark : ℕ) → Bool
stays_at call flag mark = not (eqb call.kind 1) || (flag || (eqb call.end 0 || leb mark call.end))

-- an entry of zeros
abbrev pub no_call : Call
no_call = record { kind = 0; start = 0; end = 0; answer = 0 }

-- The last test on the first n entries of the table.
abbrev pub all_stay : (table : List Call) → (flags : List Bool) → (mark n : ℕ) → Bool
all_stay table flags mark zero = true
all_stay table flags mark (suc n) = all_stay table flags mark n && stays_at (get_or table n no_call) (get_or flags n false) mark

-- The memory and the table hold the calls of a history, and the order buffer has a word for each.
pub record Ready (m : List ℕ) (table : List Call) (c room : ℕ) : Type 0 where
  pub judged : History
  pub formed : well_formed judged ≡ true
  pub are_calls : calls_in m c ≡ calls judged
  pub numbered : Numbered m c
  pub few : c ≤ most_events
  pub enough_room : c ≤ room
  pub enough_entries : c ≤ length table
  pub entries : (j : ℕ) → j < c → get_or table j no_call ≡ entry_in m j

-- The verdict on some calls, by the pass over them, and the order buffer after that before.
pub record Explains (cs : List history.Call) (order order' : List ℕ) (r : Option ℕ) : Type 0 where
  pub replies : r ≡ cond (passes cs cs 0 []) (Some (length (order_numbers cs))) None
  pub orders : order' ≡ cond (passes cs cs 0 []) (orders_over (order_numbers cs) order) order
