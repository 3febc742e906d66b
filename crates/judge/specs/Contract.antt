-- What the judge replies, and what it writes to the working table and to the order buffer (document 01, "Judge"; document 02, U9).
use Rattle.std.specs.Prelude.{◌≡◌, cond, List, ◌++◌, map, ℕ, ltb, length, drop, Option, None, Some, Result, Ok, Err}
use Rattle.history.specs.Calls.{Row, calls, rows}
use Rattle.history.specs.Form.{most_events, Reading, refused, history, read}
use Rattle.criterion.specs.Pass.{explains}
use Rattle.criterion.specs.Order.{order_numbers}
use Rattle.judge.specs.declared.Call.{Call}
use Rattle.reading.specs.declared.Refusal.{Refusal}
use Rattle.reading.specs.Refusal.{numbered}

-- 16: an order buffer with fewer words than started calls. It is looked at after 13, whatever the verdict.
abbrev pub admit : (room : ℕ) → Reading → Reading
admit room (refused n) = refused n
admit room (history h) = cond (ltb room (length (calls h))) (refused 16) (history h)

-- What the judge takes the words for, with so many entries in the table and so many words in the buffer.
abbrev pub judged : (entries room : ℕ) → List ℕ → Reading
judged entries room words = admit room (read entries words)

-- The reply on that: a refusal's number, or explained or not by the verdict's pass, which finds a history explained exactly when it is
-- linearizable (specs/Decides.antt). Explained says how many words the order has.
abbrev pub reply : Reading → Result (Option ℕ) ℕ
reply (refused n) = Err n
reply (history h) = Ok (cond (explains h) (Some (length (order_numbers (calls h)))) None)

-- A record of the working table as an entry.
abbrev pub entry : Row → Call
entry r = record { kind = r.kind; start = r.start; end = r.end; answer = r.answer }

-- The table afterwards: as it was, or one record for each started call, in starting order, and the entries after those untouched.
abbrev pub written : Reading → List Call → List Call
written (refused n) table = table
written (history h) table = map entry (rows h) ++ drop (length (rows h)) table

-- A buffer with the order of some calls over its beginning: the starting numbers of the calls that it keeps.
abbrev pub orders_over : List ℕ → List ℕ → List ℕ
orders_over numbers order = numbers ++ drop (length numbers) order

-- The buffer afterwards: where the history is explained its order, and the words after that untouched; else as it was.
abbrev pub order_written : Reading → List ℕ → List ℕ
order_written (refused n) order = order
order_written (history h) order = cond (explains h) (orders_over (order_numbers (calls h)) order) order

-- The judge on a history's words: its reply, and the table and the buffer after those before.
pub record Judges (words : List ℕ) (table table' : List Call) (order order' : List ℕ) (r : Result (Option ℕ) Refusal) : Type 0 where
  pub replies : numbered r ≡ reply (judged (length table) (length order) words)
  pub fills : table' ≡ written (judged (length table) (length order) words) table
  pub orders : order' ≡ order_written (judged (length table) (length order) words) order

-- The same of the judge with a table of its own, which has an entry for each of the most events.
pub record JudgesAlone (words order order' : List ℕ) (r : Result (Option ℕ) Refusal) : Type 0 where
  pub replies : numbered r ≡ reply (judged most_events (length order) words)
  pub orders : order' ≡ order_written (judged most_events (length order) words) order
