-- What C gets of the judge: the number that is returned, and every word of the table, of the order buffer and of the reply. What it
-- gets of the check is a number.
use Rattle.std.specs.Prelude.{◌≡◌, Bool, true, false, List, ℕ, length, set, Option, None, Some, Result, Ok, Err}
use Rattle.judge.specs.declared.Call.{Call}
use Rattle.judge.specs.Contract.{judged, reply, written, order_written}

-- The number: a refusal's own, 0 for explained, 1 for unexplained.
abbrev pub number_of : Result (Option ℕ) ℕ → ℕ
number_of (Err n) = n
number_of (Ok (Some n)) = 0
number_of (Ok None) = 1

-- Word 0 of the reply receives how many words the order has, where the history is explained; the others stay.
abbrev pub reply_words : Result (Option ℕ) ℕ → List ℕ → List ℕ
reply_words (Err n) said = said
reply_words (Ok (Some n)) said = set said 0 n
reply_words (Ok None) said = said

-- The judge on a history's words: the number, and the table, the buffer and the reply's words after those before.
pub record Replies (words : List ℕ) (table table' : List Call) (order order' said said' : List ℕ) (r : ℕ) : Type 0 where
  pub replies : r ≡ number_of (reply (judged (length table) (length order) words))
  pub fills : table' ≡ written (judged (length table) (length order) words) table
  pub orders : order' ≡ order_written (judged (length table) (length order) words) order
  pub says : said' ≡ reply_words (reply (judged (length table) (length order) words)) said

-- The check's number: a refusal's own, 0 for yes, 1 for no.
abbrev pub number_of_checked : Result Bool ℕ → ℕ
number_of_checked (Err n) = n
number_of_checked (Ok true) = 0
number_of_checked (Ok false) = 1
