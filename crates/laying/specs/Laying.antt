-- What laying the order asks of the working memory, and what it leaves in the buffer (document 02, U9).
use Rattle.std.specs.Prelude.{◌≡◌, List, ◌++◌, ℕ, ◌≤◌, ◌<◌, length, drop}
use Rattle.history.specs.Calls.{Call}
use Rattle.criterion.specs.Order.{order_numbers}
use Rattle.reading.specs.Table.{start_at, calls_in}
use Rattle.marking.specs.Marks.{Numbered, Located}

-- The memory holds c calls in starting order, the items of the dequeues are noted, and the buffer has room for the order.
pub record Laying (m items : List ℕ) (c room : ℕ) : Type 0 where
  pub few : c ≤ 4096
  pub numbered : Numbered m c
  pub located : Located m items c c
  pub rising : (i j : ℕ) → i < j → j < c → start_at m i < start_at m j
  pub fits : length (order_numbers (calls_in m c)) ≤ room

-- The buffer after that before: the starting numbers of the order, and the words past them as they were.
pub record Laid (cs : List Call) (before after : List ℕ) (n : ℕ) : Type 0 where
  pub count : n ≡ length (order_numbers cs)
  pub laid : after ≡ order_numbers cs ++ drop n before
