-- An order of a history's calls by their starting numbers (document 02, U9): the first started call has number 1.
use Rattle.std.specs.Prelude.{List, map, ℕ, ◌-◌, ◌≤◌, length, get_or}
use Rattle.history.specs.Lists.{All}
use Rattle.history.specs.Event.{History}
use Rattle.history.specs.Calls.{nothing, Call, deq, calls}
use Rattle.history.specs.Linearization.{Queue, Linearization}

-- what stands for a number that no call has
abbrev pub no_call : Call
no_call = deq (record { start = 0; end = 0; answer = nothing })

-- the call with a starting number
abbrev pub numbered : List Call → ℕ → Call
numbered cs n = get_or cs (n - 1) no_call

-- the calls with some starting numbers
abbrev pub listed : List Call → List ℕ → List Call
listed cs ns = map (numbered cs) ns

-- a starting number of one of the calls
abbrev pub Numbers : List Call → ℕ → Type 0
Numbers cs n = (1 ≤ n) × (n ≤ length cs)

-- The numbers show that the history is linearizable: they are starting numbers of its calls, and the calls that they list are a
-- linearization of it.
pub record Shows (h : History) (ns : List ℕ) : Type 0 where
  pub numbers : All (Numbers (calls h)) ns
  pub left : Queue
  pub linearizes : Linearization h (listed (calls h) ns) left
