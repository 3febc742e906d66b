-- The verdict's pass (crates/criterion/specs/Pass.antt) one call at a time: the state that it leaves, none where it fails.
use Rattle.std.specs.Prelude.{Bool, false, ◌&&◌, not, cond, List, [], ◌∷◌, ℕ, max, leb, eqb}
use Rattle.std.proofs.Math.Option.{Option, none, some}
use Rattle.history.specs.Calls.{Answer, nothing, item, empty, Enqueue, Call, enq, deq}
use Rattle.criterion.specs.Parts.{look}
use Rattle.criterion.specs.Pass.{has, past, leaves}

-- The state of the pass: the mark, and the numbers of the items given so far.
pub record State : Type 0 where
  pub mark : ℕ
  pub given : List ℕ

abbrev pub at_first : State
at_first = record { mark = 0; given = [] }

-- An item: its enqueue is there with that value, was not given, started before this dequeue ended at event k, and has not ended
-- before the mark; its start moves the mark.
abbrev pub give_item : (n v k : ℕ) → State → List Enqueue → Option State
give_item n v k s [] = none
give_item n v k s (x ∷ xs) =
    cond (eqb x.value v && not (has n s.given) && leb x.start k && past s.mark x)
    (some (record { mark = max s.mark x.start; given = n ∷ s.given }))
    none

-- An empty answer: the dequeue's start moves the mark. A dequeue under way leaves the state.
abbrev pub answer : List Call → Answer → (start end : ℕ) → State → Option State
answer cs nothing b k s = some s
answer cs (item n v) b k s = give_item n v k s (look n cs)
answer cs empty b k s = some (record { mark = max s.mark b; given = s.given })

-- One of the calls cs.
abbrev pub pass_call : List Call → Call → State → Option State
pass_call cs (enq x) s = some s
pass_call cs (deq d) s = answer cs d.answer d.start d.end s

-- On from a state, unless the pass has failed.
abbrev pub onward : Option State → (State → Option State) → Option State
onward none f = none
onward (some s) f = f s

-- The calls cs from l on.
abbrev pub pass_calls : (cs l : List Call) → State → Option State
pass_calls cs [] s = some s
pass_calls cs (c ∷ l) s = onward (pass_call cs c s) (pass_calls cs l)

-- The state that the pass over all calls leaves.
abbrev pub passed : List Call → Option State
passed cs = pass_calls cs cs at_first

-- The last test, on that state: every ended enqueue whose item was not given has its end at or past the mark.
abbrev pub last_test : List Call → Option State → Bool
last_test cs none = false
last_test cs (some s) = leaves s.mark s.given cs
