-- The verdict as the judge computes it: one pass over the calls in starting order, with a running mark and the numbers of the
-- items given so far.
use Rattle.std.specs.Prelude.{Bool, true, false, ◌&&◌, ◌||◌, not, List, [], ◌∷◌, ℕ, max, leb, eqb}
use Rattle.history.specs.Event.{History}
use Rattle.history.specs.Calls.{Answer, nothing, item, empty, Enqueue, Call, enq, deq, calls}
use Rattle.criterion.specs.Parts.{look}

-- the item with this number has been given
abbrev pub has : ℕ → List ℕ → Bool
has n [] = false
has n (k ∷ given) = eqb k n || has n given

-- the enqueue did not end before the mark
abbrev pub past : ℕ → Enqueue → Bool
past mark x = eqb x.end 0 || leb mark x.end

-- At the end every ended enqueue whose item was not given has its end at or past the mark.
abbrev pub leaves : (mark : ℕ) → (given : List ℕ) → List Call → Bool
leaves mark given [] = true
leaves mark given (enq x ∷ cs) = (has x.number given || past mark x) && leaves mark given cs
leaves mark given (deq d ∷ cs) = leaves mark given cs

-- An item: its enqueue is there with that value, was not given, started before this dequeue ended at event k, and has not ended
-- before the mark; its start moves the mark.
abbrev pub giving : (n v k : ℕ) → (mark : ℕ) → (given : List ℕ) → (ℕ → List ℕ → Bool) → List Enqueue → Bool
giving n v k mark given on [] = false
giving n v k mark given on (x ∷ xs) =
    eqb x.value v && not (has n given) && leb x.start k && past mark x && on (max mark x.start) (n ∷ given)

-- An empty answer: the dequeue's start, event s, moves the mark.
abbrev pub answering : List Call → Answer → (s k : ℕ) → (mark : ℕ) → (given : List ℕ) → (ℕ → List ℕ → Bool) → Bool
answering cs nothing s k mark given on = on mark given
answering cs (item n v) s k mark given on = giving n v k mark given on (look n cs)
answering cs empty s k mark given on = on (max mark s) given

-- The calls cs from l on.
abbrev pub passes : (cs l : List Call) → (mark : ℕ) → (given : List ℕ) → Bool
passes cs [] mark given = leaves mark given cs
passes cs (enq x ∷ l) mark given = passes cs l mark given
passes cs (deq d ∷ l) mark given = answering cs d.answer d.start d.end mark given (passes cs l)

unfoldable pub explains : History → Bool
explains h = passes (calls h) (calls h) 0 []
