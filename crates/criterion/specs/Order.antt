-- The order in which the calls of an explained history are linearized, as a function of the history and of the items that are
-- to be left. Enqueues stand in the order in which their items are taken, then those of the items left; each stands as late as
-- it may: before the first dequeue that takes its item or that started after it, or an enqueue behind it, had ended.
use Rattle.std.specs.Prelude.{Bool, true, false, ◌&&◌, ◌||◌, not, cond, List, [], ◌∷◌, ◌++◌, map, ℕ, suc, eqb, ltb}
use Rattle.history.specs.Event.{History}
use Rattle.history.specs.Calls.{Answer, nothing, item, empty, Enqueue, Dequeue, Call, enq, deq, start_of, calls}
use Rattle.history.specs.Linearization.{Queue}
use Rattle.history.specs.Form.{any}
use Rattle.criterion.specs.Parts.{gather, item_of, dequeues_of, look, gives}

-- the enqueues of the items that the dequeues gave, and of the items of a queue
abbrev pub look_answer : List Call → Answer → List Enqueue
look_answer cs nothing = []
look_answer cs (item n v) = look n cs
look_answer cs empty = []

abbrev pub taken : List Call → List Dequeue → List Enqueue
taken cs ds = gather (λ d. look_answer cs d.answer) ds

abbrev pub left : List Call → Queue → List Enqueue
left cs q = gather (λ i. look i.number cs) q

abbrev pub is_item : Answer → Bool
is_item nothing = false
is_item (item n v) = true
is_item empty = false

-- the enqueue had ended before event s; one of them had
abbrev pub ended_before : ℕ → Enqueue → Bool
ended_before s x = not (eqb x.end 0) && ltb x.end s

abbrev pub any_ended : ℕ → List Enqueue → Bool
any_ended s [] = false
any_ended s (x ∷ p) = ended_before s x || any_ended s p

-- the queue is empty; the queue without its first; the queue after a dequeue, which takes the first if it gave an item
abbrev pub is_empty : List Enqueue → Bool
is_empty [] = true
is_empty (x ∷ q) = false

abbrev pub behind : List Enqueue → List Enqueue
behind [] = []
behind (x ∷ q) = q

abbrev pub after : Answer → List Enqueue → List Enqueue
after nothing q = q
after (item n v) q = behind q
after empty q = q

-- With q in the queue, the first enqueue of p must stand before dequeue d.
abbrev pub must : Dequeue → (q p : List Enqueue) → Bool
must d q p = any_ended d.start p || (is_item d.answer && is_empty q)

-- Dequeue d comes next, and what `go` gives after it: enqueues of p that must stand before it do. The queue is q.
abbrev pub fill : Dequeue → (List Enqueue → List Enqueue → List Call) → (q p : List Enqueue) → List Call
fill d go q [] = deq d ∷ go (after d.answer q) []
fill d go q (x ∷ p) =
    elim (must d q (x ∷ p)) [ true ↦ enq x ∷ fill d go (q ++ (x ∷ [])) p | false ↦ deq d ∷ go (after d.answer q) (x ∷ p) ]

abbrev pub place : List Dequeue → (q p : List Enqueue) → List Call
place [] q p = map enq p
place (d ∷ ds) q p = fill d (place ds) q p

unfoldable pub order : History → Queue → List Call
order h rest = let cs = calls h in let ds = dequeues_of cs in place ds [] (taken cs ds ++ left cs rest)

-- One order in which items may be left: those of the enqueues that have ended and were not taken, in the order of their starts.
abbrev pub if_left : List Call → Call → List Enqueue
if_left cs (enq x) = cond (eqb x.end 0 || any (gives x.number) cs) [] (x ∷ [])
if_left cs (deq d) = []

abbrev pub remain : List Call → List Enqueue
remain cs = gather (if_left cs) cs

unfoldable pub remaining : History → Queue
remaining h = map item_of (remain (calls h))

-- The order that leaves those, and its starting numbers: a call's is the place of its start among those of the calls, from 1.
unfoldable pub ordered : List Call → List Call
ordered cs = place (dequeues_of cs) [] (taken cs (dequeues_of cs) ++ remain cs)

abbrev pub starting_number : List Call → Call → ℕ
starting_number [] c = 0
starting_number (b ∷ cs) c = cond (eqb (start_of b) (start_of c)) 1 (suc (starting_number cs c))

unfoldable pub order_numbers : List Call → List ℕ
order_numbers cs = map (starting_number cs) (ordered cs)
