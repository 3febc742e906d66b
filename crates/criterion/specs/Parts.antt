-- What is read off a list of calls: its enqueues, its answered dequeues, the enqueue with a number, whether an item was given.
use Rattle.std.specs.Prelude.{Bool, false, cond, List, [], ◌∷◌, ◌++◌, ℕ, eqb}
use Rattle.history.specs.Calls.{Answer, nothing, item, empty, Enqueue, Dequeue, Call, enq, deq}
use Rattle.history.specs.Linearization.{Item}

module _ {A B : Type 0} where
  -- the lists that the elements give, one after the other
  abbrev pub gather : (A → List B) → List A → List B
  gather f [] = []
  gather f (x ∷ xs) = f x ++ gather f xs

-- the item that an enqueue puts
abbrev pub item_of : Enqueue → Item
item_of x = record { number = x.number; value = x.value }

-- the enqueues among some calls
abbrev pub enqueue_of : Call → List Enqueue
enqueue_of (enq x) = x ∷ []
enqueue_of (deq d) = []

abbrev pub enqueues_of : List Call → List Enqueue
enqueues_of cs = gather enqueue_of cs

-- the answered dequeues
abbrev pub if_answered : Answer → Dequeue → List Dequeue
if_answered nothing d = []
if_answered (item n v) d = d ∷ []
if_answered empty d = d ∷ []

abbrev pub dequeue_of : Call → List Dequeue
dequeue_of (enq x) = []
dequeue_of (deq d) = if_answered d.answer d

abbrev pub dequeues_of : List Call → List Dequeue
dequeues_of cs = gather dequeue_of cs

-- the enqueue with this number, if there is one
abbrev pub look : ℕ → List Call → List Enqueue
look n [] = []
look n (enq x ∷ cs) = cond (eqb x.number n) (x ∷ []) (look n cs)
look n (deq d ∷ cs) = look n cs

-- a call that gave the item with this number
abbrev pub is_number : ℕ → Answer → Bool
is_number n nothing = false
is_number n (item m v) = eqb m n
is_number n empty = false

abbrev pub gives : ℕ → Call → Bool
gives n (enq x) = false
gives n (deq d) = is_number n d.answer
