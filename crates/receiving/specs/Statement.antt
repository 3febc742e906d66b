-- What the consumer's caller receives, and in which order, against every linearization. There is one consumer, so dequeues do not overlap.
-- Definitions and statements alone; the proofs are in proofs/Theorem.antt.
use Rattle.std.specs.Prelude.{◌≡◌, true, List, [], ◌∷◌, ◌++◌, ℕ}
use Rattle.history.specs.Event.{History, enqueue_started, enqueue_ended, dequeue_started, gave_item, gave_empty}
use Rattle.history.specs.Calls
use Rattle.history.specs.Calls.{Answer, Call, enq, deq}
use Rattle.history.specs.Form.{well_formed}
use Rattle.history.specs.Linearization.{Item, Queue, Linearization, Settled}
use Rattle.rules.specs.Sizes.{Sizes}
use Rattle.rules.specs.Cell.{Reader, reader, drain_count}
use Rattle.rules.specs.Rule.{Reply, Response, refused, accepted, ok, started, going, ended, empty, item, drained}
use Rattle.rules.specs.Consumer.{items_marked}
use Rattle.rules.specs.Request.{Invocation, open_store}
use Rattle.rules.specs.Play.{Played, play}
use Rattle.ordering.specs.Steps.{opened_play}

-- The items that a history's dequeues gave, the first one first. (A history has its newest event first.)
abbrev pub items_given : History → List Item
items_given [] = []
items_given (enqueue_started t n v ∷ h) = items_given h
items_given (enqueue_ended t n v ∷ h) = items_given h
items_given (dequeue_started ∷ h) = items_given h
items_given (gave_item n v ∷ h) = items_given h ++ (record { number = n; value = v } ∷ [])
items_given (gave_empty ∷ h) = items_given h

-- The item that an answer gives, if it gives one.
abbrev pub answered : Answer → List Item
answered Calls.nothing = []
answered (Calls.item n v) = record { number = n; value = v } ∷ []
answered Calls.empty = []

-- The items that the dequeues of an order answered, in its order. (A dequeue under way has answered nothing.)
abbrev pub items_answered : List Call → List Item
items_answered [] = []
items_answered (enq x ∷ cs) = items_answered cs
items_answered (deq d ∷ cs) = answered d.answer ++ items_answered cs

-- The items that the enqueues of an order put in, in its order.
abbrev pub items_entered : List Call → List Item
items_entered [] = []
items_entered (enq x ∷ cs) = record { number = x.number; value = x.value } ∷ items_entered cs
items_entered (deq d ∷ cs) = items_entered cs

-- The items that a reply hands to the caller: one, or those of a drain that ends. A refusal hands over none.
abbrev pub handed : Reply → List Item
handed ok = []
handed (started n) = []
handed going = []
handed ended = []
handed empty = []
handed (item n v) = record { number = n; value = v } ∷ []
handed (drained xs) = xs

abbrev pub handed_by : Response → List Item
handed_by (refused n) = []
handed_by (accepted r k) = handed r

-- The items that replies hand to the caller, the first one first. (Replies have the newest first.)
abbrev pub items_received : List Response → List Item
items_received [] = []
items_received (r ∷ rs) = items_received rs ++ handed_by r

-- In every linearization of a well-formed history, calls under way or not, the dequeues answer the items in the order in which the history
-- gives them.
abbrev pub GivenInOrder : Type 0
GivenInOrder =
    (h : History) (order : List Call) (left : Queue) → well_formed h ≡ true → Linearization h order left → items_answered order ≡ items_given h

-- If no call is under way, the enqueues of every linearization are, in its order, those of the items given and then those of the queue left.
abbrev pub EnteredInOrder : Type 0
EnteredInOrder =
    (h : History) (order : List Call) (left : Queue)
    → well_formed h ≡ true → Settled h → Linearization h order left → items_entered order ≡ items_given h ++ left

-- After an accepted open and every list of starts and steps, with any arguments and buffers, refused ones included: what was given is what the
-- caller has received, and then what a drain under way has marked, which it hands over when it ends.
abbrev pub GivenIsReceivedAndKept : Type 0
GivenIsReceivedAndKept =
    (z : Sizes) (m : List ℕ) (calls : List Invocation)
    → (open_store z m).reply ≡ accepted ok 0
    → let p : Played = play calls (opened_play z m) in
    let σ : Reader = reader z p.words in
    items_given p.history ≡ items_received p.replies ++ items_marked σ (σ drain_count)

-- If no call is under way then, what the caller has received is what was given.
abbrev pub ReceivedIsGiven : Type 0
ReceivedIsGiven =
    (z : Sizes) (m : List ℕ) (calls : List Invocation)
    → (open_store z m).reply ≡ accepted ok 0
    → let p : Played = play calls (opened_play z m) in
    Settled p.history → items_received p.replies ≡ items_given p.history
