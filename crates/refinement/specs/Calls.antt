-- Calls on one store, each made as its contract says on the words that the one before left, and demand 3 of them. This module has the
-- statements alone; every name in it is a definition of `history`, `rules`, `ordering` or `engine`. The proofs are in `Theorem`.
use Rattle.std.specs.Prelude.{◌≡◌, ◌≢◌, cond, List, [], ◌∷◌, map, ℕ, suc, ◌≤◌, eqb, length, get_or, take}
use Rattle.history.specs.Lists.{All}
use Rattle.rules.specs.Sizes.{Sizes, store_words}
use Rattle.rules.specs.Cell.{reader, drain_limit}
use Rattle.rules.specs.Rule.{Reply, Response, refused, accepted, ok, started, going, ended, empty, item, drained}
use Rattle.rules.specs.Request.{Request, start_enqueue, start_dequeue, start_drain, step, Invocation, lending, Result, open_store, result}
use Rattle.rules.specs.Play.{Played, history_with, cells_of, play, steps_with}
use Rattle.ordering.specs.Demand.{Ordered}
use Rattle.ordering.specs.Steps.{most_drain_steps}
use Rattle.ordering.specs.EnqueueEnds.{most_enqueue_steps, fewer_enqueue_steps}
use Rattle.store.specs.Outcome.{items_at}
use Rattle.delivery.specs.Export.{Returned, returned, Replied, replied, Stepped, stepped}

-- A call with the buffer that it was lent, the response to it, and the words of the store and of the buffer after it.
pub record Made : Type 0 where
  pub call : Invocation
  pub response : Response
  pub words : List ℕ
  pub buffer : List ℕ

-- The contract of `start_enqueue`, `start_dequeue`, `start_drain` and `step` (crates/engine/src/lib.rt), m the words of the store before the
-- call.
abbrev pub Meets : List ℕ → Made → Type 0
Meets m c = ◌≡◌ {A = Result} (record { reply = c.response; words = c.words; buffer = c.buffer }) (result c.call m)

-- Each call is made on the words that the one before left.
abbrev pub Chain : List ℕ → List Made → Type 0
Chain m [] = Unit
Chain m (c ∷ cs) = Meets m c × Chain c.words cs

-- What their caller has then: the words of the store, the responses, and the history that documents 01 and 02 make of them.
abbrev pub noted : Made → Played → Played
noted c p =
    record {
      words = c.words;
      replies = c.response ∷ p.replies;
      history = history_with c.call.request (cells_of p.words) (cells_of c.words) c.response p.history;
    }

unfoldable pub recorded : List Made → Played → Played
recorded [] p = p
recorded (c ∷ cs) p = recorded cs (noted c p)

-- an opened store, before any call
abbrev pub fresh : List ℕ → Played
fresh m = record { words = m; replies = []; history = [] }

-- The words, responses and history are those of the rules: `play`.
abbrev pub Refines : Type 0
Refines = (p : Played) (cs : List Made) → Chain p.words cs → recorded cs p ≡ play (map (λ c. c.call) cs) p

-- An open that was accepted, by its contract (`open_store`, crates/opening/src/lib.rt): what it left of the words before.
abbrev pub Opens : Sizes → (before m : List ℕ) → Type 0
Opens z before m = ◌≡◌ {A = Result} (record { reply = accepted ok 0; words = m; buffer = [] }) (open_store z before)

-- Demand 3 of any such calls after an accepted open, whatever the store held before.
abbrev pub Demand3OfCalls : Type 0
Demand3OfCalls = (z : Sizes) (before m : List ℕ) (cs : List Made) → Opens z before m → Chain m cs → Ordered z (recorded cs (fresh m))

-- The accepted steps of the call that thread t has under way, counted by such calls and their responses; k before them.
abbrev pub steps_in : (t : ℕ) → List Made → (k : ℕ) → ℕ
steps_in t [] k = k
steps_in t (c ∷ cs) k = steps_in t cs (steps_with t c.call.request c.response k)

-- A step of thread t, the k-th of its call, is within what a call of that thread makes: the consumer's that is the last one allowed does not say
-- that it goes on, and an enqueue's that is the last one of the smaller number says that it has ended (document 02, U3 to U5). The limit is that
-- of the drain under way; 0 is a dequeue.
abbrev pub InTime : Sizes → (limit t k : ℕ) → (GoesOn HasEnded : Type 0) → Type 0
InTime z limit t k GoesOn HasEnded =
    (t ≡ 0 → (k ≤ most_drain_steps z limit) × (k ≡ most_drain_steps z limit → GoesOn → ⊥))
    × (1 ≤ t → (k ≤ most_enqueue_steps z) × (k ≤ fewer_enqueue_steps z) × (k ≡ fewer_enqueue_steps z → HasEnded))

-- the limit of the drain under way in a store, 0 if there is none
abbrev pub limit_in : Sizes → List ℕ → ℕ
limit_in z m = reader z m drain_limit

-- A further step that was accepted carries that number, itself included, and is in time.
abbrev pub StepCountsOfCalls : Type 0
StepCountsOfCalls =
    (z : Sizes) (before m : List ℕ) (cs : List Made) (c : Made)
    → Opens z before m
    → Chain m cs
    → Meets (recorded cs (fresh m)).words c
    → (t : ℕ) (r : Reply) (k : ℕ)
    → c.call.request ≡ step t
    → c.response ≡ accepted r k
    → (k ≡ suc (steps_in t cs 0)) × InTime z (limit_in z (recorded cs (fresh m)).words) t k (r ≡ going) (r ≡ ended)

-- Dumps from two sites: the same calls, lent the same buffers, after opens of the same sizes, on any two stores, got the same responses and left
-- the same words.
abbrev pub SameDumps : Type 0
SameDumps =
    (z : Sizes) (before before' m m' : List ℕ) (cs cs' : List Made)
    → Opens z before m
    → Opens z before' m'
    → Chain m cs
    → Chain m' cs'
    → map (λ c. c.call) cs ≡ map (λ c. c.call) cs'
    → ((recorded cs (fresh m)).replies ≡ (recorded cs' (fresh m')).replies)
    × (take (store_words z) (recorded cs (fresh m)).words ≡ take (store_words z) (recorded cs' (fresh m')).words)

-- The same for C. A call as C sees it, with the four words of the reply and the buffer that it lent: what it got is the returned number, the words
-- of the store, of the buffer and of the reply.
pub record Exchange : Type 0 where
  pub request : Request
  pub lent : List ℕ
  pub given : List ℕ
  pub from : ℕ
  pub number : ℕ
  pub store : List ℕ
  pub buffer : List ℕ
  pub reply : List ℕ

-- The contracts of `intake_start_enqueue`, `intake_start_dequeue` and `intake_start_drain`, which are lent no buffer, the last two no reply, and
-- `intake_step` (crates/engine/src/lib.rt).
abbrev pub Exports : Request → (m lent buffer : List ℕ) (from : ℕ) → (number : ℕ) → (store after reply : List ℕ) → Type 0
Exports (start_enqueue t v) m lent b i n s a w =
    ◌≡◌ {A = Replied} (record { number = n; store = s; reply = w }) (replied (result (lending [] 0 (start_enqueue t v)) m) lent)
Exports start_dequeue m lent b i n s a w = ◌≡◌ {A = Returned} (record { number = n; store = s }) (returned (result (lending [] 0 start_dequeue) m))
Exports (start_drain l) m lent b i n s a w = ◌≡◌ {A = Returned} (record { number = n; store = s }) (returned (result (lending [] 0 (start_drain l)) m))
Exports (step t) m lent b i n s a w =
    ◌≡◌ {A = Stepped} (record { number = n; store = s; buffer = a; reply = w }) (stepped (result (lending b i (step t)) m) lent)

abbrev pub ExchangeChain : List ℕ → List Exchange → Type 0
ExchangeChain m [] = Unit
ExchangeChain m (x ∷ xs) =
    (length x.lent ≡ 4)
    × Exports x.request m x.lent x.given x.from x.number x.store x.buffer x.reply
    × ExchangeChain x.store xs

-- What the number, the buffer's and the reply's words say: a refusal's number; 0 for an accepted start, word 0 the call number of an enqueue; for a
-- step 100 going, 101 end, 102 empty, 103 item, words 0 and 1 its call number and value, 104 drained, word 0 how many items the buffer holds
-- from the named word on; and for a step and an enqueue's start word 2 the accepted steps of the call.
unfoldable pub says : Request → (number : ℕ) → (buffer : List ℕ) (from : ℕ) → (reply : List ℕ) → Response
says (start_enqueue t v) n a i w = cond (eqb n 0) (accepted (started (get_or w 0 0)) (get_or w 2 0)) (refused n)
says start_dequeue n a i w = cond (eqb n 0) (accepted ok 0) (refused n)
says (start_drain l) n a i w = cond (eqb n 0) (accepted ok 0) (refused n)
says (step t) n a i w =
    cond (eqb n 100) (accepted going (get_or w 2 0))
    (cond (eqb n 101) (accepted ended (get_or w 2 0))
    (cond (eqb n 102) (accepted empty (get_or w 2 0))
    (cond (eqb n 103) (accepted (item (get_or w 0 0) (get_or w 1 0)) (get_or w 2 0))
    (cond (eqb n 104) (accepted (drained (items_at a i (get_or w 0 0))) (get_or w 2 0)) (refused n)))))

-- a start is lent no buffer
abbrev pub invocation_of : Request → (given : List ℕ) (from : ℕ) → Invocation
invocation_of (start_enqueue t v) b i = lending [] 0 (start_enqueue t v)
invocation_of start_dequeue b i = lending [] 0 start_dequeue
invocation_of (start_drain l) b i = lending [] 0 (start_drain l)
invocation_of (step t) b i = lending b i (step t)

abbrev pub buffer_of : Request → List ℕ → List ℕ
buffer_of (start_enqueue t v) a = []
buffer_of start_dequeue a = []
buffer_of (start_drain l) a = []
buffer_of (step t) a = a

abbrev pub made_of : Exchange → Made
made_of x =
    record {
      call = invocation_of x.request x.given x.from;
      response = says x.request x.number x.buffer x.from x.reply;
      words = x.store;
      buffer = buffer_of x.request x.buffer;
    }

-- After an `intake_open` that returned 0: the history that C makes of the numbers and words that it got is linearizable, and leaves the
-- items left; and no call returned 3 or 9.
abbrev pub Demand3ForC : Type 0
Demand3ForC =
    (z : Sizes) (before m : List ℕ) (xs : List Exchange)
    → ◌≡◌ {A = Returned} (record { number = 0; store = m }) (returned (open_store z before))
    → ExchangeChain m xs
    → Ordered z (recorded (map made_of xs) (fresh m)) × All (λ x. (x.number ≢ 3) × (x.number ≢ 9)) xs

-- After such calls, a further `intake_step` that was accepted leaves in word 2 of its reply the accepted steps of its call, counted in the list,
-- and is in time.
abbrev pub StepCountsForC : Type 0
StepCountsForC =
    (z : Sizes) (before m : List ℕ) (xs : List Exchange)
    → ◌≡◌ {A = Returned} (record { number = 0; store = m }) (returned (open_store z before))
    → ExchangeChain m xs
    → (t n i : ℕ) (lent b s a w : List ℕ)
    → length lent ≡ 4
    → Exports (step t) (recorded (map made_of xs) (fresh m)).words lent b i n s a w
    → 100 ≤ n
    → (get_or w 2 0 ≡ suc (steps_in t (map made_of xs) 0))
    × InTime z (limit_in z (recorded (map made_of xs) (fresh m)).words) t (get_or w 2 0) (n ≡ 100) (n ≡ 101)
