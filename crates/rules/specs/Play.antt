-- Lists of calls from an open store: their replies, their history, and the items left (document 01, "What demand 3 speaks of";
-- document 02, U5).
use Rattle.std.specs.Prelude.{true, false, cond, List, [], ◌∷◌, ◌++◌, ℕ, zero, suc, ◌+◌, ◌*◌, leb, ltb, eqb, length}
use Rattle.history.specs.Event.{History, enqueue_started, enqueue_ended, dequeue_started, gave_item, gave_empty, withdrawn}
use Rattle.history.specs.Linearization.{Item, Queue}
use Rattle.rules.specs.Sizes.{Sizes}
use Rattle.rules.specs.Cell.{Reader, reader, drain_count, pair_number, pair_value, place, state, entry_number, entry_value}
use Rattle.rules.specs.Rule.{Reply, Response, refused, accepted, ok, started, going, ended, empty, item, drained}
use Rattle.rules.specs.Request.{Result, Request, start_enqueue, start_dequeue, start_drain, step, Invocation, sizes_of, result}

-- The event that repeats the words of thread t's last start.
abbrev pub end_of_enqueue : ℕ → History → History
end_of_enqueue t [] = []
end_of_enqueue t (enqueue_started u n v ∷ h) =
    elim (eqb u t) [ true ↦ enqueue_ended u n v ∷ [] | false ↦ end_of_enqueue t h ]
end_of_enqueue t (enqueue_ended u n v ∷ h) = end_of_enqueue t h
end_of_enqueue t (dequeue_started ∷ h) = end_of_enqueue t h
end_of_enqueue t (gave_item n v ∷ h) = end_of_enqueue t h
end_of_enqueue t (gave_empty ∷ h) = end_of_enqueue t h

-- The thread and the value of a call.
abbrev pub thread_of : Request → ℕ
thread_of (start_enqueue t v) = t
thread_of start_dequeue = 0
thread_of (start_drain n) = 0
thread_of (step t) = t

abbrev pub value_of : Request → ℕ
value_of (start_enqueue t v) = v
value_of start_dequeue = 0
value_of (start_drain n) = 0
value_of (step t) = 0

-- The events of a reply to a call that is no drain's. An accepted start enqueue adds kind 1 with its thread, the call number given and its
-- value; an accepted start, of a drain too, that replies ok adds 3. A step that replies end adds 2, repeating its start's words; item adds
-- 4, empty 5. Going adds nothing, and no refusal does.
abbrev pub reply_events : Request → History → Reply → History
reply_events q h ok = dequeue_started ∷ []
reply_events q h (started n) = enqueue_started (thread_of q) n (value_of q) ∷ []
reply_events q h going = []
reply_events q h ended = end_of_enqueue (thread_of q) h
reply_events q h empty = gave_empty ∷ []
reply_events q h (item n v) = gave_item n v ∷ []
reply_events q h (drained xs) = []

abbrev pub events : Request → History → Response → History
events q h (refused n) = []
events q h (accepted r k) = reply_events q h r

-- A step that goes on, between these words. A drain's mark, from which the count is one more, ends the dequeue that is open with the item,
-- and the next one begins there (document 02, U5). Otherwise going adds nothing.
abbrev pub gone_on : (before after : Reader) → History → History
gone_on σ τ h =
    cond (ltb (σ drain_count) (τ drain_count))
    (dequeue_started ∷ gave_item (τ (pair_number (σ drain_count))) (τ (pair_value (σ drain_count))) ∷ h)
    h

-- the last of some items
abbrev pub last_of : Item → List Item → Item
last_of x [] = x
last_of x (y ∷ ys) = last_of y ys

-- A drain ends with these items, of which so many were marked before this step. With no item it is a dequeue that answered empty. The last
-- item's dequeue ends here: if it was marked before, its end moves here and the dequeue begun at that mark is withdrawn.
abbrev pub drain_ended : (marked : ℕ) → List Item → History → History
drain_ended c [] h = gave_empty ∷ h
drain_ended c (x ∷ xs) h =
    let y = last_of x xs in
    gave_item y.number y.value ∷ cond (eqb (length (x ∷ xs)) c) (withdrawn h) h

-- The history with a reply, between these words: its events are added, and a drain's are as above.
abbrev pub recorded : Request → (before after : Reader) → Reply → History → History
recorded q σ τ ok h = reply_events q h ok ++ h
recorded q σ τ (started n) h = reply_events q h (started n) ++ h
recorded q σ τ going h = gone_on σ τ h
recorded q σ τ ended h = reply_events q h ended ++ h
recorded q σ τ empty h = reply_events q h empty ++ h
recorded q σ τ (item n v) h = reply_events q h (item n v) ++ h
recorded q σ τ (drained xs) h = drain_ended (σ drain_count) xs h

abbrev pub history_with : Request → (before after : Reader) → Response → History → History
history_with q σ τ (refused n) h = h
history_with q σ τ (accepted r k) h = recorded q σ τ r h

-- What stands after some calls: the lent words, the replies and the history, the newest first.
pub record Played : Type 0 where
  pub words : List ℕ
  pub replies : List Response
  pub history : History

-- the cells of a store, by the sizes that it holds
abbrev pub cells_of : List ℕ → Reader
cells_of m = reader (sizes_of m) m

-- Each call gets the store as the one before left it.
abbrev pub play_one : Invocation → Played → Played
play_one v p =
    let r : Result = result v p.words in
    record {
      words = r.words;
      replies = r.reply ∷ p.replies;
      history = history_with v.request (cells_of p.words) (cells_of r.words) r.reply p.history;
    }

unfoldable pub play : List Invocation → Played → Played
play [] p = p
play (v ∷ vs) p = play vs (play_one v p)

-- The accepted steps of the call that thread t started last, counted by the calls of a list (document 02, U3): an accepted start of t's
-- begins at 0, an enqueue's at 1 with its take (document 02, U8); an accepted step of t's is one more. The number that a reply carries is not
-- looked at.
abbrev pub one_more : Request → ℕ → ℕ
one_more (start_enqueue t v) k = 1
one_more start_dequeue k = 0
one_more (start_drain n) k = 0
one_more (step t) k = suc k

abbrev pub steps_with : (t : ℕ) → Request → Response → ℕ → ℕ
steps_with t q (refused n) k = k
steps_with t q (accepted r n) k = cond (eqb (thread_of q) t) (one_more q k) k

-- k before them
unfoldable pub steps_made : (t : ℕ) → List Invocation → Played → (k : ℕ) → ℕ
steps_made t [] p k = k
steps_made t (v ∷ vs) p k = steps_made t vs (play_one v p) (steps_with t v.request (result v p.words).reply k)

-- an item with its position
pub record Placed : Type 0 where
  pub at : ℕ
  pub what : Item

abbrev pub insert : Placed → List Placed → List Placed
insert p [] = p ∷ []
insert p (q ∷ ps) = elim (leb p.at q.at) [ true ↦ p ∷ q ∷ ps | false ↦ q ∷ insert p ps ]

-- *Items left*: call number and value of every entry in state 1, in any record, by rising position, which is
-- B × (place − 1) + index. (B × place + index orders them alike.)
abbrev pub placed_item : Sizes → Reader → (r i : ℕ) → Placed
placed_item z σ r i =
    record { at = z.B * σ (place r) + i; what = record { number = σ (entry_number r i); value = σ (entry_value r i) } }

abbrev pub insert_entries : Sizes → Reader → (r n : ℕ) → List Placed → List Placed
insert_entries z σ r zero ps = ps
insert_entries z σ r (suc i) ps =
    elim (eqb (σ (state r i)) 1) [ true ↦ insert (placed_item z σ r i) (insert_entries z σ r i ps) | false ↦ insert_entries z σ r i ps ]

abbrev pub insert_records : Sizes → Reader → (n : ℕ) → List Placed
insert_records z σ zero = []
insert_records z σ (suc r) = insert_entries z σ r z.B (insert_records z σ r)

abbrev pub items_of : List Placed → Queue
items_of [] = []
items_of (p ∷ ps) = p.what ∷ items_of ps

unfoldable pub items_left : Sizes → Reader → Queue
items_left z σ = items_of (insert_records z σ z.N)
