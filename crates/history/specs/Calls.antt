-- The calls of a history in starting order, as the working table has them (document 01, "Judge").
use Rattle.std.specs.Prelude.{◌&&◌, cond, List, [], ◌∷◌, ◌++◌, map, ℕ, suc, eqb, length}
use Rattle.history.specs.Event.{Event, History, enqueue_started, enqueue_ended, dequeue_started, gave_item, gave_empty}

-- What a dequeue answered: nothing yet, an item, or empty.
pub data Answer : Type 0 where
  nothing : Answer
  item : (number value : ℕ) → Answer
  empty : Answer

-- Events count from 1; the end is 0 for a call under way.
pub record Enqueue : Type 0 where
  pub thread : ℕ
  pub number : ℕ
  pub value : ℕ
  pub start : ℕ
  pub end : ℕ

pub record Dequeue : Type 0 where
  pub start : ℕ
  pub end : ℕ
  pub answer : Answer

pub data Call : Type 0 where
  enq : Enqueue → Call
  deq : Dequeue → Call

abbrev pub start_of : Call → ℕ
start_of (enq x) = x.start
start_of (deq d) = d.start

abbrev pub end_of : Call → ℕ
end_of (enq x) = x.end
end_of (deq d) = d.end

-- thread t's enqueue under way ends at event k
abbrev pub end_enqueue : (t k : ℕ) → Call → Call
end_enqueue t k (enq x) =
    enq (record { thread = x.thread; number = x.number; value = x.value; start = x.start; end = cond (eqb x.thread t && eqb x.end 0) k x.end })
end_enqueue t k (deq d) = deq d

-- the dequeue under way ends at event k and answers a
abbrev pub end_dequeue : (k : ℕ) → Answer → Call → Call
end_dequeue k a (enq x) = enq x
end_dequeue k a (deq d) =
    deq (record { start = d.start; end = cond (eqb d.end 0) k d.end; answer = cond (eqb d.end 0) a d.answer })

-- the calls after event k
abbrev pub enter : (k : ℕ) → Event → List Call → List Call
enter k (enqueue_started t n v) cs = cs ++ (enq (record { thread = t; number = n; value = v; start = k; end = 0 }) ∷ [])
enter k (enqueue_ended t n v) cs = map (end_enqueue t k) cs
enter k dequeue_started cs = cs ++ (deq (record { start = k; end = 0; answer = nothing }) ∷ [])
enter k (gave_item n v) cs = map (end_dequeue k (item n v)) cs
enter k gave_empty cs = map (end_dequeue k empty) cs

-- The calls of a history, in starting order.
abbrev pub calls : History → List Call
calls [] = []
calls (e ∷ h) = enter (suc (length h)) e (calls h)

-- A record of the working table: kind 1 or 3, start event, end event, and the answer: the item's call number, and 0 in every
-- other case.
pub record Row : Type 0 where
  pub kind : ℕ
  pub start : ℕ
  pub end : ℕ
  pub answer : ℕ

abbrev pub number_of : Answer → ℕ
number_of nothing = 0
number_of (item n v) = n
number_of empty = 0

abbrev pub row : Call → Row
row (enq x) = record { kind = 1; start = x.start; end = x.end; answer = 0 }
row (deq d) = record { kind = 3; start = d.start; end = d.end; answer = number_of d.answer }

abbrev pub rows : History → List Row
rows h = map row (calls h)
