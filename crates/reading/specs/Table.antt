-- The judge's working memory. Words 0 to 16: the call that each thread has under way, plus one; 0 for none. Word 17: the largest
-- call number so far. Words 18 to 4,095: the marks of the call numbers. Then six columns of 4,096 words, one word for each started call:
-- start, end, answer, thread, number, value.
use Rattle.std.specs.Prelude.{◌≡◌, ◌≢◌, List, ℕ, zero, suc, ◌+◌, ◌*◌, ◌%◌, ◌≤◌, ◌<◌, length, get_or}
use Rattle.history.specs.Calls.{Answer, nothing, item, empty, Call, enq, deq}
use Rattle.reading.specs.Build.{build}

-- the word of call j in column q
abbrev pub cell : List ℕ → (q j : ℕ) → ℕ
cell m q j = get_or m (4096 * q + j) 0

abbrev pub start_at : List ℕ → ℕ → ℕ
start_at m j = cell m 1 j

abbrev pub end_at : List ℕ → ℕ → ℕ
end_at m j = cell m 2 j

abbrev pub answer_at : List ℕ → ℕ → ℕ
answer_at m j = cell m 3 j

abbrev pub thread_at : List ℕ → ℕ → ℕ
thread_at m j = cell m 4 j

abbrev pub number_at : List ℕ → ℕ → ℕ
number_at m j = cell m 5 j

abbrev pub value_at : List ℕ → ℕ → ℕ
value_at m j = cell m 6 j

-- the call that thread t has under way, plus one
abbrev pub busy_at : List ℕ → ℕ → ℕ
busy_at m t = get_or m t 0

abbrev pub top_of : List ℕ → ℕ
top_of m = get_or m 17 0

-- where a call with this number leaves its mark, as others of the same remainder do
abbrev pub mark_of : ℕ → ℕ
mark_of n = 18 + n % 4078

-- what a dequeue answered: nothing while its end is 0, empty where its answer is 0
abbrev pub answer_of : (end number value : ℕ) → Answer
answer_of zero n v = nothing
answer_of (suc e) zero v = empty
answer_of (suc e) (suc n) v = item (suc n) v

-- A call from its six words: a dequeue has thread 0.
abbrev pub call_of : (thread number value start end answer : ℕ) → Call
call_of zero n v s e a = deq (record { start = s; end = e; answer = answer_of e a v })
call_of (suc t) n v s e a = enq (record { thread = suc t; number = n; value = v; start = s; end = e })

abbrev pub call_at : List ℕ → ℕ → Call
call_at m j = call_of (thread_at m j) (number_at m j) (value_at m j) (start_at m j) (end_at m j) (answer_at m j)

-- The calls that the memory holds, in starting order.
abbrev pub calls_in : List ℕ → ℕ → List Call
calls_in m c = build (call_at m) c

-- What holds of the memory between two events, with c calls started.
pub record Table (m : List ℕ) (c : ℕ) : Type 0 where
  pub size : length m ≡ 28672
  -- a call under way is its thread's
  pub known : (t j : ℕ) → t ≤ 16 → j < c → thread_at m j ≡ t → end_at m j ≡ 0 → busy_at m t ≡ suc j
  pub under_way : (t i : ℕ) → t ≤ 16 → busy_at m t ≡ suc i → (i < c) × (thread_at m i ≡ t) × (end_at m i ≡ 0)
  -- a dequeue has number 0, an enqueue another, which no other call has and which is no larger than the largest
  pub plain : (j : ℕ) → j < c → thread_at m j ≡ 0 → number_at m j ≡ 0
  pub highest : (j : ℕ) → j < c → number_at m j ≤ top_of m
  pub distinct : (i j : ℕ) → i < c → j < c → number_at m i ≡ number_at m j → number_at m i ≢ 0 → i ≡ j
  -- its mark is set, so a number whose mark is 0 is no call's
  pub marked : (j : ℕ) → j < c → get_or m (mark_of (number_at m j)) 0 ≢ 0
