-- What an exported call gives back to C: the returned number, every word of the store, of the buffer and of the reply.
use Rattle.std.specs.Prelude.{List, ℕ, length, set}
use Rattle.rules.specs.Rule.{Reply, ok, started, going, ended, empty, item, drained, Response, refused, accepted}
use Rattle.rules.specs.Request.{Result}

-- A refused call returns its refusal's number, an accepted open or start 0, an accepted step 100 going, 101 end, 102 empty, 103 item,
-- 104 drained.
abbrev pub accepted_code : Reply → ℕ
accepted_code ok = 0
accepted_code (started number) = 0
accepted_code going = 100
accepted_code ended = 101
accepted_code empty = 102
accepted_code (item number value) = 103
accepted_code (drained items) = 104

abbrev pub code : Response → ℕ
code (refused n) = n
code (accepted r steps) = accepted_code r

-- Word 0 of the reply receives the call number (start enqueue, item) or how many items were handed over (drained), word 1 the value (item) or 0
-- (drained), word 2 the number of accepted steps of the call so far (a step, and start enqueue, whose take is one); the others stay.
abbrev pub accepted_words : Reply → (steps : ℕ) → List ℕ → List ℕ
accepted_words ok k w = w
accepted_words (started number) k w = set (set w 0 number) 2 k
accepted_words going k w = set w 2 k
accepted_words ended k w = set w 2 k
accepted_words empty k w = set w 2 k
accepted_words (item number value) k w = set (set (set w 0 number) 1 value) 2 k
accepted_words (drained items) k w = set (set (set w 0 (length items)) 1 0) 2 k

abbrev pub reply_words : Response → List ℕ → List ℕ
reply_words (refused n) w = w
reply_words (accepted r steps) w = accepted_words r steps w

-- The returned number and the words of the store.
pub record Returned : Type 0 where
  pub number : ℕ
  pub store : List ℕ

abbrev pub returned : Result → Returned
returned r = record { number = code r.reply; store = r.words }

-- The same with the words of the reply.
pub record Replied : Type 0 where
  pub number : ℕ
  pub store : List ℕ
  pub reply : List ℕ

abbrev pub replied : Result → List ℕ → Replied
replied r w = record { number = code r.reply; store = r.words; reply = reply_words r.reply w }

-- The same with the words of the buffer.
pub record Stepped : Type 0 where
  pub number : ℕ
  pub store : List ℕ
  pub buffer : List ℕ
  pub reply : List ℕ

abbrev pub stepped : Result → List ℕ → Stepped
stepped r w = record { number = code r.reply; store = r.words; buffer = r.buffer; reply = reply_words r.reply w }
