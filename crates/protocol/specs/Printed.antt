-- The line that a reply prints (document 01, "Program"; document 02, U3).
use Rattle.std.specs.Prelude.{Bool, true, false, Result, Ok, Err, List, [], ◌∷◌, ◌++◌, ℕ}
use Rattle.text.specs.Decimal.{decimal}
use Rattle.store.specs.declared.Reply as store
use Rattle.store.specs.Outcome.{reply_in}
use Rattle.rules.specs.Rule.{Reply, Response, refused, accepted, ok, started, going, ended, empty, item, drained}
use Rattle.protocol.specs.Words.{space, newline, ok_line, ok_word, going_line, end_word, empty_word, item_word, refused_word, explained_line, unexplained_line}

-- a number and the byte after it
abbrev pub number_and : (n end : ℕ) → List ℕ
number_and n end = decimal n ++ (end ∷ [])

-- a word and a number
abbrev pub numbered : List ℕ → ℕ → List ℕ
numbered word n = word ++ number_and n newline

-- two numbers
abbrev pub number_pair : (n v : ℕ) → List ℕ
number_pair n v = number_and n space ++ number_and v newline

-- The number of accepted steps stands last where a call ends. The program starts no drain, and has no line for its end (document 02, U5).
abbrev pub printed_reply : Reply → (steps : ℕ) → List ℕ
printed_reply ok k = ok_line
printed_reply (started n) k = numbered ok_word n
printed_reply going k = going_line
printed_reply ended k = numbered end_word k
printed_reply empty k = numbered empty_word k
printed_reply (item n v) k = item_word ++ (number_and n space ++ number_pair v k)
printed_reply (drained items) k = []

unfoldable pub printed : Response → List ℕ
printed (refused n) = numbered refused_word n
printed (accepted r steps) = printed_reply r steps

-- What a call answers, accepted or refused by a number, as a response; no word of a buffer is looked at.
abbrev pub answered : (steps : ℕ) → Result store.Reply ℕ → Response
answered k (Err n) = refused n
answered k (Ok r) = accepted (reply_in [] 0 r) k

-- the most bytes that a reply prints: "item ", three numbers of ten digits, two spaces and a newline
abbrev pub most_printed : ℕ
most_printed = 38

-- The judge's word.
abbrev pub printed_verdict : Bool → List ℕ
printed_verdict true = explained_line
printed_verdict false = unexplained_line
