-- What the program prints, from the bytes that it reads (document 01, "Program").
use Rattle.std.specs.Prelude.{Option, Some, None, Bool, true, false, cond, List, [], ◌∷◌, ◌++◌, ℕ, ltb, length, replicate}
use Rattle.history.specs.Event.{History}
use Rattle.criterion.specs.Pass.{explains}
use Rattle.rules.specs.Sizes.{Sizes, most_words}
use Rattle.rules.specs.Rule.{Response, refused, accepted}
use Rattle.rules.specs.Request.{Result, Request, start_enqueue, start_dequeue, step, lending, open_store, result}
use Rattle.rules.specs.Play.{events}
use Rattle.protocol.specs.declared.Line.{Line}
use Rattle.protocol.specs.declared.Line.TheVariants.{Open, Enqueue, Dequeue, Step}
use Rattle.protocol.specs.Words.{bad_line, too_long_line}
use Rattle.protocol.specs.Line.{lines_of, parse_line}
use Rattle.protocol.specs.Printed.{printed, printed_verdict}

-- the most bytes that are read
abbrev pub most_input : ℕ
most_input = 8192

-- What stands between two lines: the words of the store, and the history since the last accepted open, or no events if there was
-- none. The newest event comes first.
pub record Session : Type 0 where
  pub words : List ℕ
  pub history : History

-- some words and no events
abbrev pub begun : List ℕ → Session
begun m = record { words = m; history = [] }

-- Before any open the words are zero, as many as the largest sizes need.
unfoldable pub blank : List ℕ
blank = replicate most_words 0

abbrev pub start : Session
start = begun blank

-- What a call replies, and what stands after it.
pub record Turn : Type 0 where
  pub reply : Response
  pub session : Session

-- An accepted open begins a new history.
abbrev pub reopened : Response → History → History
reopened (refused n) h = h
reopened (accepted r k) h = []

abbrev pub open_turn : Result → History → Turn
open_turn r h = record { reply = r.reply; session = record { words = r.words; history = reopened r.reply h } }

-- The program starts no drain, so a reply adds its events to the history. Its steps lend no words.
abbrev pub call_turn : Request → Result → History → Turn
call_turn q r h = record { reply = r.reply; session = record { words = r.words; history = events q h r.reply ++ h } }

unfoldable pub opening : Sizes → Session → Turn
opening z x = open_turn (open_store z x.words) x.history

unfoldable pub calling : Request → Session → Turn
calling q x = call_turn q (result (lending [] 0 q) x.words) x.history

-- The call that a line asks for; a bad line asks for none.
abbrev pub call_of : Option Line → Option (Session → Turn)
call_of (Some (Open b n p m)) = Some (opening (record { B = b; N = n; P = p; M = m }))
call_of (Some (Enqueue t v)) = Some (calling (start_enqueue t v))
call_of (Some Dequeue) = Some (calling start_dequeue)
call_of (Some (Step t)) = Some (calling (step t))
call_of None = None

-- What some lines leave: what stands after them, the replies that they printed, and whether one of them was bad.
pub record Run : Type 0 where
  pub session : Session
  pub replies : List ℕ
  pub stopped : Bool

-- what lines leave after a printed reply
abbrev pub after : List ℕ → Run → Run
after bytes r = record { session = r.session; replies = bytes ++ r.replies; stopped = r.stopped }

-- A call prints its reply, and the lines after it go on with what stands then. No line after a bad one is run.
abbrev pub run_line : Option (Session → Turn) → Session → (Session → Run) → Run
run_line None x rest = record { session = x; replies = []; stopped = true }
run_line (Some call) x rest = after (printed (call x).reply) (rest (call x).session)

-- The lines in turn.
unfoldable pub run_lines : List (List ℕ) → Session → Run
run_lines [] x = record { session = x; replies = []; stopped = false }
run_lines (l ∷ ls) x = run_line (call_of (parse_line l)) x (run_lines ls)

-- The replies, and then `bad line`, or else the judge's word on the history.
abbrev pub printed_run : Run → List ℕ
printed_run r = r.replies ++ cond r.stopped bad_line (printed_verdict (explains r.session.history))

-- Longer input prints `too long` only.
unfoldable pub output : List ℕ → List ℕ
output input = cond (ltb most_input (length input)) too_long_line (printed_run (run_lines (lines_of input) start))
