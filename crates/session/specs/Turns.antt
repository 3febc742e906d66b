-- What a line leaves in the program's buffers: the words of the store, the words of the history and the printed bytes.
use Rattle.std.specs.Prelude.{Option, Some, None, Result, ◌≡◌, true, false, List, [], ◌++◌, ℕ, ◌+◌, ◌*◌, ◌≤◌, length}
use Rattle.std.proofs.Common.{ControlFlow, Break, Continue}
use Rattle.history.specs.Form.{most_events}
use Rattle.rules.specs.Request.{Request, lending, result}
use Rattle.rules.specs.Play.{thread_of, value_of}
use Rattle.store.specs.declared.Reply.{Reply}
use Rattle.store.specs.declared.Refusal.{Refusal}
use Rattle.store.specs.Outcome.{left_with}
use Rattle.text.specs.Wrote.{Wrote}
use Rattle.protocol.specs.declared.Line.{Line}
use Rattle.protocol.specs.Words.{bad_line}
use Rattle.protocol.specs.Line.{lines_of}
use Rattle.protocol.specs.Printed.{printed, most_printed}
use Rattle.session.specs.declared.Place.{Place}
use Rattle.session.specs.Session.{Session, begun, start, Turn, calling, call_of, Run, run_lines}
use Rattle.events.specs.Events.{Recorded}

-- The buffers hold what stands, the history's first k events.
pub record Stands (x : Session) (store history : List ℕ) (k : ℕ) : Type 0 where
  pub words_are : x.words ≡ store
  pub recorded : Recorded history k x.history

-- A call changed the buffers, whatever stood before: they hold what stands after it, and its reply was printed.
pub record Turned (call : Session → Turn) (store history out : List ℕ) (at : Place) (store' history' out' : List ℕ) (next : Place) : Type 0 where
  pub stands : (x : Session) → Stands x store history at.events → Stands (call x).session store' history' next.events
  pub prints : (x : Session) → Stands x store history at.events → Wrote out at.bytes (printed (call x).reply) out' next.bytes
  pub most : next.events ≤ at.events + 1
  pub short : next.bytes ≤ at.bytes + most_printed

-- A call of thread t with value v was recorded and its reply printed: a turn, where the store changed as the call says.
pub record Finished (t v : ℕ) (reply : Result Reply Refusal) (steps : ℕ) (history out : List ℕ) (at : Place) (history' out' : List ℕ) (next : Place) : Type 0 where
  pub turned :
      (q : Request) → thread_of q ≡ t → value_of q ≡ v → (store store' buffer : List ℕ)
      → left_with steps reply store' buffer 0 ≡ result (lending [] 0 q) store
      → Turned (calling q) store history out at store' history' out' next

-- What a line leaves: the run stops, and the output ends at a position; or it goes on, with where the next event and byte go.
abbrev pub Next : Type 0
Next = ControlFlow ℕ Place

-- What a line does, by the call that it asks for: a bad one prints `bad line` and stops the run, any other turns as its call does.
abbrev pub Answered : Option (Session → Turn) → (store history out : List ℕ) → Place → (store' history' out' : List ℕ) → Next → Type 0
Answered None s h o at s' h' o' (Break end) = (s' ≡ s) × (h' ≡ h) × Wrote o at.bytes bad_line o' end
Answered None s h o at s' h' o' (Continue next) = ⊥
Answered (Some call) s h o at s' h' o' (Break end) = ⊥
Answered (Some call) s h o at s' h' o' (Continue next) = Turned call s h o at s' h' o' next

pub record Answers (line : Option Line) (store history out : List ℕ) (at : Place) (store' history' out' : List ℕ) (r : Next) : Type 0 where
  pub answered : Answered (call_of line) store history out at store' history' out' r

-- A bound on the bytes of the replies: 8,192 bytes are at most 4,096 lines that ask for a call, so many as the judge takes events.
abbrev pub most_replies : ℕ
most_replies = most_events * most_printed

-- A bound on the bytes that are printed, not the most that can be printed (`length_output`, Length.antt): a line has two bytes with
-- its newline, which the last may lack, and is answered with at most 38; the judge's word has at most 12. 38 × 8,193 / 2 + 12.
abbrev pub most_output : ℕ
most_output = 155679

-- The lines were run to the end: the buffers hold what stands after them, and their replies were printed.
pub record Ended (r : Run) (store history before out : List ℕ) (at : Place) : Type 0 where
  pub good : r.stopped ≡ false
  pub stands : Stands r.session store history at.events
  pub wrote : Wrote before 0 r.replies out at.bytes

-- What lines leave in the buffers, and the answer: where the output ends, or where the next event and the next byte go.
abbrev pub Leaves : Run → (store history before out : List ℕ) → Next → Type 0
Leaves r s h b o (Break end) = (r.stopped ≡ true) × Stands r.session s h (length r.session.history) × Wrote b 0 (r.replies ++ bad_line) o end
Leaves r s h b o (Continue at) = Ended r s h b o at × (at.events ≤ most_events) × (at.bytes ≤ most_replies)

-- The lines of the input were run, from the words of the store and no events.
pub record Ran (input store out store' history' out' : List ℕ) (r : Next) : Type 0 where
  pub leaves : Leaves (run_lines (lines_of input) (begun store)) store' history' out out' r

-- The words of the store after the lines of the input, from the program's start.
abbrev pub words_after : (input : List ℕ) → List ℕ
words_after input = (run_lines (lines_of input) start).session.words
