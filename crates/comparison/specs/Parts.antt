-- What the code's answers say.
use Rattle.std.specs.Prelude.{◌≡◌, Bool, true, false, List, ℕ, Result, Ok, Err}
use Rattle.history.specs.Event.{History}
use Rattle.history.specs.Form.{most_events, Reading, refused, history, read}
use Rattle.reading.specs.Refusal.{refusal_number}
use Rattle.equivalence.specs.Tests.{same_calls}
use Rattle.comparison.specs.declared.Recording.{Recording}
use Rattle.comparison.specs.declared.RefusedRecording.{RefusedRecording}
use Rattle.comparison.specs.declared.Compared.{Compared}
use Rattle.comparison.specs.Compared.{Reply, Refused, SameCalls, OtherCalls, Comparison, reply_to}

-- A reply with its refusal's number: on Ok, whether both recordings have the same calls.
abbrev pub reply_of : Result Bool RefusedRecording → Reply
reply_of (Ok true) = SameCalls
reply_of (Ok false) = OtherCalls
reply_of (Err e) = Refused e.recording (refusal_number e.refusal)

abbrev pub comparison_of : Compared → Comparison
comparison_of c = record { reply = reply_of c.reply; rest = c.rest }

-- Neither recording is refused.
pub record Both (xs ys : List ℕ) : Type 0 where
  pub first : History
  pub second : History
  pub first_is : read most_events xs ≡ history first
  pub second_is : read most_events ys ≡ history second

-- The words of a recording are read as a history, or refused.
abbrev pub Checks : Recording → List ℕ → Result Unit RefusedRecording → Type 0
Checks recording ws (Ok u) = (h : History) × (read most_events ws ≡ history h)
Checks recording ws (Err e) = (e.recording ≡ recording) × (read most_events ws ≡ refused (refusal_number e.refusal))

-- Neither recording is refused, or one is, the first one first.
abbrev pub Admits : (xs ys : List ℕ) → Result Unit RefusedRecording → Type 0
Admits xs ys (Ok u) = Both xs ys
Admits xs ys (Err e) = reply_to (read most_events xs) (read most_events ys) ≡ Refused e.recording (refusal_number e.refusal)

-- whether two histories have the same calls
abbrev pub same_in : (first second : Reading) → Bool
same_in (refused n) y = false
same_in (history h) (refused n) = false
same_in (history h) (history g) = same_calls h g
