-- The comparison of two recordings (document 02, U10): the reply, and the part that is handed back.
use Rattle.std.specs.Prelude.{Bool, false, ◌&&◌, cond, List, ℕ, zero, suc, ◌*◌, min, leb, length, drop}
use Rattle.history.specs.Form.{most_events, Reading, refused, history, read}
use Rattle.equivalence.specs.Tests.{same_words, same_calls, keeps_precedence}
use Rattle.matching.specs.Rows.{events_in, row_at}
use Rattle.comparison.specs.declared.Recording.{Recording}
use Rattle.comparison.specs.declared.Recording.TheVariants.{First, Second}
use Rattle.comparison.specs.declared.Rest.{Rest}

-- The reply: whose words were refused with which number, or whether both recordings have the same calls.
pub data Reply : Type 0 where
  Refused : Recording → (number : ℕ) → Reply
  SameCalls : Reply
  OtherCalls : Reply

-- the reply, and the part that is handed back
pub record Comparison : Type 0 where
  pub reply : Reply
  pub rest : Rest

-- Both recordings are checked by 10, 12 and 13 of the judge's table, the first one first; on a refusal the reply says which recording.
-- Same calls when every thread has the same events in the same order in both, otherwise other calls.
abbrev pub reply_to : (first second : Reading) → Reply
reply_to (refused n) y = Refused First n
reply_to (history h) (refused n) = Refused Second n
reply_to (history h) (history g) = cond (same_calls h g) SameCalls OtherCalls

-- how many of n events, from event k on, are the same in both, up to the first that is not
abbrev pub shared_from : (n k : ℕ) (xs ys : List ℕ) → ℕ
shared_from zero k xs ys = 0
shared_from (suc n) k xs ys = cond (same_words (row_at xs k) (row_at ys k)) (suc (shared_from n (suc k) xs ys)) 0

-- The longest shared beginning of whole events: how many.
unfoldable pub shared : (xs ys : List ℕ) → ℕ
shared xs ys = shared_from (min (events_in xs) (events_in ys)) 0 xs ys

-- The rest of the longer recording after that, of the first if they are equally long.
abbrev pub rest_of_longer : (xs ys : List ℕ) → Rest
rest_of_longer xs ys = record { recording = cond (leb (length ys) (length xs)) First Second; from = 4 * shared xs ys }

-- The part that is handed back: that rest, or on a refusal the empty end of the first.
abbrev pub rest_after : Reply → (xs ys : List ℕ) → Rest
rest_after (Refused r n) xs ys = record { recording = First; from = length xs }
rest_after SameCalls xs ys = rest_of_longer xs ys
rest_after OtherCalls xs ys = rest_of_longer xs ys

-- The comparison of the words of two recordings.
abbrev pub compared : (xs ys : List ℕ) → Comparison
compared xs ys =
    let reply = reply_to (read most_events xs) (read most_events ys) in
    record { reply = reply; rest = rest_after reply xs ys }

-- a recording of two
abbrev pub of_two : Recording → (xs ys : List ℕ) → List ℕ
of_two First xs ys = xs
of_two Second xs ys = ys

-- the words of a rest
abbrev pub part_of : Rest → (xs ys : List ℕ) → List ℕ
part_of rest xs ys = drop rest.from (of_two rest.recording xs ys)

-- The part itself.
abbrev pub handed_back : (xs ys : List ℕ) → List ℕ
handed_back xs ys = part_of (compared xs ys).rest xs ys

-- Whether the second recording may be trusted on the word of the first: neither is refused, they have the same calls, and everything that
-- ended before something started in the second also did so in the first.
abbrev pub keeps_to : (first second : Reading) → Bool
keeps_to (refused n) y = false
keeps_to (history h) (refused n) = false
keeps_to (history h) (history g) = same_calls h g && keeps_precedence h g
