-- From the lines to the whole output.
use Rattle.std.specs.Prelude.{◌≡◌, List, ℕ, ◌*◌, ◌≤◌, ◌<◌, length, take, replicate}
use Rattle.std.proofs.Common.{ap, ◌∙◌, arith, lt-ltb, le-ltb}
use Rattle.history.specs.Form.{most_events, history, read}
use Rattle.text.specs.Wrote.{Wrote}
use Rattle.text.specs.Laws.{wrote_append}
use Rattle.protocol.specs.Words.{too_long_line}
use Rattle.protocol.specs.Line.{lines_of}
use Rattle.recording.specs.Report.{printed_reading}
use Rattle.session.specs.declared.Place.{Place}
use Rattle.std.proofs.Common.{Break, Continue}
use Rattle.rules.specs.Sizes.{most_words}
use Rattle.session.specs.Session.{most_input, blank, start, run_lines, printed_run, output}
use Rattle.session.specs.Turns.{Next, most_replies, Leaves, Ran}
use Rattle.session.specs.Reading.{words_read}
use Rattle.session.specs.Reaching.{lines_formed, lines_named}

pub too_long : (input : List ℕ) {out out' : List ℕ} {r : ℕ} → most_input < length input → Wrote out 0 too_long_line out' r → Wrote out 0 (output input) out' r
unfolding output
too_long input l w = simp (lt-ltb most_input (length input) l) w

short_output : (input : List ℕ) → length input ≤ most_input → output input ≡ printed_run (run_lines (lines_of input) start)
unfolding output
short_output input l = simp (le-ltb most_input (length input) l)

-- What the lines leave from the beginning.
module _ {input out store' history' out' : List ℕ} {r : Next} (f : Ran input (replicate most_words 0) out store' history' out' r) where
  leaves : {v : Next} → r ≡ v → Leaves (run_lines (lines_of input) start) store' history' out out' v
  unfolding blank
  leaves e = rw e at f.leaves

  pub bad_printed : {end : ℕ} → r ≡ Break end → length input ≤ most_input → Wrote out 0 (output input) out' end
  bad_printed e l = let g = leaves e in rw (short_output input l, g.0) g.2

  module _ {at : Place} (e : r ≡ Continue at) where
    pub few_events : at.events ≤ most_events
    few_events = (leaves e).1

    pub short_replies : at.bytes ≤ most_replies
    short_replies = (leaves e).2

    -- the history that the recorded words are read as
    last_read : read most_events (take (at.events * 4) history') ≡ history (run_lines (lines_of input) start).session.history
    last_read =
        let g = lines_formed (lines_of input) in
        let w = (leaves e).0.stands.recorded in
        ap (read most_events) w.held
        ∙ words_read (run_lines (lines_of input) start).session.history g.0 (lines_named (lines_of input)) g.1 (omega (arith, w.counted, few_events))

    pub last_printed : {o : List ℕ} {n : ℕ} → length input ≤ most_input → Wrote out' at.bytes (printed_reading (read most_events (take (at.events * 4) history'))) o n → Wrote out 0 (output input) o n
    last_printed l w = let g = (leaves e).0 in rw (short_output input l, g.good) (wrote_append g.wrote (rw last_read at w))
