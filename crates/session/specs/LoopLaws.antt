-- Laws of the run: one line more, a bad line, and the end.
use Rattle.std.specs.Prelude.{Option, Some, None, ◌≡◌, refl, Bool, true, false, cond, ℕ, suc, ◌+◌, ◌-◌, ◌≤◌, ◌<◌, eqb, length, take, drop}
use Rattle.std.proofs.Common.{ap, sym, ◌∙◌, true≢false, arith, length-drop, drop_of_length-le, drop-drop}
use Rattle.std.proofs.Math.Path.{subst}
use mathlib.Core.List.{List, [], ◌∷◌, ◌++◌, append_assoc, append-nil}
use Rattle.std.proofs.Common.{Break, Continue}
use Rattle.text.specs.Laws.{wrote_append}
use Rattle.protocol.specs.Words.{newline}
use Rattle.protocol.specs.Line.{line_length, lines_of, starts_with, parse_line}
use Rattle.protocol.specs.Laws.{first_line}
use Rattle.protocol.specs.Printed.{printed, most_printed}
use Rattle.session.specs.declared.Place.{Place}
use Rattle.session.specs.Session.{Session, begun, Turn, call_of, Run, after, run_line, run_lines}
use Rattle.events.specs.EventLaws.{none_recorded}
use Rattle.session.specs.Turns.{Answered, Answers, Ended, Leaves}

-- The first of the lines that are left, up to its end, and those after it.
first_of : (l : List ℕ) → 0 < length l → lines_of l ≡ take (line_length l) l ∷ lines_of (drop (line_length l + 1) l)
first_of [] h = absurd (omega arith)
first_of (b ∷ bs) h =
    let e : suc (line_length (b ∷ bs)) ≡ line_length (b ∷ bs) + 1 = omega arith in
    first_line b bs ∙ ap (λ (k : ℕ). take (line_length (b ∷ bs)) (b ∷ bs) ∷ lines_of (drop k (b ∷ bs))) e

-- a line ends within the input
line_length_lem : (l : List ℕ) → line_length l ≤ length l
unfolding line_length
line_length_lem [] = omega arith
line_length_lem (b ∷ bs) = go (eqb b newline) (line_length_lem bs)
  where
    go : (x : Bool) → line_length bs ≤ length bs → cond x 0 (suc (line_length bs)) ≤ suc (length bs)
    go true h = omega arith
    go false h = omega arith

pub line_within : (input : List ℕ) (at : ℕ) → at < length input → at + line_length (drop at input) ≤ length input
line_within input at h = omega (arith, line_length_lem (drop at input), length-drop at input)

-- Some lines, none of them bad, and then others.
run_append : (ls ms : List (List ℕ)) (x : Session) → (run_lines ls x).stopped ≡ false → run_lines (ls ++ ms) x ≡ after (run_lines ls x).replies (run_lines ms (run_lines ls x).session)
unfolding run_lines
run_append [] ms x e = refl
run_append (l ∷ ls) ms x e = go (call_of (parse_line l)) e (λ y. run_append ls ms y)
  where
    go : (c : Option (Session → Turn)) → (run_line c x (run_lines ls)).stopped ≡ false
        → ((y : Session) → (run_lines ls y).stopped ≡ false → run_lines (ls ++ ms) y ≡ after (run_lines ls y).replies (run_lines ms (run_lines ls y).session))
        → run_line c x (run_lines (ls ++ ms)) ≡ after (run_line c x (run_lines ls)).replies (run_lines ms (run_line c x (run_lines ls)).session)
    go None e f = absurd (true≢false e)
    go (Some call) e f =
        let y = call x in
        let r = run_lines ls y.session in
        let m = run_lines ms r.session in
        ap (after (printed y.reply)) (f y.session e)
        ∙ ap (λ (p : List ℕ). record { session = m.session; replies = p; stopped = m.stopped }) (sym (append_assoc (printed y.reply) r.replies m.replies))

-- Between two lines: with those that are left, the lines that were run are those of the input; none of them was bad, and the buffers
-- hold what they leave.
pub record Going (x : Session) (input store history before out : List ℕ) (at events bytes : ℕ) : Type 0 where
  pub done : List (List ℕ)
  pub split : done ++ lines_of (drop at input) ≡ lines_of input
  pub ended : Ended (run_lines done x) store history before out (record { events = events; bytes = bytes })

pub going_begins : (input m history out : List ℕ) → Going (begun m) input m history out out 0 0 0
unfolding run_lines
going_begins input m history out =
    record {
      done = [];
      split = refl;
      ended =
          record {
            good = refl;
            stands = record { words_are = refl; recorded = none_recorded history };
            wrote = record { next_is = refl; after_is = refl };
          };
    }

module _ (input : List ℕ) (at end : ℕ) (more : at < length input) (ends : end ≡ at + line_length (drop at input)) where
  abbrev pub line : List ℕ
  line = take (end - at) (drop at input)

  lines_left : lines_of (drop at input) ≡ line ∷ lines_of (drop (end + 1) input)
  lines_left =
      let n : line_length (drop at input) ≡ end - at = omega arith in
      let k : at + (line_length (drop at input) + 1) ≡ end + 1 = omega arith in
      first_of (drop at input) (rw length-drop (omega arith))
      ∙ ap (λ (m : ℕ). take m (drop at input) ∷ lines_of (drop (line_length (drop at input) + 1) (drop at input))) n
      ∙ ap (λ (l : List ℕ). line ∷ lines_of l) (drop-drop (line_length (drop at input) + 1) at input ∙ ap (λ (m : ℕ). drop m input) k)

  module _ {x : Session} {store history before out : List ℕ} {events bytes : ℕ} (g : Going x input store history before out at events bytes) where
    -- what the lines before this one leave
    abbrev ran : Run
    ran = run_lines g.done x

    -- those lines, this one, and any after it
    run_on : (ls : List (List ℕ)) → run_lines (g.done ++ (line ∷ ls)) x ≡ after ran.replies (run_line (call_of (parse_line line)) ran.session (run_lines ls))
    unfolding run_lines
    run_on ls = run_append g.done (line ∷ ls) x g.ended.good

    all_lines : g.done ++ (line ∷ lines_of (drop (end + 1) input)) ≡ lines_of input
    all_lines = ap (λ (ls : List (List ℕ)). g.done ++ ls) (sym lines_left) ∙ g.split

    pub going_on : {store' history' out' : List ℕ} {next : Place} → Answers (parse_line line) store history out (record { events = events; bytes = bytes }) store' history' out' (Continue next)
        → Going x input store' history' before out' (end + 1) next.events next.bytes
    unfolding run_lines
    going_on {store'} {history'} {out'} {next} a = go (call_of (parse_line line)) a.answered (run_on [])
      where
        go : (c : Option (Session → Turn)) → Answered c store history out (record { events = events; bytes = bytes }) store' history' out' (Continue next)
            → run_lines (g.done ++ (line ∷ [])) x ≡ after ran.replies (run_line c ran.session (run_lines []))
            → Going x input store' history' before out' (end + 1) next.events next.bytes
        go None a e = absurd a
        go (Some call) t e =
            record {
              done = g.done ++ (line ∷ []);
              split = append_assoc g.done (line ∷ []) (lines_of (drop (end + 1) input)) ∙ all_lines;
              ended =
                  subst (λ (r : Run). Ended r store' history' before out' next) (sym e)
                  (record {
                    good = refl;
                    stands = t.stands ran.session g.ended.stands;
                    wrote = wrote_append g.ended.wrote (rw append-nil (t.prints ran.session g.ended.stands));
                  });
            }

    pub going_stops : {store' history' out' : List ℕ} {last : ℕ} → Answers (parse_line line) store history out (record { events = events; bytes = bytes }) store' history' out' (Break last)
        → Leaves (run_lines (lines_of input) x) store' history' before out' (Break last)
    going_stops {store'} {history'} {out'} {last} a = go (call_of (parse_line line)) a.answered (ap (λ (ls : List (List ℕ)). run_lines ls x) (sym all_lines) ∙ run_on (lines_of (drop (end + 1) input)))
      where
        go : (c : Option (Session → Turn)) → Answered c store history out (record { events = events; bytes = bytes }) store' history' out' (Break last)
            → run_lines (lines_of input) x ≡ after ran.replies (run_line c ran.session (run_lines (lines_of (drop (end + 1) input))))
            → Leaves (run_lines (lines_of input) x) store' history' before out' (Break last)
        go None a e =
            let y = g.ended.stands in
            subst (λ (r : Run). Leaves r store' history' before out' (Break last)) (sym e)
            (refl, rw (a.0, a.1, y.recorded.counted) y, rw append-nil (wrote_append g.ended.wrote a.2))
        go (Some call) a e = absurd a

-- a line that asks for a call is not empty
pub some_line : (l : List ℕ) (call : Session → Turn) → call_of (parse_line l) ≡ Some call → 0 < length l
unfolding parse_line starts_with
some_line [] call c = let z : ◌≡◌ {A = ℕ} 0 1 = cc in absurd (omega arith)
some_line (b ∷ bs) call c = omega arith

-- A line that is no bad one is not empty, adds at most one event and prints at most 38 bytes.
pub answered_short : (l : List ℕ) {store history out store' history' out' : List ℕ} {at next : Place} → Answers (parse_line l) store history out at store' history' out' (Continue next)
    → (0 < length l) × (next.events ≤ at.events + 1) × (next.bytes ≤ at.bytes + most_printed)
answered_short l {store} {history} {out} {store'} {history'} {out'} {at} {next} a = go (call_of (parse_line l)) refl a.answered
  where
    go : (c : Option (Session → Turn)) → call_of (parse_line l) ≡ c → Answered c store history out at store' history' out' (Continue next)
        → (0 < length l) × (next.events ≤ at.events + 1) × (next.bytes ≤ at.bytes + most_printed)
    go None e a = absurd a
    go (Some call) e t = (some_line l call e, t.most, t.short)

-- No line is left.
pub going_ends : {x : Session} {input store history before out : List ℕ} {at events bytes : ℕ} → length input ≤ at → Going x input store history before out at events bytes
    → Ended (run_lines (lines_of input) x) store history before out (record { events = events; bytes = bytes })
unfolding lines_of
going_ends {x} {input} {store} {history} {before} {out} {at} {events} {bytes} l g =
    let e : g.done ≡ lines_of input = sym (append-nil g.done) ∙ rw (drop_of_length-le input l) at g.split in
    subst (λ (ls : List (List ℕ)). Ended (run_lines ls x) store history before out (record { events = events; bytes = bytes })) e g.ended
