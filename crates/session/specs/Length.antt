-- The program prints at most 155,679 bytes: a line that asks for a call has two bytes at least, its newline with it, and prints at
-- most 38.
use Rattle.std.specs.Prelude.{Option, Some, None, ◌≡◌, refl, Bool, true, false, cond, List, [], ◌∷◌, ℕ, suc, ◌+◌, ◌*◌, ◌≤◌, eqb, ltb, length}
use Rattle.std.proofs.Common.{arith, length-append, ltb-false}
use Rattle.criterion.specs.Pass.{explains}
use Rattle.protocol.specs.Words.{newline, bad_line, too_long_line}
use Rattle.protocol.specs.Line.{push, lines_of, parse_line}
use Rattle.protocol.specs.Printed.{printed_verdict}
use Rattle.protocol.specs.Laws.{length_printed}
use Rattle.recording.specs.Laws.{length_verdict}
use Rattle.session.specs.Session.{most_input, Session, start, Turn, call_of, run_line, run_lines, printed_run, output}
use Rattle.session.specs.Turns.{most_output}
use Rattle.session.specs.LoopLaws.{some_line}

-- the bytes of some lines, a newline after each
abbrev bytes_of : List (List ℕ) → ℕ
bytes_of [] = 0
bytes_of (l ∷ ls) = length l + 1 + bytes_of ls

length_lines : (s : List ℕ) → bytes_of (lines_of s) ≤ length s + 1
unfolding lines_of
length_lines [] = omega arith
length_lines (b ∷ bs) = go (eqb b newline) (lines_of bs) (length_lines bs)
  where
    go : (t : Bool) (ls : List (List ℕ)) → bytes_of ls ≤ length bs + 1 → bytes_of (cond t ([] ∷ ls) (push b ls)) ≤ suc (length bs) + 1
    go true ls h = omega arith
    go false [] h = omega arith
    go false (l ∷ ls) h = omega arith

length_replies : (ls : List (List ℕ)) (x : Session) → 2 * length (run_lines ls x).replies ≤ 38 * bytes_of ls
unfolding run_lines
length_replies [] x = omega arith
length_replies (l ∷ ls) x = go (call_of (parse_line l)) refl (λ y. length_replies ls y)
  where
    go : (c : Option (Session → Turn)) → call_of (parse_line l) ≡ c → ((y : Session) → 2 * length (run_lines ls y).replies ≤ 38 * bytes_of ls)
        → 2 * length (run_line c x (run_lines ls)).replies ≤ 38 * (length l + 1 + bytes_of ls)
    go None e rest = omega arith
    go (Some call) e rest =
        let y = call x in
        rw length-append (omega (arith, length_printed y.reply, rest y.session, some_line l call e))

length_last : (stopped explained : Bool) → length (cond stopped bad_line (printed_verdict explained)) ≤ 12
length_last true explained = omega arith
length_last false explained = length_verdict explained

pub length_output : (input : List ℕ) → length (output input) ≤ most_output
unfolding output
length_output input = go (ltb most_input (length input)) refl
  where
    go : (b : Bool) → ltb most_input (length input) ≡ b → length (cond b too_long_line (printed_run (run_lines (lines_of input) start))) ≤ most_output
    go true e = omega arith
    go false e =
        let r = run_lines (lines_of input) start in
        rw length-append (omega (arith, length_replies (lines_of input) start, length_last r.stopped (explains r.session.history), length_lines input, ltb-false most_input (length input) e))
