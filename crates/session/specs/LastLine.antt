-- The program never prints `unexplained`: whatever it reads, it prints `too long` alone, or the replies and then `bad line` or
-- `explained`. Demand 3, carried to the program.
use Rattle.std.specs.Prelude.{◌≡◌, refl, Bool, true, false, List, ◌++◌, ℕ, ltb, length}
use Rattle.criterion.specs.Pass.{explains}
use Rattle.criterion.specs.Criterion.{verdict}
use Rattle.protocol.specs.Words.{bad_line, too_long_line, explained_line}
use Rattle.protocol.specs.Line.{lines_of}
use Rattle.session.specs.Session.{most_input, start, Run, run_lines, output}
use Rattle.session.specs.Reaching.{lines_formed, lines_linearizable}

-- what the lines of an input leave
abbrev pub run : (input : List ℕ) → Run
run input = run_lines (lines_of input) start

pub data LastLine (input : List ℕ) : Type 0 where
  too_long : output input ≡ too_long_line → LastLine input
  bad_line_lem : output input ≡ (run input).replies ++ bad_line → LastLine input
  explained : output input ≡ (run input).replies ++ explained_line → LastLine input

lines_explained : (ls : List (List ℕ)) → explains (run_lines ls start).session.history ≡ true
lines_explained ls = (verdict (run_lines ls start).session.history (lines_formed ls).0).1 (lines_linearizable ls)

pub last_line : (input : List ℕ) → LastLine input
unfolding output
last_line input = go (ltb most_input (length input)) (run input).stopped refl refl
  where
    go : (long stopped : Bool) → ltb most_input (length input) ≡ long → (run input).stopped ≡ stopped → LastLine input
    go true stopped e f = too_long (rw e)
    go false true e f = bad_line_lem (rw (e, f))
    go false false e f = explained (rw (e, f, lines_explained (lines_of input)))
