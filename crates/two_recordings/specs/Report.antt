-- What is printed for two recordings in one text, one event a line, with an empty line between them (document 02, U10).
use Rattle.std.specs.Prelude.{Bool, ◌&&◌, cond, List, [], ◌∷◌, ◌++◌, ℕ, suc, ◌+◌, ◌*◌, leb, eqb, length, take, drop, Ok, Err}
use Rattle.history.specs.Form.{most_events, read}
use Rattle.comparison.specs.Compared.{Reply, Refused, SameCalls, OtherCalls, compared, handed_back, keeps_to}
use Rattle.comparison.specs.Reply.{recording_number}
use Rattle.lines.specs.declared.ParseError.TheVariants.{TooLong, BadLine}
use Rattle.lines.specs.Lines.{most_numbers, separator, line_after, Parsed, Reading, reading}
use Rattle.protocol.specs.Words.{space, newline, refused_word, bad_line_word, too_long_line}
use Rattle.protocol.specs.Printed.{number_and, numbered, number_pair}

-- How many bytes stand before the first newline that follows a newline, all of them where there is none; `last` is the byte before them.
unfoldable pub before_empty : (last : ℕ) → List ℕ → ℕ
before_empty last [] = 0
before_empty last (b ∷ bs) = cond (eqb last newline && eqb b newline) 0 (suc (before_empty b bs))

-- The position of the first empty line, a newline at the beginning of the text or right after another; the text's end where it has none.
abbrev pub empty_line : (text : List ℕ) → ℕ
empty_line s = before_empty newline s

-- Events as lines, after so many numbers: each number, and the byte that parts it from the next.
abbrev pub event_lines : (count : ℕ) → List ℕ → List ℕ
event_lines count [] = []
event_lines count (n ∷ ns) = number_and n (separator (count + 1)) ++ event_lines (count + 1) ns

-- "same calls", "other calls"
abbrev pub same_calls_line : List ℕ
same_calls_line = 115 ∷ 97 ∷ 109 ∷ 101 ∷ space ∷ 99 ∷ 97 ∷ 108 ∷ 108 ∷ 115 ∷ newline ∷ []

abbrev pub other_calls_line : List ℕ
other_calls_line = 111 ∷ 116 ∷ 104 ∷ 101 ∷ 114 ∷ space ∷ 99 ∷ 97 ∷ 108 ∷ 108 ∷ 115 ∷ newline ∷ []

-- "precedence ", "precedence kept", "precedence not kept"
abbrev pub precedence_word : List ℕ
precedence_word = 112 ∷ 114 ∷ 101 ∷ 99 ∷ 101 ∷ 100 ∷ 101 ∷ 110 ∷ 99 ∷ 101 ∷ space ∷ []

abbrev pub kept_line : List ℕ
kept_line = precedence_word ++ (107 ∷ 101 ∷ 112 ∷ 116 ∷ newline ∷ [])

abbrev pub not_kept_line : List ℕ
not_kept_line = precedence_word ++ (110 ∷ 111 ∷ 116 ∷ space ∷ 107 ∷ 101 ∷ 112 ∷ 116 ∷ newline ∷ [])

-- The line of a reply: `refused WHICH NUMBER`, `same calls` or `other calls`.
abbrev pub printed_reply : Reply → List ℕ
printed_reply (Refused which n) = refused_word ++ number_pair (recording_number which) n
printed_reply SameCalls = same_calls_line
printed_reply OtherCalls = other_calls_line

-- The line after `same calls`: whether the second recording keeps the precedence of the first.
abbrev pub printed_precedence : Reply → (kept : Bool) → List ℕ
printed_precedence (Refused which n) kept = []
printed_precedence SameCalls kept = cond kept kept_line not_kept_line
printed_precedence OtherCalls kept = []

-- The comparison of two recordings: the reply, the precedence, and the part that is handed back.
unfoldable pub printed_comparison : (first second : List ℕ) → List ℕ
printed_comparison xs ys =
    printed_reply (compared xs ys).reply
    ++ (printed_precedence (compared xs ys).reply (keeps_to (read most_events xs) (read most_events ys)) ++ event_lines 0 (handed_back xs ys))

-- What the lines after the empty line print: `too long`, `bad line NUMBER`, counted on after the empty line, which follows the lines of
-- the first recording; or the comparison.
abbrev pub printed_later : (first : List ℕ) → Parsed → (second : List ℕ) → List ℕ
printed_later xs (Err TooLong) ys = too_long_line
printed_later xs (Err (BadLine line)) ys = numbered bad_line_word (line_after (length xs) + line)
printed_later xs (Ok count) ys = printed_comparison xs ys

unfoldable pub printed_second : (first : List ℕ) → (second : Reading) → List ℕ
printed_second xs x = printed_later xs x.reply x.numbers

-- What a text prints whose first recording is good and ends at a position. Where no empty line is, the line after the last one is bad.
unfoldable pub printed_after : (first text : List ℕ) (end : ℕ) → List ℕ
printed_after xs s end =
    cond (leb (length s) end) (numbered bad_line_word (line_after (length xs))) (printed_second xs (reading (drop (end + 1) s) most_numbers))

-- What a text prints by the lines before the empty line: `too long` or `bad line NUMBER`, or what follows them.
abbrev pub printed_first : Parsed → (first text : List ℕ) → List ℕ
printed_first (Err TooLong) xs s = too_long_line
printed_first (Err (BadLine line)) xs s = numbered bad_line_word line
printed_first (Ok count) xs s = printed_after xs s (empty_line s)

unfoldable pub reported : (text : List ℕ) → List ℕ
reported s =
    let first = reading (take (empty_line s) s) most_numbers in
    printed_first first.reply first.numbers s

-- a bound on the bytes of a reply's line: "refused ", two numbers of ten digits, a space and a newline; or "bad line " and a number
abbrev pub most_reply_line : ℕ
most_reply_line = 30

-- the most bytes of the precedence's line
abbrev pub most_precedence_line : ℕ
most_precedence_line = 20

-- a bound on the bytes of the lines of so many numbers
abbrev pub most_event_lines : ℕ → ℕ
most_event_lines n = 11 * n

-- a bound on the bytes of a report
abbrev pub most_report : ℕ
most_report = most_reply_line + (most_precedence_line + most_event_lines most_numbers)
