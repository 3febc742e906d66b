-- What is printed for a recording: the judge's word on a history's words (document 01, "Judge" and "Program"), and on a text of
-- lines, one event each.
use Rattle.std.specs.Prelude.{Option, Some, None, Result, Ok, Err, cond, List, [], ◌∷◌, ◌++◌, ℕ, ◌+◌, ◌*◌}
use Rattle.history.specs.Form.{most_events, Reading, refused, history, read}
use Rattle.history.specs.Calls.{calls}
use Rattle.criterion.specs.Pass.{explains}
use Rattle.criterion.specs.Order.{order_numbers}
use Rattle.text.specs.Decimal.{decimal}
use Rattle.lines.specs.declared.ParseError.TheVariants.{TooLong, BadLine}
use Rattle.lines.specs.Lines.{Parsed, most_numbers, reading}
use Rattle.protocol.specs.Words.{space, newline, refused_word, bad_line_word, too_long_line, explained_line, unexplained_line}
use Rattle.protocol.specs.Printed.{numbered, printed_verdict}

-- The judge's word on what some words are read as: `refused NUMBER`, or of a history whether it is explained.
abbrev pub printed_reading : Reading → List ℕ
printed_reading (refused n) = numbered refused_word n
printed_reading (history h) = printed_verdict (explains h)

-- The word for the judge's reply, a refusal's number, or explained by so many numbers or not.
abbrev pub word_of : Result (Option ℕ) ℕ → List ℕ
word_of (Err n) = numbered refused_word n
word_of (Ok (Some count)) = explained_line
word_of (Ok None) = unexplained_line

-- "order"
abbrev pub order_word : List ℕ
order_word = 111 ∷ 114 ∷ 100 ∷ 101 ∷ 114 ∷ []

-- numbers, each after a space
abbrev pub spaced : List ℕ → List ℕ
spaced [] = []
spaced (n ∷ ns) = (space ∷ decimal n) ++ spaced ns

-- the line of an order: `order` and its numbers
abbrev pub order_line : List ℕ → List ℕ
order_line ns = order_word ++ (spaced ns ++ (newline ∷ []))

-- The judge's order on what some words are read as: a line where the history is explained.
abbrev pub printed_order : Reading → List ℕ
printed_order (refused n) = []
printed_order (history h) = cond (explains h) (order_line (order_numbers (calls h))) []

-- the judge's word, and its order
abbrev pub printed_judged : Reading → List ℕ
printed_judged x = printed_reading x ++ printed_order x

-- a bound on the bytes of a line of so many numbers
abbrev pub most_order_line : ℕ → ℕ
most_order_line n = 6 + 11 * n

-- a bound on the bytes of a word, not the most that it has: "bad line ", a number of ten digits and a newline
abbrev pub most_word : ℕ
most_word = 20

-- a bound on the bytes of a report
abbrev pub most_report : ℕ
most_report = most_word + most_order_line most_events

-- What a text prints: `too long`, `bad line NUMBER` for its first bad line, or the judge's word on its numbers and its order.
abbrev pub printed_parsed : Parsed → (numbers : List ℕ) → List ℕ
printed_parsed (Err TooLong) ns = too_long_line
printed_parsed (Err (BadLine line)) ns = numbered bad_line_word line
printed_parsed (Ok count) ns = printed_judged (read most_events ns)

unfoldable pub reported : (text : List ℕ) → List ℕ
reported s = printed_parsed (reading s most_numbers).reply (reading s most_numbers).numbers
