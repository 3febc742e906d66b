-- What a text of lines means: each line is four numbers, as `text` reads them, with one space between, ended by a newline, which
-- the last may lack.
use Rattle.std.specs.Prelude.{Option, Some, None, Result, Ok, Err, ◌≡◌, Bool, ◌||◌, cond, List, [], ◌∷◌, ◌++◌, ℕ, zero, suc, ◌+◌, ◌/◌, ◌%◌, leb, eqb, length, get_or}
use Rattle.std.proofs.lemmas.List.Edits.{sets}
use Rattle.text.specs.declared.Number.{Number}
use Rattle.text.specs.Decimal.{number_at}
use Rattle.lines.specs.declared.ParseError.{ParseError}
use Rattle.lines.specs.declared.ParseError.TheVariants.{TooLong, BadLine}

-- the most numbers that a program reads of a recording: 8,192 events, twice what the judge takes
abbrev pub most_numbers : ℕ
most_numbers = 32768

-- The byte that parts a number from the next, after so many numbers: a newline after every fourth, else a space.
abbrev pub separator : (count : ℕ) → ℕ
separator count = cond (eqb (count % 4) 0) 10 32

-- It stands at a position, or the text ends there.
abbrev pub is_parted : List ℕ → (at count : ℕ) → Bool
is_parted s at count = leb (length s) at || eqb (get_or s at 0) (separator count)

-- The line of the number that follows so many numbers, counted from 1: each line before it has four.
abbrev pub line_after : (count : ℕ) → ℕ
line_after count = count / 4 + 1

-- what a text gives: so many numbers, or why it is refused
abbrev pub Parsed : Type 0
Parsed = Result ℕ ParseError

-- The answer where the text ends after so many numbers: they are whole lines, or the last line is bad.
abbrev pub ending : (count : ℕ) → Parsed
ending count = cond (eqb (count % 4) 0) (Ok count) (Err (BadLine (line_after count)))

-- An answer, and the numbers that were read before it.
pub record Reading : Type 0 where
  pub reply : Parsed
  pub numbers : List ℕ

abbrev pub stop : Parsed → List ℕ → Reading
stop r ns = record { reply = r; numbers = ns }

-- One number after the numbers ns, and what follows it; its line is bad where it is none, or where another byte parts it.
abbrev pub with_number : List ℕ → List ℕ → Option Number → (rest : ℕ → List ℕ → Reading) → Reading
with_number s ns None rest = stop (Err (BadLine (line_after (length ns)))) ns
with_number s ns (Some n) rest =
    let more = ns ++ (n.value ∷ []) in
    cond (is_parted s n.next (length more)) (rest (n.next + 1) more) (stop (Err (BadLine (line_after (length ns)))) more)

-- The numbers from a position on, after the numbers ns, with room for so many more.
unfoldable pub numbers_from : (room : ℕ) → List ℕ → (at : ℕ) → List ℕ → Reading
numbers_from zero s at ns = cond (leb (length s) at) (stop (ending (length ns)) ns) (stop (Err TooLong) ns)
numbers_from (suc room) s at ns =
    cond (leb (length s) at) (stop (ending (length ns)) ns) (with_number s ns (number_at s at) (numbers_from room s))

abbrev pub reading : List ℕ → (room : ℕ) → Reading
reading s room = numbers_from room s 0 []

-- The parser's answer, and the buffer that it leaves: the numbers at the beginning, the rest as it was.
pub record Parses (s before after : List ℕ) (r : Parsed) : Type 0 where
  pub reply_is : r ≡ (reading s (length before)).reply
  pub after_is : after ≡ sets before 0 (reading s (length before)).numbers
