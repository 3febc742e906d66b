-- The lines of the program's input, and what each asks (document 01, "Program").
use Rattle.std.specs.Prelude.{Option, Some, None, Bool, true, false, ◌&&◌, cond, List, [], ◌∷◌, ℕ, suc, ◌+◌, eqb, length, get_or}
use Rattle.text.specs.declared.Number.{Number}
use Rattle.text.specs.Decimal.{read, number_at}
use Rattle.protocol.specs.declared.Line.{Line}
use Rattle.protocol.specs.declared.Line.TheVariants.{Open, Enqueue, Dequeue, Step}
use Rattle.protocol.specs.Words.{space, newline, open_word, enqueue_word, dequeue_word, step_word}

-- How many bytes stand before the first newline, all of them where there is none.
unfoldable pub line_length : List ℕ → ℕ
line_length [] = 0
line_length (b ∷ bs) = cond (eqb b newline) 0 (suc (line_length bs))

-- One byte in front of the first of some lines.
abbrev pub push : ℕ → List (List ℕ) → List (List ℕ)
push b [] = (b ∷ []) ∷ []
push b (l ∷ ls) = (b ∷ l) ∷ ls

-- The lines, each ended by a newline; the last may lack it.
unfoldable pub lines_of : List ℕ → List (List ℕ)
lines_of [] = []
lines_of (b ∷ bs) = cond (eqb b newline) ([] ∷ lines_of bs) (push b (lines_of bs))

-- The bytes begin with a word.
unfoldable pub starts_with : (word bytes : List ℕ) → Bool
starts_with [] bs = true
starts_with (w ∷ ws) [] = false
starts_with (w ∷ ws) (b ∷ bs) = eqb b w && starts_with ws bs

-- A number that one space follows: its value, and the position after the space.
abbrev pub spaced : List ℕ → Option Number → Option Number
spaced s None = None
spaced s (Some n) = cond (eqb (get_or s n.next 0) space) (read n.value (n.next + 1)) None

-- A number that the line ends with.
abbrev pub final : List ℕ → Option Number → Option Number
final s None = None
final s (Some n) = cond (eqb n.next (length s)) (Some n) None

unfoldable pub field_at : List ℕ → (at : ℕ) → Option Number
field_at s at = spaced s (number_at s at)

unfoldable pub last_at : List ℕ → (at : ℕ) → Option Number
last_at s at = final s (number_at s at)

-- what follows a number, with its value and the position after it; none where there is none
abbrev pub after : Option Number → (ℕ → ℕ → Option Line) → Option Line
after None f = None
after (Some n) f = f n.value n.next

-- `open B N P M`
unfoldable pub open_line : List ℕ → Option Line
open_line s =
    after (field_at s 5) λ b toN. after (field_at s toN) λ n toP. after (field_at s toP) λ p toM. after (last_at s toM) λ m end. Some (Open b n p m)

-- `e THREAD VALUE`
unfoldable pub enqueue_line : List ℕ → Option Line
enqueue_line s = after (field_at s 2) λ t to_v. after (last_at s to_v) λ v end. Some (Enqueue t v)

-- `s THREAD`
unfoldable pub step_line : List ℕ → Option Line
step_line s = after (last_at s 2) λ t end. Some (Step t)

-- `d`
unfoldable pub dequeue_line : List ℕ → Option Line
dequeue_line s = cond (eqb (length s) 1) (Some Dequeue) None

-- What a line asks, without its newline: one of the four, exactly one space between; any other asks nothing and is bad.
unfoldable pub parse_line : List ℕ → Option Line
parse_line s =
    cond (starts_with open_word s) (open_line s)
    (cond (starts_with enqueue_word s) (enqueue_line s)
    (cond (starts_with step_word s) (step_line s)
    (cond (starts_with dequeue_word s) (dequeue_line s) None)))
