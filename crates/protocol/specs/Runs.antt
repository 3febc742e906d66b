-- Lines and what they ask, and replies and what they print: two tables, and a statement on each that the checker computes.
use Rattle.std.specs.Prelude.{Option, Some, None, ◌≡◌, refl, List, [], ◌∷◌, ◌++◌, map, ℕ}
use Rattle.rules.specs.Rule.{Response, refused, accepted, going, ended, empty, item}
use Rattle.text.specs.Decimal.{digits_from, number_at, digits}
use Rattle.protocol.specs.declared.Line.{Line}
use Rattle.protocol.specs.declared.Line.TheVariants.{Open, Enqueue, Dequeue, Step}
use Rattle.protocol.specs.Words.{space, newline, open_word, enqueue_word, dequeue_word, step_word, going_line, end_word, empty_word, item_word, refused_word}
use Rattle.protocol.specs.Line.{starts_with, field_at, last_at, open_line, enqueue_line, step_line, dequeue_line, parse_line}
use Rattle.protocol.specs.Printed.{printed}

pub record Sample : Type 0 where
  pub bytes : List ℕ
  pub asks : Option Line

-- 4294967295 and 4294967296
abbrev pub largest : List ℕ
largest = 52 ∷ 50 ∷ 57 ∷ 52 ∷ 57 ∷ 54 ∷ 55 ∷ 50 ∷ 57 ∷ 53 ∷ []

abbrev pub too_large : List ℕ
too_large = 52 ∷ 50 ∷ 57 ∷ 52 ∷ 57 ∷ 54 ∷ 55 ∷ 50 ∷ 57 ∷ 54 ∷ []

abbrev pub samples : List Sample
samples =
    record { bytes = open_word ++ (50 ∷ space ∷ 51 ∷ space ∷ 49 ∷ 54 ∷ space ∷ 57 ∷ []); asks = Some (Open 2 3 16 9) }
    ∷ record { bytes = enqueue_word ++ (49 ∷ space ∷ largest); asks = Some (Enqueue 1 4294967295) }
    ∷ record { bytes = dequeue_word; asks = Some Dequeue }
    ∷ record { bytes = step_word ++ (48 ∷ []); asks = Some (Step 0) }
    -- a number past the largest; a leading zero, twice; no number
    ∷ record { bytes = enqueue_word ++ (49 ∷ space ∷ too_large); asks = None }
    ∷ record { bytes = step_word ++ (48 ∷ 49 ∷ []); asks = None }
    ∷ record { bytes = step_word ++ (48 ∷ 48 ∷ []); asks = None }
    ∷ record { bytes = step_word; asks = None }
    -- two spaces; a space at the end; one at the start; a number too many; one too few
    ∷ record { bytes = step_word ++ (space ∷ 49 ∷ []); asks = None }
    ∷ record { bytes = step_word ++ (49 ∷ space ∷ []); asks = None }
    ∷ record { bytes = space ∷ dequeue_word; asks = None }
    ∷ record { bytes = step_word ++ (49 ∷ space ∷ 50 ∷ []); asks = None }
    ∷ record { bytes = open_word ++ (50 ∷ space ∷ 51 ∷ space ∷ 49 ∷ []); asks = None }
    -- the empty line; a carriage return, a zero byte and a byte past 127 at the end; another word; a capital
    ∷ record { bytes = []; asks = None }
    ∷ record { bytes = dequeue_word ++ (13 ∷ []); asks = None }
    ∷ record { bytes = dequeue_word ++ (0 ∷ []); asks = None }
    ∷ record { bytes = step_word ++ (49 ∷ 195 ∷ []); asks = None }
    ∷ record { bytes = 111 ∷ 107 ∷ []; asks = None }
    ∷ record { bytes = 68 ∷ []; asks = None }
    ∷ []

-- Every line of the table asks what the table says.
pub lines_as_written : map (λ x. parse_line x.bytes) samples ≡ map (λ x. x.asks) samples
unfolding starts_with field_at last_at open_line enqueue_line step_line dequeue_line parse_line digits_from number_at digits
lines_as_written = refl

pub record Example : Type 0 where
  pub reply : Response
  pub line : List ℕ

-- "refused 8", "going", "end 4", "empty 2", "item 1 7 3"
abbrev pub examples : List Example
examples =
    record { reply = refused 8; line = refused_word ++ (56 ∷ newline ∷ []) }
    ∷ record { reply = accepted going 3; line = going_line }
    ∷ record { reply = accepted ended 4; line = end_word ++ (52 ∷ newline ∷ []) }
    ∷ record { reply = accepted empty 2; line = empty_word ++ (50 ∷ newline ∷ []) }
    ∷ record { reply = accepted (item 1 7) 3; line = item_word ++ (49 ∷ space ∷ 55 ∷ space ∷ 51 ∷ newline ∷ []) }
    ∷ []

-- Every reply of the table prints what the table says.
pub replies_as_printed : map (λ x. printed x.reply) examples ≡ map (λ x. x.line) examples
unfolding printed digits
replies_as_printed = refl
