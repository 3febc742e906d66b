-- A table as a hospital writes it (document 02, U13): twenty rows, one for each of four offices and five states, three words each: office 0
-- to 3, state 0 to 4, and 1 for counted or 0 for not. The rows may come in any order.
use Rattle.std.specs.Prelude.{Bool, true, ◌&&◌, cond, List, [], ◌∷◌, ℕ, zero, suc, ◌+◌, ◌*◌, leb, eqb, length, get_or}
use Rattle.census_rules.specs.Board.{last_state, Row, Rules}

abbrev pub table_rows : ℕ
table_rows = 20

abbrev pub last_office : ℕ
last_office = 3

-- the words of row k
abbrev pub office_at : List ℕ → ℕ → ℕ
office_at ws k = get_or ws (3 * k) 0

abbrev pub state_at : List ℕ → ℕ → ℕ
state_at ws k = get_or ws (3 * k + 1) 0

abbrev pub word_at : List ℕ → ℕ → ℕ
word_at ws k = get_or ws (3 * k + 2) 0

-- Row k is of an office and a state that there are, and its third word is 0 or 1.
abbrev pub is_row : List ℕ → ℕ → Bool
is_row ws k = leb (office_at ws k) last_office && leb (state_at ws k) last_state && leb (word_at ws k) 1

unfoldable pub are_rows : (n : ℕ) → List ℕ → Bool
are_rows zero ws = true
are_rows (suc n) ws = are_rows n ws && is_row ws n

-- Row k is the one for this office and this state.
abbrev pub is_for : List ℕ → (k office state : ℕ) → Bool
is_for ws k office state = eqb (office_at ws k) office && eqb (state_at ws k) state

-- how many of the first n rows are
unfoldable pub times_in : (n : ℕ) → List ℕ → (office state : ℕ) → ℕ
times_in zero ws office state = 0
times_in (suc n) ws office state = times_in n ws office state + cond (is_for ws n office state) 1 0

-- One row is, and no second: none is missing, none repeated.
abbrev pub once : List ℕ → (office state : ℕ) → Bool
once ws office state = eqb (times_in table_rows ws office state) 1

abbrev pub each_once : List ℕ → (office : ℕ) → Bool
each_once ws office = once ws office 0 && once ws office 1 && once ws office 2 && once ws office 3 && once ws office 4

-- Refusal 20 is that this is false: a table of any length but 60 words, or with a missing, repeated or unknown row or a third word above 1.
unfoldable pub is_table : List ℕ → Bool
is_table ws = eqb (length ws) 60 && are_rows table_rows ws && each_once ws 0 && each_once ws 1 && each_once ws 2 && each_once ws 3

-- The third word of the row for an office and a state among the first n rows, 0 where there is none.
unfoldable pub word_in : (n : ℕ) → List ℕ → (office state : ℕ) → ℕ
word_in zero ws office state = 0
word_in (suc n) ws office state = cond (is_for ws n office state) (word_at ws n) (word_in n ws office state)

-- The rule table of a table: a row for each office, by states.
abbrev pub rule_for : List ℕ → (office state : ℕ) → ℕ
rule_for ws office state = word_in table_rows ws office state

abbrev pub row_for : List ℕ → (office : ℕ) → Row
row_for ws office = rule_for ws office 0 ∷ rule_for ws office 1 ∷ rule_for ws office 2 ∷ rule_for ws office 3 ∷ rule_for ws office 4 ∷ []

abbrev pub rules_in : List ℕ → Rules
rules_in ws = row_for ws 0 ∷ row_for ws 1 ∷ row_for ws 2 ∷ row_for ws 3 ∷ []
