-- The calls on a bed board (document 02, U13): the number that is returned, 0 or a refusal's, and every lent word. A refused call changes no
-- word.
use Rattle.std.specs.Prelude.{Bool, ◌&&◌, not, cond, List, [], ◌∷◌, ℕ, ◌+◌, ◌-◌, ◌/◌, ◌%◌, leb, ltb, get_or, set, replicate}
use Rattle.census_rules.specs.Board.{beds, last_state, board_words, states_on, in_range, Row, Rules, row_of, rules_on, with_rules, count_on, with_counts, counted}
use Rattle.census_rules.specs.Table.{last_office, is_table, rules_in}

-- What a call leaves: its number, and the words that it was lent to write, the board's or the reply's.
pub record Outcome : Type 0 where
  pub number : ℕ
  pub words : List ℕ

abbrev pub refusing : ℕ → List ℕ → Outcome
refusing n ws = record { number = n; words = ws }

abbrev pub accepting : List ℕ → Outcome
accepting ws = record { number = 0; words = ws }

-- Open a board: all beds begin free; before the first table no state is counted.
abbrev pub open_board : List ℕ
open_board = replicate board_words 0

-- A value is bed × 8 + state.
abbrev pub bed_in : ℕ → ℕ
bed_in v = v / 8

abbrev pub state_in : ℕ → ℕ
state_in v = v % 8

-- Refusal 19 is that this is false: another bed or state.
abbrev pub is_item : ℕ → Bool
is_item v = ltb (bed_in v) beds && leb (state_in v) last_state

-- A bed goes from one state to another. An office counts it anew if it counts the new one, and no more if it counted the old one.
abbrev pub changed : Row → (count old new : ℕ) → ℕ
changed r count old new = count + get_or r new 0 - get_or r old 0

-- That leaves the count within 0 to 512.
abbrev pub stays : Row → (count old new : ℕ) → Bool
stays r count old new = leb (get_or r old 0) (count + get_or r new 0) && leb (count + get_or r new 0 - get_or r old 0) beds

abbrev pub all_stay : List ℕ → Rules → (old new : ℕ) → Bool
all_stay b rules old new =
    stays (row_of rules 0) (count_on b 0) old new
    && stays (row_of rules 1) (count_on b 1) old new
    && stays (row_of rules 2) (count_on b 2) old new
    && stays (row_of rules 3) (count_on b 3) old new

abbrev pub all_changed : List ℕ → Rules → (old new : ℕ) → List ℕ
all_changed b rules old new =
    changed (row_of rules 0) (count_on b 0) old new
    ∷ changed (row_of rules 1) (count_on b 1) old new
    ∷ changed (row_of rules 2) (count_on b 2) old new
    ∷ changed (row_of rules 3) (count_on b 3) old new
    ∷ []

-- the board with a bed in another state, and the counts kept up
unfoldable pub moved : List ℕ → (bed new : ℕ) → List ℕ
moved b bed new = with_counts (set b bed new) (all_changed b (rules_on b) (get_or b bed 0) new)

-- Take an item. 22: the board; 19: another bed or state; 22: an item that would take a count out of 0 to 512.
unfoldable pub taking : (value : ℕ) → List ℕ → Outcome
taking v b =
    cond (not (in_range b)) (refusing 22 b)
    (cond (not (is_item v)) (refusing 19 b)
    (cond (not (all_stay b (rules_on b) (get_or b (bed_in v) 0) (state_in v))) (refusing 22 b) (accepting (moved b (bed_in v) (state_in v)))))

-- the counts made afresh by a rule table
abbrev pub afresh : Rules → (states : List ℕ) → List ℕ
afresh rules states =
    counted (row_of rules 0) states ∷ counted (row_of rules 1) states ∷ counted (row_of rules 2) states ∷ counted (row_of rules 3) states ∷ []

-- the board with another table, and the counts made afresh
unfoldable pub ruled : List ℕ → Rules → List ℕ
ruled b rules = with_counts (with_rules b rules) (afresh rules (states_on b))

-- Read a table. 22: the board; 20: no table.
unfoldable pub reading_table : (rows : List ℕ) → List ℕ → Outcome
reading_table ws b =
    cond (not (in_range b)) (refusing 22 b) (cond (not (is_table ws)) (refusing 20 b) (accepting (ruled b (rules_in ws))))

-- The census of an office goes to word 0 of the reply. 22: the board; 21: an office above 3. No word of the board changes.
unfoldable pub counting : (office : ℕ) → (board reply : List ℕ) → Outcome
counting office b reply =
    cond (not (in_range b)) (refusing 22 reply) (cond (ltb last_office office) (refusing 21 reply) (accepting (set reply 0 (count_on b office))))
