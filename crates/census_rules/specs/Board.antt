-- A bed board (document 02, U13): 512 bed states, the table's twenty words, the four offices' counts, in this order.
use Rattle.std.specs.Prelude.{Bool, true, ◌&&◌, List, [], ◌∷◌, ℕ, ◌+◌, leb, get_or, set}
use Rattle.std.proofs.Math.Seq.{slice}

-- Beds 0 to 511.
abbrev pub beds : ℕ
beds = 512

-- States: 0 free, 1 occupied, 2 awaiting cleaning, 3 being cleaned, 4 closed.
abbrev pub last_state : ℕ
last_state = 4

-- the word after the table's last one: the first count
abbrev pub first_count : ℕ
first_count = 532

abbrev pub board_words : ℕ
board_words = 536

-- every word is at most so much
abbrev pub at_most : ℕ → List ℕ → Bool
at_most most [] = true
at_most most (w ∷ ws) = leb w most && at_most most ws

-- the states of the beds
abbrev pub states_on : List ℕ → List ℕ
states_on b = slice 0 beds b

-- Refusal 22 is that this is false: a state above 4, a table word above 1 or a count above 512.
unfoldable pub in_range : List ℕ → Bool
in_range b = at_most last_state (states_on b) && at_most 1 (slice beds first_count b) && at_most beds (slice first_count board_words b)

-- A row: an office's word for each state, 1 for counted or 0 for not. The rule table has a row for each of the four offices, in their order.
abbrev pub Row : Type 0
Row = List ℕ

abbrev pub Rules : Type 0
Rules = List Row

abbrev pub row_of : Rules → (office : ℕ) → Row
row_of rules office = get_or rules office []

-- the five words from one on
abbrev pub row_at : List ℕ → ℕ → Row
row_at b at = get_or b at 0 ∷ get_or b (at + 1) 0 ∷ get_or b (at + 2) 0 ∷ get_or b (at + 3) 0 ∷ get_or b (at + 4) 0 ∷ []

-- The rule table on a board.
abbrev pub rules_on : List ℕ → Rules
rules_on b = row_at b 512 ∷ row_at b 517 ∷ row_at b 522 ∷ row_at b 527 ∷ []

-- a board with a row's words from one on
abbrev pub with_row : List ℕ → ℕ → Row → List ℕ
with_row b at r =
    set (set (set (set (set b at (get_or r 0 0)) (at + 1) (get_or r 1 0)) (at + 2) (get_or r 2 0)) (at + 3) (get_or r 3 0)) (at + 4) (get_or r 4 0)

abbrev pub with_rules : List ℕ → Rules → List ℕ
with_rules b rules = with_row (with_row (with_row (with_row b 512 (row_of rules 0)) 517 (row_of rules 1)) 522 (row_of rules 2)) 527 (row_of rules 3)

-- An office's count, and a board with the offices' counts.
abbrev pub count_on : List ℕ → (office : ℕ) → ℕ
count_on b office = get_or b (first_count + office) 0

abbrev pub with_counts : List ℕ → List ℕ → List ℕ
with_counts b counts =
    set (set (set (set b first_count (get_or counts 0 0)) (first_count + 1) (get_or counts 1 0)) (first_count + 2) (get_or counts 2 0)) (first_count + 3) (get_or counts 3 0)

-- How many beds in these states an office counts by its row: a bed adds 1 if its state is counted.
abbrev pub counted : Row → List ℕ → ℕ
counted r [] = 0
counted r (s ∷ ss) = get_or r s 0 + counted r ss
