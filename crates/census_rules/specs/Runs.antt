-- The calls on a board, computed by the checker: one run from an open, and single calls on boards that no call has written. By hand from document
-- 02, U13.
use Rattle.std.specs.Prelude.{◌≡◌, refl, List, [], ◌∷◌, map, ℕ, ◌+◌, ◌*◌, set, drop}
use Rattle.census_rules.specs.Board.{in_range, count_on}
use Rattle.census_rules.specs.Table.{are_rows, times_in, is_table, word_in}
use Rattle.census_rules.specs.Census.{open_board, moved, taking, ruled, reading_table, counting}
use Rattle.census_rules.specs.Statement.{Call, take, read_table, count, number_of, leaves}

-- A bed in a state.
abbrev pub in_state : (bed state : ℕ) → Call
in_state bed state = take (bed * 8 + state)

-- A table: the site manager, office 0, counts occupied beds, the porters, office 1, those awaiting cleaning too, office 2 all but closed ones,
-- office 3 none. Its last row stands first.
abbrev pub hospital : List ℕ
hospital =
    3 ∷ 4 ∷ 0
    ∷ 0 ∷ 0 ∷ 0 ∷ 0 ∷ 1 ∷ 1 ∷ 0 ∷ 2 ∷ 0 ∷ 0 ∷ 3 ∷ 0 ∷ 0 ∷ 4 ∷ 0
    ∷ 1 ∷ 0 ∷ 0 ∷ 1 ∷ 1 ∷ 1 ∷ 1 ∷ 2 ∷ 1 ∷ 1 ∷ 3 ∷ 0 ∷ 1 ∷ 4 ∷ 0
    ∷ 2 ∷ 0 ∷ 1 ∷ 2 ∷ 1 ∷ 1 ∷ 2 ∷ 2 ∷ 1 ∷ 2 ∷ 3 ∷ 1 ∷ 2 ∷ 4 ∷ 0
    ∷ 3 ∷ 0 ∷ 0 ∷ 3 ∷ 1 ∷ 0 ∷ 3 ∷ 2 ∷ 0 ∷ 3 ∷ 3 ∷ 0
    ∷ []

-- What is seen of a call: its number, the four counts after it, and of a census the words of the reply.
abbrev pub reply_of : Call → List ℕ → List ℕ
reply_of (take v) b = []
reply_of (read_table ws) b = []
reply_of (count o r) b = (counting o b r).words

abbrev pub seen : Call → List ℕ → List ℕ
seen c b =
    let after = leaves c b in
    number_of c b ∷ count_on after 0 ∷ count_on after 1 ∷ count_on after 2 ∷ count_on after 3 ∷ reply_of c b

abbrev pub seen_all : List Call → List ℕ → List (List ℕ)
seen_all [] b = []
seen_all (c ∷ cs) b = seen c b ∷ seen_all cs (leaves c b)

abbrev pub run : List Call
run =
    -- before the first table nothing is counted; then bed 3 is, by all but office 3
    in_state 3 1
    ∷ read_table hospital
    -- bed 3 awaits cleaning: the porters count it, the site manager does not; the same once more; bed 511 is occupied
    ∷ in_state 3 2
    ∷ in_state 3 2
    ∷ in_state 511 1
    -- bed 3 is being cleaned; closed; free
    ∷ in_state 3 3
    ∷ in_state 3 4
    ∷ in_state 3 0
    -- 19: bed 512, state 5
    ∷ in_state 512 1
    ∷ in_state 3 5
    -- 20: 57 and 63 words; a row repeated, another missing; office 4; state 5; a third word of 2
    ∷ read_table (drop 3 hospital)
    ∷ read_table (3 ∷ 4 ∷ 0 ∷ hospital)
    ∷ read_table (0 ∷ 0 ∷ 0 ∷ drop 3 hospital)
    ∷ read_table (4 ∷ 4 ∷ 0 ∷ drop 3 hospital)
    ∷ read_table (3 ∷ 5 ∷ 0 ∷ drop 3 hospital)
    ∷ read_table (3 ∷ 4 ∷ 2 ∷ drop 3 hospital)
    -- office 3 counts closed beds from now on, of which there is one
    ∷ in_state 7 4
    ∷ read_table (3 ∷ 4 ∷ 1 ∷ drop 3 hospital)
    -- 21: office 4
    ∷ count 2 (9 ∷ 8 ∷ 7 ∷ 6 ∷ [])
    ∷ count 4 (9 ∷ 8 ∷ 7 ∷ 6 ∷ [])
    ∷ []

pub run_as_written : seen_all run open_board
    ≡ (0 ∷ 0 ∷ 0 ∷ 0 ∷ 0 ∷ [])
    ∷ (0 ∷ 1 ∷ 1 ∷ 512 ∷ 0 ∷ [])
    ∷ (0 ∷ 0 ∷ 1 ∷ 512 ∷ 0 ∷ [])
    ∷ (0 ∷ 0 ∷ 1 ∷ 512 ∷ 0 ∷ [])
    ∷ (0 ∷ 1 ∷ 2 ∷ 512 ∷ 0 ∷ [])
    ∷ (0 ∷ 1 ∷ 1 ∷ 512 ∷ 0 ∷ [])
    ∷ (0 ∷ 1 ∷ 1 ∷ 511 ∷ 0 ∷ [])
    ∷ (0 ∷ 1 ∷ 1 ∷ 512 ∷ 0 ∷ [])
    ∷ (19 ∷ 1 ∷ 1 ∷ 512 ∷ 0 ∷ [])
    ∷ (19 ∷ 1 ∷ 1 ∷ 512 ∷ 0 ∷ [])
    ∷ (20 ∷ 1 ∷ 1 ∷ 512 ∷ 0 ∷ [])
    ∷ (20 ∷ 1 ∷ 1 ∷ 512 ∷ 0 ∷ [])
    ∷ (20 ∷ 1 ∷ 1 ∷ 512 ∷ 0 ∷ [])
    ∷ (20 ∷ 1 ∷ 1 ∷ 512 ∷ 0 ∷ [])
    ∷ (20 ∷ 1 ∷ 1 ∷ 512 ∷ 0 ∷ [])
    ∷ (20 ∷ 1 ∷ 1 ∷ 512 ∷ 0 ∷ [])
    ∷ (0 ∷ 1 ∷ 1 ∷ 511 ∷ 0 ∷ [])
    ∷ (0 ∷ 1 ∷ 1 ∷ 511 ∷ 1 ∷ [])
    ∷ (0 ∷ 1 ∷ 1 ∷ 511 ∷ 1 ∷ 511 ∷ 8 ∷ 7 ∷ 6 ∷ [])
    ∷ (21 ∷ 1 ∷ 1 ∷ 511 ∷ 1 ∷ 9 ∷ 8 ∷ 7 ∷ 6 ∷ [])
    ∷ []
unfolding in_range are_rows times_in is_table word_in moved taking ruled reading_table counting
run_as_written = refl

-- A call on an opened board with the table of above, of which some words were then set: what is seen of it.
pub record Single : Type 0 where
  pub cells : List (ℕ × ℕ)
  pub call : Call

abbrev pub set_all : List (ℕ × ℕ) → List ℕ → List ℕ
set_all [] b = b
set_all (x ∷ xs) b = set_all xs (set b x.0 x.1)

abbrev pub seen_on : Single → List ℕ
seen_on s = seen s.call (set_all s.cells (leaves (read_table hospital) open_board))

abbrev pub singles : List Single
singles =
    -- 22 before 19: a state of 5, a table word of 2, a count of 513
    record { cells = (511, 5) ∷ []; call = in_state 512 1 }
    ∷ record { cells = (531, 2) ∷ []; call = in_state 3 5 }
    ∷ record { cells = (535, 513) ∷ []; call = in_state 3 5 }
    -- before 20 and 21
    ∷ record { cells = (0, 5) ∷ []; call = read_table [] }
    ∷ record { cells = (512, 2) ∷ []; call = count 4 [] }
    -- 19 before 22: bed 3 counted as occupied, and a census of 0
    ∷ record { cells = (3, 1) ∷ []; call = in_state 3 5 }
    ∷ record { cells = (3, 1) ∷ []; call = in_state 3 0 }
    -- a census of 512 that would be one more; of which the new state and the old one are counted alike
    ∷ record { cells = (532, 512) ∷ []; call = in_state 3 1 }
    ∷ record { cells = (532, 512) ∷ []; call = in_state 3 0 }
    ∷ record { cells = (3, 1) ∷ (532, 512) ∷ (533, 1) ∷ []; call = in_state 3 1 }
    -- the census is the stored one
    ∷ record { cells = (534, 7) ∷ []; call = count 2 [] }
    ∷ []

pub singles_as_written : map seen_on singles
    ≡ (22 ∷ 0 ∷ 0 ∷ 512 ∷ 0 ∷ [])
    ∷ (22 ∷ 0 ∷ 0 ∷ 512 ∷ 0 ∷ [])
    ∷ (22 ∷ 0 ∷ 0 ∷ 512 ∷ 513 ∷ [])
    ∷ (22 ∷ 0 ∷ 0 ∷ 512 ∷ 0 ∷ [])
    ∷ (22 ∷ 0 ∷ 0 ∷ 512 ∷ 0 ∷ [])
    ∷ (19 ∷ 0 ∷ 0 ∷ 512 ∷ 0 ∷ [])
    ∷ (22 ∷ 0 ∷ 0 ∷ 512 ∷ 0 ∷ [])
    ∷ (22 ∷ 512 ∷ 0 ∷ 512 ∷ 0 ∷ [])
    ∷ (0 ∷ 512 ∷ 0 ∷ 512 ∷ 0 ∷ [])
    ∷ (0 ∷ 512 ∷ 1 ∷ 512 ∷ 0 ∷ [])
    ∷ (0 ∷ 0 ∷ 0 ∷ 7 ∷ 0 ∷ [])
    ∷ []
unfolding in_range are_rows times_in is_table word_in moved taking ruled reading_table counting
singles_as_written = refl
