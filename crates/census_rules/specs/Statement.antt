-- A board that only its own calls have written (document 02, U13): every list of calls after an open. Definitions and the statement alone; the
-- proof is `kept` of proofs/Theorem.antt.
use Rattle.std.specs.Prelude.{◌≡◌, ◌≢◌, Bool, ◌&&◌, cond, List, [], ◌∷◌, ℕ, zero, suc, ◌+◌, ◌≤◌, ◌<◌, eqb, get_or, set}
use Rattle.census_rules.specs.Board.{beds, Rules, row_of, rules_on}
use Rattle.census_rules.specs.Table.{last_office, is_table, rules_in}
use Rattle.census_rules.specs.Census.{accepting, open_board, bed_in, state_in, is_item, taking, reading_table, counting}

-- A call on a board: an item, a table, or the census of an office, with the four words of the reply.
pub data Call : Type 0 where
  take : (value : ℕ) → Call
  read_table : (rows : List ℕ) → Call
  count : (office : ℕ) (reply : List ℕ) → Call

-- The number that it returns, and the board that it leaves.
abbrev pub number_of : Call → List ℕ → ℕ
number_of (take v) b = (taking v b).number
number_of (read_table ws) b = (reading_table ws b).number
number_of (count o r) b = (counting o b r).number

abbrev pub leaves : Call → List ℕ → List ℕ
leaves (take v) b = (taking v b).words
leaves (read_table ws) b = (reading_table ws b).words
leaves (count o r) b = b

-- The board after some calls, the first one first.
abbrev pub board_after : List Call → List ℕ → List ℕ
board_after [] b = b
board_after (c ∷ cs) b = board_after cs (leaves c b)

-- What the calls themselves say, whatever the board. The state of a bed: that of the last item for it, and s if there is none.
abbrev pub state_after : List Call → (s bed : ℕ) → ℕ
state_after [] s bed = s
state_after (take v ∷ cs) s bed = state_after cs (cond (is_item v && eqb (bed_in v) bed) (state_in v) s) bed
state_after (read_table ws ∷ cs) s bed = state_after cs s bed
state_after (count o r ∷ cs) s bed = state_after cs s bed

-- The table last read, and t if there is none.
abbrev pub rules_after : List Call → Rules → Rules
rules_after [] t = t
rules_after (take v ∷ cs) t = rules_after cs t
rules_after (read_table ws ∷ cs) t = rules_after cs (cond (is_table ws) (rules_in ws) t)
rules_after (count o r ∷ cs) t = rules_after cs t

-- Before the first table no state is counted.
abbrev pub no_rules : Rules
no_rules = (0 ∷ 0 ∷ 0 ∷ 0 ∷ 0 ∷ []) ∷ (0 ∷ 0 ∷ 0 ∷ 0 ∷ 0 ∷ []) ∷ (0 ∷ 0 ∷ 0 ∷ 0 ∷ 0 ∷ []) ∷ (0 ∷ 0 ∷ 0 ∷ 0 ∷ 0 ∷ []) ∷ []

-- An office counts a state.
abbrev pub counts : Rules → (office state : ℕ) → Bool
counts rules office state = eqb (get_or (row_of rules office) state 0) 1

-- of how many of the first n beds something is true
unfoldable pub how_many : (n : ℕ) → (ℕ → Bool) → ℕ
how_many zero p = 0
how_many (suc n) p = how_many n p + cond (p n) 1 0

-- The census for an office is the number of beds whose state it counts: made afresh.
abbrev pub census_of : Rules → (ℕ → ℕ) → (office : ℕ) → ℕ
census_of rules state office = how_many beds (λ bed. counts rules office (state bed))

-- What is owed after some calls on an opened board.
pub record Right (cs : List Call) : Type 0 where
  -- each bed has the state of the last item for it; all beds begin free
  pub states : (bed : ℕ) → bed < beds → get_or (board_after cs open_board) bed 0 ≡ state_after cs 0 bed
  -- the table is the one last read
  pub table : rules_on (board_after cs open_board) ≡ rules_after cs no_rules
  -- the census for every office is what a count made afresh by it gives, whatever the words of the reply were
  pub census : (office : ℕ) → office ≤ last_office → (reply : List ℕ)
      → counting office (board_after cs open_board) reply ≡ accepting (set reply 0 (census_of (rules_after cs no_rules) (state_after cs 0) office))
  -- no further call is answered 22
  pub answered : (c : Call) → number_of c (board_after cs open_board) ≢ 22

-- Every list of calls, with any arguments, refused ones included.
abbrev pub AlwaysRight : Type 0
AlwaysRight = (cs : List Call) → Right cs
