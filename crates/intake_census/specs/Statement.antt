-- The census and demand 3 (document 02, U13): a board that takes the intake's items in the order in which they are handed over is the board of a
-- linearization of the intake's history. Definitions and statements alone; the proofs are in proofs/Theorem.antt.
use Rattle.std.specs.Prelude.{◌≡◌, ◌≢◌, ◌&&◌, cond, List, [], ◌∷◌, ◌++◌, map, ℕ, ◌≤◌, eqb, set}
use Rattle.history.specs.Lists.{All}
use Rattle.history.specs.Calls
use Rattle.history.specs.Linearization.{Item, Queue, Linearization, Settled}
use Rattle.rules.specs.Sizes.{Sizes}
use Rattle.rules.specs.Cell.{reader}
use Rattle.rules.specs.Request.{open_store}
use Rattle.rules.specs.Play.{Played, items_left}
use Rattle.receiving.specs.Statement.{items_answered, items_entered, items_received}
use Rattle.delivery.specs.Export.{Returned, returned}
use Rattle.refinement.specs.Calls.{Exchange, ExchangeChain, recorded, fresh, made_of}
use Rattle.census_rules.specs.Table.{last_office}
use Rattle.census_rules.specs.Census.{Outcome, accepting, open_board, bed_in, state_in, is_item, taking, reading_table, counting}
use Rattle.census_rules.specs.Statement.{Call, take, read_table, count, board_after, rules_after, no_rules, census_of}

abbrev pub values_of : List Item → List ℕ
values_of xs = map (λ x. x.value) xs

-- The board after it took some values, one after the other.
abbrev pub fed : List ℕ → List ℕ → List ℕ
fed vs b = board_after (map take vs) b

-- The state of a bed after some values: that of the last item for it, and s if there is none.
abbrev pub state_by : List ℕ → (s bed : ℕ) → ℕ
state_by [] s bed = s
state_by (v ∷ vs) s bed = state_by vs (cond (is_item v && eqb (bed_in v) bed) (state_in v) s) bed

-- The values that some calls on a board took.
abbrev pub values_taken : List Call → List ℕ
values_taken [] = []
values_taken (take v ∷ cs) = v ∷ values_taken cs
values_taken (read_table ws ∷ cs) = values_taken cs
values_taken (count o r ∷ cs) = values_taken cs

-- What a linearization says of what was played.
pub record InItsOrder (p : Played) (order : List Calls.Call) (left : Queue) : Type 0 where
  -- any board fed in the order in which the items were handed over is the board fed in its order
  pub same_board : (b : List ℕ) → fed (values_of (items_received p.replies)) b ≡ fed (values_of (items_answered order)) b
  -- its enqueues, in its order, are those of the items handed over, and then of the queue that it leaves
  pub enqueued : items_entered order ≡ items_received p.replies ++ left

-- A call on a board as C sees it, with the four words of the reply that a census is lent: the returned number, the words of the board and of the
-- reply after it.
pub record Exchanged : Type 0 where
  pub call : Call
  pub number : ℕ
  pub board : List ℕ
  pub reply : List ℕ

-- The contracts of `census_take`, `census_table` and `census_count` (crates/census/src/lib.rt), b the words of the board before the call.
abbrev pub Keeps : Call → (b : List ℕ) → (number : ℕ) (board reply : List ℕ) → Type 0
Keeps (take v) b n b' w = ◌≡◌ {A = Outcome} (record { number = n; words = b' }) (taking v b)
Keeps (read_table ws) b n b' w = ◌≡◌ {A = Outcome} (record { number = n; words = b' }) (reading_table ws b)
Keeps (count o r) b n b' w = (◌≡◌ {A = Outcome} (record { number = n; words = w }) (counting o b r)) × (b' ≡ b)

-- Each call gets the board as the one before left it.
abbrev pub BoardChain : List ℕ → List Exchanged → Type 0
BoardChain b [] = Unit
BoardChain b (y ∷ ys) = Keeps y.call b y.number y.board y.reply × BoardChain y.board ys

abbrev pub last_board : List ℕ → List Exchanged → List ℕ
last_board b [] = b
last_board b (y ∷ ys) = last_board y.board ys

abbrev pub calls_of : List Exchanged → List Call
calls_of ys = map (λ y. y.call) ys

-- For C. After an `intake_open` that returned 0 and any calls of the intake, when no call is under way; p is what C makes of the numbers and
-- words that it got. A linearization leaves exactly the items left, and of every linearization: any board fed in the order in which the items
-- were handed over is the board fed in its order.
--
-- And the census: after a `census_open` and any calls on the board, among which the items handed over were taken in this order, the census for
-- every office is the number of beds whose last state in the linearization's order is counted by the table last read. No call on the board
-- returned 22.
abbrev pub CensusForC : Type 0
CensusForC =
    (z : Sizes) (before m : List ℕ) (xs : List Exchange)
    → ◌≡◌ {A = Returned} (record { number = 0; store = m }) (returned (open_store z before))
    → ExchangeChain m xs
    → let p : Played = recorded (map made_of xs) (fresh m) in
    Settled p.history
    → ((order : List Calls.Call) × Linearization p.history order (items_left z (reader z p.words)))
    × ((order : List Calls.Call) (left : Queue)
    → Linearization p.history order left
    → InItsOrder p order left
    × ((ys : List Exchanged)
    → BoardChain open_board ys
    → values_taken (calls_of ys) ≡ values_of (items_received p.replies)
    → ((office : ℕ) → office ≤ last_office → (reply : List ℕ)
    → counting office (last_board open_board ys) reply
    ≡ accepting (set reply 0 (census_of (rules_after (calls_of ys) no_rules) (state_by (values_of (items_answered order)) 0) office)))
    × All (λ y. y.number ≢ 22) ys))
