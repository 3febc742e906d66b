-- The position machine that a store stands for. What the store does not hold is kept beside it: where the chain stands, the entries by
-- position, and the history.
use Rattle.std.specs.Prelude.{◌≡◌, Bool, true, [], ◌∷◌, ℕ, zero, suc, ◌+◌, ◌*◌, ◌≤◌, ◌<◌, get_or}
use Rattle.history.specs.Event.{History}
use Rattle.history.specs.Linearization.{Item}
use Rattle.rules.specs.Cell.{Reader, consumer, entry, tail, head_position, starts, place}
use Rattle.model.specs.State.{Entry, blank, put, gone, Producer, idle, seeking, ahead, shifting, behind, writing, setting, done, Consumer, resting, front, reading, scanning, looking, rescanning, found, holding, retiring, State}
use Rattle.memory.specs.Listed.{Listed}
use Rattle.memory.specs.Memory.{ChainShape, row_of}

pub record Ghost : Type 0 where
  pub shape : ChainShape
  pub entry : ℕ → Entry
  pub content : ℕ → Item
  pub history : History

-- the place of each record
abbrev pub places_of : Reader → ℕ → ℕ
places_of σ r = σ (place r)

-- the place of a record, stored plus one; 0 for none
abbrev pub place_of : (place : ℕ → ℕ) → ℕ → ℕ
place_of place zero = 0
place_of place (suc r) = place r

-- A producer by its phase. (None has phase 1.)
abbrev pub producer_at : (phase n v L k : ℕ) → Producer
producer_at phase n v L k =
    get_or
    (idle
    ∷ idle
    ∷ seeking n v L
    ∷ ahead n v L k
    ∷ ahead n v L k
    ∷ ahead n v L k
    ∷ shifting n v L k
    ∷ behind n v L k
    ∷ writing n v L k
    ∷ setting n v L k
    ∷ done n v L k
    ∷ done n v L k
    ∷ [])
    phase
    idle

abbrev pub producer_of : (place : ℕ → ℕ) → (row : ℕ → ℕ) → Producer
producer_of place row = producer_at (row 0) (row 1) (row 2) (row 3) (place_of place (row 4))

abbrev pub producers_of : Reader → ℕ → Producer
producers_of σ t = producer_of (places_of σ) (row_of σ t)

-- The consumer by its phase.
abbrev pub consumer_at : (phase c k f g : ℕ) → Item → Consumer
consumer_at phase c k f g x =
    get_or
    (resting
    ∷ front
    ∷ reading
    ∷ scanning c k
    ∷ looking c k
    ∷ rescanning c k f g
    ∷ found f g
    ∷ holding f g x
    ∷ retiring
    ∷ [])
    phase
    resting

-- from its eight words
abbrev pub consumer_from : (place : ℕ → ℕ) → (row : ℕ → ℕ) → Consumer
consumer_from place row =
    consumer_at (row 0) (row 2) (place_of place (row 1)) (row 4) (place_of place (row 3)) (record { number = row 5; value = row 6 })

abbrev pub consumer_of : Reader → Consumer
consumer_of σ = consumer_from (places_of σ) (λ k. σ (consumer k))

abbrev pub view : Reader → Ghost → State
view σ γ =
    record {
      tail = σ tail;
      hp = σ head_position;
      lo = γ.shape.lo;
      tp = γ.shape.tp;
      hi = γ.shape.hi;
      starts = σ starts;
      entry = γ.entry;
      content = γ.content;
      producer = producers_of σ;
      consumer = consumer_of σ;
      history = γ.history;
    }

-- An entry's state as the store has it.
abbrev pub code_of : Entry → ℕ
code_of blank = 0
code_of put = 1
code_of gone = 2

-- The entries of the linked records are those of their positions; those of folded records were all handled; past the last record nothing has
-- been written.
pub record Agrees (B lo hi : ℕ) (gap : ℕ → Bool) (at : ℕ → ℕ) (entry : ℕ → Entry) (content : ℕ → Item) (cell : ℕ → ℕ → ℕ → ℕ) : Type 0 where
  pub states : (k i : ℕ) → Listed lo hi gap (suc k) → i < B → cell (at (suc k)) i 0 ≡ code_of (entry (B * k + i))
  pub numbers : (k i : ℕ) → Listed lo hi gap (suc k) → i < B → cell (at (suc k)) i 1 ≡ (content (B * k + i)).number
  pub values : (k i : ℕ) → Listed lo hi gap (suc k) → i < B → cell (at (suc k)) i 2 ≡ (content (B * k + i)).value
  pub folded : (k i : ℕ) → gap (suc k) ≡ true → i < B → entry (B * k + i) ≡ gone
  pub fresh : (p : ℕ) → B * hi ≤ p → content p ≡ record { number = 0; value = 0 }

abbrev pub cell_of : Reader → ℕ → ℕ → ℕ → ℕ
cell_of σ r i k = σ (entry r i k)

abbrev pub AgreesWith : ℕ → Reader → Ghost → Type 0
AgreesWith B σ γ = Agrees B γ.shape.lo γ.shape.hi γ.shape.gap γ.shape.at γ.entry γ.content (cell_of σ)
