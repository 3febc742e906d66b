-- The line of enqueues, by their places among the calls: those of the items given, in the order of the dequeues, then the ended
-- ones whose items were not given. And what each part of the code does with it.
use Rattle.std.specs.Prelude.{◌≡◌, ◌≢◌, Bool, true, false, ◌&&◌, ◌||◌, not, cond, List, [], ◌∷◌, ◌++◌, map, ℕ, zero, suc, ◌+◌, ◌-◌, ◌≤◌, ◌<◌, eqb, length, get_or, take, drop}
use Rattle.std.proofs.Math.Seq.{slice}
use Rattle.history.specs.Calls.{Enqueue}
use Rattle.criterion.specs.Parts.{dequeues_of}
use Rattle.criterion.specs.Pass.{has}
use Rattle.criterion.specs.Order.{ended_before, place, starting_number}
use Rattle.reading.specs.Table.{start_at, end_at, answer_at, thread_at, calls_in}
use Rattle.marking.specs.Marks.{enqueue_at}
use Rattle.laying.specs.declared.Rest.{Rest}

-- the most places of a line: two for each call that there may be
abbrev pub line_size : ℕ
line_size = 8192

-- how many numbers below n pass a test; what a function gives at them, one after the other
abbrev pub count_to : (ℕ → Bool) → ℕ → ℕ
count_to f zero = 0
count_to f (suc n) = count_to f n + cond (f n) 1 0

abbrev pub gather_to : (ℕ → List ℕ) → ℕ → List ℕ
gather_to f zero = []
gather_to f (suc n) = gather_to f n ++ f n

-- call j is a dequeue that has ended, and one that gave an item
abbrev pub answers_at : List ℕ → ℕ → Bool
answers_at m j = eqb (thread_at m j) 0 && not (eqb (end_at m j) 0)

abbrev pub gives_at : List ℕ → ℕ → Bool
gives_at m j = answers_at m j && not (eqb (answer_at m j) 0)

-- where the item of dequeue j was found, if it gave one
abbrev pub item_at : (m items : List ℕ) → ℕ → List ℕ
item_at m items j = cond (gives_at m j) (get_or items j 0 ∷ []) []

-- call i is an ended enqueue that is not flagged, and the call if it is
abbrev pub is_left : (m : List ℕ) (flags : List Bool) → ℕ → Bool
is_left m flags i = not (eqb (thread_at m i) 0) && not (eqb (end_at m i) 0) && not (get_or flags i false)

abbrev pub left_at : (m : List ℕ) (flags : List Bool) → ℕ → List ℕ
left_at m flags i = cond (is_left m flags i) (i ∷ []) []

-- Some places are flagged, besides those that were.
pub record Flags (flags flags' : List Bool) (more : List ℕ) : Type 0 where
  pub size : length flags' ≡ length flags
  pub flagged : (i : ℕ) → i < 4096 → get_or flags' i false ≡ (get_or flags i false || has i more)

-- They are added to a line and flagged.
pub record Notes (line line' : List ℕ) (flags flags' : List Bool) (more : List ℕ) : Type 0 where
  pub lined : line' ≡ line ++ more
  pub noted : Flags flags flags' more

-- The first n of a line are enqueues among the first c calls.
pub record Lined (m line : List ℕ) (c n : ℕ) : Type 0 where
  pub few : n ≤ length line
  pub within : (k : ℕ) → k < n → get_or line k 0 < c
  pub enqueues : (k : ℕ) → k < n → thread_at m (get_or line k 0) ≢ 0

-- Back along a line from p to r, at least to t: past those that had not ended before event s, up to one that had.
pub record Backs (m line : List ℕ) (s t p r : ℕ) : Type 0 where
  pub least : t ≤ r
  pub most : r ≤ p
  pub late : (k : ℕ) → r ≤ k → k < p → ended_before s (enqueue_at m (get_or line k 0)) ≡ false
  pub stops : (k : ℕ) → r ≡ suc k → t ≤ k → ended_before s (enqueue_at m (get_or line k 0)) ≡ true

-- The enqueues from r to p are laid before what stands from word p + e on, as starting numbers.
pub record LaysBack (m line : List ℕ) (s t p e : ℕ) (order order' : List ℕ) (r : ℕ) : Type 0 where
  pub backs : Backs m line s t p r
  pub size : length order' ≡ length order
  pub words : drop (r + e) order' ≡ map suc (slice r p line) ++ drop (p + e) order

-- An ended dequeue j is laid before those, and then others are left; any other call leaves all as it was.
pub record LaysDequeue (m line : List ℕ) (j : ℕ) (rest : Rest) (order order' : List ℕ) (then : Rest) : Type 0 where
  pub size : length order' ≡ length order
  pub idle : answers_at m j ≡ false → (then ≡ rest) × (order' ≡ order)
  pub backs : answers_at m j ≡ true → Backs m line (start_at m j) rest.given rest.enqueues then.enqueues
  pub given : answers_at m j ≡ true → then.given ≡ rest.given - cond (gives_at m j) 1 0
  pub dequeues : answers_at m j ≡ true → then.dequeues ≡ rest.dequeues - 1
  pub words : answers_at m j ≡ true → drop (then.enqueues + then.dequeues) order' ≡ suc j ∷ (map suc (slice then.enqueues rest.enqueues line) ++ drop (rest.enqueues + rest.dequeues) order)

-- What laying a line of p enqueues and e ended dequeues asks: its first t are the items given.
pub record Lays (m line : List ℕ) (c t p e room : ℕ) : Type 0 where
  pub few : c ≤ 4096
  pub lined : Lined m line c p
  pub items : t ≡ count_to (gives_at m) c
  pub within : t ≤ p
  pub dequeues : e ≡ count_to (answers_at m) c
  pub rising : (i j : ℕ) → i < j → j < c → start_at m i < start_at m j
  pub fits : p + e ≤ room

-- the enqueues of the first p of a line
abbrev pub enqueues_in : (m line : List ℕ) → ℕ → List Enqueue
enqueues_in m line p = map (enqueue_at m) (take p line)

-- The starting numbers of the order in which a line of p enqueues stands as late as it may.
unfoldable pub line_numbers : (m line : List ℕ) (c p : ℕ) → List ℕ
line_numbers m line c p = map (starting_number (calls_in m c)) (place (dequeues_of (calls_in m c)) [] (enqueues_in m line p))
