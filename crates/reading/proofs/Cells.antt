-- What the columns hold after a call has started or ended.
use mathlib.Core.Path.{◌≡◌, refl, ◌∙◌}
use mathlib.Core.Logic.{◌≢◌}
use mathlib.Core.List.{List, [], ◌∷◌}
use Prim.Native.Nat.{ℕ, zero, suc, ◌+◌, ◌*◌, ◌≤◌, ◌<◌, max}
use native.Mathlib.Omega.{arith}
use native.Mathlib.Numerals.{add-one}
use lib.ListN.{length, get_or, set, drop, length-set}
use lib.Seq.{get_or-set_same, get_or-set_other}
use Rattle.history.specs.Lists.{All}
use Rattle.reading.specs.Table.{cell, start_at, end_at, answer_at, thread_at, number_at, value_at, busy_at, top_of, mark_of}
use Rattle.reading.specs.Steps.{begun, ended}

-- a word and what is written to it
abbrev Write : Type 0
Write = ℕ × ℕ

-- the memory after some writes, the first one first
abbrev written : List ℕ → List Write → List ℕ
written m [] = m
written m (w ∷ ws) = written (set m w.0 w.1) ws

abbrev Off : ℕ → List Write → Type 0
Off a ws = All (λ w. a ≢ w.0) ws

kept : (m : List ℕ) (ws : List Write) (a : ℕ) → Off a ws → get_or (written m ws) a 0 ≡ get_or m a 0
kept m [] a h = refl
kept m (w ∷ ws) a h = kept (set m w.0 w.1) ws a h.1 ∙ get_or-set_other m w.0 a w.1 0 h.0

-- write i is there, if no later one is to the same word
wrote : (m : List ℕ) (ws : List Write) (i : ℕ) → i < length ws → (get_or ws i (0, 0)).0 < length m → Off (get_or ws i (0, 0)).0 (drop (suc i) ws)
    → get_or (written m ws) (get_or ws i (0, 0)).0 0 ≡ (get_or ws i (0, 0)).1
wrote m [] i b l h = absurd (omega arith)
wrote m (w ∷ ws) zero b l h = kept (set m w.0 w.1) ws w.0 h ∙ get_or-set_same m w.0 w.1 0 l
wrote m (w ∷ ws) (suc i) b l h = wrote (set m w.0 w.1) ws i (omega arith) (simp length-set l) h

length_written : (m : List ℕ) (ws : List Write) → length (written m ws) ≡ length m
length_written m [] = refl
length_written m (w ∷ ws) = length_written (set m w.0 w.1) ws ∙ length-set m w.0 w.1

-- The columns with call c begun: those of the calls before are as they were.
pub record Begun (m m' : List ℕ) (c k t n v : ℕ) : Type 0 where
  pub size : length m' ≡ length m
  pub old : (q j : ℕ) → 1 ≤ q → q ≤ 6 → j < c → cell m' q j ≡ cell m q j
  pub start_is : start_at m' c ≡ k
  pub end_is : end_at m' c ≡ 0
  pub answer_is : answer_at m' c ≡ 0
  pub thread_is : thread_at m' c ≡ t
  pub number_is : number_at m' c ≡ n
  pub value_is : value_at m' c ≡ v
  pub busy_is : busy_at m' t ≡ suc c
  pub others : (u : ℕ) → u ≤ 16 → u ≢ t → busy_at m' u ≡ busy_at m u
  pub top_is : top_of m' ≡ max (top_of m) n
  pub mark_is : get_or m' (mark_of n) 0 ≡ 1
  pub marks : (a : ℕ) → 18 ≤ a → a < 4096 → a ≢ mark_of n → get_or m' a 0 ≡ get_or m a 0

module _ (m : List ℕ) (c k t n v : ℕ) (size : length m ≡ 28672) (room : c < 4096) (thread : t ≤ 16) where
  abbrev beginning : List Write
  beginning =
      (4096 + c, k) ∷ (8192 + c, 0) ∷ (12288 + c, 0) ∷ (16384 + c, t) ∷ (20480 + c, n) ∷ (24576 + c, v) ∷ (t, c + 1) ∷ (17, max (top_of m) n) ∷ (mark_of n, 1) ∷ []

  pub begun_is : Begun m (begun m c k t n v) c k t n v
  unfolding begun
  begun_is = record {
    size = length_written m beginning;
    old = λ q j a b l. kept m beginning (4096 * q + j) (omega arith);
    start_is = wrote m beginning 0 (omega arith) (omega arith) (omega arith);
    end_is = wrote m beginning 1 (omega arith) (omega arith) (omega arith);
    answer_is = wrote m beginning 2 (omega arith) (omega arith) (omega arith);
    thread_is = wrote m beginning 3 (omega arith) (omega arith) (omega arith);
    number_is = wrote m beginning 4 (omega arith) (omega arith) (omega arith);
    value_is = wrote m beginning 5 (omega arith) (omega arith) (omega arith);
    busy_is = wrote m beginning 6 (omega arith) (omega arith) (omega arith) ∙ add-one c;
    others = λ u a d. kept m beginning u (omega arith);
    top_is = wrote m beginning 7 (omega arith) (omega arith) (omega arith);
    mark_is = wrote m beginning 8 (omega arith) (omega arith) tt;
    marks = λ a l u d. kept m beginning a (omega arith);
  }

-- The columns with call i ended: only its end, answer and value have changed.
pub record Ended (m m' : List ℕ) (i k t n v : ℕ) : Type 0 where
  pub size : length m' ≡ length m
  pub old : (q j : ℕ) → 1 ≤ q → q ≤ 6 → j < 4096 → j ≢ i → cell m' q j ≡ cell m q j
  pub start_is : (j : ℕ) → j < 4096 → start_at m' j ≡ start_at m j
  pub thread_is : (j : ℕ) → j < 4096 → thread_at m' j ≡ thread_at m j
  pub number_is : (j : ℕ) → j < 4096 → number_at m' j ≡ number_at m j
  pub end_is : end_at m' i ≡ k
  pub answer_is : answer_at m' i ≡ n
  pub value_is : value_at m' i ≡ v
  pub busy_is : busy_at m' t ≡ 0
  pub others : (u : ℕ) → u ≤ 16 → u ≢ t → busy_at m' u ≡ busy_at m u
  pub top_and_marks : (a : ℕ) → 17 ≤ a → a < 4096 → get_or m' a 0 ≡ get_or m a 0

module _ (m : List ℕ) (i k t n v : ℕ) (size : length m ≡ 28672) (room : i < 4096) (thread : t ≤ 16) where
  abbrev ending : List Write
  ending = (8192 + i, k) ∷ (12288 + i, n) ∷ (24576 + i, v) ∷ (t, 0) ∷ []

  pub ended_is : Ended m (ended m i k t n v) i k t n v
  ended_is = record {
    size = length_written m ending;
    old = λ q j a b l d. kept m ending (4096 * q + j) (omega arith);
    start_is = λ j l. kept m ending (4096 + j) (omega arith);
    thread_is = λ j l. kept m ending (16384 + j) (omega arith);
    number_is = λ j l. kept m ending (20480 + j) (omega arith);
    end_is = wrote m ending 0 (omega arith) (omega arith) (omega arith);
    answer_is = wrote m ending 1 (omega arith) (omega arith) (omega arith);
    value_is = wrote m ending 2 (omega arith) (omega arith) (omega arith);
    busy_is = wrote m ending 3 (omega arith) (omega arith) tt;
    others = λ u a d. kept m ending u (omega arith);
    top_and_marks = λ a l u. kept m ending a (omega arith);
  }
