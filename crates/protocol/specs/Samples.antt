-- Texts for the tables of runs of the programs that read recordings.
use Rattle.std.specs.Prelude.{List, [], ◌∷◌, ◌++◌, ℕ}
use Rattle.protocol.specs.Words.{space, newline, bad_line_word}

-- a text, and what it prints
pub record Sample : Type 0 where
  pub text : List ℕ
  pub printed : List ℕ

-- a line of four numbers of one digit, by the digits' bytes
abbrev pub event : (kind thread number value : ℕ) → List ℕ
event k t n v = k ∷ space ∷ t ∷ space ∷ n ∷ space ∷ v ∷ newline ∷ []

-- "1 1 1 7", "2 1 1 7", "3 0 0 0", "4 0 1 7" and "5 0 0 0"
abbrev pub enqueue_starts : List ℕ
enqueue_starts = event 49 49 49 55

abbrev pub enqueue_ends : List ℕ
enqueue_ends = event 50 49 49 55

abbrev pub dequeue_starts : List ℕ
dequeue_starts = event 51 48 48 48

abbrev pub gives_item : List ℕ
gives_item = event 52 48 49 55

abbrev pub gives_empty : List ℕ
gives_empty = event 53 48 48 48

-- `bad line NUMBER`, a number of one digit, by its byte
abbrev pub bad : ℕ → List ℕ
bad digit = bad_line_word ++ (digit ∷ newline ∷ [])
