-- The sizes of a store, their limits, and how many words they need (document 01, "Store").
use Rattle.std.specs.Prelude.{Bool, ◌&&◌, ℕ, ◌+◌, ◌*◌, suc, leb}
use Rattle.history.specs.Event.{most_producers}

-- B entries in a record, N records, P producers, M enqueue starts allowed.
pub record Sizes : Type 0 where
  pub B : ℕ
  pub N : ℕ
  pub P : ℕ
  pub M : ℕ

abbrev pub between : (low high x : ℕ) → Bool
between low high x = leb low x && leb x high

-- The limits: B 2 to 64, N 2 to 64, P 1 to 16, M 1 to 1,000,000.
abbrev pub most_entries : ℕ
most_entries = 64

abbrev pub most_records : ℕ
most_records = 64

abbrev pub most_starts : ℕ
most_starts = 1000000

abbrev pub sizes_in_range : Sizes → Bool
sizes_in_range z =
    between 2 most_entries z.B && between 2 most_records z.N && between 1 most_producers z.P && between 1 most_starts z.M

-- The largest place that a record may have.
abbrev pub most_place : ℕ
most_place = 500002

-- The most accepted steps of a call that a thread's word can hold (document 02, U3).
abbrev pub most_steps : ℕ
most_steps = 100000000

-- the words of the contents, of a thread, and of a record: place, next, prev and use, and three for each entry
abbrev pub content_words : ℕ
content_words = 16

-- of the contents, the word that holds the record claimed last, the one that says what the scan has read, and the first spare one
abbrev pub last_claimed_word : ℕ
last_claimed_word = 11

abbrev pub all_handled_word : ℕ
all_handled_word = 12

abbrev pub first_spare : ℕ
first_spare = 13

abbrev pub thread_words : ℕ
thread_words = 8

abbrev pub record_words : Sizes → ℕ
record_words z = 3 * z.B + 4

-- the first word of the records, after the contents and the threads, P producers and the consumer
abbrev pub first_record : Sizes → ℕ
first_record z = content_words + thread_words * suc z.P

-- The most items that one drain may hand over (document 02, U5), and the words of the drain area: limit, count, and a pair for each.
abbrev pub most_drained : ℕ
most_drained = 64

abbrev pub drain_words : ℕ
drain_words = 2 + 2 * most_drained

-- its first word, behind the records
abbrev pub first_drain : Sizes → ℕ
first_drain z = first_record z + z.N * record_words z

-- The store takes 16 + 8 × (P + 1) + N × (3 × B + 4) + 130 words.
abbrev pub store_words : Sizes → ℕ
store_words z = first_drain z + drain_words

-- The most words that a store takes.
abbrev pub most_words : ℕ
most_words = store_words (record { B = most_entries; N = most_records; P = most_producers; M = most_starts })
