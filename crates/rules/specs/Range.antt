-- The range of every word of a store: refusal 3 (document 01, "Where a call is turned down", Ranges).
use Rattle.std.specs.Prelude.{Bool, true, false, ◌&&◌, ◌||◌, cond, List, [], ◌∷◌, ℕ, zero, suc, leb, ltb, eqb, get_or}
use Rattle.rules.specs.Sizes.{Sizes, between, most_place, most_steps, content_words, first_record, most_drained}
use Rattle.rules.specs.Cell.{Reader, content, last_claimed, all_handled, spare, consumer, producer, part, entry, pair, consumer_phase, drain_limit, drain_count}

-- What a word may hold: zero alone (a spare word, or one not in use); one number; a position, call number or count, 0 to M; a
-- record number, 0 to N; the same with none left out, 1 to N; a number up to another; anything; nothing (of a phase that is out of range).
pub data Sort : Type 0 where
  unused : Sort
  exactly : ℕ → Sort
  number : Sort
  link : Sort
  record_number : Sort
  most : ℕ → Sort
  any : Sort
  nothing : Sort

abbrev pub of_sort : Sizes → Sort → ℕ → Bool
of_sort z unused x = eqb x 0
of_sort z (exactly n) x = eqb x n
of_sort z number x = leb x z.M
of_sort z link x = leb x z.N
of_sort z record_number x = between 1 z.N x
of_sort z (most n) x = leb x n
of_sort z any x = true
of_sort z nothing x = false

-- Words 0 to 10. Contents as *open* writes them (of words 0 to 3, the sizes, the limits are looked at before): sizes, first words;
-- tail, tail record, head record, head position, starts.
abbrev pub content_sorts : Sizes → List Sort
content_sorts z =
    exactly z.B
    ∷ exactly z.N
    ∷ exactly z.P
    ∷ exactly z.M
    ∷ exactly content_words
    ∷ exactly (first_record z)
    ∷ number
    ∷ record_number
    ∷ record_number
    ∷ number
    ∷ number
    ∷ []

-- The record claimed last, 1 to N.
abbrev pub last_claimed_sort : Sort
last_claimed_sort = record_number

-- What the scan has read: 0 to 1 in the consumer's phases 3 and 4, and 0 elsewhere (document 02, U6).
abbrev pub most_all_handled : (phase : ℕ) → ℕ
most_all_handled p = cond (eqb p 3 || eqb p 4) 1 0

abbrev pub scan_in_range : Reader → Bool
scan_in_range σ = leb (σ all_handled) (most_all_handled (σ consumer_phase))

-- Spare words.
abbrev pub spare_sorts : List Sort
spare_sorts = unused ∷ unused ∷ unused ∷ []

-- Place, next, prev, use.
abbrev pub part_sorts : List Sort
part_sorts = most most_place ∷ link ∷ link ∷ most 3 ∷ []

-- State, call number, value.
abbrev pub entry_sorts : List Sort
entry_sorts = most 2 ∷ number ∷ any ∷ []

-- The accepted steps of a call under way.
abbrev pub steps : Sort
steps = most most_steps

-- Words 1 to 7 of a thread in each phase. A producer's: call number, value, position, held, claimed, whether phase 7 was taken,
-- accepted steps.
abbrev pub idle_sorts : List Sort
idle_sorts = unused ∷ unused ∷ unused ∷ unused ∷ unused ∷ unused ∷ unused ∷ []

abbrev pub out_of_range : List Sort
out_of_range = nothing ∷ nothing ∷ nothing ∷ nothing ∷ nothing ∷ nothing ∷ nothing ∷ []

abbrev pub placed_sorts : List Sort
placed_sorts = number ∷ any ∷ number ∷ link ∷ unused ∷ most 1 ∷ steps ∷ []

abbrev pub linking_sorts : List Sort
linking_sorts = number ∷ any ∷ number ∷ link ∷ link ∷ most 1 ∷ steps ∷ []

abbrev pub ahead_sorts : List Sort
ahead_sorts = number ∷ any ∷ number ∷ link ∷ unused ∷ unused ∷ steps ∷ []

abbrev pub linking_ahead_sorts : List Sort
linking_ahead_sorts = number ∷ any ∷ number ∷ link ∷ link ∷ unused ∷ steps ∷ []

-- Phases 0 to 11 without 1: *start enqueue* takes the position (document 02, U8).
abbrev pub last_producer_phase : ℕ
last_producer_phase = 11

abbrev pub producer_sorts : List (List Sort)
producer_sorts =
    idle_sorts
    ∷ out_of_range
    ∷ placed_sorts
    ∷ placed_sorts
    ∷ placed_sorts
    ∷ linking_sorts
    ∷ placed_sorts
    ∷ placed_sorts
    ∷ placed_sorts
    ∷ placed_sorts
    ∷ ahead_sorts
    ∷ linking_ahead_sorts
    ∷ []

-- The consumer's: cursor record and position, found record and position, the item's call number and value, accepted steps. In phases 6 to 8
-- the second is a flag.
abbrev pub front_sorts : List Sort
front_sorts = unused ∷ unused ∷ unused ∷ unused ∷ unused ∷ unused ∷ steps ∷ []

abbrev pub cursor_sorts : List Sort
cursor_sorts = link ∷ number ∷ unused ∷ unused ∷ unused ∷ unused ∷ steps ∷ []

abbrev pub rescan_sorts : List Sort
rescan_sorts = link ∷ number ∷ link ∷ number ∷ unused ∷ unused ∷ steps ∷ []

abbrev pub found_sorts : List Sort
found_sorts = unused ∷ most 1 ∷ link ∷ number ∷ unused ∷ unused ∷ steps ∷ []

abbrev pub item_sorts : List Sort
item_sorts = unused ∷ most 1 ∷ link ∷ number ∷ number ∷ any ∷ steps ∷ []

abbrev pub retiring_sorts : List Sort
retiring_sorts = unused ∷ most 1 ∷ unused ∷ unused ∷ number ∷ any ∷ steps ∷ []

-- phases 0 to 8
abbrev pub last_consumer_phase : ℕ
last_consumer_phase = 8

abbrev pub consumer_sorts : List (List Sort)
consumer_sorts =
    idle_sorts ∷ front_sorts ∷ front_sorts ∷ cursor_sorts ∷ cursor_sorts ∷ rescan_sorts ∷ found_sorts ∷ item_sorts ∷ retiring_sorts ∷ []

-- words k, k + 1, .. of a row are of these sorts
abbrev pub of_sorts : Sizes → (ℕ → ℕ) → ℕ → List Sort → Bool
of_sorts z row k [] = true
of_sorts z row k (s ∷ ss) = of_sort z s (row k) && of_sorts z row (suc k) ss

-- the test passes at 0 to n - 1
abbrev pub every : ℕ → (ℕ → Bool) → Bool
every zero p = true
every (suc n) p = every n p && p n

-- A thread's eight words: its phase, up to the last one, and the words that the phase uses.
abbrev pub thread_in_range : Sizes → (last : ℕ) → List (List Sort) → (ℕ → ℕ) → Bool
thread_in_range z last sorts row = leb (row 0) last && of_sorts z row 1 (get_or sorts (row 0) [])

abbrev pub consumer_in_range : Sizes → Reader → Bool
consumer_in_range z σ = thread_in_range z last_consumer_phase consumer_sorts (λ k. σ (consumer k))

abbrev pub producer_in_range : Sizes → Reader → ℕ → Bool
producer_in_range z σ t = thread_in_range z last_producer_phase producer_sorts (λ k. σ (producer t k))

abbrev pub record_in_range : Sizes → Reader → ℕ → Bool
record_in_range z σ r =
    of_sorts z (λ k. σ (part r k)) 0 part_sorts && every z.B (λ i. of_sorts z (λ k. σ (entry r i k)) 0 entry_sorts)

-- The drain area (document 02, U5): limit 0 to 64, and 0 while the consumer is idle; count 0 to the limit; a pair below the count as an
-- entry's number and value, the others zero.
abbrev pub pair_sorts : List Sort
pair_sorts = number ∷ any ∷ []

abbrev pub no_pair_sorts : List Sort
no_pair_sorts = unused ∷ unused ∷ []

abbrev pub pair_in_range : Sizes → (count : ℕ) (pairs : ℕ → ℕ → ℕ) → ℕ → Bool
pair_in_range z c pairs i = of_sorts z (pairs i) 0 (cond (ltb i c) pair_sorts no_pair_sorts)

abbrev pub area_in_range : Sizes → (phase limit count : ℕ) (pairs : ℕ → ℕ → ℕ) → Bool
area_in_range z p l c pairs = leb l (cond (eqb p 0) 0 most_drained) && (leb c l && every most_drained (pair_in_range z c pairs))

abbrev pub drain_in_range : Sizes → Reader → Bool
drain_in_range z σ = area_in_range z (σ consumer_phase) (σ drain_limit) (σ drain_count) (λ i k. σ (pair i k))

-- Words 0 to 15.
abbrev pub contents_in_range : Sizes → Reader → Bool
contents_in_range z σ =
    of_sorts z (λ k. σ (content k)) 0 (content_sorts z)
    && (of_sort z last_claimed_sort (σ last_claimed) && (scan_in_range σ && of_sorts z (λ k. σ (spare k)) 0 spare_sorts))

-- Every word is in its range: those of the contents and threads, those of the records, and those of the drain area.
abbrev pub threads_in_range : Sizes → Reader → Bool
threads_in_range z σ = contents_in_range z σ && consumer_in_range z σ && every z.P (λ p. producer_in_range z σ (suc p))

abbrev pub records_in_range : Sizes → Reader → Bool
records_in_range z σ = every z.N (record_in_range z σ)

unfoldable pub in_range : Sizes → Reader → Bool
in_range z σ = threads_in_range z σ && records_in_range z σ && drain_in_range z σ
