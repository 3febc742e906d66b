-- The most that a word in range may hold, whatever the phase.
use Rattle.std.specs.Prelude.{List, [], ◌∷◌, ℕ, get_or}
use Rattle.history.specs.Event.{most_producers}
use Rattle.rules.specs.Sizes.{Sizes, most_entries, most_records, most_starts, most_place, most_steps, most_drained, content_words, record_words}
use Rattle.rules.specs.Cell.{Cell, content, last_claimed, all_handled, spare, consumer, producer, part, entry, drain, pair}
use Rattle.rules.specs.Range.{Sort, unused, exactly, number, link, record_number, most, any, nothing, last_consumer_phase, last_producer_phase}

-- the largest 32-bit number
abbrev pub most_word : ℕ
most_word = 4294967295

-- the most words of a record
abbrev pub most_record_words : ℕ
most_record_words = record_words (record { B = most_entries; N = most_records; P = most_producers; M = most_starts })

-- the most that a word of a sort may hold
abbrev pub cap : Sizes → Sort → ℕ
cap z unused = 0
cap z (exactly n) = n
cap z number = z.M
cap z link = z.N
cap z record_number = z.N
cap z (most n) = n
cap z any = most_word
cap z nothing = 0

-- words 1 to 7 of a producer and of the consumer, in any phase
abbrev pub producer_caps : Sizes → List ℕ
producer_caps z = z.M ∷ most_word ∷ z.M ∷ z.N ∷ z.N ∷ 1 ∷ most_steps ∷ []

abbrev pub consumer_caps : Sizes → List ℕ
consumer_caps z = z.N ∷ z.M ∷ z.N ∷ z.M ∷ z.M ∷ most_word ∷ most_steps ∷ []

abbrev pub content_caps : Sizes → List ℕ
content_caps z = z.B ∷ z.N ∷ z.P ∷ z.M ∷ content_words ∷ most_word ∷ z.M ∷ z.N ∷ z.N ∷ z.M ∷ z.M ∷ []

abbrev pub cap_of : Sizes → Cell → ℕ
cap_of z (content k) = get_or (content_caps z) k 0
cap_of z last_claimed = z.N
cap_of z all_handled = 1
cap_of z (spare k) = 0
cap_of z (consumer k) = get_or (last_consumer_phase ∷ consumer_caps z) k 0
cap_of z (producer t k) = get_or (last_producer_phase ∷ producer_caps z) k 0
cap_of z (part r k) = get_or (most_place ∷ z.N ∷ z.N ∷ 3 ∷ []) k 0
cap_of z (entry r i k) = get_or (2 ∷ z.M ∷ most_word ∷ []) k 0
cap_of z (drain k) = most_drained
cap_of z (pair i k) = get_or (z.M ∷ most_word ∷ []) k 0
