-- The words of a store under their names, how they are read off the lent words, and writes (document 01, "Store").
use Rattle.std.specs.Prelude.{Bool, true, ◌&&◌, cond, List, [], ◌∷◌, ℕ, ◌+◌, ◌-◌, ◌*◌, leb, ltb, eqb, get_or, set, replicate}
use Rattle.std.proofs.lemmas.List.Edits.{sets}
use Rattle.rules.specs.Sizes.{Sizes, content_words, last_claimed_word, all_handled_word, first_spare, thread_words, record_words, first_record, most_drained, drain_words, first_drain}

-- A cell is a word with a name: a word of the contents (0 to 10), the record claimed last (word 11), what the scan has read (word 12), a
-- spare word (13 to 15), a word of the consumer (thread 0), of a producer (threads 1 to P), of a record before its entries, of an entry, of
-- the drain area before its pairs, of a pair.
pub data Cell : Type 0 where
  content : (k : ℕ) → Cell
  last_claimed : Cell
  all_handled : Cell
  spare : (k : ℕ) → Cell
  consumer : (k : ℕ) → Cell
  producer : (t k : ℕ) → Cell
  part : (r k : ℕ) → Cell
  entry : (r i k : ℕ) → Cell
  drain : (k : ℕ) → Cell
  pair : (i k : ℕ) → Cell

-- Words 6 to 10: tail (positions taken), tail record, head record, head position, enqueue starts.
abbrev pub tail : Cell
tail = content 6

abbrev pub tail_record : Cell
tail_record = content 7

abbrev pub head_record : Cell
head_record = content 8

abbrev pub head_position : Cell
head_position = content 9

abbrev pub starts : Cell
starts = content 10

-- A producer's phase, 0 while it is idle, call number, value, position L, held record, claimed record, whether phase 7 was taken, and the number
-- of accepted steps of its call.
abbrev pub phase : ℕ → Cell
phase t = producer t 0

abbrev pub call : ℕ → Cell
call t = producer t 1

abbrev pub value : ℕ → Cell
value t = producer t 2

abbrev pub position : ℕ → Cell
position t = producer t 3

abbrev pub held : ℕ → Cell
held t = producer t 4

abbrev pub claimed : ℕ → Cell
claimed t = producer t 5

abbrev pub backed : ℕ → Cell
backed t = producer t 6

abbrev pub enqueue_steps : ℕ → Cell
enqueue_steps t = producer t 7

-- The consumer's phase, cursor, found entry, and the item read from it. Word 7 is the number of accepted steps of its call.
abbrev pub consumer_phase : Cell
consumer_phase = consumer 0

abbrev pub cursor_record : Cell
cursor_record = consumer 1

abbrev pub cursor_position : Cell
cursor_position = consumer 2

abbrev pub found_record : Cell
found_record = consumer 3

abbrev pub found_position : Cell
found_position = consumer 4

abbrev pub item_number : Cell
item_number = consumer 5

abbrev pub item_value : Cell
item_value = consumer 6

-- In phases 6 to 8 the cursor is not in use, and its position's word says whether a drain came there through the scan (document 02, U5).
abbrev pub scanned : Cell
scanned = consumer 2

-- Word 12, `all_handled`, is 1 in phases 3 and 4 while the cursor's record was entered at its first entry and every entry read in it so far was
-- handled, and 0 otherwise (document 02, U6).

-- Thread t's phase, and the accepted steps of the call that it has under way (document 02, U3).
abbrev pub thread_phase : (t : ℕ) → Cell
thread_phase t = cond (eqb t 0) consumer_phase (phase t)

abbrev pub step_count : (t : ℕ) → Cell
step_count t = cond (eqb t 0) (consumer 7) (enqueue_steps t)

-- Record: place (1 for the first in the queue), next, prev, use (0 free, 1 claimed, 2 linked, 3 retired).
abbrev pub place : ℕ → Cell
place r = part r 0

abbrev pub next : ℕ → Cell
next r = part r 1

abbrev pub prev : ℕ → Cell
prev r = part r 2

abbrev pub used : ℕ → Cell
used r = part r 3

-- Entry: state (0 empty, 1 set, 2 handled), call number, value.
abbrev pub state : ℕ → ℕ → Cell
state r i = entry r i 0

abbrev pub entry_number : ℕ → ℕ → Cell
entry_number r i = entry r i 1

abbrev pub entry_value : ℕ → ℕ → Cell
entry_value r i = entry r i 2

-- The drain area: the limit, 0 where no drain is under way; how many items it has marked; each of them, call number and value.
abbrev pub drain_limit : Cell
drain_limit = drain 0

abbrev pub drain_count : Cell
drain_count = drain 1

abbrev pub pair_number : ℕ → Cell
pair_number i = pair i 0

abbrev pub pair_value : ℕ → Cell
pair_value i = pair i 1

-- Where a cell is.
abbrev pub address : Sizes → Cell → ℕ
address z (content k) = k
address z last_claimed = last_claimed_word
address z all_handled = all_handled_word
address z (spare k) = first_spare + k
address z (consumer k) = content_words + k
address z (producer t k) = content_words + thread_words * t + k
address z (part r k) = first_record z + r * record_words z + k
address z (entry r i k) = first_record z + r * record_words z + (4 + 3 * i + k)
address z (drain k) = first_drain z + k
address z (pair i k) = first_drain z + (2 + 2 * i + k)

-- Whether a store of these sizes has the cell.
abbrev pub there : Sizes → Cell → Bool
there z (content k) = ltb k last_claimed_word
there z last_claimed = true
there z all_handled = true
there z (spare k) = ltb (first_spare + k) content_words
there z (consumer k) = ltb k thread_words
there z (producer t k) = leb 1 t && leb t z.P && ltb k thread_words
there z (part r k) = ltb r z.N && ltb k 4
there z (entry r i k) = ltb r z.N && ltb i z.B && ltb k 3
there z (drain k) = ltb k 2
there z (pair i k) = ltb i most_drained && ltb k 2

-- A reader says what each cell holds.
abbrev pub Reader : Type 0
Reader = Cell → ℕ

-- The cells of the lent words; a cell that is not there reads as 0.
unfoldable pub reader : Sizes → List ℕ → Reader
reader z m c = cond (there z c) (get_or m (address z c) 0) 0

-- The words that belong together: the contents up to word 11, the scan's (word 12), the spare ones, the consumer's, a producer's, a record's, the
-- drain area's.
pub data Area : Type 0 where
  contents : Area
  of_scan : Area
  spares : Area
  of_consumer : Area
  of_producer : (t : ℕ) → Area
  of_record : (r : ℕ) → Area
  of_drain : Area

-- its first word, and how many it has
abbrev pub area_start : Sizes → Area → ℕ
area_start z contents = 0
area_start z of_scan = all_handled_word
area_start z spares = first_spare
area_start z of_consumer = content_words
area_start z (of_producer t) = content_words + thread_words * t
area_start z (of_record r) = first_record z + r * record_words z
area_start z of_drain = first_drain z

abbrev pub area_words : Sizes → Area → ℕ
area_words z contents = all_handled_word
area_words z of_scan = 1
area_words z spares = content_words - first_spare
area_words z of_consumer = thread_words
area_words z (of_producer t) = thread_words
area_words z (of_record r) = record_words z
area_words z of_drain = drain_words

-- A write: a value into a cell, or zero into every word of an area.
infix 68 ◌:=◌
pub data Write : Type 0 where
  ◌:=◌ : Cell → ℕ → Write
  clear : Area → Write

-- Zero into the eight words of a thread, into every word of a record, into every word of the drain area.
abbrev pub clear_consumer : Write
clear_consumer = clear of_consumer

abbrev pub clear_producer : ℕ → Write
clear_producer t = clear (of_producer t)

abbrev pub wipe : ℕ → Write
wipe r = clear (of_record r)

abbrev pub clear_drain : Write
clear_drain = clear of_drain

-- A write, and a list of them in order, on the lent words.
abbrev pub write : Sizes → List ℕ → Write → List ℕ
write z m (c := v) = set m (address z c) v
write z m (clear a) = sets m (area_start z a) (replicate (area_words z a) 0)

unfoldable pub writes : Sizes → List ℕ → List Write → List ℕ
writes z m [] = m
writes z m (w ∷ ws) = writes z (write z m w) ws
