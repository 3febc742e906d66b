-- How many steps a call has left at the most, as a function of the store. Each accepted step of its own lowers it, and no call of
-- another thread raises it. Records are counted, or positions go along the list of linked records: nothing rests on places being
-- contiguous.
use Rattle.std.specs.Prelude.{Bool, ◌&&◌, cond, [], ◌∷◌, ℕ, zero, suc, ◌+◌, ◌-◌, ◌*◌, ◌/◌, eqb, ltb, leb, get_or}
use Rattle.rules.specs.Sizes.{Sizes}
use Rattle.rules.specs.Cell.{Cell, Reader, tail_record, head_record, head_position, consumer_phase, cursor_record, cursor_position, found_record, found_position, drain_limit, drain_count, phase, position, held, backed, place, used, state}
use Rattle.simulation.specs.View.{places_of, place_of}
use Rattle.progress.specs.Arithmetic.{count, triangle}

-- A thread's phase, 0 while it is idle.
abbrev pub phase_of : (t : ℕ) → Cell
phase_of zero = consumer_phase
phase_of (suc p) = phase (suc p)

-- An enqueue's last load, one that leads to no further round, by a producer that holds a record before its position's: it is followed by
-- N - 2 steps back and phases 8 and 9, or by phases 8 to 11. So many steps: N + 1, and at least 5.
abbrev pub last_steps : Sizes → ℕ
last_steps z = z.N + 1 + (4 - z.N)

-- All that it makes: the take at its start, then at most P positions are past the tail record's, and a round passes a record of B.
abbrev pub most_enqueue : Sizes → ℕ
most_enqueue z = 1 + 5 * ((z.P + z.B - 1) / z.B) + last_steps z

-- A drain's items after its next one: phases 1, 6, 7 and 8 for each, and the handled entries and record ends that are passed before it.
abbrev pub item_steps : Sizes → ℕ
item_steps z = suc z.B * z.N + z.B + 4

-- How many they are, with n marked so far. In phase 8 the next one has been marked. A dequeue has no limit.
abbrev pub items_after : (p limit n : ℕ) → ℕ
items_after p l n = l - cond (eqb p 8) n (suc n)

module _ (z : Sizes) (σ : Reader) where
  -- An enqueue at position L. The records past the one of place k, up to that of L: each round of phases 2 to 6 leaves fewer, since
  -- the tail record has moved on.
  abbrev pub records_ahead : (L k : ℕ) → ℕ
  records_ahead L k = (L + z.B - z.B * k) / z.B

  -- what a step back leaves fewer of: records of places from that of L's record on and below k
  abbrev pub is_between : (L k r : ℕ) → Bool
  is_between L k r = ltb L (z.B * σ (place r)) && ltb (σ (place r)) k

  abbrev pub records_back : (L k : ℕ) → ℕ
  records_back L k = count z.N (is_between L k)

  -- the rounds from a load of the record of place k on, and the last load
  abbrev pub round_steps : (L k : ℕ) → ℕ
  round_steps L k = 5 * records_ahead L k + last_steps z

  -- phase 2 with h the held record, 0 for none, in place k, and the tail record in place tp: one that does not hold a record before L's may
  -- have one more to go back over
  abbrev pub load_steps : (L h k tp : ℕ) → ℕ
  load_steps L h k tp = round_steps L tp + (cond (ltb 0 h && leb (z.B * k) L) 0 1 - records_ahead L tp)

  -- by its phase, its position, the places of the held and of the tail record, the held record, and whether phase 7 was taken
  abbrev pub enqueue_at : (p L k tp h b : ℕ) → ℕ
  enqueue_at p L k tp h b =
      get_or
      (0
      ∷ 0
      ∷ load_steps L h k tp
      ∷ (4 + round_steps L (suc k))
      ∷ (3 + round_steps L (suc k))
      ∷ (2 + round_steps L (suc k))
      ∷ (1 + round_steps L (suc k))
      ∷ (2 + records_back L k)
      ∷ cond (eqb b 0) 4 2
      ∷ cond (eqb b 0) 3 1
      ∷ 2
      ∷ 1
      ∷ [])
      p
      0

  unfoldable pub enqueue_left : (t : ℕ) → ℕ
  enqueue_left t =
      enqueue_at (σ (phase t)) (σ (position t)) (place_of (places_of σ) (σ (held t))) (place_of (places_of σ) (σ tail_record)) (σ (held t)) (σ (backed t))

  -- A dequeue. The linked records of a smaller place than k; those whose first entry is handled.
  abbrev pub rank : (k : ℕ) → ℕ
  rank k = count z.N (λ r. eqb (σ (used r)) 2 && ltb (σ (place r)) k)

  abbrev pub first_handled : ℕ
  first_handled = count z.N (λ r. eqb (σ (used r)) 2 && eqb (σ (state r 0)) 2)

  -- the steps of a rescan from the first linked record's beginning to position p in the record of place k: one for each entry and
  -- each crossing
  abbrev pub along : (p k : ℕ) → ℕ
  along p k = suc z.B * rank k + (p + z.B - z.B * k)

  -- all rescans together: every one finds a nearer entry
  abbrev pub rescans : ℕ
  rescans = triangle (z.N * suc z.B)

  -- phase 4, 3 with one more: a scan from position c in the record of place k, two steps for each entry and one for each crossing,
  -- and the rescans
  abbrev pub look_steps : (c k : ℕ) → ℕ
  look_steps c k = suc (2 * z.B) * (z.N - rank k + first_handled) + 2 * (z.B * k - c) + rescans

  -- phase 2
  abbrev pub read_steps : ℕ
  read_steps = suc (2 * z.B) * (z.N + first_handled) + 2 * z.B + rescans

  -- phase 1 with the head at position hp in the record of place lo: handled entries are passed, and records of those. A drain that has marked
  -- n items, one or more, then takes one more or ends.
  abbrev pub front_steps : (hp lo n : ℕ) → ℕ
  front_steps hp lo n = suc z.B * first_handled + (z.B * lo - hp) + 1 + cond (eqb n 0) read_steps 3

  -- phase 5 with the cursor at c in the record of place k, found at f in that of place g
  abbrev pub rescan_steps : (c k f g : ℕ) → ℕ
  rescan_steps c k f g = triangle (along f g) + (along f g - along c k) + 3

  -- by its phase, the head, the cursor, found, and the items marked: a dequeue's, and a drain's up to its next item
  abbrev pub dequeue_at : (p hp lo c k f g n : ℕ) → ℕ
  dequeue_at p hp lo c k f g n =
      get_or (0 ∷ front_steps hp lo n ∷ read_steps ∷ suc (look_steps c k) ∷ look_steps c k ∷ rescan_steps c k f g ∷ 3 ∷ 2 ∷ 1 ∷ []) p 0

  unfoldable pub consumer_left : ℕ
  consumer_left =
      dequeue_at (σ consumer_phase) (σ head_position) (place_of (places_of σ) (σ head_record)) (σ cursor_position) (place_of (places_of σ) (σ cursor_record))
      (σ found_position)
      (place_of (places_of σ) (σ found_record))
      (σ drain_count)
      + item_steps z * items_after (σ consumer_phase) (σ drain_limit) (σ drain_count)

  -- of either kind, by its thread
  abbrev pub steps_left : (t : ℕ) → ℕ
  steps_left zero = consumer_left
  steps_left (suc p) = enqueue_left (suc p)
