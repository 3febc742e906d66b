-- The consumer's phases 1 to 8 (document 01, "Calls"; document 02, U2, U5 and U6). Each rule stands under the sentence that it renders.
-- A drain runs the phases of a dequeue.
use Rattle.std.specs.Prelude.{Bool, ◌&&◌, ◌||◌, not, cond, List, [], ◌∷◌, ◌++◌, ℕ, zero, suc, eqb, get_or}
use Rattle.history.specs.Linearization.{Item}
use Rattle.rules.specs.Sizes.{Sizes}
use Rattle.rules.specs.Cell.{Reader, Write, ◌:=◌, clear_consumer, clear_drain, tail, tail_record, head_record, head_position, all_handled, consumer_phase, cursor_record, cursor_position, found_record, found_position, item_number, item_value, scanned, drain_limit, drain_count, pair_number, pair_value, next, prev, used, state, entry_number, entry_value}
use Rattle.rules.specs.Rule.{Effect, refuse, reply, empty, item, drained, goes, need, up_to, at_end, inside, cross}

-- an entry's state by cases: empty, set, handled
abbrev pub by_state : ℕ → Effect → Effect → Effect → Effect
by_state zero blank set handled = blank
by_state (suc zero) blank set handled = set
by_state (suc (suc s)) blank set handled = handled

-- The items that a drain has marked: its first n pairs, in order.
abbrev pub pair_at : Reader → ℕ → Item
pair_at σ i = record { number = σ (pair_number i); value = σ (pair_value i) }

abbrev pub items_marked : Reader → (n : ℕ) → List Item
items_marked σ zero = []
items_marked σ (suc n) = items_marked σ n ++ (pair_at σ n ∷ [])

module _ (z : Sizes) (σ : Reader) where
  -- By the call that is under way: a drain has a limit, a dequeue none.
  abbrev pub by_call : (dequeue drain : Effect) → Effect
  by_call dequeue drain = cond (eqb (σ drain_limit) 0) dequeue drain

  -- The dequeue ends and answers empty. A drain ends with the items that it has marked, 0 for none; what it used is zero.
  abbrev pub ends_empty : Effect
  ends_empty =
      by_call (reply empty (all_handled := 0 ∷ clear_consumer ∷ []))
      (reply (drained (items_marked σ (σ drain_count))) (all_handled := 0 ∷ clear_consumer ∷ clear_drain ∷ []))

  -- A dequeue replies its item. Its writes come after these.
  abbrev pub replies_item : List Write → Effect
  replies_item ws = reply (item (σ item_number) (σ item_value)) (ws ++ (clear_consumer ∷ []))

  -- Where a dequeue replies its item, a drain that has marked n items goes back to phase 1, replying going, or ends if the limit is reached,
  -- or if its first front was not set: then it acts as one dequeue and ends with it.
  abbrev pub goes_on : (n : ℕ) → List Item → List Write → Effect
  goes_on n items ws =
      cond (eqb n (σ drain_limit) || eqb (σ scanned) 1)
      (reply (drained items) (ws ++ (clear_consumer ∷ clear_drain ∷ [])))
      (goes
      (ws
      ++ (found_record := 0
      ∷ found_position := 0
      ∷ item_number := 0
      ∷ item_value := 0
      ∷ consumer_phase := 1
      ∷ [])))

  -- The move past the end of the head record h: next becomes head record, head position its first, the old one is retired.
  abbrev pub move_head : (h : ℕ) → (List Write → Effect) → Effect
  move_head h f = cross z σ h λ n p. f (head_record := suc n ∷ head_position := p ∷ used h := 3 ∷ [])

  -- 1. Front. At the end of the head record: empty if it is also the tail record; otherwise next becomes head record, head
  -- position its first, the old one is retired; stay. Else read the entry: handled advances the head; set goes to 6 with found
  -- the head; empty goes to 2. A drain that has marked an item ends there: it goes on while the front entry is set.
  unfoldable pub front : Effect
  front =
      need (σ head_record)
      λ h. cond (at_end z σ h (σ head_position))
      (cond (eqb (σ tail_record) (suc h)) ends_empty (move_head h goes))
      (inside z σ h (σ head_position)
      λ i. by_state (σ (state h i))
      (cond (eqb (σ drain_count) 0) (goes (consumer_phase := 2 ∷ [])) ends_empty)
      (goes (found_record := suc h ∷ found_position := σ head_position ∷ consumer_phase := 6 ∷ []))
      (up_to z.M (suc (σ head_position)) (goes (head_position := suc (σ head_position) ∷ []))))

  -- 2. Read tail: equal to the head position is empty; otherwise the cursor is the next position; to 3.
  unfoldable pub read_tail : Effect
  read_tail =
      cond (eqb (σ tail) (σ head_position)) ends_empty
      (up_to z.M (suc (σ head_position))
      (goes (cursor_record := σ head_record ∷ cursor_position := suc (σ head_position) ∷ consumer_phase := 3 ∷ [])))

  -- The scan crosses to record n, at position p, and enters it at its first entry.
  abbrev pub entered : (n p : ℕ) → List Write
  entered n p = cursor_record := suc n ∷ cursor_position := p ∷ all_handled := 1 ∷ []

  -- Record r is folded: its prev q and its next n are joined to each other, and it is retired. It keeps its own links.
  abbrev pub folded : (r q n : ℕ) → List Write
  folded r q n = next q := suc n ∷ prev n := suc q ∷ used r := 3 ∷ []

  -- The scan has read all entries of record r as handled, and it is not the head record.
  abbrev pub is_read : (r : ℕ) → Bool
  is_read r = eqb (σ all_handled) 1 && not (eqb (σ head_record) (suc r))

  -- The crossing of the scan out of record r, which is not the tail record. If it is read, the same step folds it.
  abbrev pub scan_crosses : (r : ℕ) → Effect
  scan_crosses r =
      cross z σ r λ n p. cond (is_read r) (need (σ (prev r)) λ q. goes (folded r q n ++ entered n p)) (goes (entered n p))

  -- 3. If the cursor stands at its record's end: empty if that is the tail record, otherwise cross to next, the cursor at its
  -- first position (so in every crossing); stay. Else read tail: cursor at tail is empty; otherwise to 4.
  unfoldable pub scan : Effect
  scan =
      need (σ cursor_record)
      λ r. cond (at_end z σ r (σ cursor_position))
      (cond (eqb (σ tail_record) (suc r)) ends_empty (scan_crosses r))
      (cond (eqb (σ cursor_position) (σ tail)) ends_empty (goes (consumer_phase := 4 ∷ [])))

  -- What the scan has read, with entry i of record r.
  abbrev pub still_handled : (r i : ℕ) → ℕ
  still_handled r i = cond (eqb (σ (state r i)) 2) (σ all_handled) 0

  -- 4. Read the entry: set makes it found, and the cursor returns to the head; to 5. Otherwise advance; to 3.
  unfoldable pub read_entry : Effect
  read_entry =
      need (σ cursor_record)
      λ r. inside z σ r (σ cursor_position)
      λ i. cond (eqb (σ (state r i)) 1)
      (goes
      (found_record := suc r
      ∷ found_position := σ cursor_position
      ∷ cursor_record := σ head_record
      ∷ cursor_position := σ head_position
      ∷ all_handled := 0
      ∷ consumer_phase := 5
      ∷ []))
      (up_to z.M (suc (σ cursor_position))
      (goes (cursor_position := suc (σ cursor_position) ∷ all_handled := still_handled r i ∷ consumer_phase := 3 ∷ [])))

  -- When the cursor's position then equals that of found, the same step goes to 6; otherwise stay. (What moved is written
  -- first; in 6 the cursor is not in use, and a drain notes that it came through the scan.)
  abbrev pub through_scan : ℕ
  through_scan = cond (eqb (σ drain_limit) 0) 0 1

  abbrev pub rescanned : (cursor found : ℕ) → List Write → List Write → Effect
  rescanned cursor found stays moved =
      cond (eqb cursor found) (goes (moved ++ (cursor_record := 0 ∷ scanned := through_scan ∷ consumer_phase := 6 ∷ []))) (goes (moved ++ stays))

  -- 5. Rescan from the head, head included, to the position before found, that one included. One step either crosses, when the
  -- cursor stands at a record's end, or reads one entry. A set entry becomes found and the cursor returns to the head; any
  -- other is passed by one position.
  unfoldable pub rescan : Effect
  rescan =
      need (σ cursor_record)
      λ r. cond (at_end z σ r (σ cursor_position))
      (cross z σ r λ n p. rescanned p (σ found_position) (cursor_record := suc n ∷ cursor_position := p ∷ []) [])
      (inside z σ r (σ cursor_position)
      λ i. cond (eqb (σ (state r i)) 1)
      (rescanned (σ head_position) (σ cursor_position)
      (cursor_record := σ head_record ∷ cursor_position := σ head_position ∷ [])
      (found_record := suc r ∷ found_position := σ cursor_position ∷ []))
      (up_to z.M (suc (σ cursor_position))
      (rescanned (suc (σ cursor_position)) (σ found_position) (cursor_position := suc (σ cursor_position) ∷ []) [])))

  -- 6. Read call number and value; to 7.
  unfoldable pub read_item : Effect
  read_item =
      need (σ found_record)
      λ r. inside z σ r (σ found_position)
      λ i. goes (item_number := σ (entry_number r i) ∷ item_value := σ (entry_value r i) ∷ consumer_phase := 7 ∷ [])

  -- The head record is drained by a head at position p: it ends there, and it is not the tail record.
  abbrev pub drained_at : (h p : ℕ) → Bool
  drained_at h p = at_end z σ h p && not (eqb (σ tail_record) (suc h))

  -- Mark handled entry i of record r, which is found; if found is the head position, it advances. If that brings the head to the head record's
  -- end and the head record is not the tail record, to 8; otherwise what follows gets these writes. The item is kept by these.
  abbrev pub marks : (r i : ℕ) (kept : List Write) → (List Write → Effect) → Effect
  marks r i kept f =
      cond (eqb (σ found_position) (σ head_position))
      (up_to z.M (suc (σ head_position))
      (need (σ head_record)
      λ h. cond (drained_at h (suc (σ head_position)))
      (goes
      (state r i := 2
      ∷ head_position := suc (σ head_position)
      ∷ found_record := 0
      ∷ found_position := 0
      ∷ consumer_phase := 8
      ∷ kept))
      (f (state r i := 2 ∷ head_position := suc (σ head_position) ∷ kept))))
      (f (state r i := 2 ∷ kept))

  -- A drain keeps the item from its mark: the next pair, and the count one more.
  abbrev pub keep_item : List Write
  keep_item =
      pair_number (σ drain_count) := σ item_number
      ∷ pair_value (σ drain_count) := σ item_value
      ∷ drain_count := suc (σ drain_count)
      ∷ []

  -- 7. Mark handled; if found is the head position, it advances. Reply item, or to 8. Refusal 9 of a drain: the count would pass the limit.
  unfoldable pub mark_handled : Effect
  mark_handled =
      need (σ found_record)
      λ r. inside z σ r (σ found_position)
      λ i. by_call (marks r i [] replies_item)
      (up_to (σ drain_limit) (suc (σ drain_count))
      (marks r i keep_item
      (goes_on (suc (σ drain_count)) (items_marked σ (σ drain_count) ++ (record { number = σ item_number; value = σ item_value } ∷ [])))))

  -- 8. The move and retirement of phase 1. Reply item.
  unfoldable pub retire_head : Effect
  retire_head =
      need (σ head_record)
      λ h. move_head h λ moved. by_call (replies_item moved) (goes_on (σ drain_count) (items_marked σ (σ drain_count)) moved)

-- The consumer's rule in each phase; refusal 7 while it is idle.
abbrev pub consumer_rules : List (Sizes → Reader → Effect)
consumer_rules = (λ z σ. refuse 7) ∷ front ∷ read_tail ∷ scan ∷ read_entry ∷ rescan ∷ read_item ∷ mark_handled ∷ retire_head ∷ []

unfoldable pub consumer_step : Sizes → Reader → Effect
consumer_step z σ = get_or consumer_rules (σ (consumer_phase)) (λ z σ. refuse 7) z σ
