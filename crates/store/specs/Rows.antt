-- What the structs that hold the words of the contents and of a thread say.
use Rattle.std.specs.Prelude.{◌≡◌, List, ℕ, ◌≤◌}
use Rattle.rules.specs.Sizes.{Sizes, most_drained}
use Rattle.rules.specs.Cell as cell
use Rattle.rules.specs.Cell.{reader}
use Rattle.rules.specs.Range.{last_consumer_phase, last_producer_phase}
use Rattle.store.specs.declared.Contents.{Contents}
use Rattle.store.specs.declared.Consumer.{Consumer}
use Rattle.store.specs.declared.Producer.{Producer}
use Rattle.store.specs.declared.Drain.{Drain}

-- Words 6 to 10 of the contents, and the most that each may be.
pub record ReadsContents (z : Sizes) (m : List ℕ) (q : Contents) : Type 0 where
  pub tail : reader z m cell.tail ≡ q.tail
  pub tail_record : reader z m cell.tail_record ≡ q.tail_record
  pub head_record : reader z m cell.head_record ≡ q.head_record
  pub head_position : reader z m cell.head_position ≡ q.head_position
  pub starts : reader z m cell.starts ≡ q.starts
  pub tail_most : q.tail ≤ z.M
  pub tail_record_most : q.tail_record ≤ z.N
  pub head_record_most : q.head_record ≤ z.N
  pub head_position_most : q.head_position ≤ z.M
  pub starts_most : q.starts ≤ z.M

-- Words 0 to 6 of the consumer, and the most that the cursor and the found entry may be.
pub record ReadsConsumer (z : Sizes) (m : List ℕ) (c : Consumer) : Type 0 where
  pub phase : reader z m cell.consumer_phase ≡ c.phase
  pub cursor_record : reader z m cell.cursor_record ≡ c.cursor_record
  pub cursor_position : reader z m cell.cursor_position ≡ c.cursor_position
  pub found_record : reader z m cell.found_record ≡ c.found_record
  pub found_position : reader z m cell.found_position ≡ c.found_position
  pub item_call : reader z m cell.item_number ≡ c.item_call
  pub item_value : reader z m cell.item_value ≡ c.item_value
  pub phase_most : c.phase ≤ last_consumer_phase
  pub cursor_record_most : c.cursor_record ≤ z.N
  pub cursor_position_most : c.cursor_position ≤ z.M
  pub found_record_most : c.found_record ≤ z.N
  pub found_position_most : c.found_position ≤ z.M

-- Words 0 to 6 of producer t, and the most that its position and records may be.
pub record ReadsProducer (z : Sizes) (m : List ℕ) (t : ℕ) (p : Producer) : Type 0 where
  pub phase : reader z m (cell.phase t) ≡ p.phase
  pub call : reader z m (cell.call t) ≡ p.call
  pub value : reader z m (cell.value t) ≡ p.value
  pub position : reader z m (cell.position t) ≡ p.position
  pub held : reader z m (cell.held t) ≡ p.held
  pub claimed : reader z m (cell.claimed t) ≡ p.claimed
  pub backed : reader z m (cell.backed t) ≡ p.backed
  pub phase_most : p.phase ≤ last_producer_phase
  pub position_most : p.position ≤ z.M
  pub held_most : p.held ≤ z.N
  pub claimed_most : p.claimed ≤ z.N

-- The limit and the count of the drain area, and the most that they may be.
pub record ReadsDrain (z : Sizes) (m : List ℕ) (d : Drain) : Type 0 where
  pub limit : reader z m cell.drain_limit ≡ d.limit
  pub count : reader z m cell.drain_count ≡ d.count
  pub limit_most : d.limit ≤ most_drained
  pub count_most : d.count ≤ d.limit
