-- Laws of the accessors: a cell that is there is one word, a word in range is at most its cap, and zeros written one by one.
use Rattle.std.specs.Prelude.{◌≡◌, refl, Bool, true, false, ◌&&◌, ◌||◌, cond, List, [], ◌∷◌, ◌++◌, ℕ, zero, suc, ◌+◌, ◌*◌, ◌≤◌, ◌<◌, leb, ltb, eqb, length, get_or}
use Rattle.std.proofs.Common.{ap, sym, ◌∙◌, subst, mul-le-mul_left, mul-le-mul_right, arith, ne_eqb, leb-true, eqb-true}
use Rattle.rules.specs.Sizes.{Sizes, content_words, thread_words, record_words, first_record, most_entries, most_records, most_place, most_drained}
use Rattle.rules.specs.Cell.{Cell, content, last_claimed, all_handled, spare, consumer, producer, part, entry, drain, pair, consumer_phase, drain_limit, drain_count, step_count, address, reader, Write, write, writes}
use Rattle.rules.specs.Update.{both, true_false}
use Rattle.rules.specs.Range.{Sort, unused, exactly, number, link, record_number, most, any, nothing, of_sort, of_sorts, every, thread_in_range, pair_in_range, pair_sorts, no_pair_sorts, placed_sorts, consumer_sorts, producer_sorts, content_sorts, last_claimed_sort, last_consumer_phase, last_producer_phase, most_all_handled}
use Rattle.rules.specs.Address.{There, there_is}
use Rattle.rules.specs.InRange.{sorts_at, row_at_lem, every_at, sort_of}
use Rattle.store.specs.Caps.{most_record_words, cap, cap_of, most_word, producer_caps, consumer_caps, content_caps}
use Rattle.store.specs.Store.{Room, Admitted, Reads}

-- a cell that is there is the word at its address
pub word_at : (z : Sizes) (m : List ℕ) (c : Cell) → There z c → reader z m c ≡ get_or m (address z c) 0
unfolding reader
word_at z m c h = rw (there_is z c h)

-- a word of a sort is at most the sort's cap
sort_cap : (z : Sizes) (s : Sort) (x : ℕ) → x ≤ most_word → of_sort z s x ≡ true → x ≤ cap z s
sort_cap z unused x w e = omega (arith, eqb-true x 0 e)
sort_cap z (exactly n) x w e = omega (arith, eqb-true x n e)
sort_cap z number x w e = leb-true x z.M e
sort_cap z link x w e = leb-true x z.N e
sort_cap z record_number x w e = leb-true x z.N (both (leb 1 x) (leb x z.N) e).1
sort_cap z (most n) x w e = leb-true x n e
sort_cap z any x w e = w
sort_cap z nothing x w e = absurd (true_false e refl)

-- the caps of the sorts are within these
abbrev Under : Sizes → List Sort → List ℕ → Type 0
Under z [] [] = Unit
Under z [] (b ∷ bs) = ⊥
Under z (s ∷ ss) [] = ⊥
Under z (s ∷ ss) (b ∷ bs) = (cap z s ≤ b) × Under z ss bs

under_at : (z : Sizes) (ss : List Sort) (bs : List ℕ) → Under z ss bs → (j : ℕ) → j < length bs → cap z (get_or ss j any) ≤ get_or bs j 0
under_at z [] [] u j h = absurd (omega arith)
under_at z [] (b ∷ bs) u j h = absurd u
under_at z (s ∷ ss) [] u j h = absurd u
under_at z (s ∷ ss) (b ∷ bs) u zero h = u.0
under_at z (s ∷ ss) (b ∷ bs) u (suc j) h = under_at z ss bs u.1 j (omega arith)

-- the rows of a table, each within these
abbrev Rows : Sizes → List (List Sort) → List ℕ → Type 0
Rows z [] bs = Unit
Rows z (ss ∷ rows) bs = Under z ss bs × Rows z rows bs

row_under : (z : Sizes) (rows : List (List Sort)) (bs : List ℕ) → Rows z rows bs → (p : ℕ) → p < length rows → Under z (get_or rows p []) bs
row_under z [] bs u p h = absurd (omega arith)
row_under z (ss ∷ rows) bs u zero h = u.0
row_under z (ss ∷ rows) bs u (suc p) h = row_under z rows bs u.1 p (omega arith)

-- a thread's words 1 to 7 in any phase
producer_rows : (z : Sizes) → Rows z producer_sorts (producer_caps z)
producer_rows z =
    let placed : Under z placed_sorts (producer_caps z) = omega arith in
    (omega arith, (omega arith, (placed, (placed, (placed, (omega arith, (placed, (placed, (placed, (placed, (omega arith, (omega arith, tt))))))))))))

consumer_rows : (z : Sizes) → 1 ≤ z.M → Rows z consumer_sorts (consumer_caps z)
consumer_rows z h =
    (omega arith, (omega arith, (omega arith, (omega arith, (omega arith, (omega arith, (omega arith, (omega arith, (omega arith, tt)))))))))

-- two rows of the same length
under_length : (z : Sizes) (ss : List Sort) (bs : List ℕ) → Under z ss bs → length bs ≤ length ss
under_length z [] [] u = omega arith
under_length z [] (b ∷ bs) u = absurd u
under_length z (s ∷ ss) [] u = absurd u
under_length z (s ∷ ss) (b ∷ bs) u = let h = under_length z ss bs u.1 in omega arith

-- a word of a thread whose phase is at most `last` is within the caps, if the sorts of every phase are
thread_cap : (z : Sizes) (last : ℕ) (sorts : List (List Sort)) (bs : List ℕ) (row : ℕ → ℕ)
    → ((p : ℕ) → p ≤ last → Under z (get_or sorts p []) bs)
    → thread_in_range z last sorts row ≡ true → (k : ℕ) → k < suc (length bs) → row k ≤ most_word → row k ≤ get_or (last ∷ bs) k 0
thread_cap z last sorts bs row under e zero h w =
    leb-true (row 0) last (both (leb (row 0) last) (of_sorts z row 1 (get_or sorts (row 0) [])) e).0
thread_cap z last sorts bs row under e (suc j) h w =
    let b = both (leb (row 0) last) (of_sorts z row 1 (get_or sorts (row 0) [])) e in
    let u = under (row 0) (leb-true (row 0) last b.0) in
    let n = under_length z (get_or sorts (row 0) []) bs u in
    let x = sort_cap z (get_or (get_or sorts (row 0) []) j any) (row (suc j)) w (sorts_at z row 1 (get_or sorts (row 0) []) b.1 j (suc j) (omega arith) (omega arith)) in
    let y = under_at z (get_or sorts (row 0) []) bs u j (omega arith) in
    omega arith

part_cap : (z : Sizes) (k : ℕ) → k < 4 → cap z (sort_of z (part 0 k)) ≤ cap_of z (part 0 k)
part_cap z zero h = omega arith
part_cap z (suc zero) h = omega arith
part_cap z (suc (suc zero)) h = omega arith
part_cap z (suc (suc (suc zero))) h = omega arith
part_cap z (suc (suc (suc (suc k)))) h = absurd (omega arith)

entry_cap : (z : Sizes) (k : ℕ) → k < 3 → cap z (sort_of z (entry 0 0 k)) ≤ cap_of z (entry 0 0 k)
entry_cap z zero h = omega arith
entry_cap z (suc zero) h = omega arith
entry_cap z (suc (suc zero)) h = omega arith
entry_cap z (suc (suc (suc k))) h = absurd (omega arith)

spare_cap : (z : Sizes) (k : ℕ) → k < 3 → cap z (sort_of z (spare k)) ≤ cap_of z (spare k)
spare_cap z zero h = omega arith
spare_cap z (suc zero) h = omega arith
spare_cap z (suc (suc zero)) h = omega arith
spare_cap z (suc (suc (suc k))) h = absurd (omega arith)

-- what the scan has read is at most 1, whatever the phase
all_handled_cap : (x p : ℕ) → leb x (most_all_handled p) ≡ true → x ≤ 1
all_handled_cap x p e = go (eqb p 3 || eqb p 4) e
  where
    go : (b : Bool) → leb x (cond b 1 0) ≡ true → x ≤ 1
    go true e = leb-true x 1 e
    go false e = let h = leb-true x 0 e in omega arith

content_under : (z : Sizes) → first_record z ≤ most_word → Under z (content_sorts z) (content_caps z)
content_under z f = omega arith

-- The drain area: the limit is at most 64, the count at most the limit, and a pair is one of items, or zero.
module _ {z : Sizes} {m : List ℕ} (a : Admitted z m) where
  -- the three tests
  in_area : (leb (reader z m drain_limit) (cond (eqb (reader z m consumer_phase) 0) 0 most_drained) ≡ true)
      × (leb (reader z m drain_count) (reader z m drain_limit) ≡ true)
      × (every most_drained (pair_in_range z (reader z m drain_count) (λ i k. reader z m (pair i k))) ≡ true)
  in_area =
      let pairs : Bool = every most_drained (pair_in_range z (reader z m drain_count) (λ i k. reader z m (pair i k))) in
      let count : Bool = leb (reader z m drain_count) (reader z m drain_limit) in
      let p = both (leb (reader z m drain_limit) (cond (eqb (reader z m consumer_phase) 0) 0 most_drained)) (count && pairs) a.ranges.draining in
      let q = both count pairs p.1 in
      (p.0, q.0, q.1)

  pub drain_most : (reader z m drain_limit ≤ most_drained) × (reader z m drain_count ≤ reader z m drain_limit)
  drain_most =
      let q = in_area in
      (go (eqb (reader z m consumer_phase) 0) q.0, leb-true (reader z m drain_count) (reader z m drain_limit) q.1)
    where
      go : (idle : Bool) → leb (reader z m drain_limit) (cond idle 0 most_drained) ≡ true → reader z m drain_limit ≤ most_drained
      go true e = let h = leb-true (reader z m drain_limit) 0 e in omega arith
      go false e = leb-true (reader z m drain_limit) most_drained e

  pair_cap : (i k : ℕ) → i < most_drained → k < 2 → reader z m (pair i k) ≤ most_word → reader z m (pair i k) ≤ cap_of z (pair i k)
  pair_cap i k h l w =
      let q = in_area in
      go (ltb i (reader z m drain_count)) k l w (every_at most_drained (pair_in_range z (reader z m drain_count) (λ i k. reader z m (pair i k))) q.2 i h)
    where
      go : (kept : Bool) (k : ℕ) → k < 2 → reader z m (pair i k) ≤ most_word
          → of_sorts z (λ k. reader z m (pair i k)) 0 (cond kept pair_sorts no_pair_sorts) ≡ true → reader z m (pair i k) ≤ cap_of z (pair i k)
      go true zero l w e = sort_cap z number (reader z m (pair i 0)) w (row_at_lem z (λ k. reader z m (pair i k)) pair_sorts e 0 l)
      go true (suc zero) l w e = w
      go true (suc (suc k)) l w e = absurd (omega arith)
      go false zero l w e =
          let x = sort_cap z unused (reader z m (pair i 0)) w (row_at_lem z (λ k. reader z m (pair i k)) no_pair_sorts e 0 l) in
          omega arith
      go false (suc zero) l w e = w
      go false (suc (suc k)) l w e = absurd (omega arith)

-- a word in range is at most its cap
in-range-most : (z : Sizes) (m : List ℕ) → Admitted z m → (c : Cell) → There z c → reader z m c ≤ most_word → reader z m c ≤ cap_of z c
in-range-most z m a (content k) h w =
    let x = sort_cap z (get_or (content_sorts z) k any) (reader z m (content k)) w (a.ranges.words (content k) h) in
    let y = under_at z (content_sorts z) (content_caps z) (content_under z (omega arith)) k h in
    omega arith
in-range-most z m a last_claimed h w = sort_cap z last_claimed_sort (reader z m last_claimed) w (a.ranges.words last_claimed h)
in-range-most z m a all_handled h w = all_handled_cap (reader z m all_handled) (reader z m consumer_phase) a.ranges.scanning
in-range-most z m a (spare k) h w =
    let x = sort_cap z (sort_of z (spare k)) (reader z m (spare k)) w (a.ranges.words (spare k) h) in
    let y = spare_cap z k (omega arith) in
    omega arith
in-range-most z m a (consumer k) h w =
    thread_cap z last_consumer_phase consumer_sorts (consumer_caps z) (λ j. reader z m (consumer j)) (λ p l. row_under z consumer_sorts (consumer_caps z) (consumer_rows z a.room.starts_least) p (omega arith)) a.ranges.consuming k h w
in-range-most z m a (producer t k) h w =
    thread_cap z last_producer_phase producer_sorts (producer_caps z) (λ j. reader z m (producer t j)) (λ p l. row_under z producer_sorts (producer_caps z) (producer_rows z) p (omega arith)) (a.ranges.producing t h.0 h.1) k h.2 w
in-range-most z m a (part r k) h w =
    let x = sort_cap z (sort_of z (part r k)) (reader z m (part r k)) w (a.ranges.words (part r k) h) in
    let y = part_cap z k h.1 in
    omega arith
in-range-most z m a (entry r i k) h w =
    let x = sort_cap z (sort_of z (entry r i k)) (reader z m (entry r i k)) w (a.ranges.words (entry r i k) h) in
    let y = entry_cap z k h.2 in
    omega arith
in-range-most z m a (drain zero) h w = (drain_most a).0
in-range-most z m a (drain (suc zero)) h w = let d = drain_most a in omega arith
in-range-most z m a (drain (suc (suc k))) h w = absurd (omega arith)
in-range-most z m a (pair i k) h w = pair_cap a i k h.0 h.1 w

-- What a read of the word at a cell's address answers.
pub reads_word : (z : Sizes) (m : List ℕ) (c : Cell) → Admitted z m → There z c → (at : ℕ) → at ≡ address z c → get_or m at 0 ≤ most_word → Reads z m c (get_or m at 0)
reads_word z m c a h at e w =
    let i : reader z m c ≡ get_or m at 0 = word_at z m c h ∙ ap (λ (x : ℕ). get_or m x 0) (sym e) in
    record { is = i; most = subst (λ (x : ℕ). x ≤ cap_of z c) i (in-range-most z m a c h (rw i w)) }

-- where a thread's step count is
pub step_count_there : (z : Sizes) (t : ℕ) → t ≤ z.P → There z (step_count t)
step_count_there z zero h = omega arith
step_count_there z (suc t) h = rw (ne_eqb (suc t) 0 (λ e. omega arith)) (omega arith)

pub step_count_at : (z : Sizes) (t : ℕ) → content_words + thread_words * t + 7 ≡ address z (step_count t)
step_count_at z zero = refl
step_count_at z (suc t) = rw (ne_eqb (suc t) 0 (λ e. omega arith)) refl

-- one list of writes, then another
pub writes_then : (z : Sizes) (m : List ℕ) (ws vs : List Write) → writes z m (ws ++ vs) ≡ writes z (writes z m ws) vs
unfolding writes
writes_then z m [] vs = refl
writes_then z m (w ∷ ws) vs = writes_then z (write z m w) ws vs

-- the words of so many records
pub records_below : (w r : ℕ) → w ≤ most_record_words → r ≤ most_records → r * w ≤ most_records * most_record_words
records_below w r b h = omega (arith, mul-le-mul_right w h, mul-le-mul_left most_records b)

-- a record is in the lent words
pub record_inside : (z : Sizes) (m : List ℕ) (r : ℕ) → Room z m → r < z.N → first_record z + r * record_words z + record_words z ≤ length m
record_inside z m r room h = omega (arith, mul-le-mul_right (record_words z) h)

-- B × place fits
pub end_below : (B q : ℕ) → B ≤ most_entries → q ≤ most_place → B * q ≤ most_entries * most_place
end_below B q b h = omega (arith, mul-le-mul_right q b, mul-le-mul_left most_entries h)
