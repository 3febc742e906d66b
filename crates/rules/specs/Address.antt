-- Where cells are: a cell that is there has an address inside its area and the store, and an address has one cell.
use Rattle.std.specs.Prelude.{◌≡◌, Bool, true, false, ◌&&◌, cond, leb, ltb}
use Rattle.std.proofs.Math.Path.{refl, ap}
use Rattle.std.proofs.Common.{ap₂, sym, ◌∙◌}
use Prim.Native.Nat.{ℕ, suc, ◌+◌, ◌-◌, ◌*◌, ◌/◌, ◌%◌, ◌≤◌, ◌<◌}
use Rattle.std.proofs.Math.Nat.{mul-le-mul_right}
use native.Mathlib.Omega.{arith}
use Rattle.std.proofs.Math.Arith.{digits_div, digits_mod}
use borrow.Author.Tests.{lt-ltb, le-ltb, ltb-true, le-leb, leb-true}
use Rattle.rules.specs.Sizes.{Sizes, content_words, last_claimed_word, all_handled_word, first_spare, thread_words, record_words, first_record, most_drained, first_drain, store_words}
use Rattle.rules.specs.Cell.{Cell, content, last_claimed, all_handled, spare, consumer, producer, part, entry, drain, pair, address, there, Area, contents, of_scan, spares, of_consumer, of_producer, of_record, of_drain, area_start, area_words}
use Rattle.rules.specs.Update.{area_of, both, and_true}

-- A store of these sizes has the cell.
abbrev pub There : Sizes → Cell → Type 0
There z (content k) = k < last_claimed_word
There z last_claimed = Unit
There z all_handled = Unit
There z (spare k) = first_spare + k < content_words
There z (consumer k) = k < thread_words
There z (producer t k) = (1 ≤ t) × (t ≤ z.P) × (k < thread_words)
There z (part r k) = (r < z.N) × (k < 4)
There z (entry r i k) = (r < z.N) × (i < z.B) × (k < 3)
There z (drain k) = k < 2
There z (pair i k) = (i < most_drained) × (k < 2)

pub there_is : (z : Sizes) (c : Cell) → There z c → there z c ≡ true
there_is z (content k) h = lt-ltb k last_claimed_word h
there_is z last_claimed h = refl
there_is z all_handled h = refl
there_is z (spare k) h = lt-ltb (first_spare + k) content_words h
there_is z (consumer k) h = lt-ltb k thread_words h
there_is z (producer t k) h = and_true (and_true (le-leb 1 t h.0) (le-leb t z.P h.1)) (lt-ltb k thread_words h.2)
there_is z (part r k) h = and_true (lt-ltb r z.N h.0) (lt-ltb k 4 h.1)
there_is z (entry r i k) h = and_true (and_true (lt-ltb r z.N h.0) (lt-ltb i z.B h.1)) (lt-ltb k 3 h.2)
there_is z (drain k) h = lt-ltb k 2 h
there_is z (pair i k) h = and_true (lt-ltb i most_drained h.0) (lt-ltb k 2 h.1)

pub there_has : (z : Sizes) (c : Cell) → there z c ≡ true → There z c
there_has z (content k) e = ltb-true k last_claimed_word e
there_has z last_claimed e = tt
there_has z all_handled e = tt
there_has z (spare k) e = ltb-true (first_spare + k) content_words e
there_has z (consumer k) e = ltb-true k thread_words e
there_has z (producer t k) e =
    let p = both (leb 1 t && leb t z.P) (ltb k thread_words) e in
    let q = both (leb 1 t) (leb t z.P) p.0 in
    (leb-true 1 t q.0, leb-true t z.P q.1, ltb-true k thread_words p.1)
there_has z (part r k) e = let p = both (ltb r z.N) (ltb k 4) e in (ltb-true r z.N p.0, ltb-true k 4 p.1)
there_has z (entry r i k) e =
    let p = both (ltb r z.N && ltb i z.B) (ltb k 3) e in
    let q = both (ltb r z.N) (ltb i z.B) p.0 in
    (ltb-true r z.N q.0, ltb-true i z.B q.1, ltb-true k 3 p.1)
there_has z (drain k) e = ltb-true k 2 e
there_has z (pair i k) e = let p = both (ltb i most_drained) (ltb k 2) e in (ltb-true i most_drained p.0, ltb-true k 2 p.1)

-- A store of these sizes has the area.
abbrev pub AreaThere : Sizes → Area → Type 0
AreaThere z contents = Unit
AreaThere z of_scan = Unit
AreaThere z spares = Unit
AreaThere z of_consumer = Unit
AreaThere z (of_producer t) = (1 ≤ t) × (t ≤ z.P)
AreaThere z (of_record r) = r < z.N
AreaThere z of_drain = Unit

pub area_there : (z : Sizes) (c : Cell) → There z c → AreaThere z (area_of c)
area_there z (content k) h = tt
area_there z last_claimed h = tt
area_there z all_handled h = tt
area_there z (spare k) h = tt
area_there z (consumer k) h = tt
area_there z (producer t k) h = (h.0, h.1)
area_there z (part r k) h = h.0
area_there z (entry r i k) h = h.0
area_there z (drain k) h = tt
area_there z (pair i k) h = tt

-- A cell is in its area, and an area in the store.
pub address_in : (z : Sizes) (c : Cell) → There z c
    → (area_start z (area_of c) ≤ address z c) × (address z c < area_start z (area_of c) + area_words z (area_of c))
address_in z (content k) h = omega arith
address_in z last_claimed h = omega arith
address_in z all_handled h = omega arith
address_in z (spare k) h = omega arith
address_in z (consumer k) h = omega arith
address_in z (producer t k) h = omega arith
address_in z (part r k) h = omega arith
address_in z (entry r i k) h = omega arith
address_in z (drain k) h = omega arith
address_in z (pair i k) h = omega arith

pub area_below : (z : Sizes) (a : Area) → AreaThere z a → area_start z a + area_words z a ≤ store_words z
area_below z contents h = omega arith
area_below z of_scan h = omega arith
area_below z spares h = omega arith
area_below z of_consumer h = omega arith
area_below z (of_producer t) h = omega arith
area_below z (of_record r) h = omega (arith, mul-le-mul_right (record_words z) h)
area_below z of_drain h = omega arith

pub address_below : (z : Sizes) (c : Cell) → There z c → address z c < store_words z
address_below z c h = omega (arith, address_in z c h, area_below z (area_of c) (area_there z c h))

-- The cell at an address: the areas follow one another.
unfoldable pub in_record : (r offset : ℕ) → Cell
in_record r o = cond (ltb o 4) (part r o) (entry r ((o - 4) / 3) ((o - 4) % 3))

unfoldable pub in_drain : (offset : ℕ) → Cell
in_drain o = cond (ltb o 2) (drain o) (pair ((o - 2) / 2) ((o - 2) % 2))

unfoldable pub in_scan : (offset : ℕ) → Cell
in_scan o = cond (ltb o 1) all_handled (spare (o - 1))

unfoldable pub in_contents : (offset : ℕ) → Cell
in_contents o = cond (ltb o last_claimed_word) (content o) (cond (ltb o all_handled_word) last_claimed (in_scan (o - all_handled_word)))

unfoldable pub cell_at : Sizes → ℕ → Cell
cell_at z n =
    cond (ltb n content_words) (in_contents n)
    (cond (ltb n (content_words + thread_words)) (consumer (n - content_words))
    (cond (ltb n (first_record z)) (producer ((n - content_words) / thread_words) ((n - content_words) % thread_words))
    (cond (ltb n (first_drain z)) (in_record ((n - first_record z) / record_words z) ((n - first_record z) % record_words z))
    (in_drain (n - first_drain z)))))

module _ (z : Sizes) where
  -- the cell k words into an area
  at_contents : (o : ℕ) → o < content_words → cell_at z o ≡ in_contents o
  unfolding cell_at
  at_contents o h = rw (lt-ltb o content_words h)

  at_scan : (o : ℕ) → o < content_words - all_handled_word → cell_at z (all_handled_word + o) ≡ in_scan o
  unfolding in_contents
  at_scan o h =
      at_contents (all_handled_word + o) (omega arith)
      ∙ rw (le-ltb (all_handled_word + o) last_claimed_word (omega arith), le-ltb (all_handled_word + o) all_handled_word (omega arith)) (ap in_scan (omega arith))

  at_consumer : (k : ℕ) → k < thread_words → cell_at z (content_words + k) ≡ consumer k
  unfolding cell_at
  at_consumer k h =
      rw (le-ltb (content_words + k) content_words (omega arith), lt-ltb (content_words + k) (content_words + thread_words) (omega arith))
      (ap consumer (omega arith))

  at_producer : (t k : ℕ) → 1 ≤ t → t ≤ z.P → k < thread_words → cell_at z (content_words + thread_words * t + k) ≡ producer t k
  unfolding cell_at
  at_producer t k l b h =
      let n : ℕ = content_words + thread_words * t + k in
      let e : n - content_words ≡ t * thread_words + k = omega arith in
      rw (le-ltb n content_words (omega arith), le-ltb n (content_words + thread_words) (omega arith), lt-ltb n (first_record z) (omega arith))
      (ap₂ producer (ap (λ (x : ℕ). x / thread_words) e ∙ digits_div t h) (ap (λ (x : ℕ). x % thread_words) e ∙ digits_mod t h))

  at_record : (r o : ℕ) → r < z.N → o < record_words z → cell_at z (first_record z + r * record_words z + o) ≡ in_record r o
  unfolding cell_at
  at_record r o fits h =
      let n : ℕ = first_record z + r * record_words z + o in
      let e : n - first_record z ≡ r * record_words z + o = omega arith in
      rw (le-ltb n content_words (omega arith), le-ltb n (content_words + thread_words) (omega arith), le-ltb n (first_record z) (omega arith), lt-ltb n (first_drain z) (omega (arith, mul-le-mul_right (record_words z) fits)))
      (ap₂ in_record (ap (λ (x : ℕ). x / record_words z) e ∙ digits_div r h) (ap (λ (x : ℕ). x % record_words z) e ∙ digits_mod r h))

  at_drain : (o : ℕ) → cell_at z (first_drain z + o) ≡ in_drain o
  unfolding cell_at
  at_drain o =
      let n : ℕ = first_drain z + o in
      rw (le-ltb n content_words (omega arith), le-ltb n (content_words + thread_words) (omega arith), le-ltb n (first_record z) (omega arith), le-ltb n (first_drain z) (omega arith))
      (ap in_drain (omega arith))

  -- Every cell that is there is the cell at its address.
  cell_at_lem : (c : Cell) → There z c → cell_at z (address z c) ≡ c
  unfolding in_record in_contents in_scan in_drain
  cell_at_lem (content k) h = at_contents k (omega arith) ∙ rw (lt-ltb k last_claimed_word h) refl
  cell_at_lem last_claimed h = at_contents last_claimed_word (omega arith)
  cell_at_lem all_handled h = at_contents all_handled_word (omega arith)
  cell_at_lem (spare k) h =
      ap (cell_at z) (omega arith)
      ∙ at_scan (suc k) (omega arith)
      ∙ rw (le-ltb (suc k) 1 (omega arith)) (ap spare (omega arith))
  cell_at_lem (consumer k) h = at_consumer k h
  cell_at_lem (producer t k) h = at_producer t k h.0 h.1 h.2
  cell_at_lem (part r k) h = at_record r k h.0 (omega arith) ∙ rw (lt-ltb k 4 h.1) refl
  cell_at_lem (entry r i k) h =
      let e : 4 + 3 * i + k - 4 ≡ i * 3 + k = omega arith in
      at_record r (4 + 3 * i + k) h.0 (omega arith)
      ∙ rw (le-ltb (4 + 3 * i + k) 4 (omega arith))
      (ap₂ (entry r) (ap (λ (x : ℕ). x / 3) e ∙ digits_div i h.2) (ap (λ (x : ℕ). x % 3) e ∙ digits_mod i h.2))
  cell_at_lem (drain k) h = at_drain k ∙ rw (lt-ltb k 2 h) refl
  cell_at_lem (pair i k) h =
      let e : 2 + 2 * i + k - 2 ≡ i * 2 + k = omega arith in
      at_drain (2 + 2 * i + k)
      ∙ rw (le-ltb (2 + 2 * i + k) 2 (omega arith))
      (ap₂ pair (ap (λ (x : ℕ). x / 2) e ∙ digits_div i h.1) (ap (λ (x : ℕ). x % 2) e ∙ digits_mod i h.1))

  -- Address injectivity: two cells at one address are the same.
  pub address_apart : (c d : Cell) → There z c → There z d → address z c ≡ address z d → c ≡ d
  address_apart c d h g e = sym (cell_at_lem c h) ∙ ap (cell_at z) e ∙ cell_at_lem d g

  in-record-area : (r o : ℕ) (b : Bool) → area_of (cond b (part r o) (entry r ((o - 4) / 3) ((o - 4) % 3))) ≡ of_record r
  in-record-area r o true = refl
  in-record-area r o false = refl

  in-drain-area : (o : ℕ) (b : Bool) → area_of (cond b (drain o) (pair ((o - 2) / 2) ((o - 2) % 2))) ≡ of_drain
  in-drain-area o true = refl
  in-drain-area o false = refl

  in-contents-area : (o : ℕ) (b : Bool) → area_of (cond b (content o) last_claimed) ≡ contents
  in-contents-area o true = refl
  in-contents-area o false = refl

  -- Every address in an area is that of one of its cells.
  area_at : (a : Area) → AreaThere z a → (o : ℕ) → o < area_words z a → area_of (cell_at z (area_start z a + o)) ≡ a
  unfolding in_record in_contents in_scan in_drain
  area_at contents h o l =
      ap (λ (x : ℕ). area_of (cell_at z x)) (omega arith)
      ∙ ap area_of (at_contents o (omega arith))
      ∙ rw (lt-ltb o all_handled_word l) (in-contents-area o (ltb o last_claimed_word))
  area_at of_scan h o l = ap area_of (at_scan o (omega arith)) ∙ rw (lt-ltb o 1 l) refl
  area_at spares h o l =
      ap (λ (x : ℕ). area_of (cell_at z x)) (omega arith)
      ∙ ap area_of (at_scan (suc o) (omega arith))
      ∙ rw (le-ltb (suc o) 1 (omega arith)) refl
  area_at of_consumer h o l = ap area_of (at_consumer o l)
  area_at (of_producer t) h o l = ap area_of (at_producer t o h.0 h.1 l)
  area_at (of_record r) h o l = ap area_of (at_record r o h l) ∙ in-record-area r o (ltb o 4)
  area_at of_drain h o l = ap area_of (at_drain o) ∙ in-drain-area o (ltb o 2)

  -- A cell whose address is in an area belongs to it.
  pub in_area : (a : Area) (c : Cell) → AreaThere z a → There z c → area_start z a ≤ address z c → address z c < area_start z a + area_words z a → a ≡ area_of c
  in_area a c ha hc l b =
      sym (area_at a ha (address z c - area_start z a) (omega arith))
      ∙ ap (λ (x : ℕ). area_of (cell_at z x)) (omega arith)
      ∙ ap area_of (cell_at_lem c hc)
