-- Ranges word by word, and their law: writes in range keep the store in range.
use Rattle.std.specs.Prelude.{◌≡◌, Bool, false, ◌&&◌, cond, List, [], ◌∷◌, leb, length, get_or}
use Rattle.std.proofs.Math.Path.{refl, subst⁻¹, fun_ext}
use Rattle.std.proofs.Common.{ap, ap₂, sym, ◌∙◌, subst, zero-add, arith, le-leb}
use Rattle.std.proofs.Math.Bool.{true}
use Prim.Native.Nat.{ℕ, zero, suc, ◌+◌, ◌≤◌, ◌<◌}
use Rattle.std.proofs.Math.Decide.{dec_lt, ℕ_discrete}
use Rattle.history.specs.Lists.{All}
use Rattle.rules.specs.Sizes.{Sizes}
use Rattle.rules.specs.Cell.{Cell, content, last_claimed, all_handled, spare, consumer, producer, part, entry, drain, pair, Reader, Area, contents, of_scan, spares, of_consumer, of_producer, of_record, of_drain, Write, ◌:=◌, clear}
use Rattle.rules.specs.Range.{Sort, any, of_sort, content_sorts, last_claimed_sort, spare_sorts, part_sorts, entry_sorts, consumer_sorts, producer_sorts, last_consumer_phase, last_producer_phase, of_sorts, every, thread_in_range, consumer_in_range, producer_in_range, record_in_range, area_in_range, drain_in_range, most_all_handled, scan_in_range, in_range}
use Rattle.rules.specs.Update.{area_of, touches, value_left, update, after, area_touched, same_eq, same_area_eq, other_area, both, and_true}
use Rattle.rules.specs.Address.{There}

-- a test that passes everywhere below n
pub every_at : (n : ℕ) (p : ℕ → Bool) → every n p ≡ true → (k : ℕ) → k < n → p k ≡ true
every_at zero p e k h = absurd (omega arith)
every_at (suc n) p e k h =
    let b = both (every n p) (p n) e in
    go (dec_lt k n) (every_at n p b.0 k) b.1
  where
    go : Dec (k < n) → (k < n → p k ≡ true) → p n ≡ true → p k ≡ true
    go (yes l) below last = below l
    go (no l) below last = let q : k ≡ n = omega arith in rw q last

pub every_of : (n : ℕ) (p : ℕ → Bool) → ((k : ℕ) → k < n → p k ≡ true) → every n p ≡ true
every_of zero p h = refl
every_of (suc n) p h = and_true (every_of n p (λ k l. h k (omega arith))) (h n (omega arith))

-- words that are of their sorts, one by one
pub sorts_at : (z : Sizes) (row : ℕ → ℕ) (k : ℕ) (ss : List Sort) → of_sorts z row k ss ≡ true
    → (j i : ℕ) → j < length ss → k + j ≡ i → of_sort z (get_or ss j any) (row i) ≡ true
sorts_at z row k [] e j i h q = absurd (omega arith)
sorts_at z row k (s ∷ ss) e zero i h q =
    let p : k ≡ i = omega arith in
    rw p at (both (of_sort z s (row k)) (of_sorts z row (suc k) ss) e).0
sorts_at z row k (s ∷ ss) e (suc j) i h q =
    sorts_at z row (suc k) ss (both (of_sort z s (row k)) (of_sorts z row (suc k) ss) e).1 j i (omega arith) (omega arith)

pub sorts_of : (z : Sizes) (row : ℕ → ℕ) (k : ℕ) (ss : List Sort)
    → ((j i : ℕ) → j < length ss → k + j ≡ i → of_sort z (get_or ss j any) (row i) ≡ true) → of_sorts z row k ss ≡ true
sorts_of z row k [] h = refl
sorts_of z row k (s ∷ ss) h =
    and_true (h 0 k (omega arith) (omega arith)) (sorts_of z row (suc k) ss (λ j i l q. h (suc j) i (omega arith) (omega arith)))

-- the same of a whole row
pub row_at_lem : (z : Sizes) (row : ℕ → ℕ) (ss : List Sort) → of_sorts z row 0 ss ≡ true → (j : ℕ) → j < length ss → of_sort z (get_or ss j any) (row j) ≡ true
row_at_lem z row ss e j h = sorts_at z row 0 ss e j j h (zero-add j)

pub row_of : (z : Sizes) (row : ℕ → ℕ) (ss : List Sort) → ((j : ℕ) → j < length ss → of_sort z (get_or ss j any) (row j) ≡ true) → of_sorts z row 0 ss ≡ true
row_of z row ss h =
    sorts_of z row 0 ss (λ j i l q. subst (λ (n : ℕ). of_sort z (get_or ss j any) (row n) ≡ true) (sym (zero-add j) ∙ q) (h j l))

-- The sort of a word outside the threads and the drain area; a thread's words go by its phase, and so does what the scan has read, the drain
-- area's by the count.
abbrev pub sort_of : Sizes → Cell → Sort
sort_of z (content k) = get_or (content_sorts z) k any
sort_of z last_claimed = last_claimed_sort
sort_of z all_handled = any
sort_of z (spare k) = get_or spare_sorts k any
sort_of z (consumer k) = any
sort_of z (producer t k) = any
sort_of z (part r k) = get_or part_sorts k any
sort_of z (entry r i k) = get_or entry_sorts k any
sort_of z (drain k) = any
sort_of z (pair i k) = any

-- Every word is in its range.
pub record InRange (z : Sizes) (σ : Reader) : Type 0 where
  pub words : (c : Cell) → There z c → of_sort z (sort_of z c) (σ c) ≡ true
  pub consuming : consumer_in_range z σ ≡ true
  pub producing : (t : ℕ) → 1 ≤ t → t ≤ z.P → producer_in_range z σ t ≡ true
  pub draining : drain_in_range z σ ≡ true
  pub scanning : scan_in_range σ ≡ true

module _ (z : Sizes) (σ : Reader) where
  -- the parts of the test
  contents_test : Bool
  contents_test = of_sorts z (λ k. σ (content k)) 0 (content_sorts z)

  last_test : Bool
  last_test = of_sort z last_claimed_sort (σ last_claimed)

  spare_test : Bool
  spare_test = scan_in_range σ && of_sorts z (λ k. σ (spare k)) 0 spare_sorts

  parts_test : ℕ → Bool
  parts_test r = of_sorts z (λ k. σ (part r k)) 0 part_sorts

  entry_test : ℕ → ℕ → Bool
  entry_test r i = of_sorts z (λ k. σ (entry r i k)) 0 entry_sorts

  producers_test : Bool
  producers_test = every z.P (λ p. producer_in_range z σ (suc p))

  one_producer : producers_test ≡ true → (t : ℕ) → 1 ≤ t → t ≤ z.P → producer_in_range z σ t ≡ true
  unfolding producers_test
  one_producer e zero h l = absurd (omega arith)
  one_producer e (suc p) h l = every_at z.P (λ p. producer_in_range z σ (suc p)) e p l

  pub range_has : in_range z σ ≡ true → InRange z σ
  unfolding in_range contents_test last_test spare_test parts_test entry_test producers_test
  range_has e =
      let a = both (contents_test && (last_test && spare_test) && consumer_in_range z σ && producers_test && every z.N (record_in_range z σ)) (drain_in_range z σ) e in
      let p = both (contents_test && (last_test && spare_test) && consumer_in_range z σ && producers_test) (every z.N (record_in_range z σ)) a.0 in
      let q = both (contents_test && (last_test && spare_test) && consumer_in_range z σ) producers_test p.0 in
      let c = both (contents_test && (last_test && spare_test)) (consumer_in_range z σ) q.0 in
      let d = both contents_test (last_test && spare_test) c.0 in
      let l = both last_test spare_test d.1 in
      let s = both (scan_in_range σ) (of_sorts z (λ k. σ (spare k)) 0 spare_sorts) l.1 in
      record { words = words d.0 l.0 s.1 (every_at z.N (record_in_range z σ) p.1); consuming = c.1; producing = one_producer q.1; draining = a.1; scanning = s.0 }
    where
      words : contents_test ≡ true → last_test ≡ true → of_sorts z (λ k. σ (spare k)) 0 spare_sorts ≡ true → ((r : ℕ) → r < z.N → record_in_range z σ r ≡ true)
          → (c : Cell) → There z c → of_sort z (sort_of z c) (σ c) ≡ true
      words q l s p (content k) h = row_at_lem z (λ j. σ (content j)) (content_sorts z) q k h
      words q l s p last_claimed h = l
      words q l s p all_handled h = refl
      words q l s p (spare k) h = row_at_lem z (λ j. σ (spare j)) spare_sorts s k (omega arith)
      words q l s p (consumer k) h = refl
      words q l s p (producer t k) h = refl
      words q l s p (drain k) h = refl
      words q l s p (pair i k) h = refl
      words q l s p (part r k) h =
          row_at_lem z (λ j. σ (part r j)) part_sorts (both (parts_test r) (every z.B (entry_test r)) (p r h.0)).0 k h.1
      words q l s p (entry r i k) h =
          row_at_lem z (λ j. σ (entry r i j)) entry_sorts
          (every_at z.B (entry_test r) (both (parts_test r) (every z.B (entry_test r)) (p r h.0)).1 i h.1) k h.2

  pub range_of : InRange z σ → in_range z σ ≡ true
  unfolding in_range contents_test last_test spare_test parts_test entry_test producers_test
  range_of i =
      and_true
      (and_true
      (and_true
      (and_true
      (and_true (row_of z (λ k. σ (content k)) (content_sorts z) (λ k h. i.words (content k) h))
      (and_true (i.words last_claimed tt) (and_true i.scanning (row_of z (λ k. σ (spare k)) spare_sorts (λ k h. i.words (spare k) (omega arith))))))
      i.consuming)
      (every_of z.P (λ p. producer_in_range z σ (suc p)) (λ p l. i.producing (suc p) (omega arith) l)))
      (every_of z.N (record_in_range z σ)
      (λ r h.
      and_true (row_of z (λ k. σ (part r k)) part_sorts (λ k g. i.words (part r k) (h, g)))
      (every_of z.B (entry_test r) (λ e l. row_of z (λ k. σ (entry r e k)) entry_sorts (λ k g. i.words (entry r e k) (h, l, g)))))))
      i.draining

-- The drain area's range goes by its words and the consumer's phase.
pub same_drain : (z : Sizes) (τ σ : Reader) → τ (consumer 0) ≡ σ (consumer 0) → ((k : ℕ) → τ (drain k) ≡ σ (drain k)) → ((i k : ℕ) → τ (pair i k) ≡ σ (pair i k))
    → drain_in_range z τ ≡ drain_in_range z σ
same_drain z τ σ phase counts pairs =
    let same : ◌≡◌ {A = ℕ → ℕ → ℕ} (λ i k. τ (pair i k)) (λ i k. σ (pair i k)) = fun_ext (λ i. fun_ext (λ k. pairs i k)) in
    λ x. area_in_range z (phase x) (counts 0 x) (counts 1 x) (same x)

-- A write in range of a call of thread t: that thread's words, which go by its phase, the drain area's by the consumer, and any other word within
-- its sort.
abbrev pub InSort : Sizes → ℕ → Write → Type 0
InSort z t (content k := v) = of_sort z (sort_of z (content k)) v ≡ true
InSort z t (last_claimed := v) = of_sort z last_claimed_sort v ≡ true
InSort z t (all_handled := v) = t ≡ 0
InSort z t (spare k := v) = of_sort z (sort_of z (spare k)) v ≡ true
InSort z t (consumer k := v) = t ≡ 0
InSort z t (producer u k := v) = t ≡ u
InSort z t (part r k := v) = of_sort z (sort_of z (part r k)) v ≡ true
InSort z t (entry r i k := v) = of_sort z (sort_of z (entry r i k)) v ≡ true
InSort z t (drain k := v) = t ≡ 0
InSort z t (pair i k := v) = t ≡ 0
InSort z t (clear contents) = ⊥
InSort z t (clear of_scan) = t ≡ 0
InSort z t (clear spares) = ⊥
InSort z t (clear of_consumer) = t ≡ 0
InSort z t (clear (of_producer u)) = t ≡ u
InSort z t (clear (of_record r)) = Unit
InSort z t (clear of_drain) = t ≡ 0

-- The words of a thread but t. The drain area is the consumer's, and so is what the scan has read.
abbrev pub OtherThread : ℕ → Area → Type 0
OtherThread t contents = ⊥
OtherThread t of_scan = t ≡ 0 → ⊥
OtherThread t spares = ⊥
OtherThread t of_consumer = t ≡ 0 → ⊥
OtherThread t (of_producer u) = t ≡ u → ⊥
OtherThread t (of_record r) = ⊥
OtherThread t of_drain = t ≡ 0 → ⊥

-- zero is of every sort that a record's words have
zero_part : (z : Sizes) (k : ℕ) → of_sort z (get_or part_sorts k any) 0 ≡ true
zero_part z zero = refl
zero_part z (suc zero) = le-leb 0 z.N (omega arith)
zero_part z (suc (suc zero)) = le-leb 0 z.N (omega arith)
zero_part z (suc (suc (suc zero))) = refl
zero_part z (suc (suc (suc (suc k)))) = refl

zero_entry : (z : Sizes) (k : ℕ) → of_sort z (get_or entry_sorts k any) 0 ≡ true
zero_entry z zero = refl
zero_entry z (suc zero) = le-leb 0 z.M (omega arith)
zero_entry z (suc (suc zero)) = refl
zero_entry z (suc (suc (suc k))) = refl

module _ (z : Sizes) (t : ℕ) where
  -- the words outside the threads
  abbrev Words : Reader → Type 0
  Words σ = (c : Cell) → There z c → of_sort z (sort_of z c) (σ c) ≡ true

  put_in_sort : (c : Cell) (v : ℕ) → InSort z t (c := v) → of_sort z (sort_of z c) v ≡ true
  put_in_sort (content k) v h = h
  put_in_sort last_claimed v h = h
  put_in_sort all_handled v h = refl
  put_in_sort (spare k) v h = h
  put_in_sort (consumer k) v h = refl
  put_in_sort (producer u k) v h = refl
  put_in_sort (part r k) v h = h
  put_in_sort (entry r i k) v h = h
  put_in_sort (drain k) v h = refl
  put_in_sort (pair i k) v h = refl

  zero_in_sort : (a : Area) → InSort z t (clear a) → (d : Cell) → a ≡ area_of d → of_sort z (sort_of z d) 0 ≡ true
  zero_in_sort a h (content k) e = absurd (subst (λ (b : Area). InSort z t (clear b)) e h)
  zero_in_sort a h last_claimed e = absurd (subst (λ (b : Area). InSort z t (clear b)) e h)
  zero_in_sort a h all_handled e = refl
  zero_in_sort a h (spare k) e = absurd (subst (λ (b : Area). InSort z t (clear b)) e h)
  zero_in_sort a h (consumer k) e = refl
  zero_in_sort a h (producer u k) e = refl
  zero_in_sort a h (part r k) e = zero_part z k
  zero_in_sort a h (entry r i k) e = zero_entry z k
  zero_in_sort a h (drain k) e = refl
  zero_in_sort a h (pair i k) e = refl

  written_in_sort : (w : Write) → InSort z t w → (d : Cell) → touches w d ≡ true → of_sort z (sort_of z d) (value_left w) ≡ true
  written_in_sort (c := v) h d e = subst (λ (x : Cell). of_sort z (sort_of z x) v ≡ true) (same_eq c d e) (put_in_sort c v h)
  written_in_sort (clear a) h d e = zero_in_sort a h d (same_area_eq a (area_of d) e)

  write_in_sort : (σ : Reader) (w : Write) → InSort z t w → Words σ → Words (update σ w)
  write_in_sort σ w h i d g = go (touches w d) refl
    where
      go : (b : Bool) → touches w d ≡ b → of_sort z (sort_of z d) (cond b (value_left w) (σ d)) ≡ true
      go true e = written_in_sort w h d e
      go false e = i d g

  writes_in_sort : (σ : Reader) (ws : List Write) → All (InSort z t) ws → Words σ → Words (after σ ws)
  writes_in_sort σ [] h i = i
  writes_in_sort σ (w ∷ ws) h i = writes_in_sort (update σ w) ws h.1 (write_in_sort σ w h.0 i)

  -- no other thread's words are value_left
  writes_own : (w : Write) → InSort z t w → OtherThread t (area_touched w) → ⊥
  writes_own (content k := v) h o = o
  writes_own (last_claimed := v) h o = o
  writes_own (all_handled := v) h o = o h
  writes_own (spare k := v) h o = o
  writes_own (consumer k := v) h o = o h
  writes_own (producer u k := v) h o = o h
  writes_own (part r k := v) h o = o
  writes_own (entry r i k := v) h o = o
  writes_own (drain k := v) h o = o h
  writes_own (pair i k := v) h o = o h
  writes_own (clear contents) h o = o
  writes_own (clear of_scan) h o = o h
  writes_own (clear spares) h o = o
  writes_own (clear of_consumer) h o = o h
  writes_own (clear (of_producer u)) h o = o h
  writes_own (clear (of_record r)) h o = o
  writes_own (clear of_drain) h o = o h

  pub others_untouched : (σ : Reader) (ws : List Write) → All (InSort z t) ws → (d : Cell) → OtherThread t (area_of d) → after σ ws d ≡ σ d
  others_untouched σ [] h d o = refl
  others_untouched σ (w ∷ ws) h d o =
      others_untouched (update σ w) ws h.1 d o
      ∙ other_area σ w d (λ e. writes_own w h.0 (subst⁻¹ (OtherThread t) e o))

  -- Writes in range keep the store in range: those of a call of thread t, if its words are then in range for its phase.
  pub writes_keep_range : (σ : Reader) (ws : List Write) → All (InSort z t) ws → InRange z σ
      → (t ≡ 0 → (consumer_in_range z (after σ ws) ≡ true) × (drain_in_range z (after σ ws) ≡ true) × (scan_in_range (after σ ws) ≡ true)) → (1 ≤ t → producer_in_range z (after σ ws) t ≡ true) → InRange z (after σ ws)
  writes_keep_range σ ws h i as-consumer as-producer =
      record {
        words = writes_in_sort σ ws h i.words;
        consuming = of_consumer_lem (ℕ_discrete t 0);
        producing = λ u l g. of_producer_lem (ℕ_discrete t u) l g;
        draining = of_drain (ℕ_discrete t 0);
        scanning = of-scan (ℕ_discrete t 0);
      }
    where
      of_consumer_lem : Dec (t ≡ 0) → consumer_in_range z (after σ ws) ≡ true
      of_consumer_lem (yes e) = (as-consumer e).0
      of_consumer_lem (no n) = ap (thread_in_range z last_consumer_phase consumer_sorts) (fun_ext (λ k. others_untouched σ ws h (consumer k) n)) ∙ i.consuming

      of_drain : Dec (t ≡ 0) → drain_in_range z (after σ ws) ≡ true
      of_drain (yes e) = (as-consumer e).1
      of_drain (no n) =
          same_drain z (after σ ws) σ (others_untouched σ ws h (consumer 0) n) (λ k. others_untouched σ ws h (drain k) n)
          (λ j k. others_untouched σ ws h (pair j k) n)
          ∙ i.draining

      of-scan : Dec (t ≡ 0) → scan_in_range (after σ ws) ≡ true
      of-scan (yes e) = (as-consumer e).2
      of-scan (no n) =
          ap₂ (λ (x p : ℕ). leb x (most_all_handled p)) (others_untouched σ ws h all_handled n) (others_untouched σ ws h (consumer 0) n) ∙ i.scanning

      of_producer_lem : {u : ℕ} → Dec (t ≡ u) → 1 ≤ u → u ≤ z.P → producer_in_range z (after σ ws) u ≡ true
      of_producer_lem {u} (yes e) l g = subst (λ (x : ℕ). producer_in_range z (after σ ws) x ≡ true) e (as-producer (omega arith))
      of_producer_lem {u} (no n) l g =
          ap (thread_in_range z last_producer_phase producer_sorts) (fun_ext (λ k. others_untouched σ ws h (producer u k) n)) ∙ i.producing u l g
