-- Consumer phases 6 and 7, which read the item and take it; where that drains the head record, 7 leads to 8.
use Rattle.std.specs.Prelude.{◌≡◌, ◌≢◌, Bool, true, false, ◌&&◌, ◌||◌, not, cond, eqb, length}
use Rattle.std.proofs.Math.Path.{refl, subst⁻¹, fun_ext}
use Rattle.std.proofs.Common.{ap, ap₂, sym, ◌∙◌, subst, true≢false, arith}
use Rattle.std.proofs.Math.Bool.{and-false}
use mathlib.Core.List.{List, [], ◌∷◌, ◌++◌}
use Prim.Native.Nat.{ℕ, suc, ◌*◌, ◌≤◌, ◌<◌}
use borrow.Author.Tests.{eqb-true, eqb-false, eq-eqb, ne_eqb, lt-ltb, not-true}
use Rattle.history.specs.Lists.{All}
use Rattle.history.specs.Event.{History, dequeue_started, gave_item}
use Rattle.history.specs.Form.{well_formed}
use Rattle.history.specs.Linearization.{Item}
use Rattle.criterion.specs.Growth.{dequeue_may_start, dequeue_may_give}
use Rattle.criterion.specs.Late
use Rattle.rules.specs.Sizes.{Sizes, most_drained}
use Rattle.rules.specs.Cell.{Reader, Write, ◌:=◌, clear_consumer, tail, tail_record, head_record, head_position, all_handled, consumer, consumer_phase, cursor_record, found_record, found_position, item_number, item_value, scanned, drain, pair, drain_limit, drain_count, pair_number, pair_value, part, place, used, state, entry_number, entry_value, entry}
use Rattle.rules.specs.Update.{after, update, both, neither}
use Rattle.rules.specs.Range.{number, found_sorts, item_sorts, consumer_sorts, last_consumer_phase, thread_in_range, consumer_in_range, drain_in_range}
use Rattle.rules.specs.Rule.{Effect, Reply, going, goes, item, drained, need, up_to, at_end, index, inside}
use Rattle.rules.specs.Consumer.{items_marked, by_call, replies_item, goes_on, read_item, drained_at, marks, keep_item, mark_handled}
use Rattle.rules.specs.Request.{step}
use Rattle.rules.specs.Readback.{WriteThere}
use Rattle.rules.specs.InRange.{InSort}
use Rattle.model.specs.State
use Rattle.model.specs.State.{gone, override}
use Rattle.model.specs.Facts.{override_same, override_other}
use Rattle.model.specs.Invariant.{Inside, Found, is_busy, Invariant}
use Rattle.model.specs.Scanning.{read_item_lem}
use Rattle.model.specs.Dequeues.{begin_dequeue_lem, take_item_lem, take_front_lem}
use Rattle.model.specs.Settling.{drain_front_lem}
use Rattle.model.specs.Bounds.{found_found, holding_found}
use Rattle.memory.specs.Memory.{row_of, Linked, Memory}
use Rattle.simulation.specs.View.{Ghost, places_of, place_of, view, Agrees, AgreesWith}
use Rattle.simulation.specs.Good.{Good, untold, told, Goes, Fine, Tells, by_need, by_cond, by_up_to}
use Rattle.simulation.specs.Told.{early, told_early, gone_on_lem, tells_end}
use Rattle.simulation.specs.DrainWords.{drain_in, drain_from, same_in, marked_in, marked_length, ended_with}
use Rattle.simulation.specs.Rows.{ConsumerWords, consumer_row_of, of_sort_lem, has_sort}
use Rattle.simulation.specs.Entries.{other_record, other_entry, by_inside, Slot, slot, slot_changes, slot_number, slot_value}
use Rattle.simulation.specs.OwnWords.{scan_none}
use Rattle.simulation.specs.ConsumerCursor.{some_record}
use Rattle.simulation.specs.ConsumerSteps.{with_entries, cleared, consumer_words, consumer_at_lem, tail_fits, no_scan, head_record_linked, head_record_placed, not_tail_record, resting_in_range, none_counted, zero_in_range, consumer_goes, consumer_light}

module _ (z : Sizes) (σ : Reader) (γ : Ghost) (good : Good z σ γ) where
  m : Memory z σ γ.shape
  m = good.memory

  -- found's record is linked, and its position is inside it
  found_slot : (r : ℕ) → σ found_record ≡ suc r → Inside z.B (σ found_position) (place_of (places_of σ) (σ found_record))
      → Inside z.B (σ found_position) (σ (place r)) × Slot z σ γ.shape r (σ found_position)
  found_slot r q i =
      let j : Inside z.B (σ found_position) (σ (place r)) = subst (Inside z.B (σ found_position)) (ap (place_of (places_of σ)) q) i in
      (j, slot z σ γ.shape m.chain r (σ found_position) (rw q at m.found) j)

  -- the steps that look at found's entry: their rule holds of it
  at_found : Found z.B (view σ γ) (σ found_position) (place_of (places_of σ) (σ found_record)) → (f : ℕ → ℕ → Effect)
      → ((r : ℕ) → σ found_record ≡ suc r → Slot z σ γ.shape r (σ found_position) → Fine z σ γ (step 0) (f r (index z σ r (σ found_position))))
      → Fine z σ γ (step 0) (need (σ found_record) (λ r. inside z σ r (σ found_position) (f r)))
  at_found found f each =
      by_need (Fine z σ γ (step 0)) (σ found_record) _ (some_record z σ γ good (σ found_record) found.3)
      (λ r q.
      let s = found_slot r q found.5 in
      by_inside z σ r (σ found_position) s.0 (Fine z σ γ (step 0)) (f r) (each r q s.1))

  -- 6. Read call number and value; to 7.
  pub read_item_fine : σ consumer_phase ≡ 6 → Fine z σ γ (step 0) (read_item z σ)
  unfolding read_item
  read_item_fine e =
      at_found found (λ r i. goes (item_number := σ (entry_number r i) ∷ item_value := σ (entry_value r i) ∷ consumer_phase := 7 ∷ []))
      (λ r q s.
      consumer_goes z σ γ good (early σ e (omega arith))
      (item_number := σ (entry_number r (index z σ r (σ found_position))) ∷ item_value := σ (entry_value r (index z σ r (σ found_position))) ∷ consumer_phase := 7 ∷ [])
      7
      _
      ((refl, omega arith), ((refl, omega arith), ((refl, omega arith), tt)))
      refl
      (omega arith)
      (record {
        cursor_record = words.cursor_record;
        cursor_position = words.cursor_position;
        found_record = words.found_record;
        found_position = words.found_position;
        item_number =
            has_sort z number (σ (entry_number r (index z σ r (σ found_position))))
            (good.range.words (entry_number r (index z σ r (σ found_position))) (s.fits, s.here.below, omega arith));
        item_value = tt;
        steps = words.steps;
      })
      (m.cursor, m.found)
      (ap₂ (λ (n v : ℕ). State.holding (σ found_position) (place_of (places_of σ) (σ found_record)) (record { number = n; value = v }))
      (slot_number z σ γ r (σ found_position) s good.agrees) (slot_value z σ γ r (σ found_position) s good.agrees))
      (scan_none z σ γ good _ _ (no_scan z σ γ good 6 e refl))
      (read_item_lem z.B (view σ γ) good.model _ _ seen))
    where
      seen : (view σ γ).consumer ≡ State.found (σ found_position) (place_of (places_of σ) (σ found_record))
      seen = consumer_at_lem z σ γ good 6 e

      found : Found z.B (view σ γ) (σ found_position) (place_of (places_of σ) (σ found_record))
      found = found_found z.B (view σ γ) good.model _ _ seen

      words : ConsumerWords z (λ j. σ (consumer j)) found_sorts
      words = consumer_words z σ γ good 6 e

  -- 7. Mark handled; if found is the head position, it advances. If that brings the head to the head record's end and the head record
  -- is not the tail record, to 8. Otherwise reply item.
  module _ (e : σ consumer_phase ≡ 7) (r : ℕ) (q : σ found_record ≡ suc r) (s : Slot z σ γ.shape r (σ found_position)) where
    abbrev i : ℕ
    i = index z σ r (σ found_position)

    abbrev x : Item
    x = record { number = σ item_number; value = σ item_value }

    seen : (view σ γ).consumer ≡ State.holding (σ found_position) (place_of (places_of σ) (σ found_record)) x
    seen = consumer_at_lem z σ γ good 7 e

    -- the entry is handled, and nothing else of the entries changes
    marked : AgreesWith z.B (update σ (state r i := 2)) (record { shape = γ.shape; entry = override γ.entry (σ found_position) gone; content = γ.content; history = γ.history })
    marked =
        slot_changes z σ (update σ (state r i := 2)) γ.shape m.chain r (σ found_position) s γ.entry (override γ.entry (σ found_position) gone) γ.content γ.content
        (λ p n. (override_other γ.entry (σ found_position) gone p n, refl))
        (λ y a k n. rw (other_entry r i y a n, and-false (eqb 0 k)) refl)
        (rw (override_same γ.entry (σ found_position) gone, eq-eqb r r refl, eq-eqb i i refl) refl)
        (slot_number z σ γ r (σ found_position) s good.agrees)
        (slot_value z σ γ r (σ found_position) s good.agrees)
        good.agrees

    light : (y : ℕ) → (σ (used y) ≡ 2 → ⊥) → (a k : ℕ) → update σ (state r i := 2) (entry y a k) ≡ σ (entry y a k)
    light y n a k = rw (other_record σ r s.linked y n, and-false (eqb i a), and-false (eqb 0 k)) refl

    formed : well_formed (gave_item (σ item_number) (σ item_value) ∷ γ.history) ≡ true
    formed = dequeue_may_give γ.history good.formed (σ item_number) (σ item_value) (good.model.calls.of_consumer_lem ∙ ap is_busy seen)

    words : ConsumerWords z (λ j. σ (consumer j)) item_sorts
    words = consumer_words z σ γ good 7 e

    abbrev given : History
    given = gave_item (σ item_number) (σ item_value) ∷ γ.history

    all_told : told σ γ.history ≡ γ.history
    all_told = told_early σ (early σ e (omega arith)) γ.history

    -- The step marks the entry and leaves these words of the consumer and the drain area, with this history.
    module _ (a : Reply) (ws : List Write) (h : History) (sorted : All (InSort z 0) ws) (there : All (WriteThere z) ws)
        (parts : (y k : ℕ) → after σ ws (part y k) ≡ σ (part y k))
        (entries : (y j k : ℕ) → after σ ws (entry y j k) ≡ update σ (state r i := 2) (entry y j k))
        (rows : (u k : ℕ) → row_of (after σ ws) u k ≡ row_of σ u k)
        (ends : (after σ ws tail_record ≡ σ tail_record) × (after σ ws head_record ≡ σ head_record))
        (tails : σ tail ≤ after σ ws tail) (word_same : after σ ws all_handled ≡ σ all_handled) where
      marking : (consumer_in_range z (after σ ws) ≡ true) × (drain_in_range z (after σ ws) ≡ true)
          → Linked σ (after σ ws cursor_record) × Linked σ (after σ ws found_record)
          → Invariant z.B (view (after σ ws) (with_entries γ (override γ.entry (σ found_position) gone) h))
          → well_formed h ≡ true
          → Tells σ (after σ ws) (step 0) a γ.history h
          → Goes z σ γ (step 0) a ws
      marking in_row linked model formed tells =
          consumer_light z σ γ good (step 0) refl a ws (override γ.entry (σ found_position) gone) h sorted there
          (record { parts = parts; entries = λ y n j k. entries y j k ∙ light y n j k })
          rows
          ends
          in_row
          (word_same ∙ no_scan z σ γ good 7 e refl)
          linked
          (subst⁻¹ (Agrees z.B γ.shape.lo γ.shape.hi γ.shape.gap γ.shape.at (override γ.entry (σ found_position) gone) γ.content)
          (fun_ext (λ y. fun_ext (λ j. fun_ext (λ k. entries y j k))))
          marked)
          model
          formed
          tells
          tails

    -- a dequeue's, which replies its item
    module _ (none : σ drain_limit ≡ 0) where
      tells_item : (ws : List Write) → after σ ws consumer_phase ≡ 0 → after σ ws drain_limit ≡ σ drain_limit → after σ ws drain_count ≡ σ drain_count
          → Tells σ (after σ ws) (step 0) (item (σ item_number) (σ item_value)) γ.history given
      tells_item ws idle limit count =
          tells_end σ (after σ ws) (step 0) (item (σ item_number) (σ item_value)) γ.history given all_told (omega arith) (limit ∙ none)
          (count ∙ none_counted z σ γ good none)
          refl

      rests : (ws : List Write) → ((k : ℕ) → after σ ws (consumer k) ≡ 0) → ((k : ℕ) → after σ ws (drain k) ≡ σ (drain k)) → ((j k : ℕ) → after σ ws (pair j k) ≡ σ (pair j k))
          → (consumer_in_range z (after σ ws) ≡ true) × (drain_in_range z (after σ ws) ≡ true)
      rests ws zeros counts pairs = (
        resting_in_range z σ γ good (after σ ws) zeros,
        drain_from z (after σ ws)
            (same_in z σ (after σ ws) 0 (counts 0) (counts 1) pairs (zeros 0) (λ x. none) (drain_in z σ good.range.draining)),
      )

      takes_item : Goes z σ γ (step 0) (item (σ item_number) (σ item_value)) (state r i := 2 ∷ clear_consumer ∷ [])
      takes_item =
          let ws : List Write = state r i := 2 ∷ clear_consumer ∷ [] in
          marking (item (σ item_number) (σ item_value)) ws given (refl, (refl, tt)) ((s.fits, s.here.below, omega arith), (tt, tt))
          (λ y k. refl) (λ y j k. refl) (λ u k. refl) (refl, refl) (omega arith) refl
          (rests ws (λ k. refl) (λ k. refl) (λ j k. refl))
          (tt, tt)
          (take_item_lem z.B (view σ γ) good.model _ _ _ seen)
          formed
          (tells_item ws refl refl refl)

      takes_front : σ found_position ≡ σ head_position → suc (σ head_position) ≤ z.M
          → Goes z σ γ (step 0) (item (σ item_number) (σ item_value)) (state r i := 2 ∷ head_position := suc (σ head_position) ∷ clear_consumer ∷ [])
      takes_front f room =
          let ws : List Write = state r i := 2 ∷ head_position := suc (σ head_position) ∷ clear_consumer ∷ [] in
          marking (item (σ item_number) (σ item_value)) ws given (refl, (of_sort_lem z number (suc (σ head_position)) room, (refl, tt)))
          ((s.fits, s.here.below, omega arith), (omega arith, (tt, tt)))
          (λ y k. refl) (λ y j k. refl) (λ u k. refl) (refl, refl) (omega arith) refl
          (rests ws (λ k. refl) (λ k. refl) (λ j k. refl))
          (tt, tt)
          (take_front_lem z.B (view σ γ) good.model _ _ _ seen f)
          formed
          (tells_item ws refl refl refl)

      -- the record's last item is taken: in what is kept it is given here, and the next dequeue opened
      drains : σ found_position ≡ σ head_position → suc (σ head_position) ≤ z.M → suc (σ head_position) ≡ z.B * γ.shape.lo → γ.shape.lo < γ.shape.tp
          → Goes z σ γ (step 0) going (state r i := 2 ∷ head_position := suc (σ head_position) ∷ found_record := 0 ∷ found_position := 0 ∷ consumer_phase := 8 ∷ [])
      drains f room at_end_lem more =
          let ws : List Write = state r i := 2 ∷ head_position := suc (σ head_position) ∷ found_record := 0 ∷ found_position := 0 ∷ consumer_phase := 8 ∷ [] in
          marking going ws (dequeue_started ∷ given) (refl, (of_sort_lem z number (suc (σ head_position)) room, (refl, (refl, (refl, tt)))))
          ((s.fits, s.here.below, omega arith), (omega arith, (omega arith, (omega arith, (omega arith, tt)))))
          (λ y k. refl) (λ y j k. refl) (λ u k. refl) (refl, refl) (omega arith) refl (
            consumer_row_of z (λ k. after σ ws (consumer k)) 8 refl (omega arith)
                (record { cursor_record = words.cursor_record; cursor_position = words.cursor_position; found_record = refl; found_position = refl; item_number = words.item_number; item_value = tt; steps = words.steps }),
            drain_from z (after σ ws)
                (same_in z σ (after σ ws) 8 refl refl (λ j k. refl) refl (λ x. absurd (omega arith)) (drain_in z σ good.range.draining)),
          )
          (m.cursor, tt)
          (drain_front_lem z.B (view σ γ) good.model _ _ _ seen f at_end_lem more)
          (dequeue_may_start given formed refl)
          (record {
            pending =
                record {
                  of_dequeue = λ x. Late.marked;
                  of_drain = λ c x. absurd (omega (arith, none_counted z σ γ good none));
                  below = λ l n. absurd (l none);
                  some = λ l x. absurd (l none);
                };
            grown =
                ap (λ (b : Bool). cond b γ.history (dequeue_started ∷ given)) (eq-eqb (σ drain_limit) 0 none)
                ∙ sym (gone_on_lem σ (after σ ws) (told σ γ.history) refl ∙ all_told);
          })

    -- a drain's, which keeps the item in the area
    module _ (draining : σ drain_limit ≢ 0) where
      abbrev c : ℕ
      c = σ drain_count

      below_limit : c < σ drain_limit
      below_limit = good.pending.below draining (λ x. omega arith)

      abbrev marked_now : List Item
      marked_now = items_marked σ c ++ (x ∷ [])

      -- it ends with this item
      tells_drained : (ws : List Write) → after σ ws consumer_phase ≡ 0 → after σ ws drain_limit ≡ 0 → after σ ws drain_count ≡ 0
          → Tells σ (after σ ws) (step 0) (drained marked_now) γ.history given
      tells_drained ws idle limit count =
          tells_end σ (after σ ws) (step 0) (drained marked_now) γ.history given all_told (omega arith) limit count
          (sym
          (ended_with c (items_marked σ c) x γ.history
          ∙ rw (ne_eqb (suc (length (items_marked σ c))) c (λ y. omega (arith, marked_length σ c))) refl))

      -- it goes on in phase p
      record Kept (ws : List Write) (p : ℕ) : Type 0 where
        at : after σ ws consumer_phase ≡ p
        limit : after σ ws drain_limit ≡ σ drain_limit
        count : after σ ws drain_count ≡ suc c
        is_number_lem : after σ ws (pair_number c) ≡ σ item_number
        is_value : after σ ws (pair_value c) ≡ σ item_value
        others : (j k : ℕ) → j ≢ c → after σ ws (pair j k) ≡ σ (pair j k)

      -- The item is the next pair, and the others stay.
      abbrev pair_now : (j k : ℕ) → ℕ
      pair_now j k = cond (eqb 1 k && (eqb c j && true)) (σ item_value) (cond (eqb 0 k && (eqb c j && true)) (σ item_number) (σ (pair j k)))

      kept_by_lem : (ws : List Write) (p : ℕ) → after σ ws consumer_phase ≡ p → after σ ws drain_limit ≡ σ drain_limit → after σ ws drain_count ≡ suc c
          → ((j k : ℕ) → after σ ws (pair j k) ≡ pair_now j k) → Kept ws p
      kept_by_lem ws p at limit count pairs =
          record {
            at = at;
            limit = limit;
            count = count;
            is_number_lem = pairs c 0 ∙ rw (eq-eqb c c refl) refl;
            is_value = pairs c 1 ∙ rw (eq-eqb c c refl) refl;
            others = λ j k n. pairs j k ∙ rw (ne_eqb c j (λ y. n (sym y)), and-false (eqb 1 k), and-false (eqb 0 k)) refl;
          }

      kept_in_range : (ws : List Write) (p : ℕ) → p ≢ 0 → Kept ws p → drain_in_range z (after σ ws) ≡ true
      kept_in_range ws p busy k =
          drain_from z (after σ ws)
          (marked_in z σ (after σ ws) (drain_in z σ good.range.draining) below_limit (λ y. busy (sym k.at ∙ y)) k.limit k.count
          (rw k.is_number_lem words.item_number)
          k.others)

      -- the item's end is told at its mark, and the next dequeue's start
      tells_mark : (ws : List Write) (p : ℕ) → Kept ws p → (p ≢ 8 → suc c < σ drain_limit) → Tells σ (after σ ws) (step 0) going γ.history (dequeue_started ∷ given)
      tells_mark ws p k more =
          record {
            pending =
                record {
                  of_dequeue = λ y. absurd (true≢false (sym y ∙ not-untold));
                  of_drain =
                      λ d y.
                      let same : d ≡ c = omega (arith, k.count) in
                      rw (same, k.is_number_lem, k.is_value) Late.marked;
                  below = λ l n. rw (k.limit, k.count) (more (λ y. n (k.at ∙ y)));
                  some = λ l y n. omega (arith, k.count);
                };
            grown =
                rw not-untold
                (sym
                (rw (k.is_number_lem, k.is_value, lt-ltb c (after σ ws drain_count) (omega (arith, k.count)))
                (ap (λ (h : History). dequeue_started ∷ gave_item (σ item_number) (σ item_value) ∷ h) all_told)));
          }
        where
          not-untold : untold (after σ ws) ≡ false
          not-untold =
              rw (ne_eqb (after σ ws drain_limit) 0 (λ y. draining (sym k.limit ∙ y)), and-false (eqb (after σ ws consumer_phase) 8)) refl

      fits : c < most_drained
      fits = omega (arith, below_limit, (drain_in z σ good.range.draining).most)

      ends_item : Goes z σ γ (step 0) (drained marked_now) ((state r i := 2 ∷ keep_item z σ) ++ cleared)
      ends_item =
          let ws : List Write = (state r i := 2 ∷ keep_item z σ) ++ cleared in
          marking (drained marked_now) ws given (refl, (refl, (refl, (refl, (refl, (refl, tt))))))
          ((s.fits, s.here.below, omega arith), ((fits, omega arith), ((fits, omega arith), (omega arith, (tt, (tt, tt))))))
          (λ y k. refl) (λ y j k. refl) (λ u k. refl) (refl, refl) (omega arith) refl
          (zero_in_range z σ γ good ws (record { words = λ k. refl; limit = refl; count = refl; pairs = λ j k. refl }))
          (tt, tt)
          (take_item_lem z.B (view σ γ) good.model _ _ _ seen)
          formed
          (tells_drained ws refl refl refl)

      ends_front : σ found_position ≡ σ head_position → suc (σ head_position) ≤ z.M
          → Goes z σ γ (step 0) (drained marked_now) ((state r i := 2 ∷ head_position := suc (σ head_position) ∷ keep_item z σ) ++ cleared)
      ends_front f room =
          let ws : List Write = (state r i := 2 ∷ head_position := suc (σ head_position) ∷ keep_item z σ) ++ cleared in
          marking (drained marked_now) ws given (refl, (of_sort_lem z number (suc (σ head_position)) room, (refl, (refl, (refl, (refl, (refl, tt)))))))
          ((s.fits, s.here.below, omega arith), (omega arith, ((fits, omega arith), ((fits, omega arith), (omega arith, (tt, (tt, tt)))))))
          (λ y k. refl) (λ y j k. refl) (λ u k. refl) (refl, refl) (omega arith) refl
          (zero_in_range z σ γ good ws (record { words = λ k. refl; limit = refl; count = refl; pairs = λ j k. refl }))
          (tt, tt)
          (take_front_lem z.B (view σ γ) good.model _ _ _ seen f)
          formed
          (tells_drained ws refl refl refl)

      abbrev back : List Write
      back = found_record := 0 ∷ found_position := 0 ∷ item_number := 0 ∷ item_value := 0 ∷ consumer_phase := 1 ∷ []

      -- the consumer's words at the front, and in phase 8
      front_in_range : σ scanned ≢ 1 → (ws : List Write) → ((k : ℕ) → after σ ws (consumer k) ≡ after σ back (consumer k)) → consumer_in_range z (after σ ws) ≡ true
      front_in_range not-scanned ws same =
          subst⁻¹ (λ (row : ℕ → ℕ). thread_in_range z last_consumer_phase consumer_sorts row ≡ true) (fun_ext same)
          (consumer_row_of z (λ k. after σ back (consumer k)) 1 refl (omega arith)
          (record { cursor_record = words.cursor_record; cursor_position = omega (arith, words.cursor_position); found_record = refl; found_position = refl; item_number = refl; item_value = refl; steps = words.steps }))

      module _ (more : suc c ≢ σ drain_limit) (not-scanned : σ scanned ≢ 1) where
        back_item : Goes z σ γ (step 0) going ((state r i := 2 ∷ keep_item z σ) ++ back)
        back_item =
            let ws : List Write = (state r i := 2 ∷ keep_item z σ) ++ back in
            let kept : Kept ws 1 = kept_by_lem ws 1 refl refl refl (λ j k. refl) in
            marking going ws (dequeue_started ∷ given) (refl, (refl, (refl, (refl, (refl, (refl, (refl, (refl, (refl, tt)))))))))
            ((s.fits, s.here.below, omega arith), ((fits, omega arith), ((fits, omega arith), (omega arith, (omega arith, (omega arith, (omega arith, (omega arith, (omega arith, tt)))))))))
            (λ y k. refl) (λ y j k. refl) (λ u k. refl) (refl, refl) (omega arith) refl
            (front_in_range not-scanned ws (λ k. refl), kept_in_range ws 1 (λ y. omega arith) kept)
            (m.cursor, tt)
            (begin_dequeue_lem z.B _ (take_item_lem z.B (view σ γ) good.model _ _ _ seen))
            (dequeue_may_start given formed refl)
            (tells_mark ws 1 kept (λ n. omega (arith, below_limit)))

        back_front : σ found_position ≡ σ head_position → suc (σ head_position) ≤ z.M
            → Goes z σ γ (step 0) going ((state r i := 2 ∷ head_position := suc (σ head_position) ∷ keep_item z σ) ++ back)
        back_front f room =
            let ws : List Write = (state r i := 2 ∷ head_position := suc (σ head_position) ∷ keep_item z σ) ++ back in
            let kept : Kept ws 1 = kept_by_lem ws 1 refl refl refl (λ j k. refl) in
            marking going ws (dequeue_started ∷ given) (refl, (of_sort_lem z number (suc (σ head_position)) room, (refl, (refl, (refl, (refl, (refl, (refl, (refl, (refl, tt))))))))))
            ((s.fits, s.here.below, omega arith), (omega arith, ((fits, omega arith), ((fits, omega arith), (omega arith, (omega arith, (omega arith, (omega arith, (omega arith, (omega arith, tt))))))))))
            (λ y k. refl) (λ y j k. refl) (λ u k. refl) (refl, refl) (omega arith) refl
            (front_in_range not-scanned ws (λ k. refl), kept_in_range ws 1 (λ y. omega arith) kept)
            (m.cursor, tt)
            (begin_dequeue_lem z.B _ (take_front_lem z.B (view σ γ) good.model _ _ _ seen f))
            (dequeue_may_start given formed refl)
            (tells_mark ws 1 kept (λ n. omega (arith, below_limit)))

      to_retire : σ found_position ≡ σ head_position → suc (σ head_position) ≤ z.M → suc (σ head_position) ≡ z.B * γ.shape.lo → γ.shape.lo < γ.shape.tp
          → Goes z σ γ (step 0) going
          (state r i := 2 ∷ head_position := suc (σ head_position) ∷ found_record := 0 ∷ found_position := 0 ∷ consumer_phase := 8 ∷ keep_item z σ)
      to_retire f room at_end_lem above =
          let ws : List Write = state r i := 2 ∷ head_position := suc (σ head_position) ∷ found_record := 0 ∷ found_position := 0 ∷ consumer_phase := 8 ∷ keep_item z σ in
          let kept : Kept ws 8 = kept_by_lem ws 8 refl refl refl (λ j k. refl) in
          marking going ws (dequeue_started ∷ given) (refl, (of_sort_lem z number (suc (σ head_position)) room, (refl, (refl, (refl, (refl, (refl, (refl, tt))))))))
          ((s.fits, s.here.below, omega arith), (omega arith, (omega arith, (omega arith, (omega arith, ((fits, omega arith), ((fits, omega arith), (omega arith, tt))))))))
          (λ y k. refl) (λ y j k. refl) (λ u k. refl) (refl, refl) (omega arith) refl (
            consumer_row_of z (λ k. after σ ws (consumer k)) 8 refl (omega arith)
                (record { cursor_record = words.cursor_record; cursor_position = words.cursor_position; found_record = refl; found_position = refl; item_number = words.item_number; item_value = tt; steps = words.steps }),
            kept_in_range ws 8 (λ y. omega arith) kept,
          )
          (m.cursor, tt)
          (drain_front_lem z.B (view σ γ) good.model _ _ _ seen f at_end_lem above)
          (dequeue_may_start given formed refl)
          (tells_mark ws 8 kept (λ n. absurd (n refl)))

      goes_on_lem : (ws : List Write) → Goes z σ γ (step 0) (drained marked_now) (ws ++ cleared)
          → (suc c ≢ σ drain_limit → σ scanned ≢ 1 → Goes z σ γ (step 0) going (ws ++ back))
          → Fine z σ γ (step 0) (goes_on z σ (suc c) marked_now ws)
      goes_on_lem ws ends backs =
          by_cond (Fine z σ γ (step 0)) (eqb (suc c) (σ drain_limit) || eqb (σ scanned) 1) _ _ (λ b. ends)
          (λ b.
          let n = neither (eqb (suc c) (σ drain_limit)) (eqb (σ scanned) 1) b in
          backs (eqb-false (suc c) (σ drain_limit) n.0) (eqb-false (σ scanned) 1 n.1))

    -- The rule of the mark, at each of its leaves.
    by_marks : Found z.B (view σ γ) (σ found_position) (place_of (places_of σ) (σ found_record)) → (kept : List Write) (f : List Write → Effect)
        → Fine z σ γ (step 0) (f (state r i := 2 ∷ kept))
        → (σ found_position ≡ σ head_position → suc (σ head_position) ≤ z.M → Fine z σ γ (step 0) (f (state r i := 2 ∷ head_position := suc (σ head_position) ∷ kept)))
        → (σ found_position ≡ σ head_position → suc (σ head_position) ≤ z.M → suc (σ head_position) ≡ z.B * γ.shape.lo → γ.shape.lo < γ.shape.tp
        → Goes z σ γ (step 0) going (state r i := 2 ∷ head_position := suc (σ head_position) ∷ found_record := 0 ∷ found_position := 0 ∷ consumer_phase := 8 ∷ kept))
        → Fine z σ γ (step 0) (marks z σ r i kept f)
    by_marks found kept f of-item of-front to-8 =
        by_cond (Fine z σ γ (step 0)) (eqb (σ found_position) (σ head_position)) _ _
        (λ b.
        let at : σ found_position ≡ σ head_position = eqb-true (σ found_position) (σ head_position) b in
        let room : suc (σ head_position) ≤ z.M = omega (arith, found.1, tail_fits z σ γ good) in
        by_up_to (Fine z σ γ (step 0)) z.M (suc (σ head_position)) _ room
        (by_need (Fine z σ γ (step 0)) (σ head_record) _ (λ x. omega (arith, m.head_is))
        (λ h w.
        by_cond (Fine z σ γ (step 0)) (drained_at z σ h (suc (σ head_position))) _ _
        (λ d.
        let is = both (at_end z σ h (suc (σ head_position))) (not (eqb (σ tail_record) (suc h))) d in
        let placed : σ (place h) ≡ γ.shape.lo = head_record_placed z σ γ good h w in
        let other : σ (place h) ≢ γ.shape.tp = not_tail_record z σ γ good h (head_record_linked z σ γ good h w) (eqb-false (σ tail_record) (suc h) (not-true (eqb (σ tail_record) (suc h)) is.1)) in
        to-8 at room (eqb-true (suc (σ head_position)) (z.B * σ (place h)) is.0 ∙ ap (λ (x : ℕ). z.B * x) placed) (omega (arith, m.head_tail)))
        (λ d. of-front at room))))
        (λ b. of-item)

  pub mark_handled_fine : σ consumer_phase ≡ 7 → Fine z σ γ (step 0) (mark_handled z σ)
  unfolding mark_handled
  mark_handled_fine e =
      at_found found
      (λ r i. by_call z σ (marks z σ r i [] (replies_item z σ))
      (up_to (σ drain_limit) (suc (σ drain_count))
      (marks z σ r i (keep_item z σ)
      (goes_on z σ (suc (σ drain_count)) (items_marked σ (σ drain_count) ++ (record { number = σ item_number; value = σ item_value } ∷ []))))))
      (λ r q s.
      by_cond (Fine z σ γ (step 0)) (eqb (σ drain_limit) 0) _ _
      (λ b.
      let none : σ drain_limit ≡ 0 = eqb-true (σ drain_limit) 0 b in
      by_marks e r q s found [] (replies_item z σ) (takes_item e r q s none) (takes_front e r q s none) (drains e r q s none))
      (λ b.
      let draining : σ drain_limit ≢ 0 = eqb-false (σ drain_limit) 0 b in
      by_up_to (Fine z σ γ (step 0)) (σ drain_limit) (suc (σ drain_count)) _ (below_limit e r q s draining)
      (by_marks e r q s found (keep_item z σ) (goes_on z σ (suc (σ drain_count)) (marked_now e r q s draining))
      (goes_on_lem e r q s draining (state r (index z σ r (σ found_position)) := 2 ∷ keep_item z σ) (ends_item e r q s draining) (back_item e r q s draining))
      (λ f room.
      goes_on_lem e r q s draining (state r (index z σ r (σ found_position)) := 2 ∷ head_position := suc (σ head_position) ∷ keep_item z σ)
      (ends_front e r q s draining f room) (λ n x. back_front e r q s draining n x f room))
      (to_retire e r q s draining))))
    where
      found : Found z.B (view σ γ) (σ found_position) (place_of (places_of σ) (σ found_record))
      found = holding_found z.B (view σ γ) good.model _ _ _ (consumer_at_lem z σ γ good 7 e)
