-- Consumer phase 5, the rescan from the head.
use Rattle.std.specs.Prelude.{◌≡◌, refl, ◌≢◌, Bool, true, false, [], ◌∷◌, eqb}
use Rattle.std.proofs.Math.Path.{ap}
use Rattle.std.proofs.Common.{ap₂, sym, ◌∙◌, arith}
use Rattle.std.proofs.Math.Bool.{cond}
use Prim.Native.Nat.{ℕ, suc, ◌*◌, ◌≤◌}
use borrow.Author.Tests.{eqb-true, eqb-false}
use Rattle.rules.specs.Sizes.{Sizes}
use Rattle.rules.specs.Cell.{Reader, ◌:=◌, tail, head_record, head_position, all_handled, consumer, consumer_phase, cursor_record, cursor_position, found_record, found_position, scanned, drain_limit, place, state}
use Rattle.rules.specs.Range.{rescan_sorts}
use Rattle.rules.specs.Rule.{goes, up_to, at_end, index, cross}
use Rattle.rules.specs.Consumer.{through_scan, rescanned, rescan}
use Rattle.rules.specs.Request.{step}
use Rattle.model.specs.State
use Rattle.model.specs.State.{put}
use Rattle.model.specs.Invariant.{HandledFrom, Invariant}
use Rattle.model.specs.Known.{handled_to_tail}
use Rattle.model.specs.Moves.{with_consumer}
use Rattle.model.specs.Dequeues.{consumer_clause}
use Rattle.model.specs.Scanning.{rescan_cross, rescan_cross_done, rescan_again, rescan_front, rescan_pass, rescan_done}
use Rattle.model.specs.Bounds.{rescanning_crosses, rescanning_inside, rescanning_below_tail}
use Rattle.memory.specs.Memory.{Memory}
use Rattle.simulation.specs.View.{Ghost, places_of, place_of, view}
use Rattle.simulation.specs.Good.{Good, Fine, by_need, by_cond, by_up_to}
use Rattle.simulation.specs.Told.{early}
use Rattle.simulation.specs.Rows.{ConsumerWords}
use Rattle.simulation.specs.OwnWords.{scan_none}
use Rattle.simulation.specs.Entries.{by_inside, slot_state}
use Rattle.simulation.specs.ConsumerCursor.{head_most, position_most, linked_most, some_record, stays, placed, linked, at_end_lem, entry_slot}
use Rattle.simulation.specs.ConsumerSteps.{is_set, is_not_set, consumer_words, consumer_at_lem, tail_fits, no_scan, head_placed, head_linked, by_cross, consumer_goes}

module _ (z : Sizes) (σ : Reader) (γ : Ghost) (good : Good z σ γ) (e : σ consumer_phase ≡ 5) where
  m : Memory z σ γ.shape
  m = good.memory

  abbrev k : ℕ
  k = place_of (places_of σ) (σ cursor_record)

  abbrev g : ℕ
  g = place_of (places_of σ) (σ found_record)

  seen : (view σ γ).consumer ≡ State.rescanning (σ cursor_position) k (σ found_position) g
  seen = consumer_at_lem z σ γ good 5 e

  words : ConsumerWords z (λ j. σ (consumer j)) rescan_sorts
  words = consumer_words z σ γ good 5 e

  low : γ.shape.lo ≤ k
  low = (consumer_clause z.B (view σ γ) good.model _ seen).3.0

  -- a position up to tail is in range
  room : suc (σ cursor_position) ≤ z.M
  room = omega (arith, rescanning_below_tail z.B (view σ γ) good.model _ _ _ _ seen, tail_fits z σ γ good)

  -- whether a drain came through the scan
  flag : through_scan z σ ≤ 1
  flag = go (eqb (σ drain_limit) 0)
    where
      go : (b : Bool) → cond b 0 1 ≤ 1
      go true = omega arith
      go false = omega arith

  -- word 12 is zero
  none_read : σ all_handled ≡ 0
  none_read = no_scan z σ γ good 5 e refl

  -- The cursor comes to found.
  comes_to_found : Invariant z.B (with_consumer (view σ γ) (State.found (σ found_position) g))
      → Fine z σ γ (step 0) (goes (cursor_record := 0 ∷ scanned := through_scan z σ ∷ consumer_phase := 6 ∷ []))
  comes_to_found model =
      consumer_goes z σ γ good (early σ e (omega arith)) (cursor_record := 0 ∷ scanned := through_scan z σ ∷ consumer_phase := 6 ∷ []) 6 _
      ((refl, omega arith), ((refl, omega arith), ((refl, omega arith), tt)))
      refl
      (omega arith)
      (record { cursor_record = refl; cursor_position = flag; found_record = words.found_record; found_position = words.found_position; item_number = words.item_number; item_value = words.item_value; steps = words.steps })
      (tt, m.found)
      refl
      (scan_none z σ γ good _ _ none_read)
      model

  -- It crosses, when the cursor stands at a record's end.
  crosses : (r : ℕ) (q : σ cursor_record ≡ suc r) → σ cursor_position ≡ z.B * σ (place r)
      → Fine z σ γ (step 0)
      (cross z σ r λ n p. rescanned z σ p (σ found_position) (cursor_record := suc n ∷ cursor_position := p ∷ []) [])
  crosses r q end =
      let end' : σ cursor_position ≡ z.B * k = at_end_lem z σ γ good r q (σ cursor_position) end in
      let reached : z.B * σ (place r) ≤ σ tail = omega (arith, rescanning_below_tail z.B (view σ γ) good.model _ _ _ _ seen) in
      by_cross z σ γ good (Fine z σ γ (step 0)) r (λ n p. rescanned z σ p (σ found_position) (cursor_record := suc n ∷ cursor_position := p ∷ []) [])
      (linked z σ γ good r q)
      (rw (placed z σ γ good r q) at (rescanning_crosses z.B (view σ γ) good.model _ _ _ _ seen end'))
      reached
      (λ n l.
      let on : k ≤ l.before = rw (placed z σ γ good r q) l.on in
      let handled : HandledFrom z.B (view σ γ) (σ cursor_position) (z.B * l.before) = rw end l.handled in
      let fits : z.B * l.before ≤ z.M = omega (arith, tail_fits z σ γ good, handled_to_tail z.B (view σ γ) good.model (z.B * σ (place r)) (z.B * l.before) reached l.handled) in
      by_cond (Fine z σ γ (step 0)) (eqb (z.B * l.before) (σ found_position)) _ _
      (λ b.
      comes_to_found
      (rescan_cross_done z.B (view σ γ) good.model _ _ _ _ l.before seen end' on handled
      (eqb-true (z.B * l.before) (σ found_position) b)))
      (λ b.
      consumer_goes z σ γ good (early σ e (omega arith)) (cursor_record := suc n ∷ cursor_position := z.B * l.before ∷ []) 5 _
      ((refl, omega arith), ((refl, omega arith), tt))
      e
      (omega arith)
      (record { cursor_record = linked_most z σ γ good n l.linked; cursor_position = fits; found_record = words.found_record; found_position = words.found_position; item_number = words.item_number; item_value = words.item_value; steps = words.steps })
      (l.linked, m.found)
      (stays z σ γ good 5 e (z.B * l.before) (σ (place n)) (σ found_position) _ _
      ∙ ap (λ (j : ℕ). State.rescanning (z.B * l.before) j (σ found_position) g) l.placed)
      (scan_none z σ γ good _ _ none_read)
      (rescan_cross z.B (view σ γ) good.model _ _ _ _ l.before seen end' on handled
      (eqb-false (z.B * l.before) (σ found_position) b))))

  -- A set entry becomes found and the cursor returns to the head.
  finds : (r : ℕ) (q : σ cursor_record ≡ suc r) → σ cursor_position ≢ z.B * k → γ.entry (σ cursor_position) ≡ put
      → Fine z σ γ (step 0)
      (rescanned z σ (σ head_position) (σ cursor_position)
      (cursor_record := σ head_record ∷ cursor_position := σ head_position ∷ [])
      (found_record := suc r ∷ found_position := σ cursor_position ∷ []))
  finds r q n p =
      by_cond (Fine z σ γ (step 0)) (eqb (σ head_position) (σ cursor_position)) _ _
      (λ b.
      consumer_goes z σ γ good (early σ e (omega arith))
      (found_record := suc r ∷ found_position := σ cursor_position ∷ cursor_record := 0 ∷ scanned := through_scan z σ ∷ consumer_phase := 6 ∷ [])
      6
      _
      ((refl, omega arith), ((refl, omega arith), ((refl, omega arith), ((refl, omega arith), ((refl, omega arith), tt)))))
      refl
      (omega arith)
      (record { cursor_record = refl; cursor_position = flag; found_record = linked_most z σ γ good r (linked z σ γ good r q); found_position = words.cursor_position; item_number = words.item_number; item_value = words.item_value; steps = words.steps })
      (tt, linked z σ γ good r q)
      (ap (State.found (σ cursor_position)) (sym (placed z σ γ good r q)))
      (scan_none z σ γ good _ _ none_read)
      (rescan_front z.B (view σ γ) good.model _ _ _ _ seen n p (sym (eqb-true (σ head_position) (σ cursor_position) b))))
      (λ b.
      consumer_goes z σ γ good (early σ e (omega arith))
      (found_record := suc r ∷ found_position := σ cursor_position ∷ cursor_record := σ head_record ∷ cursor_position := σ head_position ∷ [])
      5
      _
      ((refl, omega arith), ((refl, omega arith), ((refl, omega arith), ((refl, omega arith), tt))))
      e
      (omega arith)
      (record { cursor_record = head_most z σ γ good; cursor_position = position_most z σ γ good; found_record = linked_most z σ γ good r (linked z σ γ good r q); found_position = words.cursor_position; item_number = words.item_number; item_value = words.item_value; steps = words.steps })
      (head_linked z σ γ good, linked z σ γ good r q)
      (stays z σ γ good 5 e (σ head_position) (place_of (places_of σ) (σ head_record)) (σ cursor_position) (σ (place r)) _
      ∙ ap₂ (λ (j l : ℕ). State.rescanning (σ head_position) j (σ cursor_position) l) (head_placed z σ γ good) (sym (placed z σ γ good r q)))
      (scan_none z σ γ good _ _ none_read)
      (rescan_again z.B (view σ γ) good.model _ _ _ _ seen n p (λ x. eqb-false (σ head_position) (σ cursor_position) b (sym x))))

  -- Any other is passed by one position.
  passes : σ cursor_position ≢ z.B * k → (γ.entry (σ cursor_position) ≡ put → ⊥)
      → Fine z σ γ (step 0)
      (up_to z.M (suc (σ cursor_position))
      (rescanned z σ (suc (σ cursor_position)) (σ found_position) (cursor_position := suc (σ cursor_position) ∷ []) []))
  passes n p =
      by_up_to (Fine z σ γ (step 0)) z.M (suc (σ cursor_position)) _ room
      (by_cond (Fine z σ γ (step 0)) (eqb (suc (σ cursor_position)) (σ found_position)) _ _
      (λ b.
      comes_to_found
      (rescan_done z.B (view σ γ) good.model _ _ _ _ seen n p (eqb-true (suc (σ cursor_position)) (σ found_position) b)))
      (λ b.
      consumer_goes z σ γ good (early σ e (omega arith)) (cursor_position := suc (σ cursor_position) ∷ []) 5 _ ((refl, omega arith), tt) e (omega arith)
      (record { cursor_record = words.cursor_record; cursor_position = room; found_record = words.found_record; found_position = words.found_position; item_number = words.item_number; item_value = words.item_value; steps = words.steps })
      (m.cursor, m.found)
      (stays z σ γ good 5 e (suc (σ cursor_position)) _ _ _ _)
      (scan_none z σ γ good _ _ none_read)
      (rescan_pass z.B (view σ γ) good.model _ _ _ _ seen n p (eqb-false (suc (σ cursor_position)) (σ found_position) b))))

  -- 5. Rescan from the head, head included, to the position before found, that one included.
  pub rescan_fine : Fine z σ γ (step 0) (rescan z σ)
  unfolding rescan
  rescan_fine =
      by_need (Fine z σ γ (step 0)) (σ cursor_record) _ (some_record z σ γ good (σ cursor_record) low)
      (λ r q.
      by_cond (Fine z σ γ (step 0)) (at_end z σ r (σ cursor_position)) _ _
      (λ b. crosses r q (eqb-true (σ cursor_position) (z.B * σ (place r)) b))
      (λ b.
      let n : σ cursor_position ≢ z.B * k =
      λ x. eqb-false (σ cursor_position) (z.B * σ (place r)) b (x ∙ ap (λ (y : ℕ). z.B * y) (placed z σ γ good r q)) in
      let s = entry_slot z σ γ good r q (σ cursor_position) (rescanning_inside z.B (view σ γ) good.model _ _ _ _ seen n).2 in
      by_inside z σ r (σ cursor_position) s.0 (Fine z σ γ (step 0))
      (λ i. cond (eqb (σ (state r i)) 1)
      (rescanned z σ (σ head_position) (σ cursor_position)
      (cursor_record := σ head_record ∷ cursor_position := σ head_position ∷ [])
      (found_record := suc r ∷ found_position := σ cursor_position ∷ []))
      (up_to z.M (suc (σ cursor_position))
      (rescanned z σ (suc (σ cursor_position)) (σ found_position) (cursor_position := suc (σ cursor_position) ∷ []) [])))
      (by_cond (Fine z σ γ (step 0)) (eqb (σ (state r (index z σ r (σ cursor_position)))) 1) _ _
      (λ c. finds r q n (is_set _ _ (slot_state z σ γ r (σ cursor_position) s.1 good.agrees) c))
      (λ c. passes n (is_not_set _ _ (slot_state z σ γ r (σ cursor_position) s.1 good.agrees) c)))))
