-- Consumer phases 3 and 4, the scan.
use Rattle.std.specs.Prelude.{◌≡◌, ◌≢◌, Bool, true, false, not, cond, List, [], ◌∷◌, ◌++◌, ℕ, suc, ◌+◌, ◌*◌, ◌≤◌, ◌<◌, leb, eqb}
use Rattle.std.proofs.Math.Path.{refl, ap, subst}
use Rattle.std.proofs.Common.{ap₂, sym, ◌∙◌, arith}
use borrow.Author.Tests.{eq-eqb, eqb-true, eqb-false, le-leb, leb-true}
use Rattle.rules.specs.Sizes.{Sizes}
use Rattle.rules.specs.Cell.{Reader, Write, ◌:=◌, tail, tail_record, head_record, head_position, all_handled, consumer, consumer_phase, cursor_record, cursor_position, found_record, found_position, place, prev, state}
use Rattle.rules.specs.Update.{after, both, true_false, not_true}
use Rattle.rules.specs.Range.{cursor_sorts, most_all_handled, scan_in_range}
use Rattle.rules.specs.Rule.{Effect, goes, need, up_to, at_end, index}
use Rattle.rules.specs.Consumer.{entered, folded, is_read, scan_crosses, scan, still_handled, read_entry}
use Rattle.rules.specs.Request.{step}
use Rattle.model.specs.State
use Rattle.model.specs.State.{Entry, blank, put, gone}
use Rattle.model.specs.Invariant.{Inside, Reached, is_busy}
use Rattle.model.specs.Known.{below_suc}
use Rattle.model.specs.Dequeues.{empty_scanned_records, empty_scanned_tail}
use Rattle.model.specs.Scanning.{scan_look, look_found, look_pass}
use Rattle.model.specs.Bounds.{scanning_reached, scanning_crosses, looking_inside, looking_below_tail}
use Rattle.memory.specs.Memory.{Memory}
use Rattle.simulation.specs.View.{Ghost, places_of, place_of, view, code_of}
use Rattle.simulation.specs.Good.{Good, Read, Fine, by_need, by_cond, by_up_to}
use Rattle.simulation.specs.Told.{early}
use Rattle.simulation.specs.Rows.{ConsumerWords}
use Rattle.simulation.specs.Entries.{by_inside, Slot, slot_state}
use Rattle.simulation.specs.OwnWords.{scan_none}
use Rattle.simulation.specs.ConsumerCursor.{head_most, position_most, linked_most, some_record, stays, placed, linked, at_end_lem, entry_slot}
use Rattle.simulation.specs.ConsumerSteps.{is_set, is_not_set, consumer_words, consumer_at_lem, tail_fits, head_placed, head_linked, tail_record_is, not_tail_record, by_cross, answers_empty, consumer_goes}
use Rattle.simulation.specs.ConsumerFold.{lands_fits, crossed, folds}

-- an entry of state 2 is handled
is_gone : (x : Entry) → code_of x ≡ 2 → x ≡ gone
is_gone blank q = absurd (omega arith)
is_gone put q = absurd (omega arith)
is_gone gone q = refl

module _ (z : Sizes) (σ : Reader) (γ : Ghost) (good : Good z σ γ) where
  m : Memory z σ γ.shape
  m = good.memory

  -- 3. If the cursor stands at its record's end: empty if that is the tail record, otherwise cross to next, the cursor at its
  -- first position (so in every crossing); stay. Else read tail: cursor at tail is empty; otherwise to 4.
  module _ (e : σ consumer_phase ≡ 3) where
    seen_scanning : (view σ γ).consumer ≡ State.scanning (σ cursor_position) (place_of (places_of σ) (σ cursor_record))
    seen_scanning = consumer_at_lem z σ γ good 3 e

    reached : (σ cursor_position ≤ σ tail) × Reached z.B (view σ γ) (σ cursor_position) (place_of (places_of σ) (σ cursor_record))
    reached = scanning_reached z.B (view σ γ) good.model _ _ seen_scanning

    cursor_words : ConsumerWords z (λ k. σ (consumer k)) cursor_sorts
    cursor_words = consumer_words z σ γ good 3 e

    -- in phase 3, word 12 may be 1
    one_fits : scan_in_range (after σ (all_handled := 1 ∷ [])) ≡ true
    one_fits = rw e refl

    crosses : (r : ℕ) (q : σ cursor_record ≡ suc r) → σ cursor_position ≡ z.B * σ (place r) → σ (place r) ≢ γ.shape.tp
        → Fine z σ γ (step 0) (scan_crosses z σ r)
    crosses r q end not-tail =
        let other : place_of (places_of σ) (σ cursor_record) ≢ γ.shape.tp = λ x. not-tail (sym (placed z σ γ good r q) ∙ x) in
        let before : σ (place r) < γ.shape.tp = rw (placed z σ γ good r q) at (scanning_crosses z.B (view σ γ) good.model _ _ seen_scanning other) in
        by_cross z σ γ good (Fine z σ γ (step 0)) r
        (λ n p. cond (is_read z σ r) (need (σ (prev r)) λ b. goes (folded z σ r b n ++ entered z σ n p)) (goes (entered z σ n p)))
        (linked z σ γ good r q)
        before
        (omega (arith, reached.0))
        (λ n l.
        by_cond (Fine z σ γ (step 0)) (is_read z σ r) _ _
        (λ b.
        let w = both (eqb (σ all_handled) 1) (not (eqb (σ head_record) (suc r))) b in
        folds z σ γ good e r q end before (eqb-true (σ all_handled) 1 w.0) (λ x. true_false (eq-eqb (σ head_record) (suc r) x) (not_true (eqb (σ head_record) (suc r)) w.1)) n l)
        (λ b.
        consumer_goes z σ γ good (early σ e (omega arith)) (entered z σ n (z.B * l.before)) 3 _
        ((refl, omega arith), ((refl, omega arith), ((refl, omega arith), tt)))
        e
        (omega arith)
        (record { cursor_record = linked_most z σ γ good n l.linked; cursor_position = lands_fits z σ γ good r n l (omega (arith, reached.0)); found_record = cursor_words.found_record; found_position = cursor_words.found_position; item_number = cursor_words.item_number; item_value = cursor_words.item_value; steps = cursor_words.steps })
        (l.linked, m.found)
        (stays z σ γ good 3 e (z.B * l.before) (σ (place n)) (σ found_position) _ _ ∙ ap (State.scanning (z.B * l.before)) l.placed)
        (record { fits = one_fits; says = λ x p low high. absurd (omega arith) })
        (crossed z σ γ good e r q end n l)))

  pub scan_fine : σ consumer_phase ≡ 3 → Fine z σ γ (step 0) (scan z σ)
  unfolding scan
  scan_fine e =
      by_need (Fine z σ γ (step 0)) (σ cursor_record) _ (some_record z σ γ good (σ cursor_record) (reached e).1.0)
      (λ r q.
      by_cond (Fine z σ γ (step 0)) (at_end z σ r (σ cursor_position)) _ _
      (λ b.
      let end : σ cursor_position ≡ z.B * σ (place r) = eqb-true (σ cursor_position) (z.B * σ (place r)) b in
      by_cond (Fine z σ γ (step 0)) (eqb (σ tail_record) (suc r)) _ _
      (λ c.
      answers_empty z σ γ good (early σ e (omega arith)) (ap is_busy (seen_scanning e))
      (λ none.
      empty_scanned_records z.B (view σ γ) good.model _ _ (seen_scanning e) (at_end_lem z σ γ good r q (σ cursor_position) end)
      (placed z σ γ good r q ∙ tail_record_is z σ γ good r (linked z σ γ good r q) (eqb-true (σ tail_record) (suc r) c))))
      (λ c. crosses e r q end (not_tail_record z σ γ good r (linked z σ γ good r q) (eqb-false (σ tail_record) (suc r) c))))
      (λ b.
      by_cond (Fine z σ γ (step 0)) (eqb (σ cursor_position) (σ tail)) _ _
      (λ c.
      answers_empty z σ γ good (early σ e (omega arith)) (ap is_busy (seen_scanning e))
      (λ none.
      empty_scanned_tail z.B (view σ γ) good.model _ _ (seen_scanning e) (eqb-true (σ cursor_position) (σ tail) c)))
      (λ c.
      let w = cursor_words e in
      consumer_goes z σ γ good (early σ e (omega arith)) (consumer_phase := 4 ∷ []) 4 _ ((refl, omega arith), tt) refl (omega arith) (record { cursor_record = w.cursor_record; cursor_position = w.cursor_position; found_record = w.found_record; found_position = w.found_position; item_number = w.item_number; item_value = w.item_value; steps = w.steps }) (m.cursor, m.found) refl
      (record { fits = rw e at good.range.scanning; says = λ x. subst (Read z.B γ.entry) (seen_scanning e) (good.read x) })
      (scan_look z.B (view σ γ) good.model _ _ (seen_scanning e)
      (λ x. eqb-false (σ cursor_position) (z.B * σ (place r)) b (x ∙ ap (λ (y : ℕ). z.B * y) (placed z σ γ good r q)))
      (eqb-false (σ cursor_position) (σ tail) c)))))

  -- 4. Read the entry: set makes it found, and the cursor returns to the head; to 5. Otherwise advance; to 3.
  pub read_entry_fine : σ consumer_phase ≡ 4 → Fine z σ γ (step 0) (read_entry z σ)
  unfolding read_entry
  read_entry_fine e =
      by_need (Fine z σ γ (step 0)) (σ cursor_record) _ (some_record z σ γ good (σ cursor_record) inner.0)
      (λ r q.
      let s = entry_slot z σ γ good r q (σ cursor_position) inner.2 in
      by_inside z σ r (σ cursor_position) s.0 (Fine z σ γ (step 0)) (reads r)
      (by_cond (Fine z σ γ (step 0)) (eqb (σ (state r (index z σ r (σ cursor_position)))) 1) _ _
      (λ b. finds r q (is_set _ _ (slot_state z σ γ r (σ cursor_position) s.1 good.agrees) b))
      (λ b. passes r s.1 (is_not_set _ _ (slot_state z σ γ r (σ cursor_position) s.1 good.agrees) b))))
    where
      seen : (view σ γ).consumer ≡ State.looking (σ cursor_position) (place_of (places_of σ) (σ cursor_record))
      seen = consumer_at_lem z σ γ good 4 e

      inner : (γ.shape.lo ≤ place_of (places_of σ) (σ cursor_record)) × (place_of (places_of σ) (σ cursor_record) ≤ γ.shape.tp) × Inside z.B (σ cursor_position) (place_of (places_of σ) (σ cursor_record))
      inner = looking_inside z.B (view σ γ) good.model _ _ seen

      words : ConsumerWords z (λ k. σ (consumer k)) cursor_sorts
      words = consumer_words z σ γ good 4 e

      found : (r : ℕ) → List Write
      found r =
          found_record := suc r
          ∷ found_position := σ cursor_position
          ∷ cursor_record := σ head_record
          ∷ cursor_position := σ head_position
          ∷ all_handled := 0
          ∷ consumer_phase := 5
          ∷ []

      onward : (r i : ℕ) → List Write
      onward r i = cursor_position := suc (σ cursor_position) ∷ all_handled := still_handled z σ r i ∷ consumer_phase := 3 ∷ []

      advanced : (r i : ℕ) → Effect
      advanced r i = up_to z.M (suc (σ cursor_position)) (goes (onward r i))

      reads : (r i : ℕ) → Effect
      reads r i = cond (eqb (σ (state r i)) 1) (goes (found r)) (advanced r i)

      finds : (r : ℕ) → σ cursor_record ≡ suc r → γ.entry (σ cursor_position) ≡ put → Fine z σ γ (step 0) (goes (found r))
      finds r q p =
          consumer_goes z σ γ good (early σ e (omega arith)) (found r) 5 _
          ((refl, omega arith), ((refl, omega arith), ((refl, omega arith), ((refl, omega arith), ((refl, omega arith), ((refl, omega arith), tt))))))
          refl
          (omega arith)
          (record { cursor_record = head_most z σ γ good; cursor_position = position_most z σ γ good; found_record = linked_most z σ γ good r (linked z σ γ good r q); found_position = words.cursor_position; item_number = words.item_number; item_value = words.item_value; steps = words.steps })
          (head_linked z σ γ good, linked z σ γ good r q)
          (ap₂ (λ (k g : ℕ). State.rescanning (σ head_position) k (σ cursor_position) g) (head_placed z σ γ good) (sym (placed z σ γ good r q)))
          (scan_none z σ γ good _ _ refl)
          (look_found z.B (view σ γ) good.model _ _ seen p)

      -- what the scan has read, with this entry
      most-one : σ all_handled ≤ 1
      most-one = omega (arith, leb-true (σ all_handled) (most_all_handled (σ consumer_phase)) good.range.scanning, ap most_all_handled e)

      read-on : (x : ℕ) → x ≡ code_of (γ.entry (σ cursor_position)) → (b : Bool) → eqb x 2 ≡ b
          → (leb (cond b (σ all_handled) 0) 1 ≡ true)
          × (cond b (σ all_handled) 0 ≡ 1 → Read z.B γ.entry (State.scanning (suc (σ cursor_position)) (place_of (places_of σ) (σ cursor_record))))
      read-on x is true f = (
        le-leb (σ all_handled) 1 most-one,
        λ w p low high.
            below_suc (λ y. z.B * place_of (places_of σ) (σ cursor_record) ≤ y + z.B → γ.entry y ≡ gone) (σ cursor_position)
            (λ y l low'. subst (Read z.B γ.entry) seen (good.read w) y low' l)
            (λ low'. is_gone (γ.entry (σ cursor_position)) (sym is ∙ eqb-true x 2 f))
            p high low,
      )
      read-on x is false f = (refl, λ w. absurd (omega arith))

      passes : (r : ℕ) → Slot z σ γ.shape r (σ cursor_position) → (γ.entry (σ cursor_position) ≡ put → ⊥)
          → Fine z σ γ (step 0) (advanced r (index z σ r (σ cursor_position)))
      passes r slot n =
          let i : ℕ = index z σ r (σ cursor_position) in
          let room : suc (σ cursor_position) ≤ z.M = omega (arith, looking_below_tail z.B (view σ γ) good.model _ _ seen, tail_fits z σ γ good) in
          by_up_to (Fine z σ γ (step 0)) z.M (suc (σ cursor_position)) _ room
          (consumer_goes z σ γ good (early σ e (omega arith)) (onward r (index z σ r (σ cursor_position))) 3 _
          ((refl, omega arith), ((refl, omega arith), ((refl, omega arith), tt)))
          refl
          (omega arith)
          (record { cursor_record = words.cursor_record; cursor_position = room; found_record = words.found_record; found_position = words.found_position; item_number = words.item_number; item_value = words.item_value; steps = words.steps })
          (m.cursor, m.found)
          refl
          (let w = read-on (σ (state r i)) (slot_state z σ γ r (σ cursor_position) slot good.agrees) (eqb (σ (state r i)) 2) refl in record { fits = w.0; says = w.1 })
          (look_pass z.B (view σ γ) good.model _ _ seen n))
