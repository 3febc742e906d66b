-- Consumer phases 1 and 2, at the front.
use Rattle.std.specs.Prelude.{◌≡◌, ◌≢◌, cond, [], ◌∷◌, eqb}
use Rattle.std.proofs.Math.Path.{refl, ap, subst⁻¹}
use Rattle.std.proofs.Common.{sym, ◌∙◌, arith}
use Prim.Native.Nat.{ℕ, suc, ◌*◌, ◌≤◌, ◌<◌}
use borrow.Author.Tests.{eqb-true, eqb-false}
use Rattle.rules.specs.Sizes.{Sizes}
use Rattle.rules.specs.Cell.{Reader, ◌:=◌, tail, tail_record, head_record, head_position, consumer, consumer_phase, cursor_record, cursor_position, found_record, found_position, drain_count, place, used, state}
use Rattle.rules.specs.Range.{number, record_number, front_sorts}
use Rattle.rules.specs.Rule.{Effect, going, goes, up_to, at_end, index, inside}
use Rattle.rules.specs.Consumer.{ends_empty, move_head, by_state, front, read_tail}
use Rattle.rules.specs.Request.{step}
use Rattle.rules.specs.Update.{after}
use Rattle.model.specs.State.{gone, State}
use Rattle.model.specs.State
use Rattle.model.specs.Invariant.{Inside, ConsumerOk, is_busy}
use Rattle.model.specs.Moves.{retire_head}
use Rattle.model.specs.Dequeues.{empty_at_head_end, empty_at_tail}
use Rattle.model.specs.Scanning.{advance_head_lem, front_found, front_blank, read_tail_lem}
use Rattle.model.specs.Bounds.{head_inside, gone_head_below_tail, read_head_below_tail}
use Rattle.memory.specs.Memory.{Memory}
use Rattle.simulation.specs.View.{Ghost, view}
use Rattle.simulation.specs.Good.{Good, Fine, by_need, by_cond, by_up_to}
use Rattle.simulation.specs.Told.{early, tells_going}
use Rattle.simulation.specs.Rows.{ConsumerWords, of_sort_lem, has_sort}
use Rattle.simulation.specs.OwnWords.{scan_none}
use Rattle.simulation.specs.Entries.{by_inside, slot, slot_state}
use Rattle.simulation.specs.ConsumerRetire.{by_move_head, retires}
use Rattle.simulation.specs.ConsumerSteps.{by_state_lem, consumer_words, consumer_at_lem, tail_fits, no_scan, head_placed, head_linked, head_record_linked, head_record_placed, tail_record_is, not_tail_record, answers_empty, consumer_goes, consumer_light}

module _ (z : Sizes) (σ : Reader) (γ : Ghost) (good : Good z σ γ) where
  m : Memory z σ γ.shape
  m = good.memory

  -- 2. Read tail: equal to the head position is empty; otherwise the cursor is the next position; to 3.
  pub read_tail_fine : σ consumer_phase ≡ 2 → Fine z σ γ (step 0) (read_tail z σ)
  unfolding read_tail
  read_tail_fine e =
      by_cond (Fine z σ γ (step 0)) (eqb (σ tail) (σ head_position)) _ _
      (λ b. answers_empty z σ γ good (early σ e (omega arith)) (ap is_busy seen) (λ none. empty_at_tail z.B (view σ γ) good.model (eqb-true (σ tail) (σ head_position) b)))
      (λ b.
      let n : σ tail ≢ σ head_position = eqb-false (σ tail) (σ head_position) b in
      let room : suc (σ head_position) ≤ z.M = omega (arith, read_head_below_tail z.B (view σ γ) good.model n, tail_fits z σ γ good) in
      by_up_to (Fine z σ γ (step 0)) z.M (suc (σ head_position)) _ room
      (consumer_goes z σ γ good (early σ e (omega arith)) (cursor_record := σ head_record ∷ cursor_position := suc (σ head_position) ∷ consumer_phase := 3 ∷ []) 3 _
      ((refl, omega arith), ((refl, omega arith), ((refl, omega arith), tt)))
      refl
      (omega arith)
      (record { cursor_record = (has_sort z record_number (σ head_record) (good.range.words head_record (omega arith))).1; cursor_position = room; found_record = words.found_record; found_position = words.found_position; item_number = words.item_number; item_value = words.item_value; steps = words.steps })
      (head_linked z σ γ good, m.found)
      (ap (State.scanning (suc (σ head_position))) (head_placed z σ γ good))
      (scan_none z σ γ good _ _ (no_scan z σ γ good 2 e refl))
      (read_tail_lem z.B (view σ γ) good.model seen n)))
    where
      seen : (view σ γ).consumer ≡ State.reading
      seen = consumer_at_lem z σ γ good 2 e

      words : ConsumerWords z (λ k. σ (consumer k)) front_sorts
      words = consumer_words z σ γ good 2 e

  -- 1. Front. The head record is that of place lo.
  module _ (e : σ consumer_phase ≡ 1) (h : ℕ) (q : σ head_record ≡ suc h) where
    seen_front : (view σ γ).consumer ≡ State.front
    seen_front = consumer_at_lem z σ γ good 1 e

    front_words : ConsumerWords z (λ k. σ (consumer k)) front_sorts
    front_words = consumer_words z σ γ good 1 e

    linked : σ (used h) ≡ 2
    linked = head_record_linked z σ γ good h q

    placed : σ (place h) ≡ γ.shape.lo
    placed = head_record_placed z σ γ good h q

    -- read the entry: handled advances the head; set goes to 6 with found the head; empty goes to 2
    abbrev read_front : ℕ → Effect
    read_front i =
        by_state (σ (state h i))
        (cond (eqb (σ drain_count) 0) (goes (consumer_phase := 2 ∷ [])) (ends_empty z σ))
        (goes (found_record := suc h ∷ found_position := σ head_position ∷ consumer_phase := 6 ∷ []))
        (up_to z.M (suc (σ head_position)) (goes (head_position := suc (σ head_position) ∷ [])))

    head_fits : suc h ≤ z.N
    head_fits = rw q at (has_sort z record_number (σ head_record) (good.range.words head_record (omega arith))).1

    position_fits : σ head_position ≤ z.M
    position_fits = has_sort z number (σ head_position) (good.range.words head_position (omega arith))

    advances : σ head_position ≢ z.B * γ.shape.lo → γ.entry (σ head_position) ≡ gone
        → Fine z σ γ (step 0) (up_to z.M (suc (σ head_position)) (goes (head_position := suc (σ head_position) ∷ [])))
    advances n g =
        let room : suc (σ head_position) ≤ z.M = omega (arith, gone_head_below_tail z.B (view σ γ) good.model g, tail_fits z σ γ good) in
        by_up_to (Fine z σ γ (step 0)) z.M (suc (σ head_position)) _ room
        (consumer_light z σ γ good (step 0) refl going (head_position := suc (σ head_position) ∷ []) γ.entry γ.history
        (of_sort_lem z number (suc (σ head_position)) room, tt)
        (omega arith, tt)
        (record { parts = λ x k. refl; entries = λ x u i k. refl })
        (λ u k. refl)
        (refl, refl)
        (good.range.consuming, good.range.draining)
        (no_scan z σ γ good 1 e refl)
        (m.cursor, m.found)
        good.agrees
        (advance_head_lem z.B (view σ γ) good.model seen_front n g)
        good.formed
        (tells_going σ (after σ (head_position := suc (σ head_position) ∷ [])) (step 0) γ.history (early σ e (omega arith)) (early σ e (omega arith)) (λ k. refl) (λ x k. refl) good.pending)
        (omega arith))

    reads : σ head_position ≢ z.B * γ.shape.lo → Fine z σ γ (step 0) (inside z σ h (σ head_position) read_front)
    reads n =
        let inner : Inside z.B (σ head_position) (σ (place h)) = rw placed (head_inside z.B (view σ γ) good.model n) in
        let s = slot z σ γ.shape m.chain h (σ head_position) linked inner in
        by_inside z σ h (σ head_position) inner (Fine z σ γ (step 0)) read_front
        (by_state_lem (Fine z σ γ (step 0)) (σ (state h (index z σ h (σ head_position)))) (γ.entry (σ head_position))
        (cond (eqb (σ drain_count) 0) (goes (consumer_phase := 2 ∷ [])) (ends_empty z σ))
        (goes (found_record := suc h ∷ found_position := σ head_position ∷ consumer_phase := 6 ∷ []))
        (up_to z.M (suc (σ head_position)) (goes (head_position := suc (σ head_position) ∷ [])))
        (slot_state z σ γ h (σ head_position) s good.agrees)
        (λ b.
        by_cond (Fine z σ γ (step 0)) (eqb (σ drain_count) 0) _ _
        (λ c.
        consumer_goes z σ γ good (early σ e (omega arith)) (consumer_phase := 2 ∷ []) 2 _ ((refl, omega arith), tt) refl (omega arith) (record { cursor_record = front_words.cursor_record; cursor_position = front_words.cursor_position; found_record = front_words.found_record; found_position = front_words.found_position; item_number = front_words.item_number; item_value = front_words.item_value; steps = front_words.steps }) (m.cursor, m.found) refl
        (scan_none z σ γ good _ _ (no_scan z σ γ good 1 e refl))
        (front_blank z.B (view σ γ) good.model seen_front n b))
        (λ c. answers_empty z σ γ good (early σ e (omega arith)) (ap is_busy seen_front) (λ none. absurd (eqb-false (σ drain_count) 0 c none))))
        (λ b.
        consumer_goes z σ γ good (early σ e (omega arith)) (found_record := suc h ∷ found_position := σ head_position ∷ consumer_phase := 6 ∷ []) 6 _
        ((refl, omega arith), ((refl, omega arith), ((refl, omega arith), tt)))
        refl
        (omega arith)
        (record { cursor_record = front_words.cursor_record; cursor_position = omega (arith, front_words.cursor_position); found_record = head_fits; found_position = position_fits; item_number = front_words.item_number; item_value = front_words.item_value; steps = front_words.steps })
        (m.cursor, linked)
        (ap (State.found (σ head_position)) placed)
        (scan_none z σ γ good _ _ (no_scan z σ γ good 1 e refl))
        (front_found z.B (view σ γ) good.model seen_front n b))
        (advances n))

    -- the move past the record's end
    moves : σ head_position ≡ z.B * γ.shape.lo → γ.shape.lo < γ.shape.tp → Fine z σ γ (step 0) (move_head z σ h goes)
    moves at_end_lem more =
        by_move_head z σ γ good at_end_lem more (Fine z σ γ (step 0)) h q goes
        (λ k move. retires z σ γ good at_end_lem more k move (subst⁻¹ (ConsumerOk z.B (retire_head z.B (view σ γ) k)) seen_front tt) front_words.cursor_record front_words.found_record)

  pub front_fine : σ consumer_phase ≡ 1 → Fine z σ γ (step 0) (front z σ)
  unfolding front
  front_fine e =
      by_need (Fine z σ γ (step 0)) (σ head_record) _ (λ x. omega (arith, m.head_is))
      (λ h q.
      by_cond (Fine z σ γ (step 0)) (at_end z σ h (σ head_position)) _ _
      (λ b.
      let at_end_lem : σ head_position ≡ z.B * γ.shape.lo = eqb-true (σ head_position) (z.B * σ (place h)) b ∙ ap (λ (x : ℕ). z.B * x) (placed e h q) in
      by_cond (Fine z σ γ (step 0)) (eqb (σ tail_record) (suc h)) _ _
      (λ c.
      answers_empty z σ γ good (early σ e (omega arith)) (ap is_busy (seen_front e h q))
      (λ none.
      empty_at_head_end z.B (view σ γ) good.model at_end_lem
      (sym (placed e h q) ∙ tail_record_is z σ γ good h (linked e h q) (eqb-true (σ tail_record) (suc h) c))))
      (λ c.
      let not-tail : σ (place h) ≢ γ.shape.tp = not_tail_record z σ γ good h (linked e h q) (eqb-false (σ tail_record) (suc h) c) in
      moves e h q at_end_lem (omega (arith, placed e h q, m.head_tail))))
      (λ b. reads e h q (λ x. eqb-false (σ head_position) (z.B * σ (place h)) b (x ∙ ap (λ (y : ℕ). z.B * y) (sym (placed e h q))))))
