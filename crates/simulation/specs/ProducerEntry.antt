-- Producer phases 8 and 9, which write the entry at the position and set it.
use Rattle.std.specs.Prelude.{◌≡◌, Bool, true, false, ◌&&◌}
use Rattle.std.proofs.Math.Path.{refl, ap, sym, fun_ext}
use Rattle.std.proofs.Common.{ap₂, ◌∙◌, subst, mul-le-mul_left}
use Rattle.std.proofs.Math.Bool.{cond, and-false}
use mathlib.Core.List.{List, [], ◌∷◌, ◌++◌}
use Rattle.std.proofs.Math.Option.{some}
use Prim.Native.Nat.{ℕ, suc, ◌≤◌}
use native.Mathlib.Omega.{arith}
use Rattle.std.proofs.Math.Dec.{eqb}
use borrow.Author.Tests.{eq-eqb, eqb-true}
use Rattle.history.specs.Lists.{All}
use Rattle.history.specs.Event.{History, enqueue_ended}
use Rattle.history.specs.Form.{well_formed}
use Rattle.history.specs.Linearization.{Item}
use Rattle.rules.specs.Sizes.{Sizes}
use Rattle.rules.specs.Update.{after, both, update, area_of, OtherKind, owner_of, Own, own_leaves}
use Rattle.rules.specs.Cell.{Cell, Reader, Write, ◌:=◌, clear_producer, tail, tail_record, head_record, head_position, starts, cursor_record, found_record, consumer, part, entry, place, state, entry_number, entry_value, phase, call, value, position, held, backed, of_producer}
use Rattle.rules.specs.Range.{number, placed_sorts, producer_in_range}
use Rattle.rules.specs.Rule.{Reply, going, ended, goes, reply, index}
use Rattle.rules.specs.Producer.{write_entry, set_entry}
use Rattle.rules.specs.Request.{step}
use Rattle.rules.specs.Play.{reply_events}
use Rattle.rules.specs.InRange.{InSort}
use Rattle.model.specs.State.{Entry, blank, put, gone, Producer, writing, setting, idle, call_of, override}
use Rattle.model.specs.Invariant.{Invariant, Inside}
use Rattle.model.specs.Facts.{override_same, override_other, gone_not_blank}
use Rattle.model.specs.Moves.{with_producer, with_entry, set_entry as setEntered}
use Rattle.model.specs.Walking.{producer_clause}
use Rattle.model.specs.Positions.{write_entry_lem, set_entry_lem}
use Rattle.model.specs.Enqueues.{finish_keeps}
use Rattle.model.specs.Bounds.{writing_place, setting_place}
use Rattle.memory.specs.Memory.{ThreadOk, row_of, held_is}
use Rattle.memory.specs.OtherThreads.{others_kept}
use Rattle.memory.specs.GoingBack.{awaited_linked}
use Rattle.simulation.specs.View.{Ghost, places_of, place_of, producers_of, consumer_from, view, code_of}
use Rattle.simulation.specs.Good.{Good, Goes, Fine, by_need, by_cond}
use Rattle.simulation.specs.Told.{ToEnqueue}
use Rattle.simulation.specs.Rows.{ProducerWords, of_sort_lem, producer_row_of}
use Rattle.simulation.specs.ProducerSteps.{as_seen, at_twice, producers_after, unclaimed, own_words, seen_at, producer_goes}
use Rattle.simulation.specs.OwnWords.{of_producer_lem, own_in_sort, own_there, with_history}
use Rattle.simulation.specs.Awaiting.{blank_awaited}
use Rattle.simulation.specs.RecordSteps.{seen_as}
use Rattle.simulation.specs.EnqueueEnd.{end_formed, end_adds, idle_in_range, idle_thread, idle_seen}
use Rattle.simulation.specs.Entries.{other_record, other_entry, by_inside, Slot, slot, slot_changes, slot_state, slot_number, slot_value}

-- setting an entry makes none handled
set_not_gone : (b : Bool) (x : Entry) → cond b put x ≡ gone → x ≡ gone
set_not_gone true x e = let z : ◌≡◌ {A = ℕ} 1 2 = ap code_of e in absurd (omega arith)
set_not_gone false x e = e

module _ (z : Sizes) (σ : Reader) (γ : Ghost) (good : Good z σ γ) (t : ℕ) (a-producer : (1 ≤ t) × (t ≤ z.P)) where
  self : eqb t t ≡ true
  self = eq-eqb t t refl

  -- the record held in phases 8 and 9 is linked, and the position is inside it
  held_slot : (h : ℕ) → σ (held t) ≡ suc h
      → (γ.shape.lo ≤ place_of (places_of σ) (σ (held t))) × (place_of (places_of σ) (σ (held t)) ≤ γ.shape.tp) × Inside z.B (σ (position t)) (place_of (places_of σ) (σ (held t)))
      → γ.entry (σ (position t)) ≡ blank
      → Inside z.B (σ (position t)) (σ (place h)) × Slot z σ γ.shape h (σ (position t))
  held_slot h q o empty =
      let w : place_of (places_of σ) (σ (held t)) ≡ σ (place h) = ap (place_of (places_of σ)) q in
      let inside : Inside z.B (σ (position t)) (σ (place h)) = subst (Inside z.B (σ (position t))) w o.2 in
      let awaited = blank_awaited z σ γ good (σ (position t)) empty (omega (arith, inside.0, mul-le-mul_left z.B o.1, w)) in
      let linked = awaited_linked good.memory (σ (position t)) h awaited inside.0 inside.1 (held_is good.memory t h q) in
      (inside, slot z σ γ.shape good.memory.chain h (σ (position t)) linked inside)

  -- 8. Write call number and value into the entry; to 9.
  abbrev write_writes : (h i : ℕ) → List Write
  write_writes h i = entry_number h i := σ (call t) ∷ entry_value h i := σ (value t) ∷ phase t := 9 ∷ []

  pub write_entry_fine : σ (phase t) ≡ 8 → Fine z σ γ (step t) (write_entry z σ t)
  unfolding write_entry
  write_entry_fine e =
      by_need (Fine z σ γ (step t)) (σ (held t)) _ ((good.memory.threads t).has_held (omega arith))
      (λ h q.
      let s = held_slot h q (writing_place z.B (view σ γ) good.model t _ _ _ _ seen) (producer_clause z.B (view σ γ) good.model t _ seen).0.is_blank in
      by_inside z σ h (σ (position t)) s.0 (Fine z σ γ (step t)) (λ i. goes (write_writes h i)) (writes h s.1))
    where
      seen : (view σ γ).producer t ≡ writing (σ (call t)) (σ (value t)) (σ (position t)) (place_of (places_of σ) (σ (held t)))
      seen = seen_at z σ γ good t a-producer 8 e

      old : ProducerWords z (row_of σ t) placed_sorts
      old = own_words z σ γ good t a-producer 8 e

      writes : (h : ℕ) → Slot z σ γ.shape h (σ (position t)) → Goes z σ γ (step t) going (write_writes h (index z σ h (σ (position t))))
      writes h s =
          producer_goes z σ γ good t a-producer going tt ws γ.shape.tp γ.entry (override γ.content (σ (position t)) what) γ.history
          in_sort
          ((s.fits, s.here.below, omega arith), ((s.fits, s.here.below, omega arith), ((a-producer.0, a-producer.1, omega arith), tt)))
          (record { parts = λ x j. refl; entries = λ x n b j. rw (other_record σ h s.linked x n, and-false (eqb (index z σ h (σ (position t))) b), and-false (eqb 2 j), and-false (eqb 1 j)) refl })
          (refl, refl, refl, refl)
          (producer_row_of z (row_of σ' t) 9 nine (omega arith) (record { call = old.call; value = old.value; position = old.position; held = old.held; claimed = old.claimed; backed = old.backed; steps = old.steps }))
          (unclaimed z σ (row_of σ' t) (good.memory.threads t).holding old.claimed
          (λ l. (good.memory.threads t).has_held (omega arith)) (λ x. omega (arith, nine)) (λ x. omega (arith, nine)) (λ x. absurd (omega (arith, nine))))
          old.claimed
          (omega arith, good.memory.tail_last, good.memory.tail_is)
          (slot_changes z σ σ' γ.shape good.memory.chain h (σ (position t)) s γ.entry γ.entry γ.content (override γ.content (σ (position t)) what)
          (λ p n. (refl, override_other γ.content (σ (position t)) what p n))
          (λ y a j n. rw (other_entry h i y a n, and-false (eqb 2 j), and-false (eqb 1 j)) refl)
          (slot_state z σ γ h (σ (position t)) s good.agrees)
          (rw (override_same γ.content (σ (position t)) what, eq-eqb h h refl, eq-eqb i i refl) refl)
          (rw (override_same γ.content (σ (position t)) what, eq-eqb h h refl, eq-eqb i i refl) refl)
          good.agrees)
          (as_seen (write_entry_lem z.B (view σ γ) good.model t _ _ _ _ seen)
          (producers_after t σ σ' (others_kept z t σ ws in_sort) (λ u x. refl) _ (rw self refl)))
          good.formed
          refl
          (omega arith)
          (λ p. ((λ x. x), (λ x. x)))
        where
          i : ℕ
          i = index z σ h (σ (position t))

          ws : List Write
          ws = write_writes h (index z σ h (σ (position t)))

          σ' : Reader
          σ' = after σ ws

          what : Item
          what = record { number = σ (call t); value = σ (value t) }

          nine : row_of σ' t 0 ≡ 9
          nine = rw self refl

          in_sort : All (InSort z t) ws
          in_sort = (of_sort_lem z number (σ (call t)) old.call, (refl, (refl, tt)))

  -- 9. Set the entry. If the index is 1 and phase 7 was never taken, to 10; otherwise end.
  module _ (e : σ (phase t) ≡ 9) (h : ℕ) (s : Slot z σ γ.shape h (σ (position t))) where
    i : ℕ
    i = index z σ h (σ (position t))

    seen_setting : (view σ γ).producer t ≡ setting (σ (call t)) (σ (value t)) (σ (position t)) (place_of (places_of σ) (σ (held t)))
    seen_setting = seen_at z σ γ good t a-producer 9 e

    setting_words : ProducerWords z (row_of σ t) placed_sorts
    setting_words = own_words z σ γ good t a-producer 9 e

    -- the rest of the step, of t's own words
    sets : (rest : List Write) (r : Reply) → ToEnqueue r → (x : Producer) (H : History) → All (Own (of_producer t)) rest
        → producer_in_range z (after σ (state h i := 1 ∷ rest)) t ≡ true
        → ThreadOk z σ (row_of (after σ (state h i := 1 ∷ rest)) t)
        → row_of (after σ (state h i := 1 ∷ rest)) t 5 ≡ 0
        → producers_of (after σ (state h i := 1 ∷ rest)) t ≡ x
        → Invariant z.B (with_history (with_producer (with_entry (view σ γ) (σ (position t)) put) t x) H)
        → well_formed H ≡ true
        → H ≡ reply_events (step t) γ.history r ++ γ.history
        → Goes z σ γ (step t) r (state h i := 1 ∷ rest)
    unfolding i
    sets rest r to x H own in_row thread none seen model formed grown =
        producer_goes z σ γ good t a-producer r to ws γ.shape.tp (override γ.entry (σ (position t)) put) γ.content H
        in_sort
        ((s.fits, s.here.below, omega arith), own_there z t (of_producer t) (of_producer_lem z t a-producer) rest own)
        (record {
          parts = λ y j. same (part y j) refl;
          entries = λ y n a j. same (entry y a j) refl ∙ rw (other_record σ h s.linked y n, and-false (eqb i a), and-false (eqb 0 j)) refl;
        })
        (same head_record refl, same cursor_record refl, same found_record refl, same head_position refl)
        in_row
        thread
        none
        (omega arith, good.memory.tail_last, same tail_record refl ∙ good.memory.tail_is)
        (slot_changes z σ σ' γ.shape good.memory.chain h (σ (position t)) s γ.entry (override γ.entry (σ (position t)) put) γ.content γ.content
        (λ p n. (override_other γ.entry (σ (position t)) put p n, refl))
        (λ y a j n. same (entry y a j) refl ∙ rw (other_entry h i y a n, and-false (eqb 0 j)) refl)
        (same (entry h i 0) refl ∙ rw (override_same γ.entry (σ (position t)) put, eq-eqb h h refl, eq-eqb i i refl) refl)
        (same (entry h i 1) refl ∙ slot_number z σ γ h (σ (position t)) s good.agrees)
        (same (entry h i 2) refl ∙ slot_value z σ γ h (σ (position t)) s good.agrees)
        good.agrees)
        (seen_as model (sym (same tail refl)) (sym (same head_position refl)) (sym (same starts refl))
        (producers_after t σ σ' (others_kept z t σ ws in_sort) (λ u n. ap (λ (f : ℕ → ℕ). place_of f (row_of σ u 4)) places) x seen)
        (ap₂ consumer_from (sym places) (fun_ext (λ k. sym (same (consumer k) refl)))))
        formed
        grown
        (omega (arith, same tail refl))
        (λ p. (set_not_gone (eqb (σ (position t)) p) (γ.entry p), still_gone p))
      where
        ws : List Write
        ws = state h i := 1 ∷ rest

        σ' : Reader
        σ' = after σ ws

        same : (d : Cell) → OtherKind (of_producer t) (owner_of (area_of d)) → σ' d ≡ update σ (state h i := 1) d
        same = own_leaves (of_producer t) (update σ (state h i := 1)) rest own

        still_gone : (p : ℕ) → γ.entry p ≡ gone → override γ.entry (σ (position t)) put p ≡ gone
        still_gone p q =
            override_other γ.entry (σ (position t)) put p
            (λ w. gone_not_blank _ q (ap γ.entry w ∙ (producer_clause z.B (view σ γ) good.model t _ seen_setting).0.is_blank))
            ∙ q

        places : places_of σ' ≡ places_of σ
        places = fun_ext (λ y. same (place y) refl)

        in_sort : All (InSort z t) ws
        in_sort = (refl, own_in_sort z t (of_producer t) (of_producer_lem z t a-producer) rest own)

    -- to phase 10
    goes_ahead : σ (backed t) ≡ 0 → Goes z σ γ (step t) going (state h i := 1 ∷ phase t := 10 ∷ [])
    unfolding i
    goes_ahead flag =
        sets (phase t := 10 ∷ []) going tt _ γ.history ((refl, omega arith), tt)
        (producer_row_of z (row_of σ' t) 10 ten (omega arith)
        (record { call = setting_words.call; value = tt; position = setting_words.position; held = setting_words.held; claimed = setting_words.claimed; backed = flag; steps = setting_words.steps }))
        (unclaimed z σ (row_of σ' t) (good.memory.threads t).holding setting_words.claimed
        (λ l. (good.memory.threads t).has_held (omega arith)) (λ x. omega (arith, ten)) (λ x. omega (arith, ten)) (λ x. absurd (omega (arith, ten))))
        setting_words.claimed
        (rw self refl)
        (set_entry_lem z.B (view σ γ) good.model t _ _ _ _ seen_setting)
        good.formed
        refl
      where
        σ' : Reader
        σ' = after σ (state h (index z σ h (σ (position t))) := 1 ∷ phase t := 10 ∷ [])

        ten : row_of σ' t 0 ≡ 10
        ten = rw self refl

    -- the end
    ends : Goes z σ γ (step t) ended (state h i := 1 ∷ clear_producer t ∷ [])
    unfolding i
    ends =
        sets (clear_producer t ∷ []) ended tt idle (enqueue_ended t (σ (call t)) (σ (value t)) ∷ γ.history) ((refl, omega arith), tt)
        (idle_in_range z σ (row_of σ' t) row)
        (idle_thread z σ (row_of σ' t) row)
        (row 5)
        (idle_seen z σ (row_of σ' t) row (places_of σ))
        (as_seen
        (finish_keeps z.B (setEntered (view σ γ) t _ _ _ _) (set_entry_lem z.B (view σ γ) good.model t _ _ _ _ seen_setting) t _ _ _ _ (override_same (producers_of σ) t _))
        (at_twice (producers_of σ) t _ idle))
        (end_formed z σ γ good t _ is)
        (end_adds z σ γ good t _ is)
      where
        σ' : Reader
        σ' = after σ (state h (index z σ h (σ (position t))) := 1 ∷ clear_producer t ∷ [])

        row : (j : ℕ) → row_of σ' t j ≡ 0
        row j = rw self refl

        is : call_of ((view σ γ).producer t) ≡ some (record { number = σ (call t); value = σ (value t) })
        is = ap call_of seen_setting

  pub set_entry_fine : σ (phase t) ≡ 9 → Fine z σ γ (step t) (set_entry z σ t)
  unfolding set_entry i
  set_entry_fine e =
      by_need (Fine z σ γ (step t)) (σ (held t)) _ ((good.memory.threads t).has_held (omega arith))
      (λ h q.
      let seen = seen_at z σ γ good t a-producer 9 e in
      let s = held_slot h q (setting_place z.B (view σ γ) good.model t _ _ _ _ seen) (producer_clause z.B (view σ γ) good.model t _ seen).0.is_blank in
      by_inside z σ h (σ (position t)) s.0 (Fine z σ γ (step t))
      (λ i. cond (eqb i 1 && eqb (σ (backed t)) 0) (goes (state h i := 1 ∷ phase t := 10 ∷ [])) (reply ended (state h i := 1 ∷ clear_producer t ∷ [])))
      (by_cond (Fine z σ γ (step t)) (eqb (index z σ h (σ (position t))) 1 && eqb (σ (backed t)) 0) _ _
      (λ b. goes_ahead e h s.1 (eqb-true (σ (backed t)) 0 (both (eqb (index z σ h (σ (position t))) 1) (eqb (σ (backed t)) 0) b).1))
      (λ b. ends e h s.1)))
