-- Every phase on a store that only the engine has written goes on so, whichever loose record a claim takes. The next free one is loose.
use Rattle.std.specs.Prelude.{◌≡◌, ◌≢◌, [], leb, eqb, ltb, get_or}
use Rattle.std.proofs.Math.Path.{refl}
use Rattle.std.proofs.Math.Logic.{inl}
use Rattle.std.proofs.Common.{inr}
use Prim.Native.Nat.{ℕ, zero, suc, ◌≤◌}
use native.Mathlib.Omega.{arith}
use borrow.Author.Tests.{leb-true, ne_eqb, eqb-true, eqb-false, ltb-true, ltb-false}
use Rattle.rules.specs.Sizes.{Sizes}
use Rattle.rules.specs.Cell.{Reader, consumer, producer, last_claimed, consumer_phase, phase, thread_phase}
use Rattle.rules.specs.Free.{next_free}
use Rattle.rules.specs.Update.{both}
use Rattle.rules.specs.Range.{record_number, consumer_sorts, producer_sorts, last_consumer_phase, last_producer_phase, of_sorts}
use Rattle.rules.specs.Rule.{Effect, refuse}
use Rattle.rules.specs.Producer.{producer_rules, producer_step}
use Rattle.rules.specs.Consumer.{consumer_rules, consumer_step}
use Rattle.rules.specs.Request.{Request, start_enqueue, start_dequeue, start_drain, step, starting_enqueue, starting_dequeue, starting_drain, phase_step, stepping, effect}
use Rattle.memory.specs.Loose.{LooseChoice, next_free_loose}
use Rattle.simulation.specs.View.{Ghost}
use Rattle.simulation.specs.Good.{Good, Fine, by_cond}
use Rattle.simulation.specs.Rows.{has_sort}
use Rattle.simulation.specs.ProducerSteps.{not_in_one}
use Rattle.simulation.specs.ProducerWalk.{load_tail_fine, look_next_fine, shift_tail_fine, go_back_fine}
use Rattle.simulation.specs.ProducerClaim.{claim_record_fine, claim_ahead_fine}
use Rattle.simulation.specs.ProducerLink.{link_claimed_fine, link_ahead_fine}
use Rattle.simulation.specs.ProducerEntry.{write_entry_fine, set_entry_fine}
use Rattle.simulation.specs.ConsumerRetire.{retire_head_fine}
use Rattle.simulation.specs.ConsumerFront.{front_fine, read_tail_fine}
use Rattle.simulation.specs.ConsumerScan.{scan_fine, read_entry_fine}
use Rattle.simulation.specs.ConsumerRescan.{rescan_fine}
use Rattle.simulation.specs.ConsumerItem.{read_item_fine, mark_handled_fine}

-- What a call does whose claim takes this record (plus one; zero for none).
abbrev pub effect_taking : (c : ℕ) → Request → Sizes → Reader → Effect
effect_taking c (start_enqueue t v) z σ = starting_enqueue t v z σ
effect_taking c start_dequeue z σ = starting_dequeue z σ
effect_taking c (start_drain n) z σ = starting_drain n z σ
effect_taking c (step t) z σ = stepping c t z σ

-- The rules take the next free one.
pub effect_is : (q : Request) (z : Sizes) (σ : Reader) → effect q z σ ≡ effect_taking (next_free z σ) q z σ
unfolding effect
effect_is (start_enqueue t v) z σ = refl
effect_is start_dequeue z σ = refl
effect_is (start_drain n) z σ = refl
effect_is (step t) z σ = refl

module _ (z : Sizes) (σ : Reader) (γ : Ghost) (good : Good z σ γ) where
  -- an idle thread
  idle_fine : (t : ℕ) → σ (thread_phase t) ≡ 0 → Fine z σ γ (step t) (refuse 7)
  idle_fine t e = inr (inl (refl, e))

  -- no phase is past the last one
  consumer_most : σ consumer_phase ≤ last_consumer_phase
  consumer_most =
      leb-true (σ consumer_phase) last_consumer_phase
      (both (leb (σ consumer_phase) last_consumer_phase) (of_sorts z (λ k. σ (consumer k)) 1 (get_or consumer_sorts (σ consumer_phase) [])) good.range.consuming).0

  producer_most : (t : ℕ) → (1 ≤ t) × (t ≤ z.P) → σ (phase t) ≤ last_producer_phase
  producer_most t a =
      leb-true (σ (phase t)) last_producer_phase
      (both (leb (σ (phase t)) last_producer_phase) (of_sorts z (λ k. σ (producer t k)) 1 (get_or producer_sorts (σ (phase t)) [])) (good.range.producing t a.0 a.1)).0

  consumer_fine : Fine z σ γ (step 0) (consumer_step z σ)
  unfolding consumer_step
  consumer_fine = by-phase (σ consumer_phase) refl
    where
      by-phase : (p : ℕ) → σ consumer_phase ≡ p → Fine z σ γ (step 0) (get_or consumer_rules p (λ z σ. refuse 7) z σ)
      by-phase zero e = idle_fine 0 e
      by-phase (suc zero) e = front_fine z σ γ good e
      by-phase (suc (suc zero)) e = read_tail_fine z σ γ good e
      by-phase (suc (suc (suc zero))) e = scan_fine z σ γ good e
      by-phase (suc (suc (suc (suc zero)))) e = read_entry_fine z σ γ good e
      by-phase (suc (suc (suc (suc (suc zero))))) e = rescan_fine z σ γ good e
      by-phase (suc (suc (suc (suc (suc (suc zero)))))) e = read_item_fine z σ γ good e
      by-phase (suc (suc (suc (suc (suc (suc (suc zero))))))) e = mark_handled_fine z σ γ good e
      by-phase (suc (suc (suc (suc (suc (suc (suc (suc zero)))))))) e = retire_head_fine z σ γ good e
      by-phase (suc (suc (suc (suc (suc (suc (suc (suc (suc p))))))))) e = absurd (omega (arith, consumer_most))

  producer_fine : (t : ℕ) → (1 ≤ t) × (t ≤ z.P) → (c : ℕ) → LooseChoice z σ c → Fine z σ γ (step t) (producer_step c z σ t)
  unfolding producer_step
  producer_fine t a c choice = by-phase (σ (phase t)) refl
    where
      by-phase : (p : ℕ) → σ (phase t) ≡ p → Fine z σ γ (step t) (get_or (producer_rules c) p (λ z σ t. refuse 7) z σ t)
      by-phase zero e = idle_fine t (rw (ne_eqb t 0 (λ x. omega (arith, a.0))) e)
      by-phase (suc zero) e = absurd (not_in_one z σ γ good t a e)
      by-phase (suc (suc zero)) e = load_tail_fine z σ γ good t a e
      by-phase (suc (suc (suc zero))) e = look_next_fine z σ γ good t a e
      by-phase (suc (suc (suc (suc zero)))) e = claim_record_fine z σ γ good t a e c choice
      by-phase (suc (suc (suc (suc (suc zero))))) e = link_claimed_fine z σ γ good t a e
      by-phase (suc (suc (suc (suc (suc (suc zero)))))) e = shift_tail_fine z σ γ good t a e
      by-phase (suc (suc (suc (suc (suc (suc (suc zero))))))) e = go_back_fine z σ γ good t a e
      by-phase (suc (suc (suc (suc (suc (suc (suc (suc zero)))))))) e = write_entry_fine z σ γ good t a e
      by-phase (suc (suc (suc (suc (suc (suc (suc (suc (suc zero))))))))) e = set_entry_fine z σ γ good t a e
      by-phase (suc (suc (suc (suc (suc (suc (suc (suc (suc (suc zero)))))))))) e = claim_ahead_fine z σ γ good t a e c choice
      by-phase (suc (suc (suc (suc (suc (suc (suc (suc (suc (suc (suc zero))))))))))) e = link_ahead_fine z σ γ good t a e
      by-phase (suc (suc (suc (suc (suc (suc (suc (suc (suc (suc (suc (suc p)))))))))))) e = absurd (omega (arith, producer_most t a))

  pub phase_fine : (c : ℕ) → LooseChoice z σ c → (t : ℕ) → Fine z σ γ (step t) (phase_step c t z σ)
  unfolding phase_step
  phase_fine c choice t =
      by_cond (Fine z σ γ (step t)) (ltb z.P t) _ _
      (λ b. inl (refl, ltb-true z.P t b))
      (λ b.
      by_cond (Fine z σ γ (step t)) (eqb t 0) _ _
      (λ e.
      by_cond (Fine z σ γ (step t)) (eqb (σ consumer_phase) 0) _ _
      (λ d. idle_fine t (rw e (eqb-true (σ consumer_phase) 0 d)))
      (λ d. rw (eqb-true t 0 e) consumer_fine))
      (λ e.
      let n : t ≢ 0 = eqb-false t 0 e in
      by_cond (Fine z σ γ (step t)) (eqb (σ (phase t)) 0) _ _
      (λ d. idle_fine t (rw e (eqb-true (σ (phase t)) 0 d)))
      (λ d. producer_fine t (omega arith, ltb-false z.P t b) c choice)))

  pub next_choice : LooseChoice z σ (next_free z σ)
  next_choice =
      next_free_loose z σ good.memory (has_sort z record_number (σ last_claimed) (good.range.words last_claimed tt)).1
