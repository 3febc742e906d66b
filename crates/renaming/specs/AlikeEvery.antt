-- Every request on two stores alike that only the engine has written is answered alike, whichever loose record each claim takes, if both
-- claims find one or neither does. From the phases, one by one.
use Rattle.std.specs.Prelude.{◌≡◌, ◌||◌, not, List, [], ◌∷◌, ◌++◌, eqb, get_or}
use Rattle.std.proofs.Math.Path.{refl}
use Rattle.std.proofs.Common.{ap, sym, ◌∙◌, append-nil}
use Prim.Native.Nat.{ℕ, zero, suc}
use Rattle.std.proofs.Math.Dec.{ltb}
use Rattle.rules.specs.Sizes.{Sizes, between, most_steps, most_drained}
use Rattle.rules.specs.Cell.{Reader, Write, ◌:=◌, consumer, producer, tail, starts, consumer_phase, drain_limit, phase, step_count}
use Rattle.rules.specs.Update.{update, after, after_more, count_of, count_is}
use Rattle.rules.specs.Rule.{Effect, Reply, refuse, reply, ok, started, going, ended, empty, item, drained}
use Rattle.rules.specs.Producer.{producer_rules, producer_step}
use Rattle.rules.specs.Consumer.{consumer_rules, consumer_step}
use Rattle.rules.specs.Request.{Request, count_kept, start_enqueue, start_dequeue, start_drain, step, starting_enqueue, starting_dequeue, starting_drain, start_writes, phase_step, counted, stepping, steps_so_far}
use Rattle.simulation.specs.Every.{effect_taking}
use Rattle.renaming.specs.AlikeEffects.{Stores, Like, by_refusal, by_cond, by_up_to, by_plain}
use Rattle.renaming.specs.AlikeRecords.{Twins}
use Rattle.renaming.specs.AlikeProducer.{load_tail_alike, look_next_alike, link_claimed_alike, link_ahead_alike, shift_tail_alike, go_back_alike, write_entry_alike, set_entry_alike}
use Rattle.renaming.specs.AlikeClaims.{BothChoose, claim_record_alike, claim_ahead_alike}
use Rattle.renaming.specs.AlikeConsumer.{front_alike, read_tail_alike, scan_alike, read_entry_alike, rescan_alike, read_item_alike, mark_handled_alike, retire_head_alike}

-- The count is written alike.
with_count : {z : Sizes} {σ τ : Reader} → Stores z σ τ → (t n : ℕ) → Stores z (update σ (count_of t := n)) (update τ (count_of t := n))
with_count s zero n = (by_plain s going (consumer 7 := n ∷ []) _ refl refl).answers.1
with_count s (suc p) n = (by_plain s going (producer (suc p) 7 := n ∷ []) _ refl refl).answers.1

module _ (z : Sizes) (σ τ : Reader) (t k : ℕ) where
  kept_alike : (r : Reply) (ws vs : List Write) → Stores z (after σ ws) (after τ vs)
      → Stores z (after σ (ws ++ count_kept (step_count t) k r)) (after τ (vs ++ count_kept (step_count t) k r))
  kept_alike going ws vs s =
      rw (after_more σ ws (step_count t := k), after_more τ vs (step_count t := k), count_is t) (with_count s t k)
  kept_alike ok ws vs s = rw (append-nil ws, append-nil vs) s
  kept_alike (started n) ws vs s = rw (append-nil ws, append-nil vs) s
  kept_alike ended ws vs s = rw (append-nil ws, append-nil vs) s
  kept_alike empty ws vs s = rw (append-nil ws, append-nil vs) s
  kept_alike (item n v) ws vs s = rw (append-nil ws, append-nil vs) s
  kept_alike (drained xs) ws vs s = rw (append-nil ws, append-nil vs) s

  counted_alike : (a b : Effect) → Like z σ τ a b → Like z σ τ (counted (step_count t) k a) (counted (step_count t) k b)
  unfolding counted
  counted_alike (refuse n) (refuse m) l = record { answers = l.answers }
  counted_alike (refuse n) (reply s vs) l = absurd l.answers
  counted_alike (reply r ws) (refuse m) l = absurd l.answers
  counted_alike (reply r ws) (reply s vs) l =
      by_up_to most_steps k k refl
      (rw (← l.answers.0) (record { answers = (refl, kept_alike r ws vs l.answers.1) }))

module _ {z : Sizes} {σ τ : Reader} (pair : Twins z σ τ) where
  idle_alike : Like z σ τ (refuse 7) (refuse 7)
  idle_alike = by_refusal 7

  consumer_phase_lem : τ consumer_phase ≡ σ consumer_phase
  consumer_phase_lem = pair.stores.alike.words consumer_phase tt

  phase_same : (t : ℕ) → τ (phase t) ≡ σ (phase t)
  phase_same t = pair.stores.alike.words (phase t) tt

  count_same : (t : ℕ) → τ (step_count t) ≡ σ (step_count t)
  count_same t = ap τ (count_is t) ∙ go t ∙ ap σ (sym (count_is t))
    where
      go : (t : ℕ) → τ (count_of t) ≡ σ (count_of t)
      go zero = pair.stores.alike.words (consumer 7) tt
      go (suc p) = pair.stores.alike.words (producer (suc p) 7) tt

  -- the number that an accepted reply carries
  pub steps_same : (q : Request) → steps_so_far q τ ≡ steps_so_far q σ
  steps_same (start_enqueue t v) = refl
  steps_same start_dequeue = refl
  steps_same (start_drain n) = refl
  steps_same (step t) = ap suc (count_same t)

  consumer_alike : Like z σ τ (consumer_step z σ) (consumer_step z τ)
  unfolding consumer_step
  consumer_alike = rw consumer_phase_lem (by-phase (σ consumer_phase) refl)
    where
      by-phase : (p : ℕ) → σ consumer_phase ≡ p
          → Like z σ τ (get_or consumer_rules p (λ z σ. refuse 7) z σ) (get_or consumer_rules p (λ z σ. refuse 7) z τ)
      by-phase zero e = idle_alike
      by-phase (suc zero) e = front_alike pair
      by-phase (suc (suc zero)) e = read_tail_alike pair
      by-phase (suc (suc (suc zero))) e = scan_alike pair
      by-phase (suc (suc (suc (suc zero)))) e = read_entry_alike pair
      by-phase (suc (suc (suc (suc (suc zero))))) e = rescan_alike pair
      by-phase (suc (suc (suc (suc (suc (suc zero)))))) e = read_item_alike pair
      by-phase (suc (suc (suc (suc (suc (suc (suc zero))))))) e = mark_handled_alike pair
      by-phase (suc (suc (suc (suc (suc (suc (suc (suc zero)))))))) e = retire_head_alike pair e
      by-phase (suc (suc (suc (suc (suc (suc (suc (suc (suc p))))))))) e = idle_alike

  producer_alike : (t c d : ℕ) → BothChoose z σ τ c d → Like z σ τ (producer_step c z σ t) (producer_step d z τ t)
  unfolding producer_step
  producer_alike t c d both = rw (phase_same t) (by-phase (σ (phase t)) refl)
    where
      by-phase : (p : ℕ) → σ (phase t) ≡ p
          → Like z σ τ (get_or (producer_rules c) p (λ z σ t. refuse 7) z σ t) (get_or (producer_rules d) p (λ z σ t. refuse 7) z τ t)
      by-phase zero e = idle_alike
      by-phase (suc zero) e = idle_alike
      by-phase (suc (suc zero)) e = load_tail_alike pair t
      by-phase (suc (suc (suc zero))) e = look_next_alike pair t
      by-phase (suc (suc (suc (suc zero)))) e = claim_record_alike pair t c d both
      by-phase (suc (suc (suc (suc (suc zero))))) e = link_claimed_alike pair t
      by-phase (suc (suc (suc (suc (suc (suc zero)))))) e = shift_tail_alike pair t
      by-phase (suc (suc (suc (suc (suc (suc (suc zero))))))) e = go_back_alike pair t e
      by-phase (suc (suc (suc (suc (suc (suc (suc (suc zero)))))))) e = write_entry_alike pair t
      by-phase (suc (suc (suc (suc (suc (suc (suc (suc (suc zero))))))))) e = set_entry_alike pair t
      by-phase (suc (suc (suc (suc (suc (suc (suc (suc (suc (suc zero)))))))))) e = claim_ahead_alike pair t c d both
      by-phase (suc (suc (suc (suc (suc (suc (suc (suc (suc (suc (suc zero))))))))))) e = link_ahead_alike pair t
      by-phase (suc (suc (suc (suc (suc (suc (suc (suc (suc (suc (suc (suc p)))))))))))) e = idle_alike

  phase_alike : (c d : ℕ) → BothChoose z σ τ c d → (t : ℕ) → Like z σ τ (phase_step c t z σ) (phase_step d t z τ)
  unfolding phase_step
  phase_alike c d both t =
      by_cond (ltb z.P t) (ltb z.P t) refl
      (λ b. by_refusal 4)
      (λ b.
      by_cond (eqb t 0) (eqb t 0) refl
      (λ e.
      by_cond (eqb (σ consumer_phase) 0) (eqb (τ consumer_phase) 0) (rw consumer_phase_lem refl)
      (λ i. idle_alike)
      (λ i. consumer_alike))
      (λ e.
      by_cond (eqb (σ (phase t)) 0) (eqb (τ (phase t)) 0) (rw (phase_same t) refl)
      (λ i. idle_alike)
      (λ i. producer_alike t c d both)))

  step_alike : (c d : ℕ) → BothChoose z σ τ c d → (t : ℕ) → Like z σ τ (stepping c t z σ) (stepping d t z τ)
  unfolding stepping
  step_alike c d both t = rw (count_same t) (counted_alike z σ τ t (suc (σ (step_count t))) _ _ (phase_alike c d both t))

  start_enqueue_alike : (t v : ℕ) → Like z σ τ (starting_enqueue t v z σ) (starting_enqueue t v z τ)
  unfolding starting_enqueue
  start_enqueue_alike t v =
      let count : τ starts ≡ σ starts = pair.stores.alike.words starts tt in
      let next : τ tail ≡ σ tail = pair.stores.alike.words tail tt in
      by_cond (eqb t 0 || ltb z.P t) (eqb t 0 || ltb z.P t) refl
      (λ b. by_refusal 4)
      (λ b.
      by_cond (not (eqb (σ (phase t)) 0)) (not (eqb (τ (phase t)) 0)) (rw (phase_same t) refl)
      (λ c. by_refusal 5)
      (λ c.
      by_cond (eqb (σ starts) z.M) (eqb (τ starts) z.M) (rw count refl)
      (λ d. by_refusal 6)
      (λ d.
      by_cond (eqb (σ tail) z.M) (eqb (τ tail) z.M) (rw next refl)
      (λ e. by_refusal 9)
      (λ e. rw (count, next) (by_plain pair.stores (started (suc (σ starts))) (start_writes σ t v) _ refl refl)))))

  start_dequeue_alike : Like z σ τ (starting_dequeue z σ) (starting_dequeue z τ)
  unfolding starting_dequeue
  start_dequeue_alike =
      by_cond (not (eqb (σ consumer_phase) 0)) (not (eqb (τ consumer_phase) 0)) (rw consumer_phase_lem refl)
      (λ b. by_refusal 5)
      (λ b. by_plain pair.stores ok (consumer_phase := 1 ∷ []) _ refl refl)

  start_drain_alike : (n : ℕ) → Like z σ τ (starting_drain n z σ) (starting_drain n z τ)
  unfolding starting_drain
  start_drain_alike n =
      by_cond (not (eqb (σ consumer_phase) 0)) (not (eqb (τ consumer_phase) 0)) (rw consumer_phase_lem refl)
      (λ b. by_refusal 5)
      (λ b.
      by_cond (not (between 1 most_drained n)) (not (between 1 most_drained n)) refl
      (λ c. by_refusal 14)
      (λ c. by_plain pair.stores ok (drain_limit := n ∷ consumer_phase := 1 ∷ []) _ refl refl))

  pub answer_alike : (c d : ℕ) → BothChoose z σ τ c d → (q : Request) → Like z σ τ (effect_taking c q z σ) (effect_taking d q z τ)
  answer_alike c d both (start_enqueue t v) = start_enqueue_alike t v
  answer_alike c d both start_dequeue = start_dequeue_alike
  answer_alike c d both (start_drain n) = start_drain_alike n
  answer_alike c d both (step t) = step_alike c d both t
