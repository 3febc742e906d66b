-- What every accepted call does to the drain area, on a store that only the engine has written: a start and a producer's step leave it, and the
-- consumer's steps do what their phases do.
use Rattle.std.specs.Prelude.{◌≡◌, refl, ◌||◌, not, List, ◌++◌, ℕ, zero, suc, ◌≤◌, eqb}
use Rattle.std.proofs.Math.Path.{subst, subst⁻¹}
use Rattle.std.proofs.Common.{sym, ◌∙◌, inl, append-nil, arith}
use Rattle.std.proofs.Math.Dec.{ltb}
use Rattle.rules.specs.Sizes.{Sizes, between, most_steps, most_drained}
use Rattle.rules.specs.Cell.{Reader, Write, ◌:=◌, consumer, reader, pair, tail, starts, consumer_phase, phase, drain_limit, drain_count}
use Rattle.rules.specs.Update.{after, after_more}
use Rattle.rules.specs.Free.{next_free}
use Rattle.rules.specs.Rule.{Effect, Reply, refuse, reply, ok, started, going, ended, empty, item, drained}
use Rattle.rules.specs.Request.{Request, start_enqueue, start_dequeue, start_drain, step, starting_enqueue, starting_dequeue, starting_drain, phase_step, count_kept, counted, stepping, effect}
use Rattle.rules.specs.Play.{Played}
use Rattle.simulation.specs.Good.{Moved, by_cond}
use Rattle.simulation.specs.View.{Ghost}
use Rattle.simulation.specs.DrainWords.{drain_in}
use Rattle.simulation.specs.Every.{effect_is, next_choice}
use Rattle.progress.specs.Lowers.{OfThread}
use Rattle.progress.specs.Leaves.{each_up_to}
use Rattle.progress.specs.Paced.{Keeps, accepted_busy}
use Rattle.ordering.specs.Theorem.{Maintained}
use Rattle.ordering.specs.Counting.{effect_keeps}
use Rattle.receiving.specs.Hands.{SameMarked, Hands, HandsOver, refused_hands, reply_hands}
use Rattle.receiving.specs.Phases.{consumer_hands}

module _ (z : Sizes) (σ : Reader) where
  -- The count of steps is no word of the drain area.
  counted_reply : (k : ℕ) (r : Reply) (ws : List Write) → Hands σ (after σ ws) r → Hands σ (after σ (ws ++ count_kept (consumer 7) k r)) r
  counted_reply k going ws h = subst⁻¹ (λ (τ : Reader). Hands σ τ going) (after_more σ ws (consumer 7 := k)) h
  counted_reply k ok ws h = rw (append-nil ws) h
  counted_reply k (started n) ws h = rw (append-nil ws) h
  counted_reply k ended ws h = rw (append-nil ws) h
  counted_reply k empty ws h = rw (append-nil ws) h
  counted_reply k (item n v) ws h = rw (append-nil ws) h
  counted_reply k (drained xs) ws h = rw (append-nil ws) h

  counted_hands : (k : ℕ) (a : Effect) → HandsOver σ a → HandsOver σ (counted (consumer 7) k a)
  unfolding counted HandsOver
  counted_hands k (refuse n) h = tt
  counted_hands k (reply r ws) h =
      each_up_to (HandsOver σ) (refused_hands σ) most_steps k _ (λ l. counted_reply k r ws h)

  consumer_step_hands : (choice : ℕ) → σ drain_count ≤ σ drain_limit → HandsOver σ (stepping choice 0 z σ)
  unfolding stepping phase_step
  consumer_step_hands choice within =
      counted_hands _ _
      (by_cond (HandsOver σ) (ltb z.P 0) _ _ (λ b. refused_hands σ 4)
      (λ b. by_cond (HandsOver σ) (eqb (σ consumer_phase) 0) _ _ (λ c. refused_hands σ 7) (λ c. consumer_hands z σ within)))

  -- A start writes the limit at the most.
  start_enqueue_hands : (t v : ℕ) → HandsOver σ (starting_enqueue t v z σ)
  unfolding starting_enqueue
  start_enqueue_hands t v =
      by_cond (HandsOver σ) (eqb t 0 || ltb z.P t) _ _ (λ b. refused_hands σ 4)
      (λ b.
      by_cond (HandsOver σ) (not (eqb (σ (phase t)) 0)) _ _ (λ c. refused_hands σ 5)
      (λ c.
      by_cond (HandsOver σ) (eqb (σ starts) z.M) _ _ (λ d. refused_hands σ 6)
      (λ d. by_cond (HandsOver σ) (eqb (σ tail) z.M) _ _ (λ e. refused_hands σ 9) (λ e. reply_hands σ _ _ (refl, λ i l. refl)))))

  start_dequeue_hands : HandsOver σ (starting_dequeue z σ)
  unfolding starting_dequeue
  start_dequeue_hands =
      by_cond (HandsOver σ) (not (eqb (σ consumer_phase) 0)) _ _ (λ b. refused_hands σ 5) (λ b. reply_hands σ _ _ (refl, λ i l. refl))

  start_drain_hands : (n : ℕ) → HandsOver σ (starting_drain n z σ)
  unfolding starting_drain
  start_drain_hands n =
      by_cond (HandsOver σ) (not (eqb (σ consumer_phase) 0)) _ _ (λ b. refused_hands σ 5)
      (λ b. by_cond (HandsOver σ) (not (between 1 most_drained n)) _ _ (λ c. refused_hands σ 14) (λ c. reply_hands σ _ _ (refl, λ i l. refl)))

-- A producer's step leaves the words of the drain area.
same_marked : (t : ℕ) (σ τ : Reader) (γ δ : Ghost) → Moved (suc t) σ τ γ δ → SameMarked σ τ
same_marked t σ τ γ δ moved =
    (moved.others drain_count (λ e. omega arith), λ i l. let n = moved.others (pair i 0) (λ e. omega arith) in let v = moved.others (pair i 1) (λ e. omega arith) in λ j. record { number = n j; value = v j })

producer_hands : (t : ℕ) (σ τ : Reader) (r : Reply) → OfThread (suc t) r → SameMarked σ τ → Hands σ τ r
producer_hands t σ τ ok of same = same
producer_hands t σ τ (started n) of same = same
producer_hands t σ τ going of same = (inl same.0, same.1)
producer_hands t σ τ ended of same = same
producer_hands t σ τ empty of same = absurd (omega arith)
producer_hands t σ τ (item n v) of same = absurd (omega arith)
producer_hands t σ τ (drained xs) of same = absurd (omega arith)

module _ {z : Sizes} {p : Played} (k : Maintained z p) where
  abbrev σ : Reader
  σ = reader z p.words

  of_rule : (r : Reply) (ws : List Write) (a : Effect) → HandsOver σ a → a ≡ reply r ws → Hands σ (after σ ws) r
  unfolding HandsOver
  of_rule r ws a h e = subst (HandsOver σ) e h

  pub call_hands : (q : Request) (r : Reply) (ws : List Write) → effect q z σ ≡ reply r ws → Hands σ (after σ ws) r
  call_hands (start_enqueue t v) r ws e = of_rule r ws (starting_enqueue t v z σ) (start_enqueue_hands z σ t v) (sym (effect_is (start_enqueue t v) z σ) ∙ e)
  call_hands start_dequeue r ws e = of_rule r ws (starting_dequeue z σ) (start_dequeue_hands z σ) (sym (effect_is start_dequeue z σ) ∙ e)
  call_hands (start_drain n) r ws e = of_rule r ws (starting_drain n z σ) (start_drain_hands z σ n) (sym (effect_is (start_drain n) z σ) ∙ e)
  call_hands (step zero) r ws e =
      of_rule r ws (stepping (next_free z σ) 0 z σ) (consumer_step_hands z σ (next_free z σ) (drain_in z σ k.good.range.draining).counted) (sym (effect_is (step 0) z σ) ∙ e)
  call_hands (step (suc t)) r ws e =
      let by = accepted_busy z σ k.beside k.good k.paced (next_free z σ) (next_choice z σ k.beside k.good) (suc t) r ws (sym (effect_is (step (suc t)) z σ) ∙ e) in
      let goes = (subst (Keeps z σ k.beside (step (suc t))) e (effect_keeps k (step (suc t)))).goes in
      producer_hands t σ (after σ ws) r by.2 (same_marked t σ (after σ ws) k.beside goes.next goes.moved)
