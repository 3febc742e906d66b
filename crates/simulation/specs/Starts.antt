-- The starts: an accepted start enqueue, start dequeue and start drain.
use Rattle.std.specs.Prelude.{◌≡◌, ◌≢◌, true, ◌&&◌, ◌||◌, not, cond, List, [], ◌∷◌, ℕ, suc, ◌≤◌, ◌<◌, eqb, leb}
use Rattle.std.proofs.Math.Path.{refl, ap}
use Rattle.std.proofs.Common.{sym, ◌∙◌}
use Rattle.std.proofs.Math.Logic.{inl, inr}
use Rattle.std.proofs.lemmas.Bool.{false≢true}
use native.Mathlib.Omega.{arith}
use Rattle.std.proofs.Math.Dec.{ltb}
use borrow.Author.Tests.{eq-eqb, ne_eqb, eqb-true, eqb-false, ltb-false, leb-true, not-false}
use Rattle.history.specs.Lists.{All}
use Rattle.history.specs.Event.{History, enqueue_started, dequeue_started}
use Rattle.criterion.specs.Growth.{enqueue_may_start, dequeue_may_start}
use Rattle.rules.specs.Sizes.{Sizes, between, most_drained}
use Rattle.rules.specs.Cell.{Reader, Write, ◌:=◌, tail, starts, consumer, producer, consumer_phase, drain_limit, drain_count, phase}
use Rattle.rules.specs.Address.{There}
use Rattle.rules.specs.Update.{after, both, neither}
use Rattle.rules.specs.Range.{number, idle_sorts, consumer_in_range}
use Rattle.rules.specs.Rule.{ok, started}
use Rattle.rules.specs.Request.{start_enqueue, start_dequeue, start_drain, starting_enqueue, starting_dequeue, starting_drain, start_writes}
use Rattle.rules.specs.InRange.{InSort}
use Rattle.model.specs.State
use Rattle.model.specs.State.{call_of}
use Rattle.model.specs.Invariant.{is_busy}
use Rattle.model.specs.Enqueues.{begin_enqueue_lem}
use Rattle.model.specs.Dequeues.{begin_dequeue_lem}
use Rattle.memory.specs.Memory.{row_of, Memory}
use Rattle.memory.specs.OtherThreads.{others_kept}
use Rattle.memory.specs.Light.{producer_keeps}
use Rattle.simulation.specs.View.{Ghost, view}
use Rattle.simulation.specs.Good.{Good, Goes, Fine, by_cond, places_stay}
use Rattle.simulation.specs.Told.{early, told_early, tells_end}
use Rattle.simulation.specs.DrainWords.{DrainIn, drain_in, drain_from}
use Rattle.simulation.specs.Rows.{of_sort_lem, has_sort, ProducerWords, producer_row_of, consumer_row_of}
use Rattle.simulation.specs.ProducerSteps.{as_seen, producers_after, unclaimed, own_words, seen_at}
use Rattle.simulation.specs.OwnWords.{later, scan_none, consumer_own}
use Rattle.simulation.specs.RecordSteps.{record_goes}
use Rattle.simulation.specs.ConsumerSteps.{consumer_words, consumer_at_lem, no_scan, consumer_light, none_counted}

module _ (z : Sizes) (σ : Reader) (γ : Ghost) (good : Good z σ γ) where
  -- every start has taken a position
  all_placed : σ starts ≡ σ tail
  all_placed = good.model.owners.all_placed

  starts_enqueue : (t v : ℕ) → (1 ≤ t) × (t ≤ z.P) → σ (phase t) ≡ 0 → suc (σ starts) ≤ z.M
      → Goes z σ γ (start_enqueue t v) (started (suc (σ starts))) (start_writes σ t v)
  starts_enqueue t v a e room =
      record_goes z σ γ good t a (start_enqueue t v) (started (suc (σ starts))) tt (start_writes σ t v) (later γ (enqueue_started t (suc (σ starts)) v ∷ γ.history)) in_sort
      (omega arith, (omega arith, (own 0 (omega arith), (own 1 (omega arith), (own 2 (omega arith), (own 3 (omega arith), (own 7 (omega arith), tt)))))))
      (producer_row_of z (row_of σ' t) 2 two (omega arith)
      (record { call = rw self room; value = tt; position = rw self (omega (arith, all_placed)); held = omega (arith, old.held); claimed = old.claimed; backed = omega (arith, old.backed); steps = rw self (omega arith) }))
      (producer_keeps z σ σ' γ.shape m (record { parts = λ x j. refl; entries = λ x u i j. refl }) t γ.shape.tp a (others_kept z t σ (start_writes σ t v) in_sort)
      (unclaimed z σ (row_of σ' t) (m.threads t).holding old.claimed
      (λ l. absurd (omega (arith, two))) (λ x. omega (arith, two)) (λ x. omega (arith, two)) (λ x. absurd (omega (arith, two))))
      old.claimed
      (omega arith)
      m.tail_last
      m.tail_is
      refl
      refl
      refl)
      good.agrees
      (as_seen (begin_enqueue_lem z.B (view σ γ) good.model t v)
      (producers_after t σ σ' (others_kept z t σ (start_writes σ t v) in_sort) (λ u x. refl) _ (rw self refl)))
      refl
      (λ p x. x)
      (enqueue_may_start γ.history good.formed t (suc (σ starts)) v (good.model.calls.of_producers t ∙ ap call_of (seen_at z σ γ good t a 0 e))
      (λ b. omega (arith, (good.model.past.numbered (suc (σ starts)) b).1)))
      refl
      (places_stay z t σ γ _ (start_writes σ t v) in_sort (λ x. refl) (omega arith) (omega arith) (omega arith)
      (λ l. record { same_head = refl; same_first = refl; same_gaps = λ k. refl; same_records = λ k h. refl; was_gone = λ p e. e }))
    where
      m : Memory z σ γ.shape
      m = good.memory

      own : (k : ℕ) → k < 8 → There z (producer t k)
      own k l = (a.0, a.1, l)

      self : eqb t t ≡ true
      self = eq-eqb t t refl

      σ' : Reader
      σ' = after σ (start_writes σ t v)

      old : ProducerWords z (row_of σ t) idle_sorts
      old = own_words z σ γ good t a 0 e

      two : row_of σ' t 0 ≡ 2
      two = rw self refl

      in_sort : All (InSort z t) (start_writes σ t v)
      in_sort =
          (of_sort_lem z number (suc (σ starts)) room, (of_sort_lem z number (suc (σ tail)) (omega (arith, all_placed)), (refl, (refl, (refl, (refl, (refl, tt)))))))

  -- *Start enqueue*.
  pub start_enqueue_fine : (t v : ℕ) → Fine z σ γ (start_enqueue t v) (starting_enqueue t v z σ)
  unfolding starting_enqueue
  start_enqueue_fine t v =
      by_cond (Fine z σ γ (start_enqueue t v)) (eqb t 0 || ltb z.P t) _ _
      (λ b. omega arith)
      (λ b.
      let there = neither (eqb t 0) (ltb z.P t) b in
      by_cond (Fine z σ γ (start_enqueue t v)) (not (eqb (σ (phase t)) 0)) _ _
      (λ c. omega arith)
      (λ c.
      by_cond (Fine z σ γ (start_enqueue t v)) (eqb (σ starts) z.M) _ _
      (λ d. omega arith)
      (λ d.
      let n : σ starts ≢ z.M = eqb-false (σ starts) z.M d in
      let most : σ starts ≤ z.M = has_sort z number (σ starts) (good.range.words starts (omega arith)) in
      let p : t ≢ 0 = eqb-false t 0 there.0 in
      by_cond (Fine z σ γ (start_enqueue t v)) (eqb (σ tail) z.M) _ _
      (λ f. absurd (n (omega (arith, all_placed, eqb-true (σ tail) z.M f))))
      (λ f. starts_enqueue t v (omega arith, ltb-false z.P t there.1) (eqb-true (σ (phase t)) 0 (not-false (eqb (σ (phase t)) 0) c)) (omega arith)))))

  -- An idle consumer has no drain, and its words are zero; in phase 1 they are in range too.
  none : σ consumer_phase ≡ 0 → σ drain_limit ≡ 0
  none e = (drain_in z σ good.range.draining).idle e

  other_word : (k : ℕ) → 1 ≤ k → (x : ℕ) → cond (eqb 0 k && (true && true)) 1 x ≡ x
  other_word k l x = rw (ne_eqb 0 k (λ e. omega arith)) refl

  begun_in_range : σ consumer_phase ≡ 0 → (τ : Reader) → τ consumer_phase ≡ 1 → ((k : ℕ) → 1 ≤ k → τ (consumer k) ≡ σ (consumer k)) → consumer_in_range z τ ≡ true
  begun_in_range e τ one same =
      let words = consumer_words z σ γ good 0 e in
      consumer_row_of z (λ k. τ (consumer k)) 1 one (omega arith)
      (record {
        cursor_record = same 1 (omega arith) ∙ words.cursor_record;
        cursor_position = same 2 (omega arith) ∙ words.cursor_position;
        found_record = same 3 (omega arith) ∙ words.found_record;
        found_position = same 4 (omega arith) ∙ words.found_position;
        item_number = same 5 (omega arith) ∙ words.item_number;
        item_value = same 6 (omega arith) ∙ words.item_value;
        steps = omega (arith, same 7 (omega arith), words.steps);
      })

  -- *Start dequeue*.
  pub start_dequeue_fine : Fine z σ γ start_dequeue (starting_dequeue z σ)
  unfolding starting_dequeue
  start_dequeue_fine =
      by_cond (Fine z σ γ start_dequeue) (not (eqb (σ consumer_phase) 0)) _ _
      (λ b. refl)
      (λ b.
      let e : σ consumer_phase ≡ 0 = eqb-true (σ consumer_phase) 0 (not-false (eqb (σ consumer_phase) 0) b) in
      consumer_own z σ γ good (consumer_phase := 1 ∷ []) ((refl, omega arith), tt) start_dequeue refl ok State.front (dequeue_started ∷ γ.history)
      (begun_in_range e (after σ (consumer_phase := 1 ∷ [])) refl (λ k l. same_words_lem k l))
      (λ idle. absurd (omega arith))
      (good.memory.cursor, good.memory.found)
      refl
      (scan_none z σ γ good _ _ (no_scan z σ γ good 0 e refl))
      (begin_dequeue_lem z.B (view σ γ) good.model)
      (dequeue_may_start γ.history good.formed (good.model.calls.of_consumer_lem ∙ ap is_busy (consumer_at_lem z σ γ good 0 e)))
      (tells_end σ (after σ (consumer_phase := 1 ∷ [])) start_dequeue ok γ.history (dequeue_started ∷ γ.history) (told_early σ (early σ e (omega arith)) γ.history) (omega arith) (none e) (none_counted z σ γ good (none e)) refl))
    where
      same_words_lem : (k : ℕ) → 1 ≤ k → after σ (consumer_phase := 1 ∷ []) (consumer k) ≡ σ (consumer k)
      same_words_lem k l = other_word k l (σ (consumer k))

  -- *Start drain* (limit).
  starts_drain : (n : ℕ) → (1 ≤ n) × (n ≤ most_drained) → σ consumer_phase ≡ 0 → Goes z σ γ (start_drain n) ok (drain_limit := n ∷ consumer_phase := 1 ∷ [])
  starts_drain n l e =
      consumer_light z σ γ good (start_drain n) refl ok ws γ.entry (dequeue_started ∷ γ.history) (refl, (refl, tt)) (omega arith, (omega arith, tt))
      (record { parts = λ x k. refl; entries = λ x u i k. refl })
      (λ u k. refl)
      (refl, refl) (
        begun_in_range e (after σ ws) refl (λ k h. other_word k h (σ (consumer k))),
        drain_from z (after σ ws)
            (record { most = l.1; idle = λ idle. absurd (omega arith); counted = omega (arith, count); kept = area.kept; others = area.others }),
      )
      (no_scan z σ γ good 0 e refl)
      (good.memory.cursor, good.memory.found)
      good.agrees
      (begin_dequeue_lem z.B (view σ γ) good.model)
      (dequeue_may_start γ.history good.formed (good.model.calls.of_consumer_lem ∙ ap is_busy (consumer_at_lem z σ γ good 0 e)))
      (record {
        pending =
            record {
              of_dequeue = λ x. absurd (false≢true x);
              of_drain = λ c x. absurd (omega (arith, count));
              below = λ x y. omega (arith, count, l.0);
              some = λ x y. absurd (omega arith);
            };
        grown = ap (λ (h : History). dequeue_started ∷ h) (sym (told_early σ (early σ e (omega arith)) γ.history));
      })
      (omega arith)
    where
      ws : List Write
      ws = drain_limit := n ∷ consumer_phase := 1 ∷ []

      count : σ drain_count ≡ 0
      count = none_counted z σ γ good (none e)

      area : DrainIn z σ
      area = drain_in z σ good.range.draining

  pub start_drain_fine : (n : ℕ) → Fine z σ γ (start_drain n) (starting_drain n z σ)
  unfolding starting_drain
  start_drain_fine n =
      by_cond (Fine z σ γ (start_drain n)) (not (eqb (σ consumer_phase) 0)) _ _
      (λ b. inl refl)
      (λ b.
      by_cond (Fine z σ γ (start_drain n)) (not (between 1 most_drained n)) _ _
      (λ c. inr refl)
      (λ c.
      let p = both (leb 1 n) (leb n most_drained) (not-false (between 1 most_drained n) c) in
      starts_drain n (leb-true 1 n p.0, leb-true n most_drained p.1) (eqb-true (σ consumer_phase) 0 (not-false (eqb (σ consumer_phase) 0) b))))
