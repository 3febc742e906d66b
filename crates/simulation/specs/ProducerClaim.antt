-- Producer phases 4 and 10, which claim a record.
use Rattle.std.specs.Prelude.{◌≡◌, ◌≢◌, true, List, [], ◌∷◌, eqb, get_or}
use Rattle.std.proofs.Math.Path.{refl, ap}
use Rattle.std.proofs.Common.{sym, ◌∙◌, arith, eq-eqb, ne_eqb}
use Rattle.std.proofs.Math.Logic.{inr}
use Prim.Native.Nat.{ℕ, zero, suc, ◌≤◌, ◌<◌}
use Rattle.std.proofs.Math.Decide.{ℕ_discrete}
use Rattle.history.specs.Lists.{All}
use Rattle.history.specs.Event.{enqueue_ended}
use Rattle.rules.specs.Sizes.{Sizes}
use Rattle.rules.specs.Cell.{Reader, Write, clear_producer, place, phase, call, value, position, held, producer}
use Rattle.rules.specs.Update.{after}
use Rattle.rules.specs.Range.{last_producer_phase, producer_sorts}
use Rattle.rules.specs.Rule.{going, ended}
use Rattle.rules.specs.Producer.{claim_record, claim_ahead}
use Rattle.rules.specs.Request.{step}
use Rattle.rules.specs.InRange.{InSort, others_untouched}
use Rattle.model.specs.State.{idle, call_of}
use Rattle.model.specs.Enqueues.{finish_keeps}
use Rattle.memory.specs.Memory.{row_of, Memory}
use Rattle.memory.specs.OtherThreads.{others_kept}
use Rattle.memory.specs.Loose.{Loose, LooseChoice}
use Rattle.memory.specs.Claiming.{claim_writes, claim_in_sort, claim_keeps}
use Rattle.simulation.specs.View.{Ghost, places_of, place_of, producer_at, producers_of, consumer_of, view, cell_of}
use Rattle.simulation.specs.Good.{Good, Goes, Fine}
use Rattle.simulation.specs.Rows.{ProducerWords, producer_row_of}
use Rattle.simulation.specs.ProducerSteps.{producers_after, goes_on_same, own_words, seen_at}
use Rattle.simulation.specs.OwnWords.{producer_own}
use Rattle.simulation.specs.EnqueueEnd.{end_formed, end_adds, idle_in_range, idle_thread, idle_seen}
use Rattle.simulation.specs.RecordSteps.{record_goes, place_same, consumer_same, seen_as, agrees_kept}

module _ (z : Sizes) (σ : Reader) (γ : Ghost) (good : Good z σ γ) (t : ℕ) (a-producer : (1 ≤ t) × (t ≤ z.P)) where
  self : eqb t t ≡ true
  self = eq-eqb t t refl

  -- The claim of record r in phase p, on the way to p', in which the producer is seen as before.
  claims : (p p' r : ℕ) → σ (phase t) ≡ p → 3 ≤ p → r < z.N → Loose σ r
      → ((n v L k : ℕ) → producer_at p' n v L k ≡ producer_at p n v L k)
      → p' ≤ last_producer_phase → p' ≢ 7 → ProducerWords z (row_of (after σ (claim_writes t r p')) t) (get_or producer_sorts p' [])
      → Goes z σ γ (step t) going (claim_writes t r p')
  claims p p' r e past fits loose same_seen l not_back row =
      record_goes z σ γ good t a-producer (step t) going tt ws γ in_sort
      (fits, ((fits, omega arith), (tt, ((a-producer.0, a-producer.1, omega arith), ((a-producer.0, a-producer.1, omega arith), tt)))))
      (producer_row_of z (row_of σ' t) p' new-phase l row)
      (claim_keeps z σ γ.shape m t r p' a-producer fits loose holds-one not_back)
      (agrees_kept z.B γ.shape.lo γ.shape.hi γ.shape.gap γ.shape.at γ.entry γ.content (cell_of σ) (cell_of σ')
      (λ k i j a. rw (ne_eqb r (γ.shape.at (suc k)) (λ q. loose.not_linked (rw q (m.chain.linked (suc k) a)))) refl)
      good.agrees)
      (seen_as (goes_on_same z.B (view σ γ) t _ seen good.model) refl refl refl
      (producers_after t σ σ' (others_kept z t σ ws in_sort)
      (λ u n. place_same σ σ' r places (σ (held u)) (loose.not_held u)) _ seen')
      (sym consumer_seen))
      consumer_seen
      (λ p e. e)
      good.formed
      refl
      (record { others = others_untouched z t σ ws in_sort; tail_grows = omega arith; shifts_on = omega arith; last_grows = omega arith; had_place = λ y l b. old-place y l (ℕ_discrete y r); held_places = λ u n. place_same σ σ' r places (σ (held u)) (loose.not_held u); behind = λ l. record { same_head = refl; same_first = refl; same_gaps = λ k. refl; same_records = λ k b. refl; was_gone = λ p e. e } })
    where
      m : Memory z σ γ.shape
      m = good.memory

      ws : List Write
      ws = claim_writes t r p'

      σ' : Reader
      σ' = after σ ws

      in_sort : All (InSort z t) ws
      in_sort = claim_in_sort z t r p' fits

      holds-one : σ (held t) ≢ 0
      holds-one = (m.threads t).has_held (omega arith)

      places : (y : ℕ) → (y ≡ r → ⊥) → σ' (place y) ≡ σ (place y)
      places y n = rw (ne_eqb r y (λ q. n (sym q))) refl

      consumer_seen : consumer_of σ' ≡ consumer_of σ
      consumer_seen = consumer_same σ σ' r (λ k. refl) places loose.not_linked m.cursor m.found

      -- the claimed record has no place
      old-place : (y : ℕ) → 1 ≤ σ' (place y) → Dec (y ≡ r) → σ (place y) ≡ σ' (place y)
      old-place y l (yes q) = let none : σ' (place y) ≡ 0 = rw (eq-eqb r y (sym q)) refl in absurd (omega arith)
      old-place y l (no n) = sym (places y n)

      k : ℕ
      k = place_of (places_of σ) (σ (held t))

      seen : (view σ γ).producer t ≡ producer_at p (σ (call t)) (σ (value t)) (σ (position t)) k
      seen = seen_at z σ γ good t a-producer p e

      new-phase : σ' (producer t 0) ≡ p'
      new-phase = rw self refl

      seen' : producers_of σ' t ≡ producer_at p (σ (call t)) (σ (value t)) (σ (position t)) k
      seen' =
          ap (λ (x : ℕ). producer_at x (σ (call t)) (σ (value t)) (σ (position t)) (place_of (places_of σ') (σ (held t)))) new-phase
          ∙ same_seen (σ (call t)) (σ (value t)) (σ (position t)) (place_of (places_of σ') (σ (held t)))
          ∙ ap (producer_at p (σ (call t)) (σ (value t)) (σ (position t)))
          (place_same σ σ' r places (σ (held t)) (loose.not_held t))

  -- 4. Claim a record; to 5. Refusal 8: no record free.
  pub claim_record_fine : σ (phase t) ≡ 4 → (c : ℕ) → LooseChoice z σ c → Fine z σ γ (step t) (claim_record z σ t c)
  unfolding claim_record
  claim_record_fine e zero none = inr (inr (refl, a-producer.0))
  claim_record_fine e (suc r) one =
      let old = own_words z σ γ good t a-producer 4 e in
      claims 4 5 r e (omega arith) one.0 one.1 (λ n v L k. refl) (omega arith) (λ q. omega arith)
      (record { call = old.call; value = tt; position = old.position; held = old.held; claimed = rw self one.0; backed = old.backed; steps = old.steps })

  -- 10. If none is free, end; else claim; to 11.
  pub claim_ahead_fine : σ (phase t) ≡ 10 → (c : ℕ) → LooseChoice z σ c → Fine z σ γ (step t) (claim_ahead z σ t c)
  unfolding claim_ahead
  claim_ahead_fine e zero none =
      let row : (k : ℕ) → after σ (clear_producer t ∷ []) (producer t k) ≡ 0 = λ k. rw self refl in
      let seen = seen_at z σ γ good t a-producer 10 e in
      let is = ap call_of seen in
      producer_own z σ γ good t a-producer ended tt (clear_producer t ∷ []) idle (enqueue_ended t (σ (call t)) (σ (value t)) ∷ γ.history)
      ((refl, omega arith), tt)
      (idle_in_range z σ (row_of (after σ (clear_producer t ∷ [])) t) row)
      (idle_thread z σ (row_of (after σ (clear_producer t ∷ [])) t) row)
      (row 5)
      (idle_seen z σ (row_of (after σ (clear_producer t ∷ [])) t) row (places_of σ))
      (finish_keeps z.B (view σ γ) good.model t _ _ _ _ seen)
      (end_formed z σ γ good t _ is)
      (end_adds z σ γ good t _ is)
  claim_ahead_fine e (suc r) one =
      let old = own_words z σ γ good t a-producer 10 e in
      claims 10 11 r e (omega arith) one.0 one.1 (λ n v L k. refl) (omega arith) (λ q. omega arith)
      (record { call = old.call; value = tt; position = old.position; held = old.held; claimed = rw self one.0; backed = old.backed; steps = old.steps })
