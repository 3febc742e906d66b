-- A step that is counted keeps what its phase kept: the count is a word that nothing else goes by.
use Rattle.std.specs.Prelude.{◌≡◌, refl, ◌≢◌, true, List, [], ◌∷◌, ◌++◌, ℕ, zero, suc, ◌≤◌, leb, eqb, get_or, drop}
use Rattle.std.proofs.Common.{ap, ◌∙◌, arith, eq-eqb, ne_eqb, leb-true}
use Rattle.std.proofs.Math.Path.{subst⁻¹}
use Rattle.std.proofs.Math.Bool.{and-false}
use Rattle.history.specs.Lists.{All}
use Rattle.history.specs.Event.{History}
use Rattle.criterion.specs.Members.{all_append}
use Rattle.rules.specs.Sizes.{Sizes, most_steps}
use Rattle.rules.specs.Cell.{Cell, Reader, Write, ◌:=◌, consumer, producer, consumer_phase, phase, step_count}
use Rattle.rules.specs.Update.{area_of, update, after, after_more, count_of, count_is, both, other_area}
use Rattle.rules.specs.Range.{Sort, any, steps, consumer_sorts, producer_sorts, last_consumer_phase, last_producer_phase, of_sorts, consumer_in_range, producer_in_range}
use Rattle.rules.specs.InRange.{OtherThread, writes_keep_range}
use Rattle.rules.specs.Readback.{WriteThere}
use Rattle.rules.specs.Rule.{going}
use Rattle.rules.specs.Request.{step}
use Rattle.rules.specs.Play.{gone_on, recorded}
use Rattle.memory.specs.Light.{rows_keep}
use Rattle.simulation.specs.View.{Ghost}
use Rattle.simulation.specs.Good.{Good, told, Goes, Moved}
use Rattle.simulation.specs.Rows.{OfSort, consumer_row_of, producer_row_of}
use Rattle.simulation.specs.ConsumerSteps.{consumer_words}
use Rattle.simulation.specs.ProducerSteps.{own_words, not_in_one}
use Rattle.progress.specs.Measure.{phase_of}

-- The count's sort in every phase of a call under way.
in_rows : (z : Sizes) (n : ℕ) → n ≤ most_steps → (rows : List (List Sort)) → All (λ ss. get_or ss 6 any ≡ steps) rows → (p : ℕ) → OfSort z (get_or (get_or rows p []) 6 any) n
in_rows z n h [] a p = tt
in_rows z n h (ss ∷ rows) a zero = rw a.0 h
in_rows z n h (ss ∷ rows) a (suc p) = in_rows z n h rows a.1 p

of_consumer_lem : (z : Sizes) (n p : ℕ) → p ≢ 0 → n ≤ most_steps → OfSort z (get_or (get_or consumer_sorts p []) 6 any) n
of_consumer_lem z n zero b h = absurd (b refl)
of_consumer_lem z n (suc p) b h = in_rows z n h (drop 1 consumer_sorts) (refl, (refl, (refl, (refl, (refl, (refl, (refl, (refl, tt)))))))) p

of_producer_lem : (z : Sizes) (n p : ℕ) → p ≢ 0 → p ≢ 1 → n ≤ most_steps → OfSort z (get_or (get_or producer_sorts p []) 6 any) n
of_producer_lem z n zero b o h = absurd (b refl)
of_producer_lem z n (suc zero) b o h = absurd (o refl)
of_producer_lem z n (suc (suc p)) b o h = in_rows z n h (drop 2 producer_sorts) (refl, (refl, (refl, (refl, (refl, (refl, (refl, (refl, (refl, (refl, tt)))))))))) p

-- a store with the count of thread t written
abbrev pub with_count : Reader → (t n : ℕ) → Reader
with_count τ t n = update τ (count_of t := n)

module _ (z : Sizes) (τ : Reader) (δ : Ghost) (good : Good z τ δ) (n : ℕ) (fits : n ≤ most_steps) where
  -- the consumer's
  consumer_row : τ consumer_phase ≢ 0 → consumer_in_range z (with_count τ 0 n) ≡ true
  consumer_row busy =
      let w = consumer_words z τ δ good (τ consumer_phase) refl in
      let most = both (leb (τ consumer_phase) last_consumer_phase) (of_sorts z (λ k. τ (consumer k)) 1 (get_or consumer_sorts (τ consumer_phase) [])) good.range.consuming in
      consumer_row_of z (λ k. with_count τ 0 n (consumer k)) (τ consumer_phase) refl (leb-true (τ consumer_phase) last_consumer_phase most.0)
      (record {
        cursor_record = w.cursor_record;
        cursor_position = w.cursor_position;
        found_record = w.found_record;
        found_position = w.found_position;
        item_number = w.item_number;
        item_value = w.item_value;
        steps = of_consumer_lem z n (τ consumer_phase) busy fits;
      })

  pub consumer_counted : τ consumer_phase ≢ 0 → Good z (with_count τ 0 n) δ
  consumer_counted busy =
      record {
        sizes = good.sizes;
        range = writes_keep_range z 0 τ (consumer 7 := n ∷ []) (refl, tt) good.range (λ e. (consumer_row busy, good.range.draining, good.range.scanning)) (λ l. absurd (omega arith));
        memory =
            rows_keep z τ (with_count τ 0 n) δ.shape good.memory (record { parts = λ x k. refl; entries = λ x u i k. refl }) refl refl
            good.memory.cursor good.memory.found (λ u. (refl, refl, refl, refl)) good.memory.outside;
        agrees = good.agrees;
        model = good.model;
        formed = good.formed;
        pending = record { of_dequeue = good.pending.of_dequeue; of_drain = good.pending.of_drain; below = good.pending.below; some = good.pending.some };
        read = good.read;
      }

  module _ (p : ℕ) (there : (1 ≤ suc p) × (suc p ≤ z.P)) where
    producer_row : τ (phase (suc p)) ≢ 0 → producer_in_range z (with_count τ (suc p) n) (suc p) ≡ true
    producer_row busy =
        let w = own_words z τ δ good (suc p) there (τ (phase (suc p))) refl in
        let most = both (leb (τ (phase (suc p))) last_producer_phase) (of_sorts z (λ k. τ (producer (suc p) k)) 1 (get_or producer_sorts (τ (phase (suc p))) [])) (good.range.producing (suc p) there.0 there.1) in
        producer_row_of z (λ k. with_count τ (suc p) n (producer (suc p) k)) (τ (phase (suc p))) refl (leb-true (τ (phase (suc p))) last_producer_phase most.0)
        (record {
          call = w.call;
          value = w.value;
          position = w.position;
          held = w.held;
          claimed = w.claimed;
          backed = w.backed;
          steps = rw (eq-eqb (suc p) (suc p) refl) (of_producer_lem z n (τ (phase (suc p))) busy (not_in_one z τ δ good (suc p) there) fits);
        })

    pub producer_counted : τ (phase (suc p)) ≢ 0 → Good z (with_count τ (suc p) n) δ
    producer_counted busy =
        record {
          sizes = good.sizes;
          range = writes_keep_range z (suc p) τ (producer (suc p) 7 := n ∷ []) (refl, tt) good.range (λ e. absurd (omega arith)) (λ l. producer_row busy);
          memory =
              rows_keep z τ (with_count τ (suc p) n) δ.shape good.memory (record { parts = λ x k. refl; entries = λ x u i k. refl }) refl refl
              good.memory.cursor good.memory.found (λ u. (refl, refl, refl, refl)) untouched-row;
          agrees = good.agrees;
          model = good.model;
          formed = good.formed;
          pending = record { of_dequeue = good.pending.of_dequeue; of_drain = good.pending.of_drain; below = good.pending.below; some = good.pending.some };
          read = good.read;
        }
      where
        untouched-row : (t k : ℕ) → ((1 ≤ t) × (t ≤ z.P) → ⊥) → with_count τ (suc p) n (producer t k) ≡ 0
        untouched-row t k o =
            rw (ne_eqb (suc p) t (λ e. o (rw (← e) there)), and-false (eqb 7 k)) (good.memory.outside t k o)

-- the count is there
count_there : (z : Sizes) (t n : ℕ) → t ≤ z.P → WriteThere z (count_of t := n)
count_there z zero n l = omega arith
count_there z (suc p) n l = (omega arith, l, omega arith)

module _ (z : Sizes) (σ τ : Reader) (γ δ : Ghost) (n : ℕ) where
  -- it is no other thread's
  not_others : (t : ℕ) (d : Cell) → OtherThread t (area_of d) → with_count τ t n d ≡ τ d
  not_others zero d o = other_area τ (count_of 0 := n) d (λ e. subst⁻¹ (OtherThread 0) e o refl)
  not_others (suc p) d o = other_area τ (count_of (suc p) := n) d (λ e. subst⁻¹ (OtherThread (suc p)) e o refl)

  moved_counted : (t : ℕ) → Moved t σ τ γ δ → Moved t σ (with_count τ t n) γ δ
  moved_counted zero m =
      record {
        others = λ d o. not_others 0 d o ∙ m.others d o;
        tail_grows = m.tail_grows;
        shifts_on = m.shifts_on;
        last_grows = m.last_grows;
        had_place = m.had_place;
        held_places = m.held_places;
        behind = λ l. absurd (omega arith);
      }
  moved_counted (suc p) m =
      record {
        others = λ d o. not_others (suc p) d o ∙ m.others d o;
        tail_grows = m.tail_grows;
        shifts_on = m.shifts_on;
        last_grows = m.last_grows;
        had_place = m.had_place;
        held_places = m.held_places;
        behind =
            λ l.
            let b = m.behind l in
            record { same_head = b.same_head; same_first = b.same_first; same_gaps = b.same_gaps; same_records = b.same_records; was_gone = b.was_gone };
      }

  told_counted : (t : ℕ) (h g : History) → told τ h ≡ gone_on σ τ g → told (with_count τ t n) h ≡ gone_on σ (with_count τ t n) g
  told_counted zero h g e = e
  told_counted (suc p) h g e = e

  good_counted : (t : ℕ) → Good z τ δ → n ≤ most_steps → t ≤ z.P → τ (phase_of t) ≢ 0 → Good z (with_count τ t n) δ
  good_counted zero good fits l busy = consumer_counted z τ δ good n fits busy
  good_counted (suc p) good fits l busy = producer_counted z τ δ good n fits p (omega arith, l) busy

-- A step that goes on, counted.
module _ (z : Sizes) (σ : Reader) (γ : Ghost) (t n : ℕ) (ws : List Write) where
  pub count_written : after σ (ws ++ (step_count t := n ∷ [])) ≡ with_count (after σ ws) t n
  count_written = after_more σ ws (step_count t := n) ∙ ap (λ (c : Cell). update (after σ ws) (c := n)) (count_is t)

  pub goes_counted : Goes z σ γ (step t) going ws → n ≤ most_steps → t ≤ z.P → after σ ws (phase_of t) ≢ 0
      → Goes z σ γ (step t) going (ws ++ (step_count t := n ∷ []))
  goes_counted g fits l busy =
      record {
        there = all_append (WriteThere z) ws (step_count t := n ∷ []) g.there (subst⁻¹ (λ (c : Cell). WriteThere z (c := n)) (count_is t) (count_there z t n l), tt);
        next = g.next;
        good = subst⁻¹ (λ (ρ : Reader). Good z ρ g.next) count_written (good_counted z σ (after σ ws) γ g.next n t g.good fits l busy);
        grown =
            subst⁻¹ (λ (ρ : Reader). told ρ g.next.history ≡ recorded (step t) σ ρ going (told σ γ.history)) count_written
            (told_counted z σ (after σ ws) γ g.next n t g.next.history (told σ γ.history) g.grown);
        moved = subst⁻¹ (λ (ρ : Reader). Moved t σ ρ γ g.next) count_written (moved_counted z σ (after σ ws) γ g.next n t g.moved);
      }
