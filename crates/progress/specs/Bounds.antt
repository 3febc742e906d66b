-- The most steps that a call makes, and that they fit a thread's word.
use Rattle.std.specs.Prelude.{◌≡◌, refl, ◌≢◌, Bool, true, false, cond, [], leb, eqb, get_or}
use Rattle.std.proofs.Math.Path.{ap}
use Prim.Native.Nat.{ℕ, zero, suc, ◌+◌, ◌-◌, ◌*◌, ◌≤◌}
use Rattle.std.proofs.Common.{div-le_self, leb-true}
use native.Mathlib.Omega.{arith}
use Rattle.rules.specs.Sizes.{Sizes, sizes_in_range, most_steps, most_drained}
use Rattle.rules.specs.Update.{both}
use Rattle.rules.specs.Range.{consumer_sorts, producer_sorts, last_consumer_phase, last_producer_phase, of_sorts}
use Rattle.rules.specs.Cell.{Reader, consumer, producer, head_record, head_position, consumer_phase, cursor_record, cursor_position, found_record, found_position, drain_limit, drain_count, phase, position, held, backed, tail_record}
use Rattle.simulation.specs.View.{Ghost, places_of, place_of}
use Rattle.simulation.specs.Good.{Good}
use Rattle.simulation.specs.Limits.{limits}
use Rattle.simulation.specs.ProducerSteps.{not_in_one}
use Rattle.simulation.specs.ConsumerSteps.{head_placed}
use Rattle.progress.specs.Arithmetic.{count_most, scaled, product, triangle, triangle_is, triangle_less}
use Rattle.progress.specs.Measure.{phase_of, most_enqueue, first_handled, enqueue_at, enqueue_left, item_steps, dequeue_at, consumer_left, steps_left}

-- By the thread: a dequeue's, or a drain's by its limit, and an enqueue's.
abbrev pub most_left : Sizes → (limit : ℕ) (t : ℕ) → ℕ
most_left z l zero = z.N * (5 * z.B + 3) + 3 * z.B + 1 + triangle (z.N * suc z.B) + item_steps z * (l - 1)
most_left z l (suc p) = most_enqueue z

-- They fit a thread's word.
pub most_fits : (z : Sizes) → sizes_in_range z ≡ true → (limit : ℕ) → limit ≤ most_drained → (t : ℕ) → most_left z limit t ≤ most_steps
most_fits z e limit few zero =
    let l = limits z e in
    let v : z.N * suc z.B ≤ 64 * 65 = product z.N (suc z.B) 64 65 l.most_records (omega (arith, l.most_entries)) in
    let square : (z.N * suc z.B) * suc (z.N * suc z.B) ≤ 4160 * 4161 = product (z.N * suc z.B) (suc (z.N * suc z.B)) 4160 4161 (omega arith) (omega arith) in
    let rows : z.N * (5 * z.B + 3) ≤ 64 * 323 = product z.N (5 * z.B + 3) 64 323 l.most_records (omega (arith, l.most_entries)) in
    let all : suc z.B * z.N ≤ 65 * 64 = product (suc z.B) z.N 65 64 (omega (arith, l.most_entries)) l.most_records in
    let items : item_steps z * (limit - 1) ≤ 4228 * 63 = product (item_steps z) (limit - 1) 4228 63 (omega (arith, l.most_entries)) (omega arith) in
    omega (arith, triangle_is (z.N * suc z.B), l.most_entries)
most_fits z e limit few (suc p) = let l = limits z e in omega (arith, l.most_producers, l.most_entries, l.most_records, div-le_self (z.P + z.B - 1) z.B)

module _ (z : Sizes) (σ : Reader) (γ : Ghost) (good : Good z σ γ) where
  -- at the start
  pub consumer_starts : σ consumer_phase ≡ 1 → σ drain_count ≡ 0 → consumer_left z σ ≤ most_left z (σ drain_limit) 0
  unfolding consumer_left
  consumer_starts e none =
      rw (e, none)
      (omega (
        arith,
        scaled (suc z.B) (first_handled z σ) z.N most,
        scaled (suc (2 * z.B)) (z.N + first_handled z σ) (z.N + z.N) (omega (arith, most)),
        good.model.places.head_from,
        ap (λ (x : ℕ). z.B * x) (head_placed z σ γ good),
      ))
    where
      most : first_handled z σ ≤ z.N
      most = count_most z.N _

  -- While a call is under way there is a step left.
  some_rescan : 1 ≤ triangle (z.N * suc z.B)
  some_rescan =
      let l = limits z good.sizes in
      omega (arith, triangle_less 0 (z.N * suc z.B) (omega (arith, scaled z.N 1 (suc z.B) (omega arith), l.two_records)))

  at_dequeue : (p hp lo c k f g n : ℕ) → p ≢ 0 → p ≤ last_consumer_phase → 1 ≤ dequeue_at z σ p hp lo c k f g n
  at_dequeue zero hp lo c k f g n b l = absurd (b refl)
  at_dequeue (suc zero) hp lo c k f g n b l = omega arith
  at_dequeue (suc (suc zero)) hp lo c k f g n b l = omega (arith, some_rescan)
  at_dequeue (suc (suc (suc zero))) hp lo c k f g n b l = omega arith
  at_dequeue (suc (suc (suc (suc zero)))) hp lo c k f g n b l = omega (arith, some_rescan)
  at_dequeue (suc (suc (suc (suc (suc zero))))) hp lo c k f g n b l = omega arith
  at_dequeue (suc (suc (suc (suc (suc (suc zero)))))) hp lo c k f g n b l = omega arith
  at_dequeue (suc (suc (suc (suc (suc (suc (suc zero))))))) hp lo c k f g n b l = omega arith
  at_dequeue (suc (suc (suc (suc (suc (suc (suc (suc zero)))))))) hp lo c k f g n b l = omega arith
  at_dequeue (suc (suc (suc (suc (suc (suc (suc (suc (suc p))))))))) hp lo c k f g n b l = absurd (omega arith)

  either : (c : Bool) {x y : ℕ} → 1 ≤ x → 1 ≤ y → 1 ≤ cond c x y
  either true a b = a
  either false a b = b

  at_enqueue : (p L k tp h b : ℕ) → p ≢ 0 → p ≢ 1 → p ≤ last_producer_phase → 1 ≤ enqueue_at z σ p L k tp h b
  at_enqueue zero L k tp h b busy n l = absurd (busy refl)
  at_enqueue (suc zero) L k tp h b busy n l = absurd (n refl)
  at_enqueue (suc (suc zero)) L k tp h b busy n l = omega arith
  at_enqueue (suc (suc (suc zero))) L k tp h b busy n l = omega arith
  at_enqueue (suc (suc (suc (suc zero)))) L k tp h b busy n l = omega arith
  at_enqueue (suc (suc (suc (suc (suc zero))))) L k tp h b busy n l = omega arith
  at_enqueue (suc (suc (suc (suc (suc (suc zero)))))) L k tp h b busy n l = omega arith
  at_enqueue (suc (suc (suc (suc (suc (suc (suc zero))))))) L k tp h b busy n l = omega arith
  at_enqueue (suc (suc (suc (suc (suc (suc (suc (suc zero)))))))) L k tp h b busy n l = either (eqb b 0) (omega arith) (omega arith)
  at_enqueue (suc (suc (suc (suc (suc (suc (suc (suc (suc zero))))))))) L k tp h b busy n l = either (eqb b 0) (omega arith) (omega arith)
  at_enqueue (suc (suc (suc (suc (suc (suc (suc (suc (suc (suc zero)))))))))) L k tp h b busy n l = omega arith
  at_enqueue (suc (suc (suc (suc (suc (suc (suc (suc (suc (suc (suc zero))))))))))) L k tp h b busy n l = omega arith
  at_enqueue (suc (suc (suc (suc (suc (suc (suc (suc (suc (suc (suc (suc p)))))))))))) L k tp h b busy n l = absurd (omega arith)

  pub some_left : (t : ℕ) → t ≤ z.P → σ (phase_of t) ≢ 0 → 1 ≤ steps_left z σ t
  unfolding consumer_left enqueue_left
  some_left zero l busy =
      let r = both (leb (σ consumer_phase) last_consumer_phase) (of_sorts z (λ k. σ (consumer k)) 1 (get_or consumer_sorts (σ consumer_phase) [])) good.range.consuming in
      omega (
        arith,
        at_dequeue (σ consumer_phase) (σ head_position) (place_of (places_of σ) (σ head_record)) (σ cursor_position) (place_of (places_of σ) (σ cursor_record)) (σ found_position)
            (place_of (places_of σ) (σ found_record)) (σ drain_count) busy (leb-true (σ consumer_phase) last_consumer_phase r.0),
      )
  some_left (suc p) l busy =
      let r = both (leb (σ (phase (suc p))) last_producer_phase) (of_sorts z (λ k. σ (producer (suc p) k)) 1 (get_or producer_sorts (σ (phase (suc p))) [])) (good.range.producing (suc p) (omega arith) l) in
      at_enqueue (σ (phase (suc p))) (σ (position (suc p))) (place_of (places_of σ) (σ (held (suc p)))) (place_of (places_of σ) (σ tail_record)) (σ (held (suc p))) (σ (backed (suc p))) busy
      (not_in_one z σ γ good (suc p) (omega arith, l)) (leb-true (σ (phase (suc p))) last_producer_phase r.0)
