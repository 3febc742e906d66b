-- The end of an enqueue: the event that it adds, and the producer's words, which are zero.
use Rattle.std.specs.Prelude.{◌≡◌, refl, Bool, true, false, [], ◌∷◌, ◌++◌, ℕ, eqb}
use Rattle.std.proofs.Common.{ap, sym, ◌∙◌, arith, eqb-true}
use Rattle.std.proofs.Math.Option.{some, none-ne-some, some-injective}
use Rattle.history.specs.Event.{History, enqueue_started, enqueue_ended, dequeue_started, gave_item, gave_empty}
use Rattle.history.specs.Form.{well_formed}
use Rattle.history.specs.Linearization.{Item}
use Rattle.criterion.specs.Explained.{current}
use Rattle.criterion.specs.Growth.{enqueue_may_end}
use Rattle.rules.specs.Sizes.{Sizes}
use Rattle.rules.specs.Cell.{Reader}
use Rattle.rules.specs.Range.{last_producer_phase, thread_in_range, producer_sorts}
use Rattle.rules.specs.Play.{end_of_enqueue}
use Rattle.model.specs.State.{idle, call_of}
use Rattle.simulation.specs.View.{Ghost, place_of, producer_at, producer_of, view}
use Rattle.memory.specs.Memory.{ThreadOk}
use Rattle.simulation.specs.Good.{Good}
use Rattle.simulation.specs.Rows.{producer_row_of}
use Rattle.simulation.specs.ProducerSteps.{unclaimed}

-- The event that repeats the words of thread t's start is that of the call that it has under way.
pub repeats_its_start : (t : ℕ) (x : Item) (h : History) → current t h ≡ some x → end_of_enqueue t h ≡ enqueue_ended t x.number x.value ∷ []
repeats_its_start t x [] e = absurd (none-ne-some x e)
repeats_its_start t x (enqueue_started u n v ∷ h) e = go (eqb u t) refl (repeats_its_start t x h)
  where
    go : (b : Bool) → eqb u t ≡ b → (current t h ≡ some x → end_of_enqueue t h ≡ enqueue_ended t x.number x.value ∷ [])
        → elim b [ true ↦ enqueue_ended u n v ∷ [] | false ↦ end_of_enqueue t h ] ≡ enqueue_ended t x.number x.value ∷ []
    go true q rest =
        let i : record { number = n; value = v } ≡ x = some-injective _ _ (rw q at e) in
        λ j. enqueue_ended (eqb-true u t q j) (i j).number (i j).value ∷ []
    go false q rest = rest (rw q at e)
repeats_its_start t x (enqueue_ended u n v ∷ h) e = go (eqb u t) refl (repeats_its_start t x h)
  where
    go : (b : Bool) → eqb u t ≡ b → (current t h ≡ some x → end_of_enqueue t h ≡ enqueue_ended t x.number x.value ∷ [])
        → end_of_enqueue t h ≡ enqueue_ended t x.number x.value ∷ []
    go true q rest = absurd (none-ne-some x (rw q at e))
    go false q rest = rest (rw q at e)
repeats_its_start t x (dequeue_started ∷ h) e = repeats_its_start t x h e
repeats_its_start t x (gave_item n v ∷ h) e = repeats_its_start t x h e
repeats_its_start t x (gave_empty ∷ h) e = repeats_its_start t x h e

module _ (z : Sizes) (σ : Reader) (γ : Ghost) (good : Good z σ γ) (t : ℕ) where
  -- the call that producer t has under way
  under_way : (x : Item) → call_of ((view σ γ).producer t) ≡ some x → current t γ.history ≡ some x
  under_way x e = good.model.calls.of_producers t ∙ e

  -- what its end adds to the history
  pub end_formed : (x : Item) → call_of ((view σ γ).producer t) ≡ some x → well_formed (enqueue_ended t x.number x.value ∷ γ.history) ≡ true
  end_formed x e = enqueue_may_end γ.history good.formed t x.number x.value (under_way x e)

  pub end_adds : (x : Item) → call_of ((view σ γ).producer t) ≡ some x
      → enqueue_ended t x.number x.value ∷ γ.history ≡ end_of_enqueue t γ.history ++ γ.history
  end_adds x e = ap (λ (h : History). h ++ γ.history) (sym (repeats_its_start t x γ.history (under_way x e)))

-- A producer whose words are all zero is idle.
module _ (z : Sizes) (σ : Reader) (row : ℕ → ℕ) (none : (k : ℕ) → row k ≡ 0) where
  pub idle_in_range : thread_in_range z last_producer_phase producer_sorts row ≡ true
  idle_in_range =
      producer_row_of z row 0 (none 0) (omega arith)
      (record { call = none 1; value = none 2; position = none 3; held = none 4; claimed = none 5; backed = none 6; steps = none 7 })

  pub idle_thread : ThreadOk z σ row
  idle_thread =
      unclaimed z σ row (rw none tt) (none 5) (λ l. absurd (omega (arith, none 0))) (λ e. omega (arith, none 0)) (λ e. omega (arith, none 0)) (λ e. absurd (omega (arith, none 0)))

  pub idle_seen : (places : ℕ → ℕ) → producer_of places row ≡ idle
  idle_seen places = ap (λ (p : ℕ). producer_at p (row 1) (row 2) (row 3) (place_of places (row 4))) (none 0)
