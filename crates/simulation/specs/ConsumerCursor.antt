-- The records that the consumer's cursor stands in.
use Rattle.std.specs.Prelude.{◌≡◌, ℕ, suc, ◌*◌, ◌≤◌}
use Rattle.std.proofs.Common.{ap, sym, ◌∙◌, subst, arith}
use Rattle.history.specs.Linearization.{Item}
use Rattle.rules.specs.Sizes.{Sizes}
use Rattle.rules.specs.Cell.{Reader, head_record, head_position, consumer_phase, cursor_record, place, used}
use Rattle.rules.specs.Range.{number, record_number}
use Rattle.model.specs.Invariant.{Inside}
use Rattle.memory.specs.Memory.{Memory}
use Rattle.simulation.specs.View.{Ghost, places_of, place_of, consumer_at}
use Rattle.simulation.specs.Good.{Good}
use Rattle.simulation.specs.Rows.{has_sort}
use Rattle.simulation.specs.Entries.{Slot, slot}

module _ (z : Sizes) (σ : Reader) (γ : Ghost) (good : Good z σ γ) where
  m : Memory z σ γ.shape
  m = good.memory

  -- the head record and position, as the cursor's
  pub head_most : σ head_record ≤ z.N
  head_most = (has_sort z record_number (σ head_record) (good.range.words head_record (omega arith))).1

  pub position_most : σ head_position ≤ z.M
  position_most = has_sort z number (σ head_position) (good.range.words head_position (omega arith))

  -- a record number of a linked record is in range
  pub linked_most : (r : ℕ) → σ (used r) ≡ 2 → suc r ≤ z.N
  linked_most r u =
      let o = m.chain.only r u in
      subst (λ (x : ℕ). suc x ≤ z.N) o.1 (m.chain.fits (σ (place r)) o.0)

  -- a record of place lo or more is there
  pub some_record : (x : ℕ) → γ.shape.lo ≤ place_of (places_of σ) x → x ≡ 0 → ⊥
  some_record x l e =
      let q : place_of (places_of σ) x ≡ 0 = ap (place_of (places_of σ)) e in
      omega (arith, good.model.places.first)

  -- the consumer by its phase, where the phase stays
  pub stays : (p : ℕ) → σ consumer_phase ≡ p → (c k f g : ℕ) (x : Item) → consumer_at (σ consumer_phase) c k f g x ≡ consumer_at p c k f g x
  stays p e c k f g x = ap (λ (y : ℕ). consumer_at y c k f g x) e

  -- the cursor's record
  module _ (r : ℕ) (q : σ cursor_record ≡ suc r) where
    pub placed : place_of (places_of σ) (σ cursor_record) ≡ σ (place r)
    placed = ap (place_of (places_of σ)) q

    pub linked : σ (used r) ≡ 2
    linked = rw q at m.cursor

    -- at the record's end, by the place that the position machine knows
    pub at_end_lem : (c : ℕ) → c ≡ z.B * σ (place r) → c ≡ z.B * place_of (places_of σ) (σ cursor_record)
    at_end_lem c e = e ∙ ap (λ (x : ℕ). z.B * x) (sym placed)

    -- the entry at a position inside the record
    pub entry_slot : (c : ℕ) → Inside z.B c (place_of (places_of σ) (σ cursor_record)) → Inside z.B c (σ (place r)) × Slot z σ γ.shape r c
    entry_slot c i =
        let j : Inside z.B c (σ (place r)) = subst (Inside z.B c) placed i in
        (j, slot z σ γ.shape m.chain r c linked j)
