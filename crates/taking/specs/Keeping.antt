-- The items that a drain has marked, after the writes of phases 7 and 8: those of before, and the one that is marked.
use Rattle.std.specs.Prelude.{◌≡◌, refl, Bool, true, false, cond, List, [], ◌∷◌, ◌++◌, ℕ, suc, ◌≤◌, ◌<◌, eqb, length}
use Rattle.std.proofs.Common.{ap, ap₂, sym, ◌∙◌, arith, eq-eqb, ne_eqb}
use Rattle.history.specs.Lists.{All}
use Rattle.history.specs.Linearization.{Item}
use Rattle.rules.specs.Sizes.{Sizes, store_words, most_drained}
use Rattle.rules.specs.Cell.{Reader, reader, Write, writes, ◌:=◌, head_position, found_position, state}
use Rattle.rules.specs.Update.{after}
use Rattle.rules.specs.Readback.{WriteThere, length_writes, reader_writes}
use Rattle.rules.specs.Consumer.{items_marked}
use Rattle.store.specs.Words.{writes_then}
use Rattle.draining.specs.Elsewhere.{Elsewhere, same_items, items_left_lem}
use Rattle.handled.specs.Marking.{marked, kept}

module _ (z : Sizes) (m : List ℕ) (fits : store_words z ≤ length m) (ws : List Write) (there : All (WriteThere z) ws) (other : All Elsewhere ws) where
  -- One more is kept.
  pub items_kept : (c n v : ℕ) → c < most_drained
      → items_marked (reader z (writes z m (ws ++ kept c n v))) (suc c) ≡ items_marked (reader z m) c ++ (record { number = n; value = v } ∷ [])
  items_kept c n v h =
      let m' = writes z m ws in
      let σ' = reader z m' in
      let τ = after σ' (kept c n v) in
      let read : reader z (writes z m (ws ++ kept c n v)) ≡ τ =
      ap (reader z) (writes_then z m ws (kept c n v))
      ∙ reader_writes z m' (kept c n v) (rw (length_writes z m ws) fits) ((h, omega arith), ((h, omega arith), (omega arith, tt))) in
      let below : items_marked τ c ≡ items_marked (reader z m) c =
      same_items τ σ' c (λ j l. let d = ne_eqb c j (λ e. omega arith) in (rw d refl, rw d refl)) ∙ items_left_lem z m fits ws there other c in
      let at = eq-eqb c c refl in
      ap (λ (σ : Reader). items_marked σ (suc c)) read ∙ (ap₂ (λ (xs : List Item) (x : Item). xs ++ (x ∷ [])) below (ap₂ (λ (a b : ℕ). record { number = a; value = b }) (rw at refl) (rw at refl)))

-- The writes of the mark, and of the move past the head record's end.
module _ (z : Sizes) (σ : Reader) (r i : ℕ) (h : r < z.N) (l : i < z.B) where
  pub marked_there : All (WriteThere z) (marked z σ r i)
  marked_there = go (eqb (σ found_position) (σ head_position))
    where
      go : (b : Bool) → All (WriteThere z) (cond b (state r i := 2 ∷ head_position := suc (σ head_position) ∷ []) (state r i := 2 ∷ []))
      go true = ((h, l, omega arith), (omega arith, tt))
      go false = ((h, l, omega arith), tt)

  pub marked_elsewhere : All Elsewhere (marked z σ r i)
  marked_elsewhere = go (eqb (σ found_position) (σ head_position))
    where
      go : (b : Bool) → All Elsewhere (cond b (state r i := 2 ∷ head_position := suc (σ head_position) ∷ []) (state r i := 2 ∷ []))
      go true = (refl, (refl, tt))
      go false = (refl, tt)

-- one list of writes, and another on the words after it
pub both_written : (z : Sizes) (m : List ℕ) (ws vs : List Write) {m' m'' : List ℕ} → m' ≡ writes z m ws → m'' ≡ writes z m' vs → m'' ≡ writes z m (ws ++ vs)
both_written z m ws vs e f = f ∙ ap (λ (l : List ℕ). writes z l vs) e ∙ sym (writes_then z m ws vs)
