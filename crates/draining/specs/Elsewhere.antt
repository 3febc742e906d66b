-- Writes outside the drain area leave the items that a drain has marked.
use Rattle.std.specs.Prelude.{◌≡◌, refl, List, [], ◌∷◌, ◌++◌, ℕ, zero, suc, ◌≤◌, ◌<◌, length}
use Rattle.std.proofs.Common.{ap, ap₂, ◌∙◌, arith}
use Rattle.history.specs.Lists.{All}
use Rattle.history.specs.Linearization.{Item}
use Rattle.rules.specs.Sizes.{Sizes, store_words}
use Rattle.rules.specs.Cell.{Reader, reader, Write, writes, of_drain, pair}
use Rattle.rules.specs.Update.{update, after, area_touched, OtherKind, other_area, other_kind}
use Rattle.rules.specs.Readback.{WriteThere, reader_writes}
use Rattle.rules.specs.Consumer.{items_marked}

-- The same pairs are the same items.
pub same_items : (τ σ : Reader) (n : ℕ) → ((j : ℕ) → j < n → (τ (pair j 0) ≡ σ (pair j 0)) × (τ (pair j 1) ≡ σ (pair j 1))) → items_marked τ n ≡ items_marked σ n
same_items τ σ zero h = refl
same_items τ σ (suc n) h =
    let e = h n (omega arith) in
    ap₂ (λ (xs : List Item) (x : Item). xs ++ (x ∷ [])) (same_items τ σ n (λ j l. h j (omega arith)))
    (ap₂ (λ (a v : ℕ). record { number = a; value = v }) e.0 e.1)

-- Writes outside the drain area leave its pairs.
abbrev pub Elsewhere : Write → Type 0
Elsewhere w = OtherKind (area_touched w) of_drain

elsewhere : (σ : Reader) (ws : List Write) → All Elsewhere ws → (j k : ℕ) → after σ ws (pair j k) ≡ σ (pair j k)
elsewhere σ [] h j k = refl
elsewhere σ (w ∷ ws) h j k =
    elsewhere (update σ w) ws h.1 j k ∙ other_area σ w (pair j k) (other_kind (area_touched w) of_drain h.0)

module _ (z : Sizes) (m : List ℕ) (fits : store_words z ≤ length m) (ws : List Write) (there : All (WriteThere z) ws) (other : All Elsewhere ws) where
  pair_left : (j k : ℕ) → reader z (writes z m ws) (pair j k) ≡ reader z m (pair j k)
  pair_left j k = ap (λ (τ : Reader). τ (pair j k)) (reader_writes z m ws fits there) ∙ elsewhere (reader z m) ws other j k

  pub items_left_lem : (n : ℕ) → items_marked (reader z (writes z m ws)) n ≡ items_marked (reader z m) n
  items_left_lem n = same_items (reader z (writes z m ws)) (reader z m) n (λ j l. (pair_left j 0, pair_left j 1))
