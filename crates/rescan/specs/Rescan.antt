-- Parts of phase 5: the cursor's move, a crossing, and a set entry.
use Rattle.std.specs.Prelude.{◌≡◌, refl, Bool, true, false, cond, List, [], ◌∷◌, ◌++◌, ℕ, suc, eqb, Ok}
use Rattle.rules.specs.Sizes.{Sizes}
use Rattle.rules.specs.Cell.{Reader, reader, Write, write, writes, ◌:=◌, head_record, head_position, consumer_phase, cursor_record, cursor_position, found_record, found_position, scanned}
use Rattle.rules.specs.Rule.{Effect, goes}
use Rattle.rules.specs.Consumer.{through_scan, rescanned}
use Rattle.rules.specs.Request.{applied}
use Rattle.store.specs.declared.Reply.TheVariants.{Going}
use Rattle.store.specs.Outcome.{left, leaves}

-- the end of the rescan; a drain notes that it came through the scan
abbrev pub settles : (through : ℕ) → List Write
settles through = cursor_record := 0 ∷ scanned := through ∷ consumer_phase := 6 ∷ []

-- the cursor moves to link l and position p, found at another position
abbrev pub moves : (l p found through : ℕ) → List Write
moves l p found through = cond (eqb p found) (settles through) (cursor_record := l ∷ cursor_position := p ∷ [])

module _ (z : Sizes) (σ : Reader) where
  -- the cursor crosses to record n at position p
  abbrev pub to_rescan : (n p : ℕ) → Effect
  to_rescan n p = rescanned z σ p (σ found_position) (cursor_record := suc n ∷ cursor_position := p ∷ []) []

  -- a set entry at the cursor
  abbrev pub rescan_found : Effect
  rescan_found =
      rescanned z σ (σ head_position) (σ cursor_position)
      (cursor_record := σ head_record ∷ cursor_position := σ head_position ∷ [])
      (found_record := σ cursor_record ∷ found_position := σ cursor_position ∷ [])

-- What moved is written first, then the cursor's move.
pub moved : (z : Sizes) (m : List ℕ) (l p found : ℕ) (first : List Write)
    → left (Ok Going) (writes z (writes z m first) (moves l p found (through_scan z (reader z m)))) ≡ leaves z m (rescanned z (reader z m) p found (cursor_record := l ∷ cursor_position := p ∷ []) first)
unfolding writes applied
moved z m l p found first = go m first (eqb p found)
  where
    ends : List Write
    ends = settles (through_scan z (reader z m))

    go : (m : List ℕ) (first : List Write) (b : Bool)
        → left (Ok Going) (writes z (writes z m first) (cond b ends (cursor_record := l ∷ cursor_position := p ∷ [])))
        ≡ leaves z m (cond b (goes (first ++ ends)) (goes (first ++ (cursor_record := l ∷ cursor_position := p ∷ []))))
    go m [] true = refl
    go m [] false = refl
    go m (w ∷ ws) true = go (write z m w) ws true
    go m (w ∷ ws) false = go (write z m w) ws false
