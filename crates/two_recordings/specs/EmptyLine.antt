-- The position that `empty_line` gives is that of an empty line where it lies within the text, and no line before it is empty.
use Rattle.std.specs.Prelude.{◌≡◌, refl, Bool, true, false, ◌&&◌, cond, List, [], ◌∷◌, ℕ, zero, suc, ◌<◌, eqb, length, get_or}
use Rattle.std.proofs.Common.{arith, eqb-true}
use Rattle.std.proofs.lemmas.Bool.{eqb-false}
use Rattle.protocol.specs.Words.{newline}
use Rattle.two_recordings.specs.Report.{before_empty, empty_line}

-- A newline at a position, and a newline right before it; before the first byte stands `last`.
pub record Empty (last : ℕ) (s : List ℕ) (i : ℕ) : Type 0 where
  pub after : get_or (last ∷ s) i 0 ≡ newline
  pub here : get_or s i 0 ≡ newline

stands : (last : ℕ) (s : List ℕ) → before_empty last s < length s → Empty last s (before_empty last s)
unfolding before_empty
stands last [] h = absurd (omega arith)
stands last (b ∷ bs) h = go (eqb last newline) (eqb b newline) refl refl (stands b bs) h
  where
    go : (p q : Bool) → eqb last newline ≡ p → eqb b newline ≡ q → (before_empty b bs < length bs → Empty b bs (before_empty b bs))
        → cond (p && q) 0 (suc (before_empty b bs)) < suc (length bs) → Empty last (b ∷ bs) (cond (p && q) 0 (suc (before_empty b bs)))
    go true true e f later h = record { after = eqb-true last newline e; here = eqb-true b newline f }
    go true false e f later h = let l = later (omega arith) in record { after = l.after; here = l.here }
    go false q e f later h = let l = later (omega arith) in record { after = l.after; here = l.here }

none_before : (last : ℕ) (s : List ℕ) (i : ℕ) → i < before_empty last s → Empty last s i → ⊥
unfolding before_empty
none_before last [] i h m = omega arith
none_before last (b ∷ bs) i h m = go i (eqb last newline) (eqb b newline) refl refl (none_before b bs) h m
  where
    go : (i : ℕ) (p q : Bool) → eqb last newline ≡ p → eqb b newline ≡ q → ((j : ℕ) → j < before_empty b bs → Empty b bs j → ⊥)
        → i < cond (p && q) 0 (suc (before_empty b bs)) → Empty last (b ∷ bs) i → ⊥
    go i true true e f later h m = omega arith
    go zero true false e f later h m = eqb-false b newline f m.here
    go zero false q e f later h m = eqb-false last newline e m.after
    go (suc i) true false e f later h m = later i (omega arith) (record { after = m.after; here = m.here })
    go (suc i) false q e f later h m = later i (omega arith) (record { after = m.after; here = m.here })

-- The beginning of a text counts as the place after a newline.
pub empty_line_stands : (s : List ℕ) → empty_line s < length s → Empty newline s (empty_line s)
empty_line_stands s h = stands newline s h

pub no_empty_line_before : (s : List ℕ) (i : ℕ) → i < empty_line s → Empty newline s i → ⊥
no_empty_line_before s i h m = none_before newline s i h m
