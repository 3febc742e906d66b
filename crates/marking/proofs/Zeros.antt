-- Flags that are all unset flag no item.
use mathlib.Core.Path.{◌≡◌, sym, ◌∙◌}
use mathlib.Core.Logic.{inl, inr}
use mathlib.Core.Bool.{false}
use mathlib.Core.List.{List, []}
use Prim.Native.Nat.{ℕ}
use lib.ListN.{get_or, replicate, length-replicate, get_or-replicate, get_or-eq_default}
use Rattle.reading.proofs.Logic.{at_most_or_above}
use Rattle.marking.specs.Marks.{Given}

unset_at : (n i : ℕ) → get_or (replicate n false) i false ≡ false
unset_at n i = elim (at_most_or_above n i) [
  | inl l ↦ get_or-eq_default (replicate n false) false (rw length-replicate l)
  | inr l ↦ get_or-replicate n i false false l
]

pub no_flags : (m : List ℕ) (c n : ℕ) → n ≡ 4096 → Given m c (replicate n false) []
no_flags m c n e = record { size = length-replicate n false ∙ e; flagged = λ i l. sym (unset_at n i) }
