-- Memory that is all zeros holds no call.
use mathlib.Core.Path.{◌≡◌, ◌∙◌}
use mathlib.Core.Logic.{inl, inr}
use mathlib.Core.List.{List}
use Prim.Native.Nat.{ℕ}
use native.Mathlib.Omega.{arith}
use lib.ListN.{get_or, replicate, length-replicate, get_or-replicate, get_or-eq_default}
use Rattle.reading.specs.Table.{Table}
use Rattle.reading.proofs.Logic.{at_most_or_above}

abbrev pub zeros : ℕ → List ℕ
zeros n = replicate n 0

pub zero_at : (n i : ℕ) → get_or (zeros n) i 0 ≡ 0
zero_at n i = elim (at_most_or_above n i) [
  | inl l ↦ get_or-eq_default (zeros n) 0 (rw length-replicate l)
  | inr l ↦ get_or-replicate n i 0 0 l
]

pub no_calls : (n : ℕ) → n ≡ 28672 → Table (zeros n) 0
no_calls n e = record {
  size = length-replicate n 0 ∙ e;
  known = λ t j a l. absurd (omega arith);
  under_way = λ t i a b. let z = zero_at n t in absurd (omega arith);
  plain = λ j l. absurd (omega arith);
  highest = λ j l. absurd (omega arith);
  distinct = λ i j l. absurd (omega arith);
  marked = λ j l. absurd (omega arith);
}
