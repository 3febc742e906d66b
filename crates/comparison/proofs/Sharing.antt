-- Counting the events that two recordings share.
use mathlib.Core.Path.{◌≡◌}
use mathlib.Core.Bool.{true, false}
use mathlib.Core.List.{List}
use Prim.Native.Nat.{ℕ, suc, ◌+◌, ◌-◌, ◌≤◌, ◌<◌, min}
use native.Mathlib.Omega.{arith}
use native.Mathlib.Numerals.{add-one}
use Rattle.equivalence.specs.Tests.{same_words}
use Rattle.matching.specs.Rows.{events_in, row_at}
use Rattle.comparison.specs.Compared.{shared_from, shared}

-- The first k of n events are the same, and all have been counted from there.
pub record Sharing (xs ys : List ℕ) (n k : ℕ) : Type 0 where
  pub whole : n ≡ min (events_in xs) (events_in ys)
  pub within : k ≤ n
  pub to_come : shared xs ys ≡ k + shared_from (n - k) k xs ys

pub none_shared : (xs ys : List ℕ) (n : ℕ) → n ≡ min (events_in xs) (events_in ys) → Sharing xs ys n 0
unfolding shared
none_shared xs ys n e =
    record {
      whole = e;
      within = omega arith;
      to_come = let z : n - 0 ≡ n = omega arith in rw (z, ← e) (omega arith);
    }

module _ (xs ys : List ℕ) (n k : ℕ) (s : Sharing xs ys n k) where
  pub all_shared : n ≤ k → k ≡ shared xs ys
  all_shared l =
      let z : n - k ≡ 0 = omega arith in
      let e : shared xs ys ≡ k + shared_from 0 k xs ys = rw z at s.to_come in
      omega arith

  next : k < n → n - k ≡ suc (n - (k + 1))
  next l = omega arith

  pub one_differs : k < n → same_words (row_at xs k) (row_at ys k) ≡ false → k ≡ shared xs ys
  one_differs l d =
      let e : shared xs ys ≡ k + shared_from (suc (n - (k + 1))) k xs ys = rw (next l) at s.to_come in
      let f : shared_from (suc (n - (k + 1))) k xs ys ≡ 0 = rw d in
      omega arith

  pub one_shared : k < n → same_words (row_at xs k) (row_at ys k) ≡ true → Sharing xs ys n (k + 1)
  one_shared l d =
      let e : shared xs ys ≡ k + shared_from (suc (n - (k + 1))) k xs ys = rw (next l) at s.to_come in
      let f : shared_from (suc (n - (k + 1))) k xs ys ≡ suc (shared_from (n - (k + 1)) (suc k) xs ys) = rw d in
      let g : shared_from (n - (k + 1)) (k + 1) xs ys ≡ shared_from (n - (k + 1)) (suc k) xs ys = rw add-one in
      record { whole = s.whole; within = omega arith; to_come = omega arith }
