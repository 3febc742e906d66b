-- The places of the list: from the head's to the last, without those of records that were folded. Two of them are joined when nothing but such
-- gaps lies between.
use Rattle.std.specs.Prelude.{◌≡◌, refl, Bool, true, false, ℕ, zero, suc, ◌+◌, ◌-◌, ◌≤◌, ◌<◌}
use Rattle.std.proofs.Math.Decide.{dec_le, ℕ_discrete}
use Rattle.std.proofs.Common.{arith}
use Rattle.rules.specs.Update.{true_false}

pub record Listed (lo hi : ℕ) (gap : ℕ → Bool) (k : ℕ) : Type 0 where
  pub from : lo ≤ k
  pub to : k ≤ hi
  pub no_gap : gap k ≡ false

pub record Joined (lo hi : ℕ) (gap : ℕ → Bool) (j k : ℕ) : Type 0 where
  pub left : Listed lo hi gap j
  pub right : Listed lo hi gap k
  pub rises : j < k
  pub between : (i : ℕ) → j < i → i < k → gap i ≡ true

-- a listed place that another one is joined to: behind it, or before it
pub record Onward (lo hi : ℕ) (gap : ℕ → Bool) (j : ℕ) : Type 0 where
  pub place : ℕ
  pub joined : Joined lo hi gap j place

pub record Backward (lo hi : ℕ) (gap : ℕ → Bool) (k : ℕ) : Type 0 where
  pub place : ℕ
  pub joined : Joined lo hi gap place k

-- A gap, or none.
pub by_gap : {A : Type 0} (gap : ℕ → Bool) (k : ℕ) → (gap k ≡ true → A) → (gap k ≡ false → A) → A
by_gap {A} gap k f g = go (gap k) refl
  where
    go : (b : Bool) → gap k ≡ b → A
    go true e = f e
    go false e = g e

module _ {lo hi : ℕ} {gap : ℕ → Bool} where
  -- No listed place lies between two that are joined.
  pub none_between : {j k : ℕ} → Joined lo hi gap j k → (i : ℕ) → Listed lo hi gap i → j < i → i < k → ⊥
  none_between q i l a b = true_false (q.between i a b) l.no_gap

  pub from_right : {j k : ℕ} → Joined lo hi gap j k → (i : ℕ) → Listed lo hi gap i → j < i → k ≤ i
  from_right {j} {k} q i l a = go (dec_le k i)
    where
      go : Dec (k ≤ i) → k ≤ i
      go (yes h) = h
      go (no h) = absurd (none_between q i l a (omega arith))

  pub to_left : {j k : ℕ} → Joined lo hi gap j k → (i : ℕ) → Listed lo hi gap i → i < k → i ≤ j
  to_left {j} {k} q i l a = go (dec_le i j)
    where
      go : Dec (i ≤ j) → i ≤ j
      go (yes h) = h
      go (no h) = absurd (none_between q i l (omega arith) a)

  -- A place is joined to one at the most on each side.
  pub one_right : {j k m : ℕ} → Joined lo hi gap j k → Joined lo hi gap j m → k ≡ m
  one_right p q =
      let a = from_right p _ q.right q.rises in
      let b = from_right q _ p.right p.rises in
      omega arith

  pub one_left : {j i k : ℕ} → Joined lo hi gap j k → Joined lo hi gap i k → j ≡ i
  one_left p q =
      let a = to_left p _ q.left q.rises in
      let b = to_left q _ p.left p.rises in
      omega arith

  -- A listed place before another one is joined to one behind it.
  pub onward : (j m : ℕ) → Listed lo hi gap j → Listed lo hi gap m → j < m → Onward lo hi gap j
  onward j m left right less = search (m - suc j) (suc j) (omega arith) (omega arith) (λ i a b. absurd (omega arith))
    where
      here : (k : ℕ) → j < k → k ≤ m → ((i : ℕ) → j < i → i < k → gap i ≡ true) → gap k ≡ false → Onward lo hi gap j
      here k a b gaps e =
          record {
            place = k;
            joined =
                record { left = left; right = record { from = omega (arith, left.from); to = omega (arith, right.to); no_gap = e }; rises = a; between = gaps };
          }

      more : (k : ℕ) → ((i : ℕ) → j < i → i < k → gap i ≡ true) → gap k ≡ true → (i : ℕ) → j < i → i < suc k → gap i ≡ true
      more k gaps e i a b = go (ℕ_discrete i k)
        where
          go : Dec (i ≡ k) → gap i ≡ true
          go (yes q) = rw q e
          go (no n) = gaps i a (omega arith)

      search : (d k : ℕ) → k + d ≡ m → j < k → ((i : ℕ) → j < i → i < k → gap i ≡ true) → Onward lo hi gap j
      search zero k e a gaps = let q : k ≡ m = omega arith in here k a (omega arith) gaps (rw q right.no_gap)
      search (suc d) k e a gaps =
          by_gap gap k (λ g. search d (suc k) (omega arith) (omega arith) (more k gaps g)) (λ g. here k a (omega arith) gaps g)

  -- One behind another is joined to one before it.
  pub backward : (j k : ℕ) → Listed lo hi gap j → Listed lo hi gap k → j < k → Backward lo hi gap k
  backward j k left right less = search (k - suc j) (k - 1) (omega arith) (omega arith) (λ i a b. absurd (omega arith))
    where
      here : (i : ℕ) → j ≤ i → i < k → ((x : ℕ) → i < x → x < k → gap x ≡ true) → gap i ≡ false → Backward lo hi gap k
      here i a b gaps e =
          record {
            place = i;
            joined =
                record { left = record { from = omega (arith, left.from); to = omega (arith, right.to); no_gap = e }; right = right; rises = b; between = gaps };
          }

      more : (i n : ℕ) → suc n ≡ i → ((x : ℕ) → i < x → x < k → gap x ≡ true) → gap i ≡ true → (x : ℕ) → n < x → x < k → gap x ≡ true
      more i n p gaps e x a b = go (ℕ_discrete x i)
        where
          go : Dec (x ≡ i) → gap x ≡ true
          go (yes q) = rw q e
          go (no m) = gaps x (omega arith) b

      search : (d i : ℕ) → j + d ≡ i → i < k → ((x : ℕ) → i < x → x < k → gap x ≡ true) → Backward lo hi gap k
      search zero i e a gaps = let q : i ≡ j = omega arith in here i (omega arith) a gaps (rw q left.no_gap)
      search (suc d) i e a gaps =
          by_gap gap i (λ g. search d (j + d) (omega arith) (omega arith) (more i (j + d) (omega arith) gaps g)) (λ g. here i (omega arith) a gaps g)
