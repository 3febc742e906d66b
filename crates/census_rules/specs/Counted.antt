-- Counting beds: how a count changes with a bed, how large it is, and that it is the number of beds of which something is true.
use Rattle.std.specs.Prelude.{◌≡◌, Bool, true, cond, List, [], ◌∷◌, ◌++◌, eqb, length, get_or, take, set}
use Rattle.std.proofs.Math.Path.{refl, ap, ap₂}
use Rattle.std.proofs.Common.{◌∙◌, arith, take-suc}
use Prim.Native.Nat.{ℕ, zero, suc, ◌+◌, ◌≤◌, ◌<◌}
use Rattle.census_rules.specs.Board.{at_most, Row, counted}
use Rattle.census_rules.specs.Laws.{at_most_at}
use Rattle.census_rules.specs.Statement.{how_many}

-- One bed more in another state.
pub counted_set : (r : Row) (ss : List ℕ) (i s : ℕ) → i < length ss → counted r (set ss i s) + get_or r (get_or ss i 0) 0 ≡ counted r ss + get_or r s 0
counted_set r [] i s h = absurd (omega arith)
counted_set r (x ∷ ss) zero s h = omega arith
counted_set r (x ∷ ss) (suc i) s h = omega (arith, counted_set r ss i s (omega arith))

module _ (r : Row) (small : at_most 1 r ≡ true) where
  pub counted_at_most : (ss : List ℕ) → counted r ss ≤ length ss
  counted_at_most [] = omega arith
  counted_at_most (s ∷ ss) = omega (arith, counted_at_most ss, at_most_at 1 r small s)

  counted_and_last : (ss : List ℕ) (s : ℕ) → counted r (ss ++ (s ∷ [])) ≡ counted r ss + get_or r s 0
  counted_and_last [] s = omega arith
  counted_and_last (x ∷ ss) s = omega (arith, counted_and_last ss s)

  one_or_none : (w : ℕ) → w ≤ 1 → w ≡ cond (eqb w 1) 1 0
  one_or_none zero h = refl
  one_or_none (suc zero) h = refl
  one_or_none (suc (suc w)) h = absurd (omega arith)

  pub counted_is_how_many : (b : List ℕ) (n : ℕ) → n ≤ length b → counted r (take n b) ≡ how_many n (λ k. eqb (get_or r (get_or b k 0) 0) 1)
  unfolding how_many
  counted_is_how_many b zero h = refl
  counted_is_how_many b (suc n) h =
      ap (counted r) (take-suc b n 0 h)
      ∙ counted_and_last (take n b) (get_or b n 0)
      ∙ ap₂ ◌+◌ (counted_is_how_many b n (omega arith)) (one_or_none (get_or r (get_or b n 0) 0) (at_most_at 1 r small (get_or b n 0)))

-- what is true of the same beds is true of as many
pub how_many_same : (n : ℕ) (p q : ℕ → Bool) → ((k : ℕ) → k < n → p k ≡ q k) → how_many n p ≡ how_many n q
unfolding how_many
how_many_same zero p q e = refl
how_many_same (suc n) p q e = ap₂ ◌+◌ (how_many_same n p q (λ k h. e k (omega arith))) (ap (λ (b : Bool). cond b 1 0) (e n (omega arith)))
