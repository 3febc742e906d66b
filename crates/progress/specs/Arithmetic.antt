-- How many numbers pass a test, quotients, and triangular numbers.
use Rattle.std.specs.Prelude.{◌≡◌, refl, ◌≢◌, Bool, true, false, cond, not, ℕ, zero, suc, ◌+◌, ◌-◌, ◌*◌, ◌/◌, ◌≤◌, ◌<◌, eqb}
use Rattle.std.proofs.Common.{ap, sym, ◌∙◌, true≢false, mul-le-mul_left, mul-le-mul, le-div_iff_mul-le, div-lt_iff_lt-mul, div-mul-le_self, arith, eq-eqb, ne_eqb}
use Rattle.std.proofs.Math.Nat.{add-div_right}
use Rattle.std.proofs.Math.Decide.{ℕ_discrete}

-- how many of 0 to n - 1 pass the test
abbrev pub count : (n : ℕ) → (ℕ → Bool) → ℕ
count zero p = 0
count (suc n) p = cond (p n) 1 0 + count n p

one_more : (b : Bool) → cond b 1 0 ≤ 1
one_more true = omega arith
one_more false = omega arith

more : (a b : Bool) → (a ≡ true → b ≡ true) → cond a 1 0 ≤ cond b 1 0
more true b h = rw (h refl) (omega arith)
more false b h = omega arith

pub count_most : (n : ℕ) (p : ℕ → Bool) → count n p ≤ n
count_most zero p = omega arith
count_most (suc n) p = omega (arith, one_more (p n), count_most n p)

-- a weaker test
pub count_grows : (n : ℕ) (p q : ℕ → Bool) → ((k : ℕ) → k < n → p k ≡ true → q k ≡ true) → count n p ≤ count n q
count_grows zero p q h = omega arith
count_grows (suc n) p q h = omega (arith, more (p n) (q n) (h n (omega arith)), count_grows n p q (λ k l. h k (omega arith)))

pub count_same : (n : ℕ) (p q : ℕ → Bool) → ((k : ℕ) → k < n → p k ≡ true → q k ≡ true) → ((k : ℕ) → k < n → q k ≡ true → p k ≡ true) → count n p ≡ count n q
count_same n p q f g = omega (arith, count_grows n p q f, count_grows n q p g)

-- a weaker test that one more passes
pub count_less : (n : ℕ) (p q : ℕ → Bool) → ((k : ℕ) → k < n → p k ≡ true → q k ≡ true)
    → (j : ℕ) → j < n → p j ≡ false → q j ≡ true → count n p < count n q
count_less zero p q h j l a b = absurd (omega arith)
count_less (suc n) p q h j l a b = go (ℕ_discrete j n) (λ g. count_less n p q (λ k g. h k (omega arith)) j g a b)
  where
    rest : count n p ≤ count n q
    rest = count_grows n p q (λ k g. h k (omega arith))

    go : Dec (j ≡ n) → (j < n → count n p < count n q) → cond (p n) 1 0 + count n p < cond (q n) 1 0 + count n q
    go (yes e) below = rw (rw e at a, rw e at b) (omega (arith, rest))
    go (no d) below = omega (arith, more (p n) (q n) (h n (omega arith)), below (omega arith))

-- one that passes
pub count_some : (n : ℕ) (p : ℕ → Bool) (j : ℕ) → j < n → p j ≡ true → 1 ≤ count n p
count_some n p j l e = omega (arith, count_less n (λ k. false) p (λ k h x. absurd (let y : ◌≡◌ {A = ℕ} 0 1 = cc in omega arith)) j l refl e)

-- one that fails
pub count_below : (n : ℕ) (p : ℕ → Bool) (j : ℕ) → j < n → p j ≡ false → count n p < n
count_below n p j l a = omega (arith, count_less n p (λ k. true) (λ k g e. refl) j l a refl, count_most n (λ k. true))

-- two that fail
pub count_below_two : (n : ℕ) (p : ℕ → Bool) (i j : ℕ) → i < n → j < n → i ≢ j → p i ≡ false → p j ≡ false → 1 + count n p < n
count_below_two n p i j k l d a b =
    omega (
      arith,
      count_less n p (λ x. not (eqb x i)) (λ x g c. other x c (ℕ_discrete x i)) j l b (rw (ne_eqb j i (λ e. d (sym e))) refl),
      count_below n (λ x. not (eqb x i)) i k (rw (eq-eqb i i refl) refl),
    )
  where
    other : (x : ℕ) → p x ≡ true → Dec (x ≡ i) → not (eqb x i) ≡ true
    other x c (yes e) = absurd (true≢false (sym c ∙ ap p e ∙ a))
    other x c (no e) = rw (ne_eqb x i e) refl

-- so many times the smaller number; of two smaller ones; and at least once more of the greater one
pub scaled : (c a b : ℕ) → a ≤ b → c * a ≤ c * b
scaled c a b l = mul-le-mul_left c l

pub product : (a b c d : ℕ) → a ≤ c → b ≤ d → a * b ≤ c * d
product a b c d h l = mul-le-mul h l

pub scaled_less : (c a b : ℕ) → a < b → c * a + c ≤ c * b
scaled_less c a b l = omega (arith, scaled c (suc a) b l)

-- a quotient of the smaller number
pub quotient_grows : (c a b : ℕ) → 0 < c → a ≤ b → a / c ≤ b / c
quotient_grows c a b p l = (le-div_iff_mul-le p).1 (omega (arith, div-mul-le_self a c))

-- The records of c positions each past the k-th, up to the one of position x: fewer past a later one, one fewer past the next, and no more than
-- hold n positions where x is one of the n past the k-th.
pub ahead_less : (c x k j : ℕ) → 0 < c → k ≤ j → (x + c - c * j) / c ≤ (x + c - c * k) / c
ahead_less c x k j p l = quotient_grows c (x + c - c * j) (x + c - c * k) p (omega (arith, scaled c k j l))

pub ahead_next : (c x k : ℕ) → 0 < c → c * k ≤ x → (x + c - c * k) / c ≡ 1 + (x + c - c * suc k) / c
ahead_next c x k p l =
    ap (λ (y : ℕ). y / c) (omega arith) ∙ add-div_right (x + c - c * suc k) p ∙ omega arith

pub ahead_within : (c x k n : ℕ) → 0 < c → x < c * k + n → (x + c - c * k) / c ≤ (n + c - 1) / c
ahead_within c x k n p l = quotient_grows c (x + c - c * k) (n + c - 1) p (omega arith)

pub ahead_some : (c n : ℕ) → 0 < c → 0 < n → 1 ≤ (n + c - 1) / c
ahead_some c n p l = (le-div_iff_mul-le p).1 (omega arith)

-- n positions take at most n records
pub rounds_most : (c n : ℕ) → 0 < c → (n + c - 1) / c ≤ n
rounds_most c n p = let h : (n + c - 1) / c < suc n = (div-lt_iff_lt-mul p).1 (omega (arith, scaled n 1 c p)) in omega arith

-- 1 + 2 + .. + n
abbrev pub triangle : ℕ → ℕ
triangle zero = 0
triangle (suc n) = suc n + triangle n

pub triangle_is : (n : ℕ) → 2 * triangle n ≡ n * suc n
triangle_is zero = refl
triangle_is (suc n) = omega (arith, triangle_is n)

-- n + 1 more with every number
pub triangle_less : (a b : ℕ) → a < b → suc a + triangle a ≤ triangle b
triangle_less a zero l = absurd (omega arith)
triangle_less a (suc b) l = go (ℕ_discrete a b) (triangle_less a b)
  where
    go : Dec (a ≡ b) → (a < b → suc a + triangle a ≤ triangle b) → suc a + triangle a ≤ suc b + triangle b
    go (yes e) below = rw e (omega arith)
    go (no n) below = omega (arith, below (omega arith))
