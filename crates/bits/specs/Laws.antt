-- The digits of a bitmap: how many there are, the lowest and the others, those past some of them; of two bitmaps, of one turned, and of one
-- with a single set digit.
use Rattle.std.specs.Prelude.{◌≡◌, refl, Bool, true, false, ◌||◌, not, ℕ, zero, suc, ◌+◌, ◌-◌, ◌*◌, ◌/◌, ◌%◌, ◌^◌, ◌≤◌, ◌<◌, max}
use Rattle.std.proofs.Common.{sym, ap, ap₂, ◌∙◌, zero-add, suc-add, pow-suc, div-one, lt_of_lt_of_le, arith, pow_mono, shr-shr}
use Rattle.std.proofs.Math.Arith.{digits_div, digits_mod}
use Rattle.std.specs.Int.Bits.{bit_or, or_step}
use Rattle.std.proofs.Math.Pow.{high, ones_lt, ones_split}
use Rattle.bits.specs.Bitmap.{digit, bitmap}

digit_lt : (b : Bool) → digit b < 2
digit_lt true = omega arith
digit_lt false = omega arith

-- n digits
pub bitmap_lt : (k n : ℕ) (p : ℕ → Bool) → bitmap k n p < 2 ^ n
unfolding bitmap
bitmap_lt k zero p = omega arith
bitmap_lt k (suc n) p = omega (arith, bitmap_lt (suc k) n p, digit_lt (p k), pow-suc 2 n)

pub bitmap_fits : (k n w : ℕ) (p : ℕ → Bool) → n ≤ w → bitmap k n p < 2 ^ w
bitmap_fits k n w p h = lt_of_lt_of_le (bitmap_lt k n p) (pow_mono h)

-- with the test before k, of the tests up to n
pub digit_before : (k n : ℕ) (p : ℕ → Bool) {m d : ℕ} → 0 < k → k ≤ n → bitmap k (n - k) p ≡ m → digit (p (k - 1)) ≡ d → bitmap (k - 1) (n - (k - 1)) p ≡ m * 2 + d
unfolding bitmap
digit_before k n p l h e f =
    let here : suc (k - 1) ≡ k = omega arith in
    let more : n - (k - 1) ≡ suc (n - k) = omega arith in
    rw (more, here, e, f) refl

-- the lowest digit, and the others
pub lowest_digit : (k n : ℕ) (p : ℕ → Bool) → bitmap k (suc n) p % 2 ≡ digit (p k)
unfolding bitmap
lowest_digit k n p = digits_mod (bitmap (suc k) n p) (digit_lt (p k))

pub other_digits : (k n : ℕ) (p : ℕ → Bool) → bitmap k (suc n) p / 2 ≡ bitmap (suc k) n p
unfolding bitmap
other_digits k n p = digits_div (bitmap (suc k) n p) (digit_lt (p k))

-- the digits past d of them
pub digits_past : (d k n j : ℕ) (p : ℕ → Bool) → d + k ≡ j → bitmap k (d + n) p / 2 ^ d ≡ bitmap j n p
digits_past zero k n j p e =
    let same : k ≡ j = omega arith in
    rw (zero-add, same) (div-one (bitmap j n p))
digits_past (suc d) k n j p e =
    let one_more : 2 ^ suc d ≡ 2 ^ (1 + d) = ap (λ (x : ℕ). 2 ^ x) (omega arith) in
    rw (one_more, ← shr-shr (bitmap k (suc d + n) p) 1 d, suc-add d n, other_digits k (d + n) p) (digits_past d (suc k) n j p (omega arith))

-- tests that agree
pub same_digits : (k n : ℕ) (p q : ℕ → Bool) → ((j : ℕ) → k ≤ j → j < k + n → p j ≡ q j) → bitmap k n p ≡ bitmap k n q
unfolding bitmap
same_digits k zero p q h = refl
same_digits k (suc n) p q h =
    ap₂ (λ (x : ℕ) (b : Bool). x * 2 + digit b) (same_digits (suc k) n p q (λ j l m. h j (omega arith) (omega arith))) (h k (omega arith) (omega arith))

-- a digit is set in one of two bitmaps
pub either_digits : (k n : ℕ) (p q : ℕ → Bool) → bit_or (bitmap k n p) (bitmap k n q) ≡ bitmap k n (λ j. p j || q j)
unfolding bitmap
either_digits k zero p q = refl
either_digits k (suc n) p q =
    or_step (bitmap k (suc n) p) (bitmap k (suc n) q)
    ∙ rw (other_digits k n p, other_digits k n q, lowest_digit k n p, lowest_digit k n q, either_digits (suc k) n p q, either (p k) (q k)) refl
  where
    either : (a b : Bool) → max (digit a) (digit b) ≡ digit (a || b)
    either true true = refl
    either true false = refl
    either false true = refl
    either false false = refl

-- every digit turned
with_turned : (k n : ℕ) (p : ℕ → Bool) → bitmap k n p + bitmap k n (λ j. not (p j)) + 1 ≡ 2 ^ n
unfolding bitmap
with_turned k zero p = refl
with_turned k (suc n) p = omega (arith, with_turned (suc k) n p, turned (p k), pow-suc 2 n)
  where
    turned : (b : Bool) → digit b + digit (not b) ≡ 1
    turned true = refl
    turned false = refl

pub turned_digits : (k n : ℕ) (p : ℕ → Bool) → (2 ^ n - 1) - bitmap k n p ≡ bitmap k n (λ j. not (p j))
turned_digits k n p = omega (arith, with_turned k n p)

-- all of n digits, from the word of w set digits
pub all_digits : (w n : ℕ) → n ≤ w → (2 ^ w - 1) / 2 ^ (w - n) ≡ 2 ^ n - 1
all_digits w n h =
    let parts : n + (w - n) ≡ w = omega arith in
    ap (λ (x : ℕ). x / 2 ^ (w - n)) (ap (λ (x : ℕ). 2 ^ x - 1) (sym parts) ∙ ones_split n (w - n)) ∙ high (2 ^ n - 1) (w - n) (ones_lt (w - n))

-- no digit set, and a single one
pub no_digit : (k n : ℕ) → bitmap k n (λ j. false) ≡ 0
unfolding bitmap
no_digit k zero = refl
no_digit k (suc n) = omega (arith, no_digit (suc k) n)

pub single_digit : (k n j x : ℕ) (p : ℕ → Bool) → k + j ≡ x → j < n → p x ≡ true → ((i : ℕ) → (i ≡ x → ⊥) → p i ≡ false) → bitmap k n p ≡ 2 ^ j
unfolding bitmap
single_digit k zero j x p e h t f = absurd (omega arith)
single_digit k (suc n) zero x p e h t f =
    let here : k ≡ x = omega arith in
    rw (same_digits (suc k) n p (λ i. false) (λ i l m. f i (λ q. omega arith)) ∙ no_digit (suc k) n, here, t) refl
single_digit k (suc n) (suc j) x p e h t f =
    omega (arith, single_digit (suc k) n j x p (omega arith) (omega arith) t f, ap digit (f k (λ q. omega arith)), pow-suc 2 j)
