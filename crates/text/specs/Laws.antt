-- Laws of decimal numbers and of runs of stores.
use Rattle.std.specs.Prelude.{None, ◌≡◌, refl, Bool, true, false, cond, List, [], ◌∷◌, ◌++◌, ℕ, zero, suc, ◌+◌, ◌-◌, ◌*◌, ◌/◌, ◌%◌, ◌≤◌, ◌<◌, leb, ltb, length, set, drop, get_or}
use Rattle.std.proofs.Common.{ap, ◌∙◌, arith, sub-one, add-zero, length-append, drop-cons, lt-ltb, le-ltb, le-leb}
use Rattle.std.proofs.Math.Numerals.{add-one}
use Rattle.std.proofs.lemmas.List.Edits.{sets}
use Rattle.std.proofs.Math.Seq.{length-sets}
use Rattle.std.proofs.lemmas.Bool.{lt-leb}
use Rattle.text.specs.Wrote.{Wrote}
use Rattle.text.specs.Decimal.{read, most_number, is_digit, digits_from, digit, digits}

-- a run of stores, and one after it
pub sets_append : (l : List ℕ) (i : ℕ) (xs ys : List ℕ) → sets (sets l i xs) (i + length xs) ys ≡ sets l i (xs ++ ys)
sets_append l i [] ys = rw add-zero
sets_append l i (x ∷ xs) ys =
    let e : i + suc (length xs) ≡ suc i + length xs = omega arith in
    ap (λ (k : ℕ). sets (sets (set l i x) (suc i) xs) k ys) e ∙ sets_append (set l i x) (suc i) xs ys

pub wrote_append : {o o' o'' xs ys : List ℕ} {at p q : ℕ} → Wrote o at xs o' p → Wrote o' p ys o'' q → Wrote o at (xs ++ ys) o'' q
wrote_append {o} {o'} {o''} {xs} {ys} {at} {p} {q} a b =
    record {
      next_is = rw length-append (omega arith);
      after_is =
          b.after_is
          ∙ ap (λ (l : List ℕ). sets l p ys) a.after_is
          ∙ ap (λ (k : ℕ). sets (sets o at xs) k ys) a.next_is
          ∙ sets_append o at xs ys;
    }

-- Bytes that fit in the buffer were written within it.
pub wrote_within : {o o' bs : List ℕ} {n r : ℕ} → Wrote o 0 bs o' r → length o ≡ n → length bs ≤ n → r ≤ length o'
wrote_within w room fits = omega (arith, w.next_is, simp length-sets at (ap length w.after_is))

-- one byte
pub wrote_byte : (o : List ℕ) (at b : ℕ) → Wrote o at (b ∷ []) (set o at b) (at + 1)
wrote_byte o at b = record { next_is = refl; after_is = refl }

-- a byte that is not 0 stands within the bytes
pub inside : (s : List ℕ) (at : ℕ) → 0 < get_or s at 0 → at < length s
inside [] at h = absurd (omega arith)
inside (x ∷ xs) zero h = omega arith
inside (x ∷ xs) (suc at) h = let l = inside xs at h in omega arith

-- Digits that are read: what stands at position i, with the number n so far.
module _ (s : List ℕ) (i n : ℕ) (h : i < length s) where
  digits_at : digits_from i n (drop i s) ≡ cond (is_digit (get_or s i 0)) (cond (leb (n * 10 + (get_or s i 0 - 48)) most_number) (digits_from (i + 1) (n * 10 + (get_or s i 0 - 48)) (drop (i + 1) s)) None) (read n i)
  unfolding digits_from
  digits_at = rw (drop-cons s i 0, add-one i)

  pub digits_end : is_digit (get_or s i 0) ≡ false → digits_from i n (drop i s) ≡ read n i
  digits_end e = digits_at ∙ simp e

  pub digits_over : is_digit (get_or s i 0) ≡ true → most_number < n * 10 + (get_or s i 0 - 48) → digits_from i n (drop i s) ≡ None
  digits_over e o = digits_at ∙ simp (e, lt-leb (n * 10 + (get_or s i 0 - 48)) most_number o)

  pub digits_more : is_digit (get_or s i 0) ≡ true → n * 10 + (get_or s i 0 - 48) ≤ most_number → digits_from i n (drop i s) ≡ digits_from (i + 1) (n * 10 + (get_or s i 0 - 48)) (drop (i + 1) s)
  digits_more e o = digits_at ∙ simp (e, le-leb (n * 10 + (get_or s i 0 - 48)) most_number o)

-- Digits that are printed.
pub digits_none : (k n : ℕ) → k ≡ 0 → digits k n ≡ []
unfolding digits
digits_none k n e = rw e

pub digits_short : (k n : ℕ) → 0 < k → n < 10 → digits k n ≡ digit n ∷ []
unfolding digits
digits_short zero n p h = absurd (omega arith)
digits_short (suc k) n p h = simp (lt-ltb n 10 h)

pub digits_split : (k n : ℕ) → 10 ≤ n → digits (suc k) n ≡ digits k (n / 10) ++ (digit (n % 10) ∷ [])
unfolding digits
digits_split k n h = simp (le-ltb n 10 h)

pub digits_long : (k n : ℕ) → 0 < k → 10 ≤ n → digits k n ≡ digits (k - 1) (n / 10) ++ (digit (n % 10) ∷ [])
digits_long zero n p h = absurd (omega arith)
digits_long (suc k) n p h = rw sub-one (digits_split k n h)

pub length_digits : (k n : ℕ) → length (digits k n) ≤ k
unfolding digits
length_digits zero n = omega arith
length_digits (suc k) n = go (ltb n 10) (length_digits k (n / 10))
  where
    go : (b : Bool) → length (digits k (n / 10)) ≤ k → length (cond b (digit n ∷ []) (digits k (n / 10) ++ (digit (n % 10) ∷ []))) ≤ suc k
    go true h = omega arith
    go false h = rw length-append (omega arith)
