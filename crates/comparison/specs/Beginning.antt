-- The events that two recordings share at their beginning are the same words, and no longer beginning is.
use Rattle.std.specs.Prelude.{◌≡◌, refl, Bool, true, false, cond, List, ℕ, zero, suc, ◌+◌, ◌*◌, ◌/◌, ◌%◌, ◌≤◌, ◌<◌, min, length, take, get_or}
use Rattle.std.proofs.Common.{sym, ap, subst, ◌∙◌, arith, ext_get_or, get_or-take, length-take-le}
use Rattle.std.proofs.Math.Decide.{ℕ_discrete}
use Rattle.equivalence.specs.Tests.{same_words}
use Rattle.equivalence.specs.Same.{words_same, same_words_lem}
use Rattle.matching.specs.Rows.{events_in, row_at}
use Rattle.comparison.specs.Compared.{shared_from, shared}

-- a word by its row
word_of : (ws : List ℕ) (k r i : ℕ) → r < 4 → i ≡ 4 * k + r → get_or ws i 0 ≡ get_or (row_at ws k) r 0
word_of ws k zero i l e = let q : i ≡ 4 * k = omega arith in rw q refl
word_of ws k (suc zero) i l e = rw e refl
word_of ws k (suc (suc zero)) i l e = rw e refl
word_of ws k (suc (suc (suc zero))) i l e = rw e refl
word_of ws k (suc (suc (suc (suc r)))) i l e = absurd (omega arith)

module _ (xs ys : List ℕ) where
  -- events from k on are the same, n of them
  abbrev Same : (k n : ℕ) → Type 0
  Same k n = (j : ℕ) → k ≤ j → j < k + n → row_at xs j ≡ row_at ys j

  shared_same : (n k : ℕ) → Same k (shared_from n k xs ys)
  shared_same zero k j a b = absurd (omega arith)
  shared_same (suc n) k j a b = go (same_words (row_at xs k) (row_at ys k)) refl b (shared_same n (suc k) j)
    where
      go :
          (t : Bool) → same_words (row_at xs k) (row_at ys k) ≡ t → j < k + cond t (suc (shared_from n (suc k) xs ys)) 0
          → (suc k ≤ j → j < suc k + shared_from n (suc k) xs ys → row_at xs j ≡ row_at ys j) → row_at xs j ≡ row_at ys j
      go true e c ih = first (ℕ_discrete j k)
        where
          first : Dec (j ≡ k) → row_at xs j ≡ row_at ys j
          first (yes q) = subst (λ i. row_at xs i ≡ row_at ys i) (sym q) (words_same (row_at xs k) (row_at ys k) e)
          first (no d) = ih (omega arith) (omega arith)
      go false e c ih = absurd (omega arith)

  same_shared : (n k d : ℕ) → d ≤ n → Same k d → d ≤ shared_from n k xs ys
  same_shared n k zero l s = omega arith
  same_shared zero k (suc d) l s = absurd (omega arith)
  same_shared (suc n) k (suc d) l s =
      let e : same_words (row_at xs k) (row_at ys k) ≡ true =
      subst (λ r. same_words (row_at xs k) r ≡ true) (s k (omega arith) (omega arith)) (same_words_lem (row_at xs k)) in
      let ih = same_shared n (suc k) d (omega arith) (λ j a b. s j (omega arith) (omega arith)) in
      rw e (omega arith)

  -- the same rows are the same words
  rows_words : (n : ℕ) → n ≤ events_in xs → n ≤ events_in ys → Same 0 n → take (4 * n) xs ≡ take (4 * n) ys
  rows_words n a b s =
      let l : length (take (4 * n) xs) ≡ 4 * n = length-take-le (4 * n) xs (omega arith) in
      let m : length (take (4 * n) ys) ≡ 4 * n = length-take-le (4 * n) ys (omega arith) in
      ext_get_or 0 (take (4 * n) xs) (take (4 * n) ys) (l ∙ sym m)
      (λ i k. let c : i < 4 * n = omega arith in get_or-take (4 * n) xs i 0 c ∙ word i c ∙ sym (get_or-take (4 * n) ys i 0 c))
    where
      word : (i : ℕ) → i < 4 * n → get_or xs i 0 ≡ get_or ys i 0
      word i c =
          word_of xs (i / 4) (i % 4) i (omega arith) (omega arith)
          ∙ ap (λ r. get_or r (i % 4) 0) (s (i / 4) (omega arith) (omega arith))
          ∙ sym (word_of ys (i / 4) (i % 4) i (omega arith) (omega arith))

  words_rows : (n : ℕ) → take (4 * n) xs ≡ take (4 * n) ys → Same 0 n
  words_rows n e j a b =
      let w : (i : ℕ) → i < 4 * n → get_or xs i 0 ≡ get_or ys i 0 =
      λ i c. sym (get_or-take (4 * n) xs i 0 c) ∙ ap (λ ws. get_or ws i 0) e ∙ get_or-take (4 * n) ys i 0 c in
      let p = w (4 * j) (omega arith) in
      let q = w (4 * j + 1) (omega arith) in
      let r = w (4 * j + 2) (omega arith) in
      let s = w (4 * j + 3) (omega arith) in
      cc

  shared_few : (n k : ℕ) → shared_from n k xs ys ≤ n
  shared_few zero k = omega arith
  shared_few (suc n) k = go (same_words (row_at xs k) (row_at ys k)) (shared_few n (suc k))
    where
      go : (t : Bool) → shared_from n (suc k) xs ys ≤ n → cond t (suc (shared_from n (suc k) xs ys)) 0 ≤ suc n
      go true l = omega arith
      go false l = omega arith

-- The shared events are a beginning of both.
pub shared_beginning : (xs ys : List ℕ) → take (4 * shared xs ys) xs ≡ take (4 * shared xs ys) ys
unfolding shared
shared_beginning xs ys =
    let n = min (events_in xs) (events_in ys) in
    let l = shared_few xs ys n 0 in
    rows_words xs ys (shared xs ys) (omega arith) (omega arith) (λ j a b. shared_same xs ys n 0 j a b)

-- No longer beginning of whole events is one.
pub shared_longest : (xs ys : List ℕ) (n : ℕ) → n ≤ events_in xs → n ≤ events_in ys → take (4 * n) xs ≡ take (4 * n) ys → n ≤ shared xs ys
unfolding shared
shared_longest xs ys n a b e = same_shared xs ys (min (events_in xs) (events_in ys)) 0 n (omega arith) (words_rows xs ys n e)
