-- A number that was printed is read back: `decimal n` with no digit after it gives n and the position after it.
use Rattle.std.specs.Prelude.{◌≡◌, refl, Bool, true, false, List, [], ◌∷◌, ◌++◌, ℕ, zero, suc, ◌+◌, ◌-◌, ◌*◌, ◌/◌, ◌%◌, ◌^◌, ◌≤◌, ◌<◌, ltb, length, drop, get_or}
use Rattle.std.proofs.Common.{ap, sym, ◌∙◌, append_assoc, arith, add-zero, pow-suc, length-append, get_or-drop, ltb-true, ltb-false, le-leb, ne_eqb}
use Rattle.text.specs.Decimal.{read, most_number, is_digit, digits_from, number_at, digit, digits, decimal}
use Rattle.text.specs.Laws.{digits_none, digits_short, digits_split}

-- one digit more
digit_step : (at n d : ℕ) (rest : List ℕ) → d < 10 → n * 10 + d ≤ most_number → digits_from at n (digit d ∷ rest) ≡ digits_from (at + 1) (n * 10 + d) rest
unfolding digits_from
digit_step at n d rest h m =
    let e : 48 + d - 48 ≡ d = omega arith in
    simp (le-leb 48 (48 + d) (omega arith), le-leb (48 + d) 57 (omega arith), e, le-leb (n * 10 + d) most_number m)

-- the bytes after a number's last digit
scanned : (at n : ℕ) (rest : List ℕ) → is_digit (get_or rest 0 0) ≡ false → digits_from at n rest ≡ read n at
unfolding digits_from
scanned at n [] h = refl
scanned at n (b ∷ bs) h = simp h

-- a number of k + 1 digits without its last
shorter : (k n : ℕ) → n < 10 ^ suc k → n / 10 < 10 ^ k
shorter k n h = omega (arith, pow-suc 10 k)

-- The first digit of a number above 0 is no 0.
abbrev Leads : List ℕ → Type 0
Leads bs = (48 < get_or bs 0 0) × (get_or bs 0 0 ≤ 57)

leads : (k n : ℕ) (rest : List ℕ) → 0 < n → n < 10 ^ k → Leads (digits k n ++ rest)
leads zero n rest p h = absurd (omega arith)
leads (suc k) n rest p h = go (ltb n 10) refl (leads k (n / 10) (digit (n % 10) ∷ rest))
  where
    go : (b : Bool) → ltb n 10 ≡ b → (0 < n / 10 → n / 10 < 10 ^ k → Leads (digits k (n / 10) ++ digit (n % 10) ∷ rest)) → Leads (digits (suc k) n ++ rest)
    go true e f = let l = ltb-true n 10 e in rw (digits_short (suc k) n (omega arith) l) (omega arith, omega arith)
    go false e f =
        let g = ltb-false n 10 e in
        rw (digits_split k n g, append_assoc) (f (omega arith) (shorter k n h))

-- Reading all the digits gives the number.
reads : (k n at : ℕ) (rest : List ℕ) → n ≤ most_number → n < 10 ^ k → digits_from at 0 (digits k n ++ rest) ≡ digits_from (at + length (digits k n)) n rest
reads zero n at rest m h =
    let z : n ≡ 0 = omega arith in
    rw (digits_none 0 n refl, z, add-zero)
reads (suc k) n at rest m h = go (ltb n 10) refl (reads k (n / 10) at (digit (n % 10) ∷ rest) (omega arith) (shorter k n h))
  where
    go : (b : Bool) → ltb n 10 ≡ b → digits_from at 0 (digits k (n / 10) ++ digit (n % 10) ∷ rest) ≡ digits_from (at + length (digits k (n / 10))) (n / 10) (digit (n % 10) ∷ rest) → digits_from at 0 (digits (suc k) n ++ rest) ≡ digits_from (at + length (digits (suc k) n)) n rest
    go true e f =
        let l = ltb-true n 10 e in
        let z : 0 * 10 + n ≡ n = omega arith in
        rw (digits_short (suc k) n (omega arith) l) (digit_step at 0 n rest l (omega arith) ∙ ap (λ (x : ℕ). digits_from (at + 1) x rest) z)
    go false e f =
        let g = ltb-false n 10 e in
        let z : n / 10 * 10 + n % 10 ≡ n = omega arith in
        let s : at + length (digits k (n / 10)) + 1 ≡ at + length (digits (suc k) n) = rw (digits_split k n g, length-append) (omega arith) in
        rw (digits_split k n g, append_assoc) f
        ∙ digit_step (at + length (digits k (n / 10))) (n / 10) (n % 10) rest (omega arith) (omega arith)
        ∙ ap (λ (x : ℕ). digits_from (at + length (digits k (n / 10)) + 1) x rest) z
        ∙ ap (λ (x : ℕ). digits_from x n rest) s

first_at : (s : List ℕ) (at : ℕ) → get_or s at 0 ≡ get_or (drop at s) 0 0
first_at s at = sym (ap (λ (k : ℕ). get_or s k 0) (add-zero at)) ∙ sym (get_or-drop at s 0 0)

-- Where `decimal n` stands at a position, with no digit after it, the number there is n.
pub reads_back : (s : List ℕ) (at n : ℕ) (rest : List ℕ) → drop at s ≡ decimal n ++ rest → n ≤ most_number → is_digit (get_or rest 0 0) ≡ false → number_at s at ≡ read n (at + length (decimal n))
unfolding number_at
reads_back s at zero rest e m h =
    let d : decimal 0 ≡ 48 ∷ [] = digits_short 10 0 (omega arith) (omega arith) in
    let f : drop at s ≡ 48 ∷ rest = e ∙ ap (λ (b : List ℕ). b ++ rest) d in
    let g : get_or s at 0 ≡ 48 = first_at s at ∙ ap (λ (b : List ℕ). get_or b 0 0) f in
    let g' : get_or s (at + 1) 0 ≡ get_or rest 0 0 = sym (get_or-drop at s 1 0) ∙ ap (λ (b : List ℕ). get_or b 1 0) f in
    simp (g, g', h, d)
reads_back s at (suc n) rest e m h =
    let l : Leads (decimal (suc n) ++ rest) = leads 10 (suc n) rest (omega arith) (omega arith) in
    let g : get_or s at 0 ≡ get_or (decimal (suc n) ++ rest) 0 0 = first_at s at ∙ ap (λ (b : List ℕ). get_or b 0 0) e in
    simp (le-leb 48 (get_or s at 0) (omega arith), le-leb (get_or s at 0) 57 (omega arith), ne_eqb (get_or s at 0) 48 (λ x. omega arith), e)
    (reads 10 (suc n) at rest m (omega arith) ∙ scanned (at + length (decimal (suc n))) (suc n) rest h)
