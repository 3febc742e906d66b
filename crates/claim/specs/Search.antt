-- The search for the next free record: the first set digit of a map, from the record claimed last on, and where there is none, from
-- record 0 on.
use Rattle.std.specs.Prelude.{◌≡◌, refl, Bool, true, false, Option, None, Some, ℕ, zero, suc, ◌+◌, ◌-◌, ◌/◌, ◌^◌, ◌≤◌, ◌<◌, leb}
use Rattle.std.proofs.Math.Path.{ap}
use Rattle.std.proofs.Common.{sym, ◌∙◌, zero-add, suc-add, arith, leb-true}
use Rattle.std.proofs.Math.Decide.{ℕ_discrete}
use Rattle.std.specs.Int.Count.{count_trailing_zeros}
use Rattle.std.specs.Option.{option_or}
use Rattle.rules.specs.Sizes.{Sizes, most_records}
use Rattle.rules.specs.Cell.{Reader, last_claimed}
use Rattle.rules.specs.Update.{both}
use Rattle.rules.specs.InRange.{InRange}
use Rattle.rules.specs.Free.{free, first_from, next_free}
use Rattle.bits.specs.Bitmap.{bitmap}
use Rattle.bits.specs.Laws.{digits_past}
use Rattle.bits.specs.Lowest.{First, trailing_zeros_first, no_set_digit}

-- A record, or none, as the rules number it: plus one, or 0.
abbrev pub link_of : Option ℕ → ℕ
link_of None = 0
link_of (Some r) = suc r

-- Of a map whose digits are those of a test: r is the first of them from digit `from` on that passes, or none does.
abbrev pub Finds : (map from : ℕ) → (r : Option ℕ) → Type 0
Finds map from r = (n : ℕ) (p : ℕ → Bool) → bitmap 0 n p ≡ map → from ≤ n → n ≤ most_records → first_from from (n - from) p ≡ link_of r

-- what the first part of a search found, or else the second
abbrev or_else : (c d : ℕ) → ℕ
or_else c d = elim c [ zero ↦ d | suc r ↦ suc r ]

-- the search by its first test
by_first : (k n : ℕ) (p : ℕ → Bool) {b : Bool} → p k ≡ b → first_from k (suc n) p ≡ elim b [ true ↦ suc k | false ↦ first_from (suc k) n p ]
by_first k n p e = ap (λ (b : Bool). elim b [ true ↦ suc k | false ↦ first_from (suc k) n p ]) e

-- it finds the first that passes, and none if none does
first_found : (k n x : ℕ) (p : ℕ → Bool) → First k n p x → first_from k n p ≡ suc x
first_found k zero x p f = absurd (omega (arith, f.from, f.inside))
first_found k (suc n) x p f = here (ℕ_discrete k x) (λ g. first_found (suc k) n x p g)
  where
    here : Dec (k ≡ x) → (First (suc k) n p x → first_from (suc k) n p ≡ suc x) → first_from k (suc n) p ≡ suc x
    here (yes e) later = by_first k n p {b = true} (rw e f.passes) ∙ ap suc e
    here (no e) later =
        let behind : k < x = omega (arith, f.from) in
        by_first k n p (f.fails k (omega arith) behind)
        ∙ later (record { from = behind; inside = omega (arith, f.inside); passes = f.passes; fails = λ j l h. f.fails j (omega arith) h })

none_found : (k n : ℕ) (p : ℕ → Bool) → ((j : ℕ) → k ≤ j → j < k + n → p j ≡ false) → first_from k n p ≡ 0
none_found k zero p f = refl
none_found k (suc n) p f = by_first k n p (f k (omega arith) (omega arith)) ∙ none_found (suc k) n p (λ j l h. f j (omega arith) (omega arith))

-- it goes over one part and then the other
first_of_parts : (k a n : ℕ) (p : ℕ → Bool) → first_from k (a + n) p ≡ or_else (first_from k a p) (first_from (k + a) n p)
first_of_parts k zero n p =
    let same : k ≡ k + 0 = omega arith in
    rw (zero-add, ← same) refl
first_of_parts k (suc a) n p =
    let same : suc k + a ≡ k + suc a = omega arith in
    rw (suc-add a n) (here (p k) (first_from (suc k) (a + n) p) (first_from (suc k) a p) (first_from (k + suc a) n p) (rw same at (first_of_parts (suc k) a n p)))
  where
    here : (b : Bool) (x y w : ℕ) → x ≡ or_else y w
        → elim b [ true ↦ suc k | false ↦ x ] ≡ or_else (elim b [ true ↦ suc k | false ↦ y ]) w
    here true x y w e = refl
    here false x y w e = e

-- no more than the last
first_most : (k n : ℕ) (p : ℕ → Bool) → first_from k n p ≤ k + n
first_most k zero p = omega arith
first_most k (suc n) p = here (p k) (first_from (suc k) n p) (first_most (suc k) n p)
  where
    here : (b : Bool) (later : ℕ) → later ≤ suc k + n → elim b [ true ↦ suc k | false ↦ later ] ≤ k + suc n
    here true later h = omega arith
    here false later h = omega arith

-- The digits of a map from one on: past all of them, all clear, and with the lowest set digit.
module _ (map from : ℕ) where
  rest_is : (n : ℕ) (p : ℕ → Bool) → bitmap 0 n p ≡ map → from ≤ n → map / 2 ^ from ≡ bitmap from (n - from) p
  rest_is n p e l =
      let all : n ≡ from + (n - from) = omega arith in
      rw (← e) (ap (λ (i : ℕ). bitmap 0 i p / 2 ^ from) all ∙ digits_past from 0 (n - from) from p (omega arith))

  pub finds_past : most_records ≤ from → Finds map from None
  finds_past h n p e l m = none_found from (n - from) p (λ j k i. absurd (omega arith))

  pub finds_none : map / 2 ^ from ≡ 0 → Finds map from None
  finds_none z n p e l m = none_found from (n - from) p (no_set_digit from (n - from) p (sym (rest_is n p e l) ∙ z))

  pub finds_lowest : (map / 2 ^ from ≡ 0 → ⊥) → Finds map from (Some (from + count_trailing_zeros most_records (map / 2 ^ from)))
  finds_lowest z n p e l m =
      let rest = rest_is n p e l in
      rw rest (first_found from (n - from) _ p (trailing_zeros_first most_records from (n - from) _ p (omega arith) (λ y. z (rest ∙ y)) refl))

-- what is found is no more than the number of digits
found_most : {map from : ℕ} (r : Option ℕ) (n : ℕ) (p : ℕ → Bool) → Finds map from r → bitmap 0 n p ≡ map → from ≤ n → n ≤ most_records → link_of r ≤ n
found_most {map} {from} r n p finds e l m = omega (arith, finds n p e l m, first_most from (n - from) p)

-- Word 11 names a record.
pub last_least : {z : Sizes} {σ : Reader} → InRange z σ → 1 ≤ σ last_claimed
last_least {z} {σ} range = leb-true 1 (σ last_claimed) (both (leb 1 (σ last_claimed)) (leb (σ last_claimed) z.N) (range.words last_claimed tt)).0

-- The round in two halves: above the record claimed last, and where none is free there, from record 0 on.
module _ (z : Sizes) (σ : Reader) {map from : ℕ} (digits : bitmap 0 z.N (free z σ) ≡ map) (is : σ last_claimed ≡ from) (inside : from ≤ z.N) (most : z.N ≤ most_records) where
  halves : {k : ℕ} → first_from from (z.N - from) (free z σ) ≡ k → next_free z σ ≡ or_else k (first_from 0 from (free z σ))
  unfolding next_free
  halves e =
      ap (λ (l : ℕ). or_else (first_from l (z.N - l) (free z σ)) (first_from 0 l (free z σ))) is
      ∙ ap (λ (c : ℕ). or_else c (first_from 0 from (free z σ))) e

  below : first_from from (z.N - from) (free z σ) ≡ 0 → {j : ℕ} → first_from 0 (z.N - 0) (free z σ) ≡ j → next_free z σ ≡ j
  below e whole =
      let none : first_from (0 + from) (z.N - from) (free z σ) ≡ 0 = rw zero-add e in
      let all : z.N - 0 ≡ from + (z.N - from) = omega arith in
      halves e
      ∙ sym (ap (λ (c : ℕ). or_else (first_from 0 from (free z σ)) c) none ∙ same (first_from 0 from (free z σ)))
      ∙ sym (first_of_parts 0 from (z.N - from) (free z σ))
      ∙ sym (ap (λ (n : ℕ). first_from 0 n (free z σ)) all)
      ∙ whole
    where
      same : (c : ℕ) → or_else c 0 ≡ c
      same zero = refl
      same (suc r) = refl

  -- The record found is the next free one, and one of the store: the second search starts at 0.
  pub round : {start : ℕ} (above whole : Option ℕ) → Finds map from above → Finds map start whole → start ≡ 0
      → (next_free z σ ≡ link_of (option_or above whole)) × (link_of (option_or above whole) ≤ z.N)
  round (Some r) whole a w e = (halves (a z.N (free z σ) digits inside most), found_most (Some r) z.N (free z σ) a digits inside most)
  round None whole a w e =
      let w : Finds map 0 whole = rw e at w in
      (below (a z.N (free z σ) digits inside most) (w z.N (free z σ) digits (omega arith) most), found_most whole z.N (free z σ) w digits (omega arith) most)
