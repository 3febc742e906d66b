-- What the struct of the retired records that producers hold says, and how it grows by a link.
use Rattle.std.specs.Prelude.{◌≡◌, refl, Bool, true, false, ◌||◌, ℕ, suc, ◌+◌, ◌-◌, ◌*◌, ◌/◌, ◌%◌, ◌^◌, ◌<◌, ◌≤◌, max, eqb}
use Rattle.std.proofs.Common.{ap, ◌∙◌, zero-add, one-mul, add-one, shl_exact, ne_eqb, eq-eqb, leb-true}
use Rattle.std.proofs.Math.Path.{ap₂, sym}
use Rattle.std.proofs.Math.Bool.{not, and-false}
use Rattle.std.proofs.Math.Decide.{ℕ_discrete}
use Rattle.std.proofs.Math.Nat.{max-zero}
use native.Mathlib.Omega.{arith}
use Rattle.std.specs.Int.Bits.{bit_or, or_zero_r}
use Rattle.std.proofs.Math.Pow.{le_ones}
use Rattle.rules.specs.Sizes.{Sizes, most_records, most_place}
use Rattle.rules.specs.Cell.{Reader, held, claimed, place, used}
use Rattle.rules.specs.InRange.{InRange}
use Rattle.rules.specs.Free.{free}
use Rattle.bits.specs.Bitmap.{bitmap}
use Rattle.bits.specs.Laws.{bitmap_lt, same_digits, either_digits, turned_digits, all_digits, no_digit, single_digit}
use Rattle.free_map.specs.declared.Kept.{Kept}
use Rattle.free_map.specs.Keeping.{retired_place, kept_from, names, held_retired, least_places, place_below, free_is}

-- Of producers 1 to n.
pub record Keeps (z : Sizes) (σ : Reader) (n : ℕ) (k : Kept) : Type 0 where
  pub place : kept_from σ n ≡ k.place
  pub records : bitmap 0 z.N (held_retired σ n) ≡ k.records

-- k' is k with the record that a link names, if that is retired.
pub record KeepsToo (z : Sizes) (σ : Reader) (link : ℕ) (k k' : Kept) : Type 0 where
  pub place : k'.place ≡ max k.place (retired_place σ link)
  pub records : k'.records ≡ bit_or k.records (bitmap 0 z.N (names σ link))

module _ (z : Sizes) (σ : Reader) where
  pub none_yet : (k : Kept) → k.place ≡ 0 → k.records ≡ 0 → Keeps z σ 0 k
  none_yet k p q = record { place = sym p; records = no_digit 0 z.N ∙ sym q }

  -- with one producer more
  both_links : (n : ℕ) {k k' k'' : Kept} → Keeps z σ n k → KeepsToo z σ (σ (held (suc n))) k k' → KeepsToo z σ (σ (claimed (suc n))) k' k'' → Keeps z σ (suc n) k''
  both_links n {k} {k'} {k''} before one two =
      let x = σ (held (suc n)) in
      let y = σ (claimed (suc n)) in
      record {
        place = sym (two.place ∙ ap (λ (a : ℕ). max a (retired_place σ y)) (one.place ∙ ap (λ (a : ℕ). max a (retired_place σ x)) (sym before.place)));
        records =
            sym (two.records
            ∙ ap (λ (m : ℕ). bit_or m (bitmap 0 z.N (names σ y))) (one.records ∙ ap (λ (m : ℕ). bit_or m (bitmap 0 z.N (names σ x))) (sym before.records) ∙ either_digits 0 z.N (held_retired σ n) (names σ x))
            ∙ either_digits 0 z.N (λ r. held_retired σ n r || names σ x r) (names σ y));
      }

  pub keeps_more : {n x y : ℕ} {k k' k'' : Kept} → Keeps z σ n k → σ (held (n + 1)) ≡ x → σ (claimed (n + 1)) ≡ y
      → KeepsToo z σ x k k' → KeepsToo z σ y k' k'' → Keeps z σ (n + 1) k''
  keeps_more {n} {k' = k'} before p q one two = rw (add-one n) (both_links n {k' = k'} before (rw (rw add-one at p) one) (rw (rw add-one at q) two))

  -- A link that names no retired record adds nothing.
  adds_nothing : {link : ℕ} (k : Kept) → retired_place σ link ≡ 0 → ((r : ℕ) → names σ link r ≡ false) → KeepsToo z σ link k k
  adds_nothing {link} k p f =
      let none = same_digits 0 z.N (names σ link) (λ r. false) (λ r l h. f r) ∙ no_digit 0 z.N in
      record { place = rw p (sym (max-zero k.place)); records = sym (ap (λ (m : ℕ). bit_or k.records m) none ∙ or_zero_r k.records) }

  pub none_named : (k : Kept) → KeepsToo z σ 0 k k
  none_named k = adds_nothing {link = 0} k refl (λ r. rw (ne_eqb 0 (suc r) (λ e. omega arith)) (and-false (eqb (σ (used r)) 3)))

  names_another : (x r : ℕ) → (r ≡ x → ⊥) → names σ (suc x) r ≡ false
  names_another x r n = rw (ne_eqb (suc x) (suc r) (λ e. n (omega arith))) (and-false (eqb (σ (used r)) 3))

  module _ {link x : ℕ} (is : link ≡ suc x) where
    pub none_retired : (k : Kept) → (σ (used x) ≡ 3 → ⊥) → KeepsToo z σ link k k
    none_retired k n = rw is (adds_nothing {link = suc x} k (rw other refl) (λ r. here r (ℕ_discrete r x)))
      where
        other : eqb (σ (used x)) 3 ≡ false
        other = ne_eqb (σ (used x)) 3 n

        here : (r : ℕ) → Dec (r ≡ x) → names σ (suc x) r ≡ false
        here r (yes e) = rw (e, other) refl
        here r (no e) = names_another x r e

    pub retired_named : (k : Kept) → σ (used x) ≡ 3 → x < z.N → z.N ≤ most_records → {p : ℕ} → p ≡ max k.place (σ (place x))
        → KeepsToo z σ link k (record { place = p; records = bit_or k.records ((1 * 2 ^ x) % 2 ^ 64) })
    retired_named k e l m q =
        let self : names σ (suc x) x ≡ true = rw (e, eq-eqb (suc x) (suc x) refl) refl in
        let digit : (1 * 2 ^ x) % 2 ^ 64 ≡ bitmap 0 z.N (names σ (suc x)) =
        shl_exact 1 x 64 (omega arith) (omega arith) ∙ one-mul (2 ^ x) ∙ sym (single_digit 0 z.N x x (names σ (suc x)) (zero-add x) l self (names_another x)) in
        rw is (record { place = rw e q; records = ap (λ (m : ℕ). bit_or k.records m) digit })

  -- The free records are all but those that are not free by use and place, and the retired ones that are held.
  module _ (k : Kept) {m : ℕ} (most : z.N ≤ most_records) (keeps : Keeps z σ z.P k) (e : bitmap 0 z.N (place_below σ (least_places k.place)) ≡ m) where
    others : ℕ → Bool
    others r = place_below σ (least_places (kept_from σ z.P)) r || held_retired σ z.P r

    other_digits : bitmap 0 z.N others ≡ bit_or m k.records
    unfolding others
    other_digits =
        sym (either_digits 0 z.N (place_below σ (least_places (kept_from σ z.P))) (held_retired σ z.P))
        ∙ ap₂ bit_or (ap (λ (x : ℕ). bitmap 0 z.N (place_below σ (least_places x))) keeps.place ∙ e) keeps.records

    -- all of the records, by the digits that are dropped from a word of set digits
    module _ (dropped : ℕ) (left : dropped ≡ 64 - z.N) where
      all : (2 ^ 64 - 1) / 2 ^ dropped ≡ 2 ^ z.N - 1
      all = rw left (all_digits 64 z.N most)

      pub others_most : bit_or m k.records ≤ (2 ^ 64 - 1) / 2 ^ dropped
      others_most = rw (all, ← other_digits) (le_ones z.N (bitmap_lt 0 z.N others))

      pub free_digits : InRange z σ → bitmap 0 z.N (free z σ) ≡ (2 ^ 64 - 1) / 2 ^ dropped - bit_or m k.records
      unfolding others
      free_digits range =
          same_digits 0 z.N (free z σ) (λ r. not (others r)) (λ r l h. free_is σ r z (leb-true (σ (used r)) 3 (range.words (used r) (omega arith, omega arith))) (leb-true (σ (place r)) most_place (range.words (place r) (omega arith, omega arith))))
          ∙ sym (turned_digits 0 z.N others)
          ∙ ap₂ (λ (x y : ℕ). x - y) (sym all) other_digits
