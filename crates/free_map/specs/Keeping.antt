-- Which records are free, by their uses and places and by what producers hold: a retired record is kept by the greatest place of a retired
-- record that a producer holds.
use Rattle.std.specs.Prelude.{◌≡◌, Bool, false, ◌&&◌, ◌||◌, not, cond, List, [], ◌∷◌, ℕ, zero, suc, ◌≤◌, max, leb, eqb, get_or}
use Rattle.std.specs.Int.{from_bool}
use Rattle.std.proofs.Math.Path.{refl}
use Rattle.std.proofs.Common.{ap₂, sym, arith}
use Rattle.std.proofs.Math.Bool.{true}
use Rattle.std.proofs.Math.Dec.{ltb, eqb-suc-suc}
use Rattle.std.proofs.Math.Nat.{max-eq_left, max-eq_right}
use borrow.Author.Tests.{ne_eqb, le-leb, leb-true, leb-false, lt-ltb, le-ltb, ltb-true, ltb-false}
use Rattle.rules.specs.Sizes.{Sizes, most_place}
use Rattle.rules.specs.Cell.{Reader, held, claimed, place, used}
use Rattle.rules.specs.Range.{every}
use Rattle.rules.specs.Free.{kept_by, keeps, free}
use Rattle.store.specs.Caps.{most_word}
use Rattle.bits.specs.Bitmap.{digit}

-- the place of the record that a link names, if that is retired; otherwise 0
abbrev pub retired_place : Reader → (link : ℕ) → ℕ
retired_place σ zero = 0
retired_place σ (suc x) = cond (eqb (σ (used x)) 3) (σ (place x)) 0

-- The greatest place of a retired record that one of producers 1 to n holds; 0 where there is none.
abbrev pub kept_from : Reader → (n : ℕ) → ℕ
kept_from σ zero = 0
kept_from σ (suc n) = max (max (kept_from σ n) (retired_place σ (σ (held (suc n))))) (retired_place σ (σ (claimed (suc n))))

-- A link names record r, which is retired; and one of producers 1 to n holds record r, which is retired.
abbrev pub names : Reader → (link r : ℕ) → Bool
names σ link r = eqb (σ (used r)) 3 && eqb link (suc r)

abbrev pub held_retired : Reader → (n r : ℕ) → Bool
held_retired σ zero r = false
held_retired σ (suc n) r = (held_retired σ n r || names σ (σ (held (suc n))) r) || names σ (σ (claimed (suc n))) r

-- The least place at which a record is free, by its use: any, if its use is 0; none, if it is claimed or linked; for a retired one the place
-- below which it is kept.
abbrev pub least_places : (kept : ℕ) → List ℕ
least_places kept = 0 ∷ most_word ∷ most_word ∷ kept ∷ []

abbrev pub place_below : Reader → (least : List ℕ) → (r : ℕ) → Bool
place_below σ least r = ltb (σ (place r)) (get_or least (σ (used r)) 0)

-- the digit of a test, as the code has it
pub from_test : (b : Bool) → (digit b ≡ from_bool b) × (from_bool b ≤ 1)
from_test true = (refl, omega arith)
from_test false = (refl, omega arith)

-- below is not at least
below_is : (p k : ℕ) → ltb p k ≡ not (leb k p)
below_is p k = go (leb k p) refl
  where
    go : (b : Bool) → leb k p ≡ b → ltb p k ≡ not b
    go true e = le-ltb p k (leb-true k p e)
    go false e = lt-ltb p k (leb-false k p e)

-- at most p, both of two numbers
max_most : (a b p : ℕ) → leb (max a b) p ≡ (leb a p && leb b p)
max_most a b p = go (ltb a b) refl (leb a p) refl (leb b p) refl
  where
    go : (c : Bool) → ltb a b ≡ c → (d : Bool) → leb a p ≡ d → (e : Bool) → leb b p ≡ e → leb (max a b) p ≡ (d && e)
    go true h true k e l = rw (max-eq_right {n = a} {m = b} (omega (arith, ltb-true a b h))) l
    go true h false k true l = absurd (omega (arith, ltb-true a b h, leb-false a p k, leb-true b p l))
    go true h false k false l = rw (max-eq_right {n = a} {m = b} (omega (arith, ltb-true a b h))) l
    go false h true k true l = rw (max-eq_left {n = a} {m = b} (omega (arith, ltb-false a b h))) k
    go false h true k false l = absurd (omega (arith, ltb-false a b h, leb-true a p k, leb-false b p l))
    go false h false k e l = rw (max-eq_left {n = a} {m = b} (omega (arith, ltb-false a b h))) k

-- the tests of the producers so far, and of one more
regroup : (R L h c A B : Bool) → ((not R && L) && not ((h || not A) || (c || not B))) ≡ (not ((R || h) || c) && ((L && A) && B))
regroup true L h c A B = refl
regroup false false true c A B = refl
regroup false false false true A B = refl
regroup false false false false A B = refl
regroup false true true c A B = refl
regroup false true false true true B = refl
regroup false true false true false B = refl
regroup false true false false true true = refl
regroup false true false false true false = refl
regroup false true false false false B = refl

module _ (σ : Reader) (r : ℕ) where
  -- A link keeps record r: it names r, or a retired record of greater place.
  kept_by_lem : (x : ℕ) → kept_by σ x r ≡ (eqb x (suc r) || not (leb (retired_place σ x) (σ (place r))))
  kept_by_lem zero = rw (ne_eqb 0 (suc r) (λ e. omega arith), le-leb 0 (σ (place r)) (omega arith)) refl
  kept_by_lem (suc x) = ap₂ ◌||◌ (sym (eqb-suc-suc x r)) (go (eqb (σ (used x)) 3))
    where
      go : (b : Bool) → (b && ltb (σ (place r)) (σ (place x))) ≡ not (leb (cond b (σ (place x)) 0) (σ (place r)))
      go true = below_is (σ (place r)) (σ (place x))
      go false = rw (le-leb 0 (σ (place r)) (omega arith)) refl

  -- No producer keeps a retired record: none holds it, and its place is not below the greatest.
  kept_by_none : σ (used r) ≡ 3 → (n : ℕ) → every n (λ t. not (keeps σ (suc t) r)) ≡ (not (held_retired σ n r) && leb (kept_from σ n) (σ (place r)))
  kept_by_none e zero = sym (le-leb 0 (σ (place r)) (omega arith))
  kept_by_none e (suc n) =
      let p = σ (place r) in
      let x = σ (held (suc n)) in
      let y = σ (claimed (suc n)) in
      let a = retired_place σ x in
      let b = retired_place σ y in
      rw (kept_by_none e n, kept_by_lem x, kept_by_lem y, max_most (max (kept_from σ n) a) b p, max_most (kept_from σ n) a p, e)
      (regroup (held_retired σ n r) (leb (kept_from σ n) p) (eqb x (suc r)) (eqb y (suc r)) (leb a p) (leb b p))

  none_retired : eqb (σ (used r)) 3 ≡ false → (n : ℕ) → held_retired σ n r ≡ false
  none_retired e zero = refl
  none_retired e (suc n) = rw (none_retired e n, e) refl

  -- Free, by use and place and by what is held. The record is in range.
  pub free_is : (z : Sizes) → σ (used r) ≤ 3 → σ (place r) ≤ most_place → free z σ r ≡ not (place_below σ (least_places (kept_from σ z.P)) r || held_retired σ z.P r)
  unfolding free
  free_is z most most-place = by-use (σ (used r)) refl most
    where
      below : ltb (σ (place r)) most_word ≡ true
      below = lt-ltb (σ (place r)) most_word (omega arith)

      neither : (l h : Bool) → (not h && l) ≡ not (not l || h)
      neither true true = refl
      neither true false = refl
      neither false true = refl
      neither false false = refl

      by-use : (u : ℕ) → σ (used r) ≡ u → u ≤ 3 → free z σ r ≡ not (place_below σ (least_places (kept_from σ z.P)) r || held_retired σ z.P r)
      by-use zero e h = rw (e, none_retired (rw e refl) z.P, le-ltb (σ (place r)) 0 (omega arith)) refl
      by-use (suc zero) e h = rw (e, below) refl
      by-use (suc (suc zero)) e h = rw (e, below) refl
      by-use (suc (suc (suc zero))) e h =
          rw (e, kept_by_none e z.P, below_is (σ (place r)) (kept_from σ z.P)) (neither (leb (kept_from σ z.P) (σ (place r))) (held_retired σ z.P r))
      by-use (suc (suc (suc (suc u)))) e h = absurd (omega arith)
