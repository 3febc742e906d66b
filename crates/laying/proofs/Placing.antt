-- Placing from the back: with the queue t to p of a line and p on still to be placed, what one enqueue more to be placed gives, and
-- what one dequeue more before those gives.
use mathlib.Core.Path.{◌≡◌, refl, sym, ap, subst, ◌∙◌}
use mathlib.Core.Logic.{◌⊎◌, inl, inr, ◌≢◌}
use mathlib.Core.Bool.{Bool, true, false, ◌&&◌, ◌||◌, not, cond}
use mathlib.Core.List.{List, [], ◌∷◌, ◌++◌, map}
use Prim.Native.Nat.{ℕ, zero, suc, ◌+◌, ◌≤◌, ◌<◌}
use native.Mathlib.Omega.{arith}
use lib.Dec.{eqb, ltb}
use lib.ListN.{length, get_or, take, drop}
use lib.Seq.{slice, slice_empty, slice-cons, take-suc, drop-cons, drop-append-le, length-take-le}
use borrow.Author.Tests.{ltb-false, le-ltb}
use Rattle.history.specs.Calls.{Answer, nothing, item, empty, Enqueue, Dequeue, Call, enq, deq}
use Rattle.criterion.specs.Order.{is_item, ended_before, any_ended, is_empty, behind, after, must, fill, place}
use Rattle.reading.proofs.Logic.{same_or_not, at_most_or_above, false_not_true, neither}

either : (a b : Bool) → (a || b) ≡ true → (a ≡ true) ⊎ (b ≡ true)
either true b e = inl refl
either false b e = inr e

or_left : (a b : Bool) → a ≡ true → (a || b) ≡ true
or_left a b e = rw e

or_right : (a b : Bool) → b ≡ true → (a || b) ≡ true
or_right true b e = refl
or_right false b e = e

and_right : (a b : Bool) → (a && b) ≡ true → b ≡ true
and_right true b e = e
and_right false b e = absurd (false_not_true e)

-- one more at the end of a part of a list
pub slice_snoc :
    {A : Type 0} (t u : ℕ) (l : List A) (x : A) → t ≤ u → u < length l → slice t (suc u) l ≡ slice t u l ++ (get_or l u x ∷ [])
slice_snoc t u l x a b =
    ap (drop t) (take-suc l u x b)
    ∙ drop-append-le t (take u l) (get_or l u x ∷ []) (let e = length-take-le u l (omega arith) in omega arith)

-- what the next enqueue or dequeue gives, by the test
fill_puts :
    (d : Dequeue) (ds : List Dequeue) (q : List Enqueue) (x : Enqueue) (p : List Enqueue) → must d q (x ∷ p) ≡ true
    → fill d (place ds) q (x ∷ p) ≡ enq x ∷ fill d (place ds) (q ++ (x ∷ [])) p
fill_puts d ds q x p e =
    ap (λ (b : Bool). elim b as (λ _. List Call) [
      | true ↦ enq x ∷ fill d (place ds) (q ++ (x ∷ [])) p
      | false ↦ deq d ∷ place ds (after d.answer q) (x ∷ p)
    ]) e

fill_gives :
    (d : Dequeue) (ds : List Dequeue) (q p : List Enqueue) → must d q p ≡ false
    → fill d (place ds) q p ≡ deq d ∷ place ds (after d.answer q) p
fill_gives d ds q [] e = refl
fill_gives d ds q (x ∷ p) e =
    ap (λ (b : Bool). elim b as (λ _. List Call) [
      | true ↦ enq x ∷ fill d (place ds) (q ++ (x ∷ [])) p
      | false ↦ deq d ∷ place ds (after d.answer q) (x ∷ p)
    ]) e

-- what had not ended before an event had not before an earlier one
ended_earlier : (s w : ℕ) (y : Enqueue) → s ≤ w → ended_before w y ≡ false → ended_before s y ≡ false
ended_earlier s w y a e = go (eqb y.end 0) refl e
  where
    go : (b : Bool) → eqb y.end 0 ≡ b → (not b && ltb y.end w) ≡ false → (not b && ltb y.end s) ≡ false
    go true q e = refl
    go false q e = le-ltb y.end s (let z = ltb-false y.end w e in omega arith)

pub none_earlier : (s w : ℕ) (ys : List Enqueue) → s ≤ w → any_ended w ys ≡ false → any_ended s ys ≡ false
none_earlier s w [] a e = refl
none_earlier s w (y ∷ ys) a e =
    let n = neither (ended_before w y) (any_ended w ys) e in
    rw (ended_earlier s w y a n.0) (none_earlier s w ys a n.1)

-- Placing places everything.
length_fill :
    (d : Dequeue) (ds : List Dequeue) → ((q p : List Enqueue) → length (place ds q p) ≡ length ds + length p)
    → (p q : List Enqueue) → length (fill d (place ds) q p) ≡ suc (length ds + length p)
length_fill d ds h [] q = ap suc (h (after d.answer q) [])
length_fill d ds h (x ∷ p) q = go (must d q (x ∷ p)) refl (length_fill d ds h p (q ++ (x ∷ [])))
  where
    go :
        (b : Bool) → must d q (x ∷ p) ≡ b → length (fill d (place ds) (q ++ (x ∷ [])) p) ≡ suc (length ds + length p)
        → length (fill d (place ds) q (x ∷ p)) ≡ suc (length ds + length (x ∷ p))
    go true e i = ap length (fill_puts d ds q x p e) ∙ (omega arith)
    go false e i = ap length (fill_gives d ds q (x ∷ p) e) ∙ ap suc (h (after d.answer q) (x ∷ p))

length_enqs : (p : List Enqueue) → length (map enq p) ≡ length p
length_enqs [] = refl
length_enqs (x ∷ p) = ap suc (length_enqs p)

pub length_place : (ds : List Dequeue) (q p : List Enqueue) → length (place ds q p) ≡ length ds + length p
length_place [] q p = let e = length_enqs p in omega arith
length_place (d ∷ ds) q p = let e = length_fill d ds (length_place ds) p q in omega arith

module _ (l : List Enqueue) (x : Enqueue) where
  -- The next dequeue does not come before the enqueue before p, if that is behind t.
  abbrev pub Ready : List Dequeue → (t p : ℕ) → Type 0
  Ready [] t p = Unit
  Ready (d ∷ ds) t p = (u : ℕ) → p ≡ suc u → t ≤ u → must d (slice t u l) (drop u l) ≡ true

  abbrev placed : List Dequeue → (t p : ℕ) → List Call
  placed ds t p = place ds (slice t p l) (drop p l)

  one_back :
      (ds : List Dequeue) (t u : ℕ) → t ≤ u → u < length l → Ready ds t (suc u) → placed ds t u ≡ enq (get_or l u x) ∷ placed ds t (suc u)
  one_back [] t u a b r = ap (map enq) (drop-cons l u x b)
  one_back (d ∷ ds) t u a b r =
      ap (fill d (place ds) (slice t u l)) (drop-cons l u x b)
      ∙ fill_puts d ds (slice t u l) (get_or l u x) (drop (suc u) l) (ap (must d (slice t u l)) (sym (drop-cons l u x b)) ∙ r u refl a)
      ∙ ap (λ q. enq (get_or l u x) ∷ fill d (place ds) q (drop (suc u) l)) (sym (slice_snoc t u l x a b))

  any_at : (s u : ℕ) → u < length l → ended_before s (get_or l u x) ≡ true → any_ended s (drop u l) ≡ true
  any_at s u b e = ap (any_ended s) (drop-cons l u x b) ∙ or_left _ (any_ended s (drop (suc u) l)) e

  any_on : (s u : ℕ) → u < length l → any_ended s (drop (suc u) l) ≡ true → any_ended s (drop u l) ≡ true
  any_on s u b e = ap (any_ended s) (drop-cons l u x b) ∙ or_right (ended_before s (get_or l u x)) _ e

  not_empty : (t u : ℕ) → t ≤ u → u < length l → is_empty (slice t (suc u) l) ≡ false
  not_empty t u a b = ap is_empty (slice-cons t (suc u) l x (omega arith) b)

  ready_back : (ds : List Dequeue) (t u : ℕ) → t ≤ u → u < length l → Ready ds t (suc u) → Ready ds t u
  ready_back [] t u a b r = tt
  ready_back (d ∷ ds) t u a b r = λ w e o.
      subst (λ z. must d (slice t z l) (drop z l) ≡ true → must d (slice t w l) (drop w l) ≡ true) (sym e) (go w o (omega arith)) (r u refl a)
    where
      go : (w : ℕ) → t ≤ w → suc w < length l → must d (slice t (suc w) l) (drop (suc w) l) ≡ true → must d (slice t w l) (drop w l) ≡ true
      go w o f h = elim (either (any_ended d.start (drop (suc w) l)) (is_item d.answer && is_empty (slice t (suc w) l)) h) [
        | inl i ↦ or_left _ _ (any_on d.start w (omega arith) i)
        | inr i ↦ absurd (false_not_true (sym (not_empty t w o (omega arith)) ∙ and_right (is_item d.answer) _ i))
      ]

  -- Back from p to r.
  pub record Backwards (ds : List Dequeue) (t r p : ℕ) : Type 0 where
    pub places : placed ds t r ≡ map enq (slice r p l) ++ placed ds t p
    pub ready : Ready ds t r

  map_snoc : (ys : List Enqueue) (y : Enqueue) (zs : List Call) → map enq (ys ++ (y ∷ [])) ++ zs ≡ map enq ys ++ (enq y ∷ zs)
  map_snoc [] y zs = refl
  map_snoc (w ∷ ys) y zs = ap (λ z. enq w ∷ z) (map_snoc ys y zs)

  pub back : (ds : List Dequeue) (t p r : ℕ) → t ≤ r → r ≤ p → p ≤ length l → Ready ds t p → Backwards ds t r p
  back ds t zero r a b f h = subst (λ z. Backwards ds t z 0) (omega arith) (record { places = refl; ready = h })
  back ds t (suc u) r a b f h = go (same_or_not r (suc u)) (back ds t u r a)
    where
      go :
          (r ≡ suc u) ⊎ (r ≢ suc u) → (r ≤ u → u ≤ length l → Ready ds t u → Backwards ds t r u) → Backwards ds t r (suc u)
      go (inl e) ih =
          subst (λ z. Backwards ds t z (suc u)) (sym e)
          (record { places = ap (λ z. map enq z ++ placed ds t (suc u)) (sym (slice_empty (suc u) l)); ready = h })
      go (inr d) ih =
          let i = ih (omega arith) (omega arith) (ready_back ds t u (omega arith) f h) in
          record {
            places =
                i.places
                ∙ ap (λ z. map enq (slice r u l) ++ z) (one_back ds t u (omega arith) f h)
                ∙ sym (map_snoc (slice r u l) (get_or l u x) (placed ds t (suc u)))
                ∙ ap (λ z. map enq z ++ placed ds t (suc u)) (sym (slice_snoc r u l x (omega arith) f));
            ready = i.ready;
          }

  -- None from r on had ended before event s, if none from p on had, nor one of those between.
  pub none_between :
      (s p r : ℕ) → r ≤ p → p ≤ length l → any_ended s (drop p l) ≡ false
      → ((k : ℕ) → r ≤ k → k < p → ended_before s (get_or l k x) ≡ false) → any_ended s (drop r l) ≡ false
  none_between s zero r b f e h = let z : r ≡ 0 = omega arith in rw z e
  none_between s (suc u) r b f e h = go (same_or_not r (suc u)) (none_between s u r)
    where
      go :
          (r ≡ suc u) ⊎ (r ≢ suc u)
          → (r ≤ u → u ≤ length l → any_ended s (drop u l) ≡ false → ((k : ℕ) → r ≤ k → k < u → ended_before s (get_or l k x) ≡ false)
          → any_ended s (drop r l) ≡ false) → any_ended s (drop r l) ≡ false
      go (inl z) ih = rw z e
      go (inr d) ih =
          ih (omega arith) (omega arith)
          (ap (any_ended s) (drop-cons l u x f) ∙ rw (h u (omega arith) (omega arith)) e)
          (λ k i o. h k i (omega arith))

  -- One dequeue more, where t was as many before it as t' after it.
  module _ (d : Dequeue) (ds : List Dequeue) (t t' p : ℕ) (counts : t' ≡ cond (is_item d.answer) (suc t) t) (least : t' ≤ p) (most : p ≤ length l) where
    after_is : after d.answer (slice t p l) ≡ slice t' p l
    after_is = go d.answer refl counts
      where
        go : (a : Answer) → d.answer ≡ a → t' ≡ cond (is_item a) (suc t) t → after a (slice t p l) ≡ slice t' p l
        go nothing e c = rw c
        go (item n v) e c = rw c (ap behind (slice-cons t p l x (omega arith) most))
        go empty e c = rw c

    stays_full : (is_item d.answer && is_empty (slice t p l)) ≡ false
    stays_full = go (is_item d.answer) refl counts
      where
        go : (b : Bool) → is_item d.answer ≡ b → t' ≡ cond b (suc t) t → (b && is_empty (slice t p l)) ≡ false
        go true e c = ap is_empty (slice-cons t p l x (omega arith) most)
        go false e c = refl

    pub dequeue_back : any_ended d.start (drop p l) ≡ false → placed (d ∷ ds) t p ≡ deq d ∷ placed ds t' p
    dequeue_back e =
        fill_gives d ds (slice t p l) (drop p l) (rw (e, stays_full))
        ∙ ap (λ q. deq d ∷ place ds q (drop p l)) after_is

    pub ready_for : ((k : ℕ) → p ≡ suc k → t' ≤ k → ended_before d.start (get_or l k x) ≡ true) → Ready (d ∷ ds) t p
    ready_for h u e a = go (at_most_or_above t' u)
      where
        go : (t' ≤ u) ⊎ (u < t') → must d (slice t u l) (drop u l) ≡ true
        go (inl o) = or_left _ _ (any_at d.start u (omega arith) (h u e o))
        go (inr o) = or_right (any_ended d.start (drop u l)) _ (only (is_item d.answer) refl counts)
          where
            only : (b : Bool) → is_item d.answer ≡ b → t' ≡ cond b (suc t) t → (b && is_empty (slice t u l)) ≡ true
            only true q c = let z : u ≡ t = omega arith in rw (z, slice_empty t l)
            only false q c = absurd (omega arith)
