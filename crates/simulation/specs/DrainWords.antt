-- The ranges of the drain area's words by name, taken apart and put together; and the items that a drain hands over.
use Rattle.std.specs.Prelude.{◌≡◌, refl, ◌≢◌, Bool, true, false, ◌&&◌, cond, List, [], ◌∷◌, ◌++◌, ℕ, zero, suc, ◌≤◌, ◌<◌, leb, eqb, length}
use Rattle.std.proofs.Common.{ap, ap₂, sym, ◌∙◌, arith, length-append, le-leb, leb-true, lt-ltb, le-ltb, eq-eqb, eqb-true}
use Rattle.std.proofs.Math.Decide.{dec_lt, ℕ_discrete}
use Rattle.history.specs.Event.{History, gave_item, withdrawn}
use Rattle.history.specs.Linearization.{Item}
use Rattle.rules.specs.Sizes.{Sizes, most_drained}
use Rattle.rules.specs.Cell.{Reader, pair, consumer_phase, drain_limit, drain_count, pair_number}
use Rattle.rules.specs.Range.{unused, number, of_sorts, every, pair_sorts, no_pair_sorts, pair_in_range, area_in_range, drain_in_range}
use Rattle.rules.specs.InRange.{every_at, every_of, row_at_lem}
use Rattle.rules.specs.Update.{both, and_true}
use Rattle.rules.specs.Consumer.{pair_at, items_marked}
use Rattle.rules.specs.Play.{last_of, drain_ended}
use Rattle.simulation.specs.Rows.{has_sort, of_sorts_lem}

-- The drain area in range, by the consumer's phase: limit, count, and pairs.
pub record DrainWords (z : Sizes) (p l c : ℕ) (pairs : ℕ → ℕ → ℕ) : Type 0 where
  pub most : l ≤ most_drained
  pub idle : p ≡ 0 → l ≡ 0
  pub counted : c ≤ l
  pub kept : (i : ℕ) → i < c → pairs i 0 ≤ z.M
  pub others : (i : ℕ) → i < most_drained → c ≤ i → (pairs i 0 ≡ 0) × (pairs i 1 ≡ 0)

module _ (z : Sizes) (p l c : ℕ) (pairs : ℕ → ℕ → ℕ) where
  -- the largest limit
  abbrev top : ℕ
  top = cond (eqb p 0) 0 most_drained

  top_most : top ≤ most_drained
  top_most = go (eqb p 0)
    where
      go : (b : Bool) → cond b 0 most_drained ≤ most_drained
      go true = omega arith
      go false = omega arith

  drain_words : area_in_range z p l c pairs ≡ true → DrainWords z p l c pairs
  drain_words e =
      record {
        most = omega (arith, within, top_most);
        idle = λ q. let none : l ≤ 0 = rw (eq-eqb p 0 q) at within in omega arith;
        counted = leb-true c l b.0;
        kept = λ i h. has_sort z number (pairs i 0) (row_at_lem z (pairs i) pair_sorts (rw (lt-ltb i c h) at (each i (omega (arith, leb-true c l b.0, within, top_most)))) 0 (omega arith));
        others =
            λ i l h.
            let row : of_sorts z (pairs i) 0 no_pair_sorts ≡ true = rw (le-ltb i c h) at (each i l) in
            (has_sort z unused (pairs i 0) (row_at_lem z (pairs i) no_pair_sorts row 0 (omega arith)), has_sort z unused (pairs i 1) (row_at_lem z (pairs i) no_pair_sorts row 1 (omega arith)));
      }
    where
      a : (leb l top ≡ true) × ((leb c l && every most_drained (pair_in_range z c pairs)) ≡ true)
      a = both (leb l top) (leb c l && every most_drained (pair_in_range z c pairs)) e

      b : (leb c l ≡ true) × (every most_drained (pair_in_range z c pairs) ≡ true)
      b = both (leb c l) (every most_drained (pair_in_range z c pairs)) a.1

      within : l ≤ top
      within = leb-true l top a.0

      each : (i : ℕ) → i < most_drained → pair_in_range z c pairs i ≡ true
      each = every_at most_drained (pair_in_range z c pairs) b.1

  drain_of : DrainWords z p l c pairs → area_in_range z p l c pairs ≡ true
  drain_of w =
      and_true (le-leb l top (within (eqb p 0) refl))
      (and_true (le-leb c l w.counted)
      (every_of most_drained (pair_in_range z c pairs) (λ i h. row i h (dec_lt i c))))
    where
      within : (b : Bool) → eqb p 0 ≡ b → l ≤ cond b 0 most_drained
      within true e = omega (arith, w.idle (eqb-true p 0 e))
      within false e = w.most

      row : (i : ℕ) → i < most_drained → Dec (i < c) → pair_in_range z c pairs i ≡ true
      row i h (yes b) = rw (lt-ltb i c b) (of_sorts_lem z (pairs i) 0 pair_sorts (w.kept i b, (tt, tt)))
      row i h (no b) = let o = w.others i h (omega arith) in rw (le-ltb i c (omega arith)) (of_sorts_lem z (pairs i) 0 no_pair_sorts (o.0, (o.1, tt)))

-- of a store
abbrev pub DrainIn : Sizes → Reader → Type 0
DrainIn z σ = DrainWords z (σ consumer_phase) (σ drain_limit) (σ drain_count) (λ i k. σ (pair i k))

pub drain_in : (z : Sizes) (σ : Reader) → drain_in_range z σ ≡ true → DrainIn z σ
drain_in z σ = drain_words z (σ consumer_phase) (σ drain_limit) (σ drain_count) (λ i k. σ (pair i k))

pub drain_from : (z : Sizes) (σ : Reader) → DrainIn z σ → drain_in_range z σ ≡ true
drain_from z σ = drain_of z (σ consumer_phase) (σ drain_limit) (σ drain_count) (λ i k. σ (pair i k))

-- the words of the area, by others that are the same
pub same_in : (z : Sizes) (σ τ : Reader) (p : ℕ) → τ drain_limit ≡ σ drain_limit → τ drain_count ≡ σ drain_count → ((i k : ℕ) → τ (pair i k) ≡ σ (pair i k))
    → τ consumer_phase ≡ p → (p ≡ 0 → σ drain_limit ≡ 0) → DrainIn z σ → DrainIn z τ
same_in z σ τ p limit count pairs phase idle w =
    record {
      most = rw limit w.most;
      idle = λ e. limit ∙ idle (sym phase ∙ e);
      counted = rw (limit, count) w.counted;
      kept = λ i h. rw (pairs i 0) (w.kept i (omega arith));
      others = λ i l h. let o = w.others i l (omega arith) in (pairs i 0 ∙ o.0, pairs i 1 ∙ o.1);
    }

-- the area with one item more
pub marked_in : (z : Sizes) (σ τ : Reader) → DrainIn z σ → σ drain_count < σ drain_limit → τ consumer_phase ≢ 0 → τ drain_limit ≡ σ drain_limit
    → τ drain_count ≡ suc (σ drain_count) → τ (pair_number (σ drain_count)) ≤ z.M → ((i k : ℕ) → i ≢ σ drain_count → τ (pair i k) ≡ σ (pair i k)) → DrainIn z τ
marked_in z σ τ w room busy limit count fits others =
    record {
      most = rw limit w.most;
      idle = λ e. absurd (busy e);
      counted = omega arith;
      kept = λ i h. by-pair i h (ℕ_discrete i (σ drain_count));
      others = λ i l h. let o = w.others i l (omega arith) in (others i 0 (λ e. omega arith) ∙ o.0, others i 1 (λ e. omega arith) ∙ o.1);
    }
  where
    by-pair : (i : ℕ) → i < τ drain_count → Dec (i ≡ σ drain_count) → τ (pair i 0) ≤ z.M
    by-pair i h (yes e) = rw e fits
    by-pair i h (no n) = rw (others i 0 n) (w.kept i (omega arith))

-- An idle consumer's area is zero.
pub no_drain : (z : Sizes) (σ : Reader) → σ drain_limit ≡ 0 → σ drain_count ≡ 0 → ((i k : ℕ) → σ (pair i k) ≡ 0) → DrainIn z σ
no_drain z σ limit count pairs =
    record {
      most = omega arith;
      idle = λ e. limit;
      counted = omega arith;
      kept = λ i h. absurd (omega arith);
      others = λ i l h. (pairs i 0, pairs i 1);
    }

-- So many items are marked as the count says.
pub marked_length : (σ : Reader) (n : ℕ) → length (items_marked σ n) ≡ n
marked_length σ zero = refl
marked_length σ (suc n) = length-append (items_marked σ n) (pair_at σ n ∷ []) ∙ omega (arith, marked_length σ n)

-- A drain that ends with some items and a last one.
last_of_lem : (x : Item) (xs : List Item) (y : Item) → last_of x (xs ++ (y ∷ [])) ≡ y
last_of_lem x [] y = refl
last_of_lem x (z ∷ xs) y = last_of_lem z xs y

pub ended_with : (c : ℕ) (xs : List Item) (y : Item) (h : History)
    → drain_ended c (xs ++ (y ∷ [])) h ≡ gave_item y.number y.value ∷ cond (eqb (suc (length xs)) c) (withdrawn h) h
ended_with c [] y h = refl
ended_with c (x ∷ xs) y h =
    ap₂ (λ (w : Item) (n : ℕ). gave_item w.number w.value ∷ cond (eqb n c) (withdrawn h) h)
    (last_of_lem x xs y)
    (let l : length (xs ++ (y ∷ [])) ≡ suc (length xs) = length-append xs (y ∷ []) ∙ omega arith in ap suc l)
