-- The chain of linked records, over the functions place, next, prev and use of records: how it is kept, how it grows at its end, how it shrinks
-- at its front, and how a record is folded out of it.
use Rattle.std.specs.Prelude.{◌≡◌, refl, Bool, true, false, cond, ℕ, suc, ◌≤◌, ◌<◌, eqb}
use Rattle.std.proofs.Common.{ap, sym, ◌∙◌, subst, arith, eq-eqb, ne_eqb}
use Rattle.std.proofs.Math.Decide.{dec_le, dec_lt, ℕ_discrete}
use Rattle.rules.specs.Update.{true_false}
use Rattle.memory.specs.Listed.{Listed, Joined, onward, from_right, one_right, one_left}

-- The records of the listed places k are r k: linked, in order of their places, each joined to the one before and the one behind; and no other
-- record is linked. (A record number is stored plus one; zero is none.)
pub record Chain (N lo hi : ℕ) (gap : ℕ → Bool) (r place next prev used : ℕ → ℕ) : Type 0 where
  pub fits : (k : ℕ) → Listed lo hi gap k → r k < N
  pub linked : (k : ℕ) → Listed lo hi gap k → used (r k) ≡ 2
  pub placed : (k : ℕ) → Listed lo hi gap k → place (r k) ≡ k
  pub nexts : (j k : ℕ) → Joined lo hi gap j k → next (r j) ≡ suc (r k)
  pub last : next (r hi) ≡ 0
  pub prevs : (j k : ℕ) → Joined lo hi gap j k → prev (r k) ≡ suc (r j)
  pub only : (x : ℕ) → used x ≡ 2 → Listed lo hi gap (place x) × (r (place x) ≡ x)

-- the places, with the record x at place k
abbrev pub with_place : (ℕ → ℕ) → ℕ → ℕ → ℕ → ℕ
with_place r k x j = cond (eqb k j) x (r j)

pub with_place_same : (r : ℕ → ℕ) (k x : ℕ) → with_place r k x k ≡ x
with_place_same r k x = rw (eq-eqb k k refl)

pub with_place_other : (r : ℕ → ℕ) (k x j : ℕ) → (k ≡ j → ⊥) → with_place r k x j ≡ r j
with_place_other r k x j n = rw (ne_eqb k j n)

-- the gaps, and place k
abbrev pub with_gap : (ℕ → Bool) → ℕ → ℕ → Bool
with_gap gap k j = cond (eqb k j) true (gap j)

pub with_gap_same : (gap : ℕ → Bool) (k : ℕ) → with_gap gap k k ≡ true
with_gap_same gap k = rw (eq-eqb k k refl)

pub with_gap_other : (gap : ℕ → Bool) (k j : ℕ) → (k ≡ j → ⊥) → with_gap gap k j ≡ gap j
with_gap_other gap k j n = rw (ne_eqb k j n)

-- a place that is no gap then is another one, and was none before
pub no_gap_with : (gap : ℕ → Bool) (k j : ℕ) → with_gap gap k j ≡ false → (k ≡ j → ⊥) × (gap j ≡ false)
no_gap_with gap k j e =
    let n : k ≡ j → ⊥ = λ q. true_false (rw q (with_gap_same gap j)) e in
    (n, sym (with_gap_other gap k j n) ∙ e)

module _ {N lo hi : ℕ} {gap : ℕ → Bool} {r place next prev used : ℕ → ℕ} (end : Listed lo hi gap hi) (c : Chain N lo hi gap r place next prev used) where
  -- A linked record without a next is the last one.
  pub last_is : (x : ℕ) → used x ≡ 2 → next x ≡ 0 → place x ≡ hi
  last_is x u n =
      let o = c.only x u in
      go (ℕ_discrete (place x) hi) o.0 o.1
    where
      go : Dec (place x ≡ hi) → Listed lo hi gap (place x) → r (place x) ≡ x → place x ≡ hi
      go (yes e) l q = e
      go (no e) l q =
          let o = onward (place x) hi l end (omega (arith, l.to)) in
          let p : next x ≡ suc (r o.place) = subst (λ (y : ℕ). next y ≡ suc (r o.place)) q (c.nexts (place x) o.place o.joined) in
          omega arith

  -- Two listed places have two records.
  pub places_apart : (j k : ℕ) → Listed lo hi gap j → Listed lo hi gap k → r j ≡ r k → j ≡ k
  places_apart j k a b e = sym (c.placed j a) ∙ ap place e ∙ c.placed k b

  -- What leaves every linked record alone, and links none, keeps the chain.
  pub chain_kept : (place' next' prev' used' : ℕ → ℕ)
      → ((x : ℕ) → used x ≡ 2 → (place' x ≡ place x) × (next' x ≡ next x) × (prev' x ≡ prev x) × (used' x ≡ 2))
      → ((x : ℕ) → used' x ≡ 2 → used x ≡ 2)
      → Chain N lo hi gap r place' next' prev' used'
  chain_kept place' next' prev' used' same none =
      let on : (k : ℕ) → Listed lo hi gap k → (place' (r k) ≡ place (r k)) × (next' (r k) ≡ next (r k)) × (prev' (r k) ≡ prev (r k)) × (used' (r k) ≡ 2) =
      λ k l. same (r k) (c.linked k l) in
      record {
        fits = c.fits;
        linked = λ k l. (on k l).3;
        placed = λ k l. (on k l).0 ∙ c.placed k l;
        nexts = λ j k q. (on j q.left).1 ∙ c.nexts j k q;
        last = (on hi end).1 ∙ c.last;
        prevs = λ j k q. (on k q.right).2 ∙ c.prevs j k q;
        only =
            λ x u.
            let o = c.only x (none x u) in
            let e = (same x (none x u)).0 in
            (rw e o.0, ap r e ∙ o.1);
      }

  -- A record x that was not linked is linked behind the last one.
  pub chain_grows : (place' next' prev' used' : ℕ → ℕ) (x : ℕ) → x < N → gap (suc hi) ≡ false → (used x ≡ 2 → ⊥)
      → place' x ≡ suc hi → next' x ≡ 0 → prev' x ≡ suc (r hi) → used' x ≡ 2
      → next' (r hi) ≡ suc x
      → ((y : ℕ) → (y ≡ x → ⊥) → (place' y ≡ place y) × (prev' y ≡ prev y) × (used' y ≡ used y))
      → ((y : ℕ) → (y ≡ x → ⊥) → (y ≡ r hi → ⊥) → next' y ≡ next y)
      → Chain N lo (suc hi) gap (with_place r (suc hi) x) place' next' prev' used'
  chain_grows place' next' prev' used' x fits no_gap unlinked p n v u joined same others =
      record {
        fits = each (λ k y. y < N) fits c.fits;
        linked = each (λ k y. used' y ≡ 2) u (λ k l. (same (r k) (other k l)).2 ∙ c.linked k l);
        placed = each (λ k y. place' y ≡ k) p (λ k l. (same (r k) (other k l)).0 ∙ c.placed k l);
        nexts = λ j k q. rw (old j (before_end j k q)) (behind j k q (dec_le k hi));
        last = rw new n;
        prevs = λ j k q. rw (old j (before_end j k q)) (before j k q (dec_le k hi));
        only = λ y w. found y w (ℕ_discrete y x);
      }
    where
      new : with_place r (suc hi) x (suc hi) ≡ x
      new = with_place_same r (suc hi) x

      old : (k : ℕ) → k ≤ hi → with_place r (suc hi) x k ≡ r k
      old k b = with_place_other r (suc hi) x k (λ e. omega arith)

      other : (k : ℕ) → Listed lo hi gap k → r k ≡ x → ⊥
      other k l e = unlinked (subst (λ (y : ℕ). used y ≡ 2) e (c.linked k l))

      -- a place of the longer list that is not its last is one of the list
      shorter : (k : ℕ) → Listed lo (suc hi) gap k → k ≤ hi → Listed lo hi gap k
      shorter k l b = record { from = l.from; to = b; no_gap = l.no_gap }

      before_end : (j k : ℕ) → Joined lo (suc hi) gap j k → j ≤ hi
      before_end j k q = omega (arith, q.rises, q.right.to)

      -- two that are joined were so, or are the last one and the new one
      were : (j k : ℕ) (q : Joined lo (suc hi) gap j k) → k ≤ hi → Joined lo hi gap j k
      were j k q b =
          record { left = shorter j q.left (before_end j k q); right = shorter k q.right b; rises = q.rises; between = q.between }

      at_end_lem : (j k : ℕ) → Joined lo (suc hi) gap j k → (k ≤ hi → ⊥) → (j ≡ hi) × (k ≡ suc hi)
      at_end_lem j k q b =
          let e : k ≡ suc hi = omega (arith, q.right.to) in
          (go (dec_lt j hi), e)
        where
          go : Dec (j < hi) → j ≡ hi
          go (yes l) = absurd (true_false (q.between hi l (omega (arith, q.right.to))) end.no_gap)
          go (no l) = omega (arith, before_end j k q)

      each : (Q : ℕ → ℕ → Type 0) → Q (suc hi) x → ((k : ℕ) → Listed lo hi gap k → Q k (r k)) → (k : ℕ) → Listed lo (suc hi) gap k → Q k (with_place r (suc hi) x k)
      each Q here there k l = go (dec_le k hi)
        where
          go : Dec (k ≤ hi) → Q k (with_place r (suc hi) x k)
          go (yes b) = rw (old k b) (there k (shorter k l b))
          go (no b) = let e : k ≡ suc hi = omega (arith, l.to) in rw (e, new) here

      behind : (j k : ℕ) → Joined lo (suc hi) gap j k → Dec (k ≤ hi) → next' (r j) ≡ suc (with_place r (suc hi) x k)
      behind j k q (no b) = let e = at_end_lem j k q b in rw (e.0, e.1, new) joined
      behind j k q (yes b) =
          let w = were j k q b in
          rw (old k b)
          (others (r j) (other j w.left) (λ e. let d : j ≡ hi = places_apart j hi w.left end e in omega (arith, q.rises))
          ∙ c.nexts j k w)

      before : (j k : ℕ) → Joined lo (suc hi) gap j k → Dec (k ≤ hi) → prev' (with_place r (suc hi) x k) ≡ suc (r j)
      before j k q (no b) = let e = at_end_lem j k q b in rw (e.0, e.1, new) v
      before j k q (yes b) = let w = were j k q b in rw (old k b) ((same (r k) (other k w.right)).1 ∙ c.prevs j k w)

      found : (y : ℕ) → used' y ≡ 2 → Dec (y ≡ x) → Listed lo (suc hi) gap (place' y) × (with_place r (suc hi) x (place' y) ≡ y)
      found y w (yes e) = rw (e, p, new) (record { from = omega (arith, end.from); to = omega arith; no_gap = no_gap }, refl)
      found y w (no l) =
          let q = same y l in
          let o = c.only y (sym q.2 ∙ w) in
          rw q.0 (record { from = o.0.from; to = omega (arith, o.0.to); no_gap = o.0.no_gap }, old (place y) o.0.to ∙ o.1)

  -- The first record is retired, and the list begins at the one that it is joined to.
  pub chain_shrinks : (k : ℕ) (used' : ℕ → ℕ) → Joined lo hi gap lo k → used' (r lo) ≡ 3 → ((y : ℕ) → (y ≡ r lo → ⊥) → used' y ≡ used y)
      → Chain N k hi gap r place next prev used'
  chain_shrinks k used' first gone same =
      record {
        fits = λ j l. c.fits j (longer j l);
        linked = λ j l. same (r j) (other j l) ∙ c.linked j (longer j l);
        placed = λ j l. c.placed j (longer j l);
        nexts = λ i j q. c.nexts i j (were i j q);
        last = c.last;
        prevs = λ i j q. c.prevs i j (were i j q);
        only = λ y w. found y w (ℕ_discrete y (r lo));
      }
    where
      longer : (j : ℕ) → Listed k hi gap j → Listed lo hi gap j
      longer j l = record { from = omega (arith, l.from, first.rises); to = l.to; no_gap = l.no_gap }

      were : (i j : ℕ) → Joined k hi gap i j → Joined lo hi gap i j
      were i j q = record { left = longer i q.left; right = longer j q.right; rises = q.rises; between = q.between }

      other : (j : ℕ) → Listed k hi gap j → r j ≡ r lo → ⊥
      other j l e = let d : j ≡ lo = places_apart j lo (longer j l) first.left e in omega (arith, l.from, first.rises)

      found : (y : ℕ) → used' y ≡ 2 → Dec (y ≡ r lo) → Listed k hi gap (place y) × (r (place y) ≡ y)
      found y w (yes e) = let q : used' y ≡ 3 = ap used' e ∙ gone in absurd (omega arith)
      found y w (no n) =
          let o = c.only y (sym (same y n) ∙ w) in
          let m : lo ≡ place y → ⊥ = λ e. n (sym o.1 ∙ ap r (sym e)) in (
            record { from = from_right first (place y) o.0 (omega (arith, o.0.from)); to = o.0.to; no_gap = o.0.no_gap },
            o.1,
          )

  -- Record k is folded: i before it and j behind it are joined to each other.
  module _ (i k j : ℕ) (left : Joined lo hi gap i k) (right : Joined lo hi gap k j) where
    listed_still : (a : ℕ) → Listed lo hi (with_gap gap k) a → (k ≡ a → ⊥) × Listed lo hi gap a
    listed_still a l = let e = no_gap_with gap k a l.no_gap in (e.0, record { from = l.from; to = l.to; no_gap = e.1 })

    pub listed_other : (a : ℕ) → Listed lo hi gap a → (k ≡ a → ⊥) → Listed lo hi (with_gap gap k) a
    listed_other a l n = record { from = l.from; to = l.to; no_gap = with_gap_other gap k a n ∙ l.no_gap }

    -- two that are joined then were so, or are i and j
    joined_by : (P : ℕ → ℕ → Type 0) → ((a b : ℕ) → Joined lo hi gap a b → (k ≡ a → ⊥) → (k ≡ b → ⊥) → P a b) → P i j
        → (a b : ℕ) → Joined lo hi (with_gap gap k) a b → P a b
    joined_by P were new a b q = go (dec_lt a k) (dec_lt k b)
      where
        la : (k ≡ a → ⊥) × Listed lo hi gap a
        la = listed_still a q.left

        lb : (k ≡ b → ⊥) × Listed lo hi gap b
        lb = listed_still b q.right

        gaps : (x : ℕ) → a < x → x < b → (k ≡ x → ⊥) → gap x ≡ true
        gaps x s t n = sym (with_gap_other gap k x n) ∙ q.between x s t

        go : Dec (a < k) → Dec (k < b) → P a b
        go (yes s) (yes t) =
            let ea : a ≡ i = one_left (record { left = la.1; right = left.right; rises = s; between = λ x u v. gaps x u (omega arith) (λ e. omega arith) }) left in
            let eb : b ≡ j = one_right (record { left = right.left; right = lb.1; rises = t; between = λ x u v. gaps x (omega arith) v (λ e. omega arith) }) right in
            rw (ea, eb) new
        go (yes s) (no t) =
            were a b (record { left = la.1; right = lb.1; rises = q.rises; between = λ x u v. gaps x u v (λ e. omega arith) }) la.0 lb.0
        go (no s) t =
            were a b (record { left = la.1; right = lb.1; rises = q.rises; between = λ x u v. gaps x u v (λ e. la.0 (omega arith)) }) la.0 lb.0

    pub chain_folds : (next' prev' used' : ℕ → ℕ)
        → next' (r i) ≡ suc (r j) → ((y : ℕ) → (y ≡ r i → ⊥) → next' y ≡ next y)
        → prev' (r j) ≡ suc (r i) → ((y : ℕ) → (y ≡ r j → ⊥) → prev' y ≡ prev y)
        → used' (r k) ≡ 3 → ((y : ℕ) → (y ≡ r k → ⊥) → used' y ≡ used y)
        → Chain N lo hi (with_gap gap k) r place next' prev' used'
    chain_folds next' prev' used' n nexts' p prevs' gone same =
        record {
          fits = λ a l. c.fits a (listed_still a l).1;
          linked = λ a l. let s = listed_still a l in same (r a) (apart a k s.1 left.right (λ e. s.0 (sym e))) ∙ c.linked a s.1;
          placed = λ a l. c.placed a (listed_still a l).1;
          nexts = joined_by (λ a b. next' (r a) ≡ suc (r b))
              (λ a b q m l. nexts' (r a) (apart a i q.left left.left (λ e. l (one_right (subst (λ (x : ℕ). Joined lo hi gap x k) (sym e) left) q))) ∙ c.nexts a b q)
              n;
          last = nexts' (r hi) (apart hi i end left.left (λ e. omega (arith, left.rises, left.right.to))) ∙ c.last;
          prevs = joined_by (λ a b. prev' (r b) ≡ suc (r a))
              (λ a b q m l. prevs' (r b) (apart b j q.right right.right (λ e. m (one_left (subst (λ (x : ℕ). Joined lo hi gap k x) (sym e) right) q))) ∙ c.prevs a b q)
              p;
          only = λ y w. found y w (ℕ_discrete y (r k));
        }
      where
        apart : (a b : ℕ) → Listed lo hi gap a → Listed lo hi gap b → (a ≡ b → ⊥) → r a ≡ r b → ⊥
        apart a b l m d e = d (places_apart a b l m e)

        found : (y : ℕ) → used' y ≡ 2 → Dec (y ≡ r k) → Listed lo hi (with_gap gap k) (place y) × (r (place y) ≡ y)
        found y w (yes e) = let q : used' y ≡ 3 = ap used' e ∙ gone in absurd (omega arith)
        found y w (no d) =
            let o = c.only y (sym (same y d) ∙ w) in
            (listed_other (place y) o.0 (λ e. d (sym o.1 ∙ ap r (sym e))), o.1)
