-- Claiming a loose record keeps the records' invariant: nothing that anyone can reach changes.
use Rattle.std.specs.Prelude.{◌≡◌, refl, ◌≢◌, true, List, [], ◌∷◌, ℕ, zero, suc, ◌≤◌, ◌<◌, eqb}
use Rattle.std.proofs.Common.{ap, sym, ◌∙◌, inl, inr, arith, eq-eqb, ne_eqb, le-leb}
use Rattle.std.proofs.Math.Bool.{and-false}
use Rattle.std.proofs.Math.Decide.{ℕ_discrete}
use Rattle.history.specs.Lists.{All}
use Rattle.rules.specs.Sizes.{Sizes}
use Rattle.rules.specs.Cell.{Reader, Write, ◌:=◌, wipe, last_claimed, cursor_record, found_record, place, used, claimed, phase, state, held}
use Rattle.rules.specs.Update.{after, and_true}
use Rattle.rules.specs.InRange.{InSort}
use Rattle.memory.specs.Memory.{ChainShape, Holdable, Blank, TrailFrom, Retired, ThreadOk, row_of, Linked, Memory, claimed_is, chain_stays, retired_kept}
use Rattle.memory.specs.Trails.{SameWay, OnWay, trail_from_stays}
use Rattle.memory.specs.Loose.{Loose}
use Rattle.memory.specs.OtherThreads.{held_kept, thread_kept, Untouched, holdable_kept, blank_kept, OthersKept, others_kept, every_row, outside_kept}

-- What a claim by thread t writes, on its way to phase p.
abbrev pub claim_writes : (t r p : ℕ) → List Write
claim_writes t r p = wipe r ∷ used r := 1 ∷ last_claimed := suc r ∷ claimed t := suc r ∷ phase t := p ∷ []

pub claim_in_sort : (z : Sizes) (t r p : ℕ) → r < z.N → All (InSort z t) (claim_writes t r p)
claim_in_sort z t r p fits = (tt, (refl, (and_true (le-leb 1 (suc r) (omega arith)) (le-leb (suc r) z.N fits), (refl, (refl, tt)))))

module _ (z : Sizes) (σ : Reader) (g : ChainShape) (m : Memory z σ g) (t r p : ℕ)
    (a-producer : (1 ≤ t) × (t ≤ z.P)) (fits : r < z.N) (loose : Loose σ r)
    (holds-one : σ (held t) ≢ 0) (not_back : p ≢ 7) where
  abbrev σ' : Reader
  σ' = after σ (claim_writes t r p)

  others : (x : ℕ) → (r ≡ x → ⊥) → Untouched σ σ' x
  others x n = ((λ k. rw (ne_eqb r x n, and-false (eqb 3 k)) refl), (λ i k. rw (ne_eqb r x n) refl))

  kept : OthersKept t σ σ'
  kept = others_kept z t σ (claim_writes t r p) (claim_in_sort z t r p fits)

  held_others : (u x : ℕ) → σ (held u) ≡ suc x → Holdable σ x → Holdable σ' x
  held_others u x e h = holdable_kept σ σ' x (others x (λ q. loose.not_held u (rw q e))).0 h

  blank_others : (x : ℕ) → Blank z.N σ x → Blank z.N σ' x
  blank_others x b = blank_kept z.N σ σ' x (others x (λ q. loose.not_claimed (rw q b.claimed_use))) b

  -- no record of a way back is taken: not the one that is held, and not one of smaller place than a retired one that is held
  way_others : (u x : ℕ) → σ (held u) ≡ suc x → (y : ℕ) → OnWay σ x y → Holdable σ y → SameWay σ σ' y
  way_others u x e y on h = let o = (others y (λ q. not_on q on h)).0 in (o 0, o 2, o 3)
    where
      not_on : r ≡ y → OnWay σ x y → Holdable σ y → ⊥
      not_on q o (inl l) = loose.not_linked (rw q l)
      not_on q (inl d) (inr l) = loose.not_held u (rw (q ∙ d) e)
      not_on q (inr d) (inr l) =
          let w : σ (place r) ≡ σ (place y) = ap (λ (v : ℕ). σ (place v)) q in
          omega (arith, d.1, loose.not_kept (rw q l) u x e d.0)

  way_kept : (u L : ℕ) → TrailFrom z.B σ L (σ (held u)) → TrailFrom z.B σ' L (σ (held u))
  way_kept u L = trail_from_stays z.B σ σ' L (σ (held u)) (λ x e. way_others u x e)

  new_blank : Blank z.N σ' r
  new_blank =
      let e : eqb r r ≡ true = eq-eqb r r refl in
      record {
        fits = fits;
        claimed_use = rw e refl;
        no_place = rw e refl;
        no_next = rw e refl;
        no_prev = rw e refl;
        no_entry = λ i k. rw e refl;
      }

  claimed_word : row_of σ' t 5 ≡ suc r
  claimed_word = rw (eq-eqb t t refl) refl

  phase_word : row_of σ' t 0 ≡ p
  phase_word = rw (eq-eqb t t refl) refl

  own_row : ThreadOk z σ' (row_of σ' t)
  own_row =
      record {
        holding = held_kept z σ σ' (σ (held t)) (λ x e h. held_others t x e h) (m.threads t).holding;
        claiming = rw claimed_word new_blank;
        has_held = λ h. holds-one;
        has_claimed = λ h q. omega (arith, claimed_word);
        trail = λ e. absurd (not_back (sym phase_word ∙ e));
      }

  other_rows : (u : ℕ) → (t ≡ u → ⊥) → ThreadOk z σ' (row_of σ u)
  other_rows u n =
      thread_kept z σ σ' (row_of σ u) (λ x e h. held_others u x e h) (λ x e b. blank_others x b) (λ e. way_kept u (row_of σ u 3)) (m.threads u)

  linked_kept : (x : ℕ) → Linked σ x → Linked σ' x
  linked_kept zero l = l
  linked_kept (suc x) l = (others x (λ q. loose.not_linked (rw q l))).0 3 ∙ l

  used_word : (x : ℕ) → σ' (used x) ≡ 2 → σ (used x) ≡ 2
  used_word x e = go (ℕ_discrete r x)
    where
      go : Dec (r ≡ x) → σ (used x) ≡ 2
      go (yes q) = let w = new_blank.claimed_use in let v : σ' (used x) ≡ σ' (used r) = ap (λ (y : ℕ). σ' (used y)) (sym q) in absurd (omega arith)
      go (no n) = sym ((others x n).0 3) ∙ e

  still_retired : (x : ℕ) → σ' (used x) ≡ 3 → Retired σ' g x
  still_retired x e = go (ℕ_discrete r x)
    where
      go : Dec (r ≡ x) → Retired σ' g x
      go (yes q) = let w = new_blank.claimed_use in let v : σ' (used x) ≡ σ' (used r) = ap (λ (y : ℕ). σ' (used y)) (sym q) in absurd (omega arith)
      go (no n) = let o = (others x n).0 in retired_kept σ σ' g x o (m.retired x (sym (o 3) ∙ e))

  pub claim_keeps : Memory z (after σ (claim_writes t r p)) g
  claim_keeps =
      record {
        head_tail = m.head_tail;
        tail_last = m.tail_last;
        head_in = m.head_in;
        tail_in = m.tail_in;
        retired = still_retired;
        chain = chain_stays m σ' (λ x l. (others x (λ q. loose.not_linked (rw q l))).0) used_word;
        tail_is = m.tail_is;
        head_is = m.head_is;
        threads = every_row t σ σ' kept (λ u row. ThreadOk z σ' row) own_row other_rows;
        apart = λ u v x e f. alone u v x e f (ℕ_discrete t u) (ℕ_discrete t v);
        cursor = linked_kept (σ cursor_record) m.cursor;
        found = linked_kept (σ found_record) m.found;
        unset = λ x i a b n e. still_unset x i a b n e (ℕ_discrete r x);
        outside = outside_kept z t σ σ' a-producer kept m.outside;
      }
    where
      new_word : (u x : ℕ) → t ≡ u → row_of σ' u 5 ≡ suc x → r ≡ x
      new_word u x q e =
          let w : row_of σ' u 5 ≡ row_of σ' t 5 = ap (λ (y : ℕ). row_of σ' y 5) (sym q) in
          omega (arith, claimed_word)

      not-another : (u x : ℕ) → (t ≡ u → ⊥) → row_of σ' u 5 ≡ suc x → r ≡ x → ⊥
      not-another u x n e q = loose.not_claimed (rw q (claimed_is m u x (sym (kept u n 5) ∙ e)).claimed_use)

      alone : (u v x : ℕ) → row_of σ' u 5 ≡ suc x → row_of σ' v 5 ≡ suc x → Dec (t ≡ u) → Dec (t ≡ v) → u ≡ v
      alone u v x e f (yes p) (yes q) = sym p ∙ q
      alone u v x e f (yes p) (no q) = absurd (not-another v x q f (new_word u x p e))
      alone u v x e f (no p) (yes q) = absurd (not-another u x p e (new_word v x q f))
      alone u v x e f (no p) (no q) = m.apart u v x (sym (kept u p 5) ∙ e) (sym (kept v q 5) ∙ f)

      still_unset : (x i : ℕ) → x < z.N → i < z.B → (σ' (used x) ≡ 2 → ⊥) → σ' (state x i) ≡ 1 → Dec (r ≡ x) → ⊥
      still_unset x i a b n e (yes q) =
          let w = new_blank.no_entry i 0 in
          let v : σ' (state x i) ≡ σ' (state r i) = ap (λ (y : ℕ). σ' (state y i)) (sym q) in
          omega arith
      still_unset x i a b n e (no q) =
          let o = others x q in
          m.unset x i a b (λ l. n (o.0 3 ∙ l)) (sym (o.1 i 0) ∙ e)
