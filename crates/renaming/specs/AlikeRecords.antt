-- What two stores alike share of the records that a rule comes to: which are linked, which are last, what stands before and behind
-- them. From the chains of both, and from the ways back that are the same.
use Rattle.std.specs.Prelude.{◌≡◌, refl, ℕ, zero, suc, ◌*◌, ◌<◌, eqb}
use Rattle.std.proofs.Common.{ap, sym, ◌∙◌, inl, inr, arith, ne_eqb}
use Rattle.std.proofs.Math.Path.{subst⁻¹}
use Rattle.std.proofs.Math.Decide.{ℕ_discrete}
use Rattle.std.proofs.Math.Nat.{lt_of_mul-lt-mul_left}
use Rattle.rules.specs.Sizes.{Sizes}
use Rattle.rules.specs.Cell.{Reader, place, next, prev, used, held, claimed, phase, tail_record, head_record, cursor_record, found_record}
use Rattle.memory.specs.Listed.{onward, backward}
use Rattle.memory.specs.Memory.{ChainShape, ListedIn, Holdable, Blank, Memory, held_is, claimed_is, head_listed, tail_listed, last_listed}
use Rattle.memory.specs.Loose.{Loose}
use Rattle.simulation.specs.View.{Ghost, places_of, place_of}
use Rattle.simulation.specs.Good.{Good}
use Rattle.simulation.specs.Awaiting.{behind_awaited, back_seen}
use Rattle.renaming.specs.Renaming.{renamed, eqb_alike, eqb_renamed}
use Rattle.renaming.specs.Ways.{Reaches, here, back, from_prev, reached_holdable, reached_not_loose}
use Rattle.renaming.specs.Alike.{kind, Same, Body, WayAlike, Alike}
use Rattle.renaming.specs.AlikeWays.{linked_way}
use Rattle.renaming.specs.AlikeEffects.{Stores}

pub kind_two : (x : ℕ) → kind x ≡ 2 → x ≡ 2
kind_two zero e = absurd (omega arith)
kind_two (suc zero) e = absurd (omega arith)
kind_two (suc (suc zero)) e = refl
kind_two (suc (suc (suc x))) e = absurd (omega arith)

-- whether there is a link
pub eqb_none : (f : ℕ → ℕ) (x : ℕ) → eqb (renamed f x) 0 ≡ eqb x 0
eqb_none f zero = refl
eqb_none f (suc r) = eqb_alike (suc (f r)) 0 (suc r) 0 (λ e. absurd (omega arith)) (λ e. absurd (omega arith))

module _ {z : Sizes} {σ : Reader} {g : ChainShape} (m : Memory z σ g) where
  pub tail_linked : (r : ℕ) → σ tail_record ≡ suc r → σ (used r) ≡ 2
  tail_linked r e =
      let is : r ≡ g.at g.tp = omega (arith, m.tail_is) in
      ap (λ (x : ℕ). σ (used x)) is ∙ m.chain.linked g.tp (tail_listed m)

  pub head_linked : (r : ℕ) → σ head_record ≡ suc r → σ (used r) ≡ 2
  head_linked r e =
      let is : r ≡ g.at g.lo = omega (arith, m.head_is) in
      ap (λ (x : ℕ). σ (used x)) is ∙ m.chain.linked g.lo (head_listed m)

  pub cursor_linked : (r : ℕ) → σ cursor_record ≡ suc r → σ (used r) ≡ 2
  cursor_linked r e = rw e at m.cursor

  pub found_linked : (r : ℕ) → σ found_record ≡ suc r → σ (used r) ≡ 2
  found_linked r e = rw e at m.found

  -- The next of a linked record is linked, and that one's prev is the record.
  pub next_linked : (r : ℕ) → σ (used r) ≡ 2 → (n : ℕ) → σ (next r) ≡ suc n → (σ (used n) ≡ 2) × (σ (prev n) ≡ suc r)
  next_linked r u n e = go (m.chain.only r u) (ℕ_discrete (σ (place r)) g.hi)
    where
      go : ListedIn g (σ (place r)) × (g.at (σ (place r)) ≡ r) → Dec (σ (place r) ≡ g.hi) → (σ (used n) ≡ 2) × (σ (prev n) ≡ suc r)
      go o (yes q) =
          let none : σ (next r) ≡ 0 = ap (λ (x : ℕ). σ (next x)) (sym o.1 ∙ ap g.at q) ∙ m.chain.last in
          absurd (omega arith)
      go o (no q) =
          let b = onward (σ (place r)) g.hi o.0 (last_listed m) (omega (arith, o.0.to)) in
          let leads : σ (next r) ≡ suc (g.at b.place) = ap (λ (x : ℕ). σ (next x)) (sym o.1) ∙ m.chain.nexts (σ (place r)) b.place b.joined in
          let is : n ≡ g.at b.place = omega arith in (
            ap (λ (x : ℕ). σ (used x)) is ∙ m.chain.linked b.place b.joined.right,
            ap (λ (x : ℕ). σ (prev x)) is ∙ m.chain.prevs (σ (place r)) b.place b.joined ∙ ap suc o.1,
          )

  -- A linked record behind a listed place is the next of a linked one of smaller place.
  pub one_before : (h : ℕ) → σ (used h) ≡ 2 → (j : ℕ) → ListedIn g j → j < σ (place h)
      → (p : ℕ) × (σ (used p) ≡ 2) × (σ (next p) ≡ suc h) × (σ (place p) < σ (place h))
  one_before h u j listed less =
      let o = m.chain.only h u in
      let b = backward j (σ (place h)) listed o.0 less in
      let placed : σ (place (g.at b.place)) ≡ b.place = m.chain.placed b.place b.joined.left in (
        g.at b.place,
        m.chain.linked b.place b.joined.left,
        m.chain.nexts b.place (σ (place h)) b.joined ∙ ap suc o.1,
        omega (arith, b.joined.rises),
      )

-- Two stores alike that only the engine has written.
pub record Twins (z : Sizes) (σ τ : Reader) : Type 0 where
  pub γ : Ghost
  pub δ : Ghost
  pub good : Good z σ γ
  pub good' : Good z τ δ
  pub stores : Stores z σ τ

module _ {z : Sizes} {σ τ : Reader} (pair : Twins z σ τ) where
  abbrev f : ℕ → ℕ
  f = pair.stores.renaming.to

  abbrev a : Alike f σ τ
  a = pair.stores.alike

  pub linked_too : (r : ℕ) → σ (used r) ≡ 2 → τ (used (f r)) ≡ 2
  linked_too r u = kind_two (τ (used (f r))) (a.kinds r ∙ ap kind u)

  -- The tail record is a given record in both stores or in neither, and so is the head record.
  pub tail_test : (r : ℕ) → eqb (τ tail_record) (suc (f r)) ≡ eqb (σ tail_record) (suc r)
  tail_test r = ap (λ (x : ℕ). eqb x (suc (f r))) (a.words tail_record tt) ∙ eqb_renamed pair.stores.renaming (σ tail_record) r

  pub head_test : (r : ℕ) → eqb (τ head_record) (suc (f r)) ≡ eqb (σ head_record) (suc r)
  head_test r = ap (λ (x : ℕ). eqb x (suc (f r))) (a.words head_record tt) ∙ eqb_renamed pair.stores.renaming (σ head_record) r

  -- A record is held in both stores, and is retired in both where it may be held.
  held_too : (t r : ℕ) → σ (held t) ≡ suc r → τ (held t) ≡ suc (f r)
  held_too t r q = a.words (held t) tt ∙ ap (renamed f) q

  retired_too : (r : ℕ) → σ (used r) ≡ 3 → Holdable τ (f r) → τ (used (f r)) ≡ 3
  retired_too r u (inl v) =
      let three : kind (σ (used r)) ≡ 0 = ap kind u in
      let two : kind (τ (used (f r))) ≡ 2 = ap kind v in
      absurd (omega (arith, a.kinds r))
  retired_too r u (inr v) = v

  -- A held record has a next in both stores or in neither.
  pub held_next : (t h : ℕ) → σ (held t) ≡ suc h → eqb (τ (next (f h))) 0 ≡ eqb (σ (next h)) 0
  held_next t h q = go (held_is pair.good.memory t h q) (held_is pair.good'.memory t (f h) (held_too t h q))
    where
      go : Holdable σ h → Holdable τ (f h) → eqb (τ (next (f h))) 0 ≡ eqb (σ (next h)) 0
      go (inl u) v = ap (λ (x : ℕ). eqb x 0) (a.linked h u).onward ∙ eqb_none f (σ (next h))
      go (inr u) v =
          ne_eqb (τ (next (f h))) 0 (pair.good'.memory.retired (f h) (retired_too h u v)).has_next
          ∙ sym (ne_eqb (σ (next h)) 0 (pair.good.memory.retired h u).has_next)

  -- The prev of a linked record behind a listed place: linked, of smaller place, and the same in both.
  pub record Before (h : ℕ) : Type 0 where
    pub to : ℕ
    pub linked : σ (used to) ≡ 2
    pub falls : σ (place to) < σ (place h)
    pub is_prev : σ (prev h) ≡ suc to
    pub same : Same f σ τ (prev h)

  pub linked_prev : (h : ℕ) → σ (used h) ≡ 2 → (j : ℕ) → ListedIn pair.γ.shape j → j < σ (place h) → Before h
  linked_prev h u j listed less =
      let b = one_before pair.good.memory h u j listed less in
      let is : σ (prev h) ≡ suc b.0 = (next_linked pair.good.memory b.0 b.1 h b.2).1 in
      let is' : τ (prev (f h)) ≡ suc (f b.0) =
      (next_linked pair.good'.memory (f b.0) (linked_too b.0 b.1) (f h) ((a.linked b.0 b.1).onward ∙ ap (renamed f) b.2)).1 in
      record { to = b.0; linked = b.1; falls = b.3; is_prev = is; same = is' ∙ sym (ap (renamed f) is) }

  -- The prev of the record held in phase 7: the same in both, and so is the way back from there.
  pub record GoesBack (h : ℕ) : Type 0 where
    pub same : Same f σ τ (prev h)
    pub onward : (p : ℕ) → σ (prev h) ≡ suc p → Holdable σ p × WayAlike f σ τ p

  pub held_prev : (t : ℕ) → σ (phase t) ≡ 7 → (h : ℕ) → σ (held t) ≡ suc h → GoesBack h
  held_prev t e h q = go (held_is pair.good.memory t h q)
    where
      go : Holdable σ h → GoesBack h
      go (inl u) =
          let o = behind_awaited z σ pair.γ pair.good t _ _ _ _ (back_seen σ pair.γ t e) in
          let placed : place_of (places_of σ) (σ (held t)) ≡ σ (place h) = ap (place_of (places_of σ)) q in
          let below : o.1.at < σ (place h) = lt_of_mul-lt-mul_left z.B (omega (arith, o.0, o.1.from_start, ap (λ (x : ℕ). z.B * x) placed)) in
          let b = linked_prev h u o.1.at o.1.listed below in
          record {
            same = b.same;
            onward =
                λ p w.
                let l : σ (used p) ≡ 2 = subst⁻¹ (λ (x : ℕ). σ (used x) ≡ 2) (omega (arith, b.is_prev)) b.linked in
                (inl l, linked_way a p l);
          }
      go (inr u) =
          let way = a.ways t h e q in
          record {
            same = (way h here u).1;
            onward = λ p w. (reached_holdable pair.good.memory t h e q (back here u w), λ y r v. way y (from_prev u w r) v);
          }

  -- Nobody's way back reaches a record that is loose, in either store.
  module _ (t x : ℕ) (e : σ (phase t) ≡ 7) (q : σ (held t) ≡ suc x) where
    back_too : τ (phase t) ≡ 7
    back_too = a.words (phase t) tt ∙ e

    reached_too : {y : ℕ} → Reaches σ x y → Reaches τ (f x) (f y)
    reached_too here = here
    reached_too (back {y} r u w) =
        let b = reached_too r in
        back b (retired_too y u (reached_holdable pair.good'.memory t (f x) back_too (held_too t x q) b)) ((a.ways t x e q y r u).1 ∙ ap (renamed f) w)

    pub way_not_loose : {y : ℕ} → Reaches σ x y → (Loose σ y → ⊥) × (Loose τ (f y) → ⊥)
    way_not_loose r = (
      reached_not_loose pair.good.memory t x e q r,
      reached_not_loose pair.good'.memory t (f x) back_too (held_too t x q) (reached_too r),
    )

  -- A claimed record is blank in both.
  pub claimed_same : (t c : ℕ) → σ (claimed t) ≡ suc c → Body f σ τ c
  claimed_same t c q =
      let b : Blank z.N σ c = claimed_is pair.good.memory t c q in
      let d : Blank z.N τ (f c) = claimed_is pair.good'.memory t (f c) (a.words (claimed t) tt ∙ ap (renamed f) q) in
      record {
        placed = d.no_place ∙ sym b.no_place;
        onward = d.no_next ∙ sym (ap (renamed f) b.no_next);
        entries = λ i k. d.no_entry i k ∙ sym (b.no_entry i k);
      }
