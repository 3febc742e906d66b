-- One step back of a producer in phase 7 whose position is awaited: to a record of smaller place from which the way goes on. And the record that an
-- awaited position is in is linked.
use Rattle.std.specs.Prelude.{◌≡◌, ℕ, zero, suc, ◌+◌, ◌*◌, ◌≤◌, ◌<◌}
use Rattle.std.proofs.Common.{ap, sym, ◌∙◌, subst, inl, inr, mul-le-mul_left, arith}
use Rattle.std.proofs.Math.Nat.{lt_of_mul-lt-mul_left}
use Rattle.rules.specs.Sizes.{Sizes}
use Rattle.rules.specs.Cell.{Reader, place, prev, used}
use Rattle.memory.specs.Listed.{backward, to_left}
use Rattle.memory.specs.Memory.{ChainShape, ListedIn, Holdable, Trail, TrailFrom, row_of, Memory}
use Rattle.memory.specs.Trails.{trail_holdable, trail_past}
use Rattle.memory.specs.Retiring.{Awaited}

pub record Back (B : ℕ) (σ : Reader) (L h : ℕ) : Type 0 where
  pub to : ℕ
  pub back : σ (prev h) ≡ suc to
  pub falls : σ (place to) < σ (place h)
  pub may_hold : Holdable σ to
  pub past : L < B * σ (place to)
  pub way : TrailFrom B σ L (suc to)

module _ {z : Sizes} {σ : Reader} {g : ChainShape} (m : Memory z σ g) where
  -- Of an awaited position in a record that may be held: that one is linked.
  pub awaited_linked : (L h : ℕ) → Awaited z.B g L → L < z.B * σ (place h) → z.B * σ (place h) ≤ L + z.B → Holdable σ h → σ (used h) ≡ 2
  awaited_linked L h a low high (inl u) = u
  awaited_linked L h a low high (inr u) =
      let b : a.at < suc (σ (place h)) = lt_of_mul-lt-mul_left z.B (omega (arith, a.from_start)) in
      let c : σ (place h) < suc a.at = lt_of_mul-lt-mul_left z.B (omega (arith, a.before_end)) in
      let e : a.at ≡ σ (place h) = omega arith in
      absurd ((m.retired h u).not_listed (subst (ListedIn g) e a.listed))

  module _ (L h : ℕ) (a : Awaited z.B g L) (past : L + z.B < z.B * σ (place h)) where
    -- from a linked record to the one before it in the list
    from_linked : σ (used h) ≡ 2 → Back z.B σ L h
    from_linked u =
        let o = m.chain.only h u in
        let below : a.at < σ (place h) = lt_of_mul-lt-mul_left z.B (omega (arith, a.from_start)) in
        let b = backward a.at (σ (place h)) a.listed o.0 below in
        let is : σ (prev h) ≡ suc (g.at b.place) = ap (λ (x : ℕ). σ (prev x)) (sym o.1) ∙ m.chain.prevs b.place (σ (place h)) b.joined in
        let placed : σ (place (g.at b.place)) ≡ b.place = m.chain.placed b.place b.joined.left in
        let at_most : a.at ≤ b.place = to_left b.joined a.at a.listed below in
        let linked : σ (used (g.at b.place)) ≡ 2 = m.chain.linked b.place b.joined.left in
        let past : L < z.B * σ (place (g.at b.place)) = rw placed (omega (arith, a.before_end, mul-le-mul_left z.B at_most)) in
        record {
          to = g.at b.place;
          back = is;
          falls = omega (arith, placed, b.joined.rises);
          may_hold = inl linked;
          past = past;
          way = (0, (linked, past));
        }

    from_trail : (n : ℕ) → Trail z.B σ L n h → Back z.B σ L h
    from_trail zero e = from_linked e.0
    from_trail (suc n) (inl e) = from_linked e.0
    from_trail (suc n) (inr l) =
        record { to = l.to; back = l.back; falls = l.falls; may_hold = trail_holdable z.B σ L n l.to l.rest; past = trail_past z.B σ L n l.to l.rest; way = (n, l.rest) }

  pub goes_back : (t h : ℕ) → row_of σ t 0 ≡ 7 → row_of σ t 4 ≡ suc h → Awaited z.B g (row_of σ t 3)
      → row_of σ t 3 + z.B < z.B * σ (place h) → Back z.B σ (row_of σ t 3) h
  goes_back t h e q a past =
      let w : TrailFrom z.B σ (row_of σ t 3) (suc h) = subst (TrailFrom z.B σ (row_of σ t 3)) q ((m.threads t).trail e) in
      from_trail (row_of σ t 3) h a past w.0 w.1
