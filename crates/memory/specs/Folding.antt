-- Folding a record keeps the records' invariant: one between the head record and the tail record, whose entries are all handled. The one before it
-- and the one behind it are joined to each other, and its place is a gap.
use Rattle.std.specs.Prelude.{◌≡◌, refl, List, [], ◌∷◌, ℕ, suc, ◌*◌, ◌≤◌, ◌<◌, eqb}
use Rattle.std.proofs.Common.{sym, ◌∙◌, mul-le-mul_left, arith, eq-eqb, ne_eqb}
use Rattle.std.proofs.Math.Bool.{and-false}
use Rattle.rules.specs.Sizes.{Sizes}
use Rattle.rules.specs.Cell.{Reader, Write, ◌:=◌, all_handled, cursor_record, cursor_position, found_record, place, next, prev, used, state}
use Rattle.rules.specs.Update.{after}
use Rattle.memory.specs.Listed.{Joined, to_left}
use Rattle.memory.specs.Chain.{with_gap, with_gap_other, no_gap_with, places_apart, chain_folds}
use Rattle.memory.specs.Memory.{ChainShape, ListedIn, Ends, row_of, Memory, last_listed}
use Rattle.memory.specs.Retiring.{Awaited, awaited_below, Retires, retiring_keeps}

-- What the scan writes when it crosses out of record r and folds it: from its prev q to its next n, at position p.
abbrev pub fold_writes : (r q n p : ℕ) → List Write
fold_writes r q n p = next q := suc n ∷ prev n := suc q ∷ used r := 3 ∷ cursor_record := suc n ∷ cursor_position := p ∷ all_handled := 1 ∷ []

module _ (z : Sizes) (σ : Reader) (g : ChainShape) (m : Memory z σ g) (p i k j : ℕ) (before_tail : k < g.tp)
    (left : Joined g.lo g.hi g.gap i k) (right : Joined g.lo g.hi g.gap k j)
    (no_found : σ found_record ≡ 0)
    (handled : (e : ℕ) → e < z.B → σ (state (g.at k) e) ≡ 1 → ⊥) where
  abbrev r : ℕ
  r = g.at k

  abbrev q : ℕ
  q = g.at i

  abbrev n : ℕ
  n = g.at j

  abbrev σ' : Reader
  σ' = after σ (fold_writes r q n p)

  abbrev pub folded : ChainShape
  folded = record { lo = g.lo; tp = g.tp; hi = g.hi; at = g.at; gap = with_gap g.gap k }

  -- the three records are three
  r_q : r ≡ q → ⊥
  r_q e = omega (arith, left.rises, places_apart (last_listed m) m.chain k i left.right left.left e)

  r_n : r ≡ n → ⊥
  r_n e = omega (arith, right.rises, places_apart (last_listed m) m.chain k j left.right right.right e)

  used_r : σ' (used r) ≡ 3
  used_r = rw (eq-eqb r r refl) refl

  use-others : (x : ℕ) → (x ≡ r → ⊥) → σ' (used x) ≡ σ (used x)
  use-others x d = rw (ne_eqb r x (λ e. d (sym e))) refl

  next_q : σ' (next q) ≡ suc n
  next_q = rw (eq-eqb q q refl) refl

  next_others : (x : ℕ) → (x ≡ q → ⊥) → σ' (next x) ≡ σ (next x)
  next_others x d = rw (ne_eqb q x (λ e. d (sym e))) refl

  prev_n : σ' (prev n) ≡ suc q
  prev_n = rw (eq-eqb n n refl) refl

  prev_others : (x : ℕ) → (x ≡ n → ⊥) → σ' (prev x) ≡ σ (prev x)
  prev_others x d = rw (ne_eqb n x (λ e. d (sym e))) refl

  -- a record that is not linked is none of the three
  linked_at : (x y : ℕ) → σ (used y) ≡ 2 → (σ (used x) ≡ 2 → ⊥) → y ≡ x → ⊥
  linked_at x y u d e = d (rw (← e) u)

  retires : Retires z σ σ' g r
  retires =
      record {
        was = m.chain.linked k left.right;
        gone = used_r;
        before = omega (arith, m.chain.placed k left.right);
        onward = λ e. omega (arith, next_others r r_q, m.chain.nexts k j right);
        places = λ x. refl;
        uses = use-others;
        others = λ x d y. rw (ne_eqb r x (linked_at x r (m.chain.linked k left.right) d), ne_eqb q x (linked_at x q (m.chain.linked i left.left) d), ne_eqb n x (linked_at x n (m.chain.linked j right.right) d), and-false (eqb 3 y), and-false (eqb 2 y), and-false (eqb 1 y)) refl;
        entries = λ x e y. refl;
        rows = λ u y. refl;
        handled = handled;
      }

  place_r : σ (place r) ≡ k
  place_r = m.chain.placed k left.right

  fewer : (a : ℕ) → ListedIn folded a → (a ≡ σ (place r) → ⊥) × ListedIn g a
  fewer a l =
      let e = no_gap_with g.gap k a l.no_gap in
      ((λ w. e.0 (sym (w ∙ place_r))), record { from = l.from; to = l.to; no_gap = e.1 })

  -- Where every producer that goes back is awaited, a way back that ended at the folded record leads on to the one before it.
  module _ (awaited : (u : ℕ) → row_of σ u 0 ≡ 7 → Awaited z.B folded (row_of σ u 3)) where
    leads_on : (u : ℕ) → row_of σ u 0 ≡ 7 → row_of σ u 3 < z.B * σ (place r)
        → (b : ℕ) × (σ' (prev r) ≡ suc b) × (σ (place b) < σ (place r)) × Ends z.B σ' (row_of σ u 3) b
    leads_on u e l =
        let a = awaited u e in
        let w : a.at < σ (place r) = awaited_below z.B folded (row_of σ u 3) (σ (place r)) a l (λ d. (fewer (σ (place r)) d).0 refl) in
        let at_most : a.at ≤ i = to_left left a.at (fewer a.at a.listed).1 (omega (arith, place_r)) in
        let place-q : σ (place q) ≡ i = m.chain.placed i left.left in (
          q,
          prev_others r r_n ∙ m.chain.prevs i k left,
          omega (arith, place-q, place_r, left.rises),
          (
            use-others q (λ d. r_q (sym d)) ∙ m.chain.linked i left.left,
            rw place-q (omega (arith, a.before_end, mul-le-mul_left z.B at_most)),
          ),
        )

    pub fold_keeps : Memory z (after σ (fold_writes (g.at k) (g.at i) (g.at j) p)) folded
    fold_keeps =
        retiring_keeps z σ σ' g m r retires g.lo (with_gap g.gap k)
        (chain_folds (last_listed m) m.chain i k j left right (λ x. σ' (next x)) (λ x. σ' (prev x)) (λ x. σ' (used x)) next_q next_others prev_n prev_others used_r use-others)
        fewer
        m.head_tail
        (with_gap_other g.gap k g.lo (λ e. omega (arith, left.left.from, left.rises)) ∙ m.head_in)
        (λ a l. with_gap_other g.gap k a (λ e. omega arith) ∙ m.tail_in a l)
        refl
        m.head_is
        (use-others n (λ d. r_n (sym d)) ∙ m.chain.linked j right.right)
        (rw no_found tt)
        leads_on
