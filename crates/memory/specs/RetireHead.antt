-- Retiring the head record keeps the records' invariant. The list then begins at the place that it is joined to.
use Rattle.std.specs.Prelude.{◌≡◌, refl, List, [], ◌∷◌, ℕ, suc, ◌<◌, eqb}
use Rattle.std.proofs.Common.{sym, arith, eq-eqb, ne_eqb}
use Rattle.std.proofs.Math.Bool.{and-false}
use Rattle.rules.specs.Sizes.{Sizes}
use Rattle.rules.specs.Cell.{Reader, Write, ◌:=◌, head_record, head_position, cursor_record, found_record, place, used, state}
use Rattle.rules.specs.Update.{after}
use Rattle.memory.specs.Listed.{Joined, from_right}
use Rattle.memory.specs.Chain.{chain_shrinks}
use Rattle.memory.specs.Memory.{ChainShape, ListedIn, row_of, Memory, tail_listed, last_listed}
use Rattle.memory.specs.Retiring.{Awaited, awaited_below, Retires, retiring_keeps}

-- What the consumer writes when record n takes h's place as head record, at position p.
abbrev pub retire_writes : (h n p : ℕ) → List Write
retire_writes h n p = head_record := suc n ∷ head_position := p ∷ used h := 3 ∷ []

module _ (z : Sizes) (σ : Reader) (g : ChainShape) (m : Memory z σ g) (p k : ℕ) (more : g.lo < g.tp)
    (first : Joined g.lo g.hi g.gap g.lo k)
    (no-cursor : σ cursor_record ≡ 0) (no_found : σ found_record ≡ 0)
    (handled : (i : ℕ) → i < z.B → σ (state (g.at g.lo) i) ≡ 1 → ⊥) where
  abbrev h : ℕ
  h = g.at g.lo

  abbrev σ' : Reader
  σ' = after σ (retire_writes h (g.at k) p)

  abbrev pub shrunk : ChainShape
  shrunk = record { lo = k; tp = g.tp; hi = g.hi; at = g.at; gap = g.gap }

  used_h : σ' (used h) ≡ 3
  used_h = rw (eq-eqb h h refl) refl

  others : (x : ℕ) → (x ≡ h → ⊥) → σ' (used x) ≡ σ (used x)
  others x n = rw (ne_eqb h x (λ e. n (sym e))) refl

  place_h : σ (place h) ≡ g.lo
  place_h = m.chain.placed g.lo first.left

  linked_h : σ (used h) ≡ 2
  linked_h = m.chain.linked g.lo first.left

  retires : Retires z σ σ' g h
  retires =
      record {
        was = linked_h;
        gone = used_h;
        before = omega (arith, place_h);
        onward = λ e. omega (arith, m.chain.nexts g.lo k first);
        places = λ x. refl;
        uses = others;
        others = λ x n j. rw (ne_eqb h x (λ e. n (rw (← e) linked_h)), and-false (eqb 3 j)) refl;
        entries = λ x i j. refl;
        rows = λ u j. refl;
        handled = handled;
      }

  fewer : (j : ℕ) → ListedIn shrunk j → (j ≡ σ (place h) → ⊥) × ListedIn g j
  fewer j l = (
    (λ e. omega (arith, place_h, l.from, first.rises)),
    record { from = omega (arith, l.from, first.rises); to = l.to; no_gap = l.no_gap },
  )

  -- Where every producer that goes back is awaited, no way back ends at the head record.
  module _ (awaited : (u : ℕ) → row_of σ u 0 ≡ 7 → Awaited z.B shrunk (row_of σ u 3)) where
    pub retire_keeps : Memory z (after σ (retire_writes (g.at g.lo) (g.at k) p)) shrunk
    retire_keeps =
        retiring_keeps z σ σ' g m h retires k g.gap
        (chain_shrinks (last_listed m) m.chain k (λ x. σ' (used x)) first used_h others)
        fewer
        (from_right first g.tp (tail_listed m) more)
        first.right.no_gap
        m.tail_in
        refl
        refl
        (rw no-cursor tt)
        (rw no_found tt)
        (λ u e l.
        let a = awaited u e in
        absurd (omega (arith, a.listed.from, first.rises, place_h, awaited_below z.B shrunk (row_of σ u 3) (σ (place h)) a l (λ q. (fewer (σ (place h)) q).0 refl))))
