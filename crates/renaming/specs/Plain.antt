-- Plain writes: no prev and no use is written, nothing comes to be held, and no producer comes to phase 7. They leave links and ways back alone.
use Rattle.std.specs.Prelude.{◌≡◌, refl, Bool, true, false, ◌&&◌, not, cond, List, [], ◌∷◌, ℕ, suc, eqb}
use Rattle.std.proofs.Common.{◌∙◌, arith, eq-eqb}
use Rattle.rules.specs.Cell.{Cell, Reader, of_record, Write, ◌:=◌, clear, phase, held, prev, used}
use Rattle.rules.specs.Update.{area_of, area_kind, same_area, cell_kind, cell_field, same, update, after, both, and_true, true_false, not_true, untouched, other_area, other_kind}

-- two cells are the same word of their areas
abbrev same_word : Cell → Cell → Bool
same_word c d = eqb (cell_kind c) (cell_kind d) && eqb (cell_field c) (cell_field d)

abbrev pub plain : Write → Bool
plain (c := v) =
    not (same_word c (prev 0)) && (not (same_word c (used 0)) && (not (same_word c (held 0)) && not (same_word c (phase 0) && eqb v 7)))
plain (clear a) = not (eqb (area_kind a) (area_kind (of_record 0)))

abbrev pub all_plain : List Write → Bool
all_plain [] = true
all_plain (w ∷ ws) = plain w && all_plain ws

-- What they leave alone.
pub record Plain (σ σ' : Reader) : Type 0 where
  pub prevs : (x : ℕ) → σ' (prev x) ≡ σ (prev x)
  pub uses : (x : ℕ) → σ' (used x) ≡ σ (used x)
  pub holds : (t s : ℕ) → σ' (held t) ≡ suc s → σ (held t) ≡ suc s
  pub backs : (t : ℕ) → σ' (phase t) ≡ 7 → σ (phase t) ≡ 7

-- a cell that is another word is another cell
other_word : (c d : Cell) → same_word c d ≡ false → same c d ≡ false
other_word c d = go (eqb (cell_kind c) (cell_kind d)) (eqb (cell_field c) (cell_field d)) _
  where
    go : (a b r : Bool) → (a && b) ≡ false → (a && (b && r)) ≡ false
    go true true r e = absurd (true_false refl e)
    go true false r e = refl
    go false b r e = refl

-- a word that is n after a write of something else was not written
pub not_written : (b : Bool) (v x n : ℕ) → (v ≡ n → ⊥) → cond b v x ≡ n → b ≡ false
not_written true v x n other e = absurd (other e)
not_written false v x n other e = refl

module _ (σ : Reader) where
  phase_stays : (c : Cell) (v t : ℕ) → (same_word c (phase 0) && eqb v 7) ≡ false → update σ (c := v) (phase t) ≡ 7 → σ (phase t) ≡ 7
  phase_stays c v t n = go (same c (phase t)) refl
    where
      go : (b : Bool) → same c (phase t) ≡ b → cond b v (σ (phase t)) ≡ 7 → σ (phase t) ≡ 7
      go true q e =
          let k = both (eqb (cell_kind c) (cell_kind (phase t))) _ q in
          let w = both (eqb (cell_field c) (cell_field (phase t))) _ k.1 in
          absurd (true_false (and_true (and_true k.0 w.0) (eq-eqb v 7 e)) n)
      go false q e = e

  plain_one : (w : Write) → plain w ≡ true → Plain σ (update σ w)
  plain_one (c := v) h =
      let a = both (not (same_word c (prev 0))) _ h in
      let b = both (not (same_word c (used 0))) _ a.1 in
      let d = both (not (same_word c (held 0))) _ b.1 in
      record {
        prevs = λ x. untouched σ (c := v) (prev x) (other_word c (prev x) (not_true _ a.0));
        uses = λ x. untouched σ (c := v) (used x) (other_word c (used x) (not_true _ b.0));
        holds = λ t s e. rw (other_word c (held t) (not_true _ d.0)) at e;
        backs = λ t. phase_stays c v t (not_true _ d.1);
      }
  plain_one (clear a) h =
      let n = not_true _ h in
      record {
        prevs = λ x. other_area σ (clear a) (prev x) (other_kind a (of_record x) n);
        uses = λ x. other_area σ (clear a) (used x) (other_kind a (of_record x) n);
        holds = λ t s e. rw (not_written (same_area a (area_of (held t))) 0 (σ (held t)) (suc s) (λ n. omega arith) e) at e;
        backs = λ t e. rw (not_written (same_area a (area_of (phase t))) 0 (σ (phase t)) 7 (λ n. omega arith) e) at e;
      }

pub plain_writes : (σ : Reader) (ws : List Write) → all_plain ws ≡ true → Plain σ (after σ ws)
plain_writes σ [] h = record { prevs = λ x. refl; uses = λ x. refl; holds = λ t s e. e; backs = λ t e. e }
plain_writes σ (w ∷ ws) h =
    let b = both (plain w) (all_plain ws) h in
    let first = plain_one σ w b.0 in
    let rest = plain_writes (update σ w) ws b.1 in
    record {
      prevs = λ x. rest.prevs x ∙ first.prevs x;
      uses = λ x. rest.uses x ∙ first.uses x;
      holds = λ t s e. first.holds t s (rest.holds t s e);
      backs = λ t e. first.backs t (rest.backs t e);
    }
