-- The two steps in which the consumer retires a record, on two stores alike: the head record's retirement, which no way back reaches, and the fold of a
-- record that the scan has read, from which every way back leads on to the same one.
use Rattle.std.specs.Prelude.{◌≡◌, refl, ◌⊎◌, ◌≢◌, Bool, true, false, cond, List, [], ◌∷◌, ◌++◌, ℕ, suc, ◌*◌, ◌<◌, eqb}
use Rattle.std.proofs.Common.{ap, ◌∙◌, subst, inl, inr, arith, ne_eqb, eqb-true}
use Rattle.rules.specs.Sizes.{Sizes}
use Rattle.rules.specs.Cell.{Reader, Write, ◌:=◌, head_record, head_position, cursor_record, cursor_position, all_handled, phase, held, place, next, prev, used}
use Rattle.rules.specs.Update.{after}
use Rattle.rules.specs.Rule.{Reply, going, reply, goes, need}
use Rattle.rules.specs.Consumer.{entered, folded}
use Rattle.memory.specs.Memory.{Memory, head_listed}
use Rattle.memory.specs.RetireHead.{retire_writes}
use Rattle.memory.specs.Folding.{fold_writes}
use Rattle.renaming.specs.Renaming.{writes_to}
use Rattle.renaming.specs.Ways.{Reaches, reached_past_head}
use Rattle.renaming.specs.Plain.{all_plain, not_written, plain_writes}
use Rattle.renaming.specs.Alike.{Alike}
use Rattle.renaming.specs.AlikeWays.{WasRetired, NewlyRetired}
use Rattle.renaming.specs.AlikeEffects.{Like, by_need, by_records}
use Rattle.renaming.specs.AlikeRecords.{Twins, Before, linked_prev}

module _ {z : Sizes} {σ τ : Reader} (pair : Twins z σ τ) where
  abbrev f : ℕ → ℕ
  f = pair.stores.renaming.to

  abbrev a : Alike f σ τ
  a = pair.stores.alike

  m : Memory z σ pair.γ.shape
  m = pair.good.memory

  -- The head record is retired where the head stands at its end. Then come plain writes.
  pub head_retires : (r : Reply) (h n p : ℕ) (rest : List Write) → writes_to f rest ≡ rest → all_plain rest ≡ true → σ head_position ≡ z.B * σ (place h)
      → Like z σ τ (reply r (retire_writes h n p ++ rest)) (reply r (retire_writes (f h) (f n) p ++ rest))
  head_retires r h n p rest same plainly end =
      by_records pair.stores r (retire_writes h n p ++ rest) _ (rw same refl) (plain_writes (after σ (retire_writes h n p)) rest plainly) (λ t k. refl)
      (λ s u. inl (rw (not_written (eqb h s) 3 (σ (used s)) 2 (λ e. omega arith) u) at u))
      (λ t x y e q i u. go t x y e q i (eqb h y) refl u)
    where
      go : (t x y : ℕ) → σ (phase t) ≡ 7 → σ (held t) ≡ suc x → Reaches σ x y → (b : Bool) → eqb h y ≡ b → cond b 3 (σ (used y)) ≡ 3
          → WasRetired σ (after σ (retire_writes h n p)) y ⊎ NewlyRetired f σ τ (after σ (retire_writes h n p)) y
      go t x y e q i true d u =
          let same : z.B * σ (place h) ≡ z.B * σ (place y) = ap (λ (w : ℕ). z.B * σ (place w)) (eqb-true h y d) in
          absurd (omega (arith, reached_past_head pair.good t x y e q i))
      go t x y e q i false d u = inl (u, refl)

  -- A linked record that is not the head record is folded.
  module _ (r n p : ℕ) (linked-r : σ (used r) ≡ 2) (linked-n : σ (used n) ≡ 2) (not-head : σ head_record ≢ suc r) where
    past_head : pair.γ.shape.lo < σ (place r)
    past_head =
        let o = m.chain.only r linked-r in
        let other : pair.γ.shape.lo ≡ σ (place r) → ⊥ = λ w. not-head (m.head_is ∙ ap suc (ap pair.γ.shape.at w ∙ o.1)) in
        omega (arith, o.0.from)

    before : Before pair r
    before = linked_prev pair r linked-r pair.γ.shape.lo (head_listed m) past_head

    module _ (q : ℕ) (is_prev : σ (prev r) ≡ suc q) where
      abbrev κ : Reader
      κ = after σ (next q := suc n ∷ prev n := suc q ∷ used r := 3 ∷ [])

      -- it keeps its prev, and that one is linked still
      kept : (b : Bool) → cond b (suc q) (σ (prev r)) ≡ suc q
      kept true = refl
      kept false = is_prev

      ends : (w : ℕ) → κ (prev r) ≡ suc w → κ (used w) ≡ 3 → ⊥
      ends w e u =
          let same : w ≡ before.to = omega (arith, before.is_prev, kept (eqb n r)) in
          let falls : σ (place w) < σ (place r) = rw same before.falls in
          let apart : eqb r w ≡ false = ne_eqb r w (λ d. let j : σ (place r) ≡ σ (place w) = ap (λ (x : ℕ). σ (place x)) d in omega arith) in
          let three : σ (used w) ≡ 3 = rw apart at u in
          let two : σ (used w) ≡ 2 = rw same before.linked in
          omega arith

      retires : (y : ℕ) (b : Bool) → eqb r y ≡ b → cond b 3 (σ (used y)) ≡ 3 → WasRetired σ κ y ⊎ NewlyRetired f σ τ κ y
      retires y true e u = inr (subst (NewlyRetired f σ τ κ) (eqb-true r y e) (record { same = ((a.linked r linked-r).placed, before.same); ends = ends }))
      retires y false e u =
          let other : eqb n y ≡ false = ne_eqb n y (λ d. let j : σ (used n) ≡ σ (used y) = ap (λ (x : ℕ). σ (used x)) d in omega arith) in
          inl (u, rw other refl)

      fold_writes_lem : Like z σ τ (goes (fold_writes r q n p)) (goes (fold_writes (f r) (f q) (f n) p))
      fold_writes_lem =
          by_records pair.stores going (fold_writes r q n p) _ refl
          (plain_writes κ (cursor_record := suc n ∷ cursor_position := p ∷ all_handled := 1 ∷ []) refl)
          (λ t k. refl)
          (λ s u. inl (rw (not_written (eqb r s) 3 (σ (used s)) 2 (λ e. omega arith) u) at u))
          (λ t x y e k i u. retires y (eqb r y) refl u)

    pub folds : Like z σ τ (need (σ (prev r)) λ q. goes (folded z σ r q n ++ entered z σ n p)) (need (τ (prev (f r))) λ q. goes (folded z τ (f r) q (f n) ++ entered z τ (f n) p))
    folds = by_need pair.stores (σ (prev r)) (τ (prev (f r))) _ _ before.same fold_writes_lem
