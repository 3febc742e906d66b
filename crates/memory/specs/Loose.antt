-- A loose record: nobody can reach it. A free record is loose, and so is the one that a claim takes.
use Rattle.std.specs.Prelude.{◌≡◌, ◌⊎◌, ◌≢◌, Bool, ◌&&◌, ◌||◌, not, ℕ, zero, suc, ◌≤◌, ◌<◌, ltb}
use Rattle.std.proofs.Math.Path.{refl}
use Rattle.std.proofs.Math.Logic.{inl, inr}
use Rattle.std.proofs.Common.{⊎_elim, arith, eq-eqb, eqb-true, lt-ltb}
use Rattle.std.proofs.Math.Bool.{true, false}
use Rattle.std.proofs.Math.Decide.{dec_le}
use Rattle.std.proofs.Math.Dec.{eqb}
use Rattle.rules.specs.Sizes.{Sizes}
use Rattle.rules.specs.Cell.{Reader, last_claimed, place, used, held, claimed}
use Rattle.rules.specs.Range.{every}
use Rattle.rules.specs.Free.{free, let_go, kept_by, keeps, next_free}
use Rattle.rules.specs.Update.{both, and_true, true_false, neither, not_true}
use Rattle.rules.specs.InRange.{every_at}
use Rattle.memory.specs.NextFree.{RightChoice, next_free_right}
use Rattle.memory.specs.Memory.{ChainShape, Memory, held_is, claimed_is}

-- It is not linked, not claimed, no producer holds it or has claimed it, and if it is retired no retired record of greater place is held.
pub record Loose (σ : Reader) (r : ℕ) : Type 0 where
  pub not_linked : σ (used r) ≡ 2 → ⊥
  pub not_claimed : σ (used r) ≡ 1 → ⊥
  pub not_held : (u : ℕ) → σ (held u) ≡ suc r → ⊥
  pub nobodys_claim : (u : ℕ) → σ (claimed u) ≡ suc r → ⊥
  pub not_kept : σ (used r) ≡ 3 → (u x : ℕ) → σ (held u) ≡ suc x → σ (used x) ≡ 3 → σ (place x) ≤ σ (place r)

-- What a claim may take for the invariants' sake: none, or a loose record.
abbrev pub LooseChoice : Sizes → Reader → ℕ → Type 0
LooseChoice z σ zero = Unit
LooseChoice z σ (suc r) = (r < z.N) × Loose σ r

-- Who holds x does not keep r: x is not r, and if it is retired its place is not greater.
pub not_kept_by : (σ : Reader) (w r x : ℕ) → kept_by σ w r ≡ false → w ≡ suc x → (x ≡ r → ⊥) × (σ (used x) ≡ 3 → σ (place x) ≤ σ (place r))
not_kept_by σ zero r x e q = absurd (omega arith)
not_kept_by σ (suc w) r x e q =
    let p = neither (eqb w r) (eqb (σ (used w)) 3 && ltb (σ (place r)) (σ (place w))) e in
    let same : w ≡ x = omega arith in
    rw (← same) ((λ d. true_false (eq-eqb w r d) p.0), λ u. at_most (dec_le (σ (place w)) (σ (place r))) u p.1)
  where
    at_most : Dec (σ (place w) ≤ σ (place r)) → σ (used w) ≡ 3 → (eqb (σ (used w)) 3 && ltb (σ (place r)) (σ (place w))) ≡ false → σ (place w) ≤ σ (place r)
    at_most (yes l) u n = l
    at_most (no l) u n = absurd (true_false (and_true (eq-eqb (σ (used w)) 3 u) (lt-ltb (σ (place r)) (σ (place w)) (omega arith))) n)

module _ (z : Sizes) (σ : Reader) (r : ℕ) where
  -- a record that was let go is retired, and no producer keeps it by what it holds or has claimed
  let-go-has : let_go z σ r ≡ true → (σ (used r) ≡ 3) × ((t : ℕ) → 1 ≤ t → t ≤ z.P → (kept_by σ (σ (held t)) r ≡ false) × (kept_by σ (σ (claimed t)) r ≡ false))
  let-go-has e =
      let p = both (eqb (σ (used r)) 3) (every z.P (λ t. not (keeps σ (suc t) r))) e in
      (eqb-true (σ (used r)) 3 p.0, unkept p.1)
    where
      unkept : every z.P (λ t. not (keeps σ (suc t) r)) ≡ true → (t : ℕ) → 1 ≤ t → t ≤ z.P → (kept_by σ (σ (held t)) r ≡ false) × (kept_by σ (σ (claimed t)) r ≡ false)
      unkept q zero a b = absurd (omega arith)
      unkept q (suc t) a b =
          neither (kept_by σ (σ (held (suc t))) r) (kept_by σ (σ (claimed (suc t))) r)
          (not_true (keeps σ (suc t) r) (every_at z.P (λ t. not (keeps σ (suc t) r)) q t b))

  -- a free record is of use 0, or was let go
  pub free_has : free z σ r ≡ true → (σ (used r) ≡ 0) ⊎ (let_go z σ r ≡ true)
  unfolding free
  free_has e = go (eqb (σ (used r)) 0) refl e
    where
      go : (b : Bool) → eqb (σ (used r)) 0 ≡ b → (b || let_go z σ r) ≡ true → (σ (used r) ≡ 0) ⊎ (let_go z σ r ≡ true)
      go true q h = inl (eqb-true (σ (used r)) 0 q)
      go false q h = inr h

  -- its use is 0 or 3
  pub free_use : free z σ r ≡ true → (σ (used r) ≡ 0) ⊎ (σ (used r) ≡ 3)
  free_use e = ⊎_elim inl (λ q. inr (let-go-has q).0) (free_has e)

  -- What makes a record loose: its use, and that none of producers 1 to P keeps it; of others there is none.
  pub free_loose : {g : ChainShape} → Memory z σ g → free z σ r ≡ true → Loose σ r
  free_loose m e =
      record {
        not_linked = λ l. ⊎_elim (λ u. omega arith) (λ u. omega arith) (free_use e);
        not_claimed = λ l. ⊎_elim (λ u. omega arith) (λ u. omega arith) (free_use e);
        not_held = λ u h. ⊎_elim (λ f. ⊎_elim (λ w. omega arith) (λ w. omega arith) (held_is m u r h)) (λ f. (by-held u r f h).0 refl) (free_has e);
        nobodys_claim = λ u h. omega (arith, (claimed_is m u r h).claimed_use, ⊎_elim {C = σ (used r) ≢ 1} (λ w q. omega arith) (λ w q. omega arith) (free_use e));
        not_kept = λ w u x h. ⊎_elim (λ f. absurd (omega arith)) (λ f. (by-held u x f h).1) (free_has e);
      }
    where
      -- what producer u holds, where the record was let go
      by-held : (u x : ℕ) → let_go z σ r ≡ true → σ (held u) ≡ suc x → (x ≡ r → ⊥) × (σ (used x) ≡ 3 → σ (place x) ≤ σ (place r))
      by-held u x f h = go (dec_le 1 u) (dec_le u z.P)
        where
          go : Dec (1 ≤ u) → Dec (u ≤ z.P) → (x ≡ r → ⊥) × (σ (used x) ≡ 3 → σ (place x) ≤ σ (place r))
          go (yes a) (yes b) = not_kept_by σ (σ (held u)) r x ((let-go-has f).1 u a b).0 h
          go (yes a) (no b) = absurd (omega (arith, m.outside u 4 (λ i. b i.1)))
          go (no a) b = absurd (omega (arith, m.outside u 4 (λ i. a i.0)))

-- The next free record is such a choice.
pub next_free_loose : (z : Sizes) (σ : Reader) {g : ChainShape} → Memory z σ g → σ last_claimed ≤ z.N → LooseChoice z σ (next_free z σ)
next_free_loose z σ m most = go (next_free z σ) (next_free_right z σ most)
  where
    go : (c : ℕ) → RightChoice z σ c → LooseChoice z σ c
    go zero h = tt
    go (suc r) h = (h.0, free_loose z σ r m h.1)
