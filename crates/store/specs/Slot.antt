-- What a slot says of a link and a position, in the words of the rules: `need`, `at_end`, `within` and `index`.
use Rattle.std.specs.Prelude.{◌≡◌, refl, true, false, cond, List, ℕ, suc, Result, MatchResult, ◌+◌, ◌-◌, ◌*◌, ◌<◌, ◌≤◌}
use Rattle.std.proofs.Common.{arith, eq-eqb, ne_eqb, lt-ltb, le-ltb, le-leb}
use Rattle.std.proofs.lemmas.Bool.{lt-leb}
use Rattle.rules.specs.Sizes.{Sizes}
use Rattle.rules.specs.Cell.{Reader, reader, place}
use Rattle.rules.specs.Rule.{Effect, refuse, need, at_end, within, index}
use Rattle.store.specs.declared.Located.{Located}
use Rattle.store.specs.declared.Slot.{Slot}
use Rattle.store.specs.declared.Refusal.{Refusal}
use Rattle.store.specs.declared.Refusal.TheVariants.{Broken}
use Rattle.store.specs.declared.Slot.TheVariants.{End, At}

-- Position p stands at the end of the record r that link l names.
pub record StandsEnd (z : Sizes) (σ : Reader) (l p r : ℕ) : Type 0 where
  pub link : l ≡ suc r
  pub ends : at_end z σ r p ≡ true
  pub outside : within z σ r p ≡ false
  pub below : r < z.N

-- It stands at index i of it.
pub record StandsAt (z : Sizes) (σ : Reader) (l p r i : ℕ) : Type 0 where
  pub link : l ≡ suc r
  pub before : at_end z σ r p ≡ false
  pub inside : within z σ r p ≡ true
  pub is : index z σ r p ≡ i
  pub below : r < z.N
  pub index_below : i < z.B

-- The link is none, or the index leaves the record: refusal 9, whatever would follow.
pub record StandsNowhere (z : Sizes) (σ : Reader) (l p : ℕ) : Type 0 where
  pub outside : (b : ℕ → Effect) → need l (λ r. cond (within z σ r p) (b r) (refuse 9)) ≡ refuse 9
  pub refused : (a b : ℕ → Effect) → need l (λ r. cond (at_end z σ r p) (a r) (cond (within z σ r p) (b r) (refuse 9))) ≡ refuse 9

abbrev pub Stands : Sizes → Reader → (l p : ℕ) → Slot → Type 0
Stands z σ l p (End r) = StandsEnd z σ l p r
Stands z σ l p (At r i) = StandsAt z σ l p r i

pub record Placed (z : Sizes) (m : List ℕ) (l p : ℕ) (x : Slot) : Type 0 where
  pub stands : Stands z (reader z m) l p x

-- What `slot_in` gives: where the position stands, or refusal 9.
abbrev pub Slotted : Sizes → (m : List ℕ) → (l p : ℕ) → Result Slot Refusal → Type 0
Slotted z m l p x = MatchResult x (Placed z m l p) (λ e. StandsNowhere z (reader z m) l p × (e ≡ Broken))

-- Position p is at no index of the record that link l names: refusal 9, whatever would follow.
pub record Outside (z : Sizes) (σ : Reader) (l p : ℕ) : Type 0 where
  pub refused : (b : ℕ → Effect) → need l (λ r. cond (within z σ r p) (b r) (refuse 9)) ≡ refuse 9

-- What `locate` gives: at which entry of the record the position stands, or refusal 9.
abbrev pub Found : Sizes → (m : List ℕ) → (l p : ℕ) → Result Located Refusal → Type 0
Found z m l p x = MatchResult x (λ e. StandsAt z (reader z m) l p e.record e.index) (λ e. Outside z (reader z m) l p × (e ≡ Broken))

-- Where a position stands, by the end e of the record that the link names.
module _ {z : Sizes} {σ : Reader} {l p r : ℕ} (e : ℕ) (named : l ≡ suc r) (is : z.B * σ (place r) ≡ e) where
  pub past_end : e < p → StandsNowhere z σ l p
  past_end h =
      record {
        outside = λ b. rw (named, is, le-ltb p e (omega arith)) refl;
        refused = λ a b. rw (named, is, ne_eqb p e (λ q. omega arith), le-ltb p e (omega arith)) refl;
      }

  pub before_first : (p ≡ e → ⊥) → p + z.B < e → StandsNowhere z σ l p
  before_first d h =
      record {
        outside = λ b. rw (named, is, lt-ltb p e (omega arith), lt-leb e (p + z.B) h) refl;
        refused = λ a b. rw (named, is, ne_eqb p e d, lt-ltb p e (omega arith), lt-leb e (p + z.B) h) refl;
      }

  pub at_end_lem : p ≡ e → l ≤ z.N → StandsEnd z σ l p r
  at_end_lem q h = record { link = named; ends = rw is (eq-eqb p e q); outside = rw (is, le-ltb p e (omega arith)) refl; below = omega arith }

  pub at_index : (p ≡ e → ⊥) → p ≤ e → e ≤ p + z.B → l ≤ z.N → StandsAt z σ l p r (p + z.B - e)
  at_index d a b h =
      record {
        link = named;
        before = rw is (ne_eqb p e d);
        inside = rw (is, lt-ltb p e (omega arith), le-leb e (p + z.B) b) refl;
        is = rw is refl;
        below = omega arith;
        index_below = omega arith;
      }

-- no link
pub no_link : {z : Sizes} {σ : Reader} {l p : ℕ} → l ≡ 0 → StandsNowhere z σ l p
no_link e = record { outside = λ b. rw e refl; refused = λ a b. rw e refl }
