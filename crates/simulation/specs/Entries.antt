-- The entry at a position: where it stands, and what a write of it leaves alone.
use Rattle.std.specs.Prelude.{◌≡◌, refl, Bool, true, false, ◌&&◌, ℕ, zero, suc, ◌+◌, ◌*◌, ◌/◌, ◌<◌, eqb}
use Rattle.std.proofs.Common.{ap, sym, ◌∙◌, mul_comm, mul-le-mul_left, arith, lt-ltb, le-leb, ne_eqb}
use Rattle.std.proofs.Math.Bool.{and-false}
use Rattle.std.proofs.Math.Decide.{ℕ_discrete}
use Rattle.std.proofs.Math.Arith.{digits_div}
use Rattle.history.specs.Linearization.{Item}
use Rattle.rules.specs.Sizes.{Sizes}
use Rattle.rules.specs.Cell
use Rattle.rules.specs.Cell.{Reader, place, used}
use Rattle.rules.specs.Update.{and_true, true_false}
use Rattle.rules.specs.Rule.{Effect, within, index, inside}
use Rattle.model.specs.State.{Entry}
use Rattle.model.specs.Invariant.{Inside}
use Rattle.memory.specs.Listed.{Listed}
use Rattle.memory.specs.Memory.{ChainShape, ListedIn, ChainOf}
use Rattle.simulation.specs.View.{Ghost, code_of, Agrees, AgreesWith, cell_of}

-- Positions in records: each is one index of one record.
pub position_apart : (B k j a b : ℕ) → a < B → b < B → B * k + a ≡ B * j + b → (k ≡ j) × (a ≡ b)
position_apart B k j a b ha hb e =
    let w : k * B + a ≡ j * B + b = omega (arith, mul_comm B k, mul_comm B j) in
    let p : k ≡ j = sym (digits_div k ha) ∙ ap (λ (x : ℕ). x / B) w ∙ digits_div j hb in
    let q : B * k ≡ B * j = ap (λ (x : ℕ). B * x) p in
    (p, omega arith)

-- where position p stands in the record of place suc j
pub record Stands (B p j i : ℕ) : Type 0 where
  pub below : i < B
  pub is : B * j + i ≡ p

-- A position inside a record passes the rule's test, and has an index there.
module _ (z : Sizes) (σ : Reader) (r p : ℕ) (h : Inside z.B p (σ (place r))) where
  pub by_inside : (P : Effect → Type 0) (f : ℕ → Effect) → P (f (index z σ r p)) → P (inside z σ r p f)
  by_inside P f x =
      let e : within z σ r p ≡ true = and_true (lt-ltb p (z.B * σ (place r)) h.0) (le-leb (z.B * σ (place r)) (p + z.B) h.1) in
      rw e x

  pub stands : (j : ℕ) → σ (place r) ≡ suc j → Stands z.B p j (index z σ r p)
  stands j e =
      let q : z.B * σ (place r) ≡ z.B * j + z.B = ap (λ (x : ℕ). z.B * x) e ∙ omega arith in
      record { below = omega (arith, h.0, h.1); is = omega (arith, h.0, h.1) }

module _ (B lo hi : ℕ) (gap : ℕ → Bool) (at : ℕ → ℕ) (entry entry' : ℕ → Entry) (content content' : ℕ → Item) (cell cell' : ℕ → ℕ → ℕ → ℕ)
    (j i : ℕ) (listed : Listed lo hi gap (suc j)) (below : i < B)
    (apart : (a b : ℕ) → Listed lo hi gap a → Listed lo hi gap b → at a ≡ at b → a ≡ b) where
  -- A write of the entry at position B × j + i, in the record of place suc j.
  pub agrees_changes :
      ((p : ℕ) → (p ≡ B * j + i → ⊥) → (entry' p ≡ entry p) × (content' p ≡ content p))
      → ((y a k : ℕ) → (y ≡ at (suc j) → a ≡ i → ⊥) → cell' y a k ≡ cell y a k)
      → (cell' (at (suc j)) i 0 ≡ code_of (entry' (B * j + i)))
      → (cell' (at (suc j)) i 1 ≡ (content' (B * j + i)).number)
      → (cell' (at (suc j)) i 2 ≡ (content' (B * j + i)).value)
      → Agrees B lo hi gap at entry content cell → Agrees B lo hi gap at entry' content' cell'
  agrees_changes elsewhere others state number value a =
      record {
        states = λ k b l s. each (λ k b. cell' (at (suc k)) b 0 ≡ code_of (entry' (B * k + b))) state (λ k b l s n. cells k b 0 l n ∙ a.states k b l s ∙ ap code_of (sym (elsewhere (B * k + b) (positions k b s n)).0)) k b l s;
        numbers = λ k b l s. each (λ k b. cell' (at (suc k)) b 1 ≡ (content' (B * k + b)).number) number (λ k b l s n. cells k b 1 l n ∙ a.numbers k b l s ∙ ap (λ (x : Item). x.number) (sym (elsewhere (B * k + b) (positions k b s n)).1)) k b l s;
        values = λ k b l s. each (λ k b. cell' (at (suc k)) b 2 ≡ (content' (B * k + b)).value) value (λ k b l s n. cells k b 2 l n ∙ a.values k b l s ∙ ap (λ (x : Item). x.value) (sym (elsewhere (B * k + b) (positions k b s n)).1)) k b l s;
        folded = λ k b g s. (elsewhere (B * k + b) (positions k b s (λ e q. true_false (rw e at g) listed.no_gap))).0 ∙ a.folded k b g s;
        fresh = λ p l. (elsewhere p (λ e. omega (arith, mul-le-mul_left B listed.to))).1 ∙ a.fresh p l;
      }
    where
      positions : (k b : ℕ) → b < B → (k ≡ j → b ≡ i → ⊥) → B * k + b ≡ B * j + i → ⊥
      positions k b s n e = let q = position_apart B k j b i s below e in n q.0 q.1

      cells : (k b c : ℕ) → Listed lo hi gap (suc k) → (k ≡ j → b ≡ i → ⊥) → cell' (at (suc k)) b c ≡ cell (at (suc k)) b c
      cells k b c l n = others (at (suc k)) b c (λ e q. n (let w : suc k ≡ suc j = apart (suc k) (suc j) l listed e in omega arith) q)

      each : (Q : ℕ → ℕ → Type 0) → Q j i
          → ((k b : ℕ) → Listed lo hi gap (suc k) → b < B → (k ≡ j → b ≡ i → ⊥) → Q k b)
          → (k b : ℕ) → Listed lo hi gap (suc k) → b < B → Q k b
      each Q here there k b l s = go (ℕ_discrete k j) (ℕ_discrete b i)
        where
          go : Dec (k ≡ j) → Dec (b ≡ i) → Q k b
          go (yes p) (yes q) = rw (p, q) here
          go (yes p) (no q) = there k b l s (λ e f. q f)
          go (no p) q = there k b l s (λ e f. p e)

-- Two places of the chain have two records.
pub records_apart : (z : Sizes) (σ : Reader) (g : ChainShape) → ChainOf z σ g → (a b : ℕ) → ListedIn g a → ListedIn g b → g.at a ≡ g.at b → a ≡ b
records_apart z σ g c a b la lb e = sym (c.placed a la) ∙ ap (λ (x : ℕ). σ (place x)) e ∙ c.placed b lb

-- A record that is not linked is another one than one that is.
pub other_record : (σ : Reader) (h : ℕ) → σ (used h) ≡ 2 → (x : ℕ) → (σ (used x) ≡ 2 → ⊥) → eqb h x ≡ false
other_record σ h u x n = ne_eqb h x (λ e. n (rw e at u))

-- A cell of another entry.
pub other_entry : (h i x a : ℕ) → (x ≡ h → a ≡ i → ⊥) → (eqb i a && eqb h x) ≡ false
other_entry h i x a n = go (ℕ_discrete x h)
  where
    go : Dec (x ≡ h) → (eqb i a && eqb h x) ≡ false
    go (yes e) = rw (ne_eqb i a (λ q. n e (sym q))) refl
    go (no m) = rw (ne_eqb h x (λ q. m (sym q)), and-false (eqb i a)) refl

-- The entry at position p, inside a record r that is linked: where it stands, on the chain and in the record.
pub record Slot (z : Sizes) (σ : Reader) (g : ChainShape) (r p : ℕ) : Type 0 where
  pub before : ℕ
  pub placed : σ (place r) ≡ suc before
  pub linked : σ (used r) ≡ 2
  pub at_is : g.at (suc before) ≡ r
  pub listed : ListedIn g (suc before)
  pub fits : r < z.N
  pub here : Stands z.B p before (index z σ r p)

pub slot : (z : Sizes) (σ : Reader) (g : ChainShape) → ChainOf z σ g → (r p : ℕ) → σ (used r) ≡ 2 → Inside z.B p (σ (place r)) → Slot z σ g r p
slot z σ g c r p u h = go (σ (place r)) refl (c.only r u)
  where
    go : (k : ℕ) → σ (place r) ≡ k → ListedIn g (σ (place r)) × (g.at (σ (place r)) ≡ r) → Slot z σ g r p
    go zero e o = let q : z.B * σ (place r) ≡ 0 = ap (λ (x : ℕ). z.B * x) e ∙ omega arith in absurd (omega (arith, h.0))
    go (suc j) e o =
        let is : g.at (suc j) ≡ r = ap g.at (sym e) ∙ o.1 in
        let listed : ListedIn g (suc j) = rw e at o.0 in
        record {
          before = j;
          placed = e;
          linked = u;
          at_is = is;
          listed = listed;
          fits = rw is at (c.fits (suc j) listed);
          here = stands z σ r p h j e;
        }

-- A write of some cells of the entry at position p alone.
pub slot_changes : (z : Sizes) (σ σ' : Reader) (g : ChainShape) → ChainOf z σ g → (r p : ℕ) (s : Slot z σ g r p)
    → (entry entry' : ℕ → Entry) (content content' : ℕ → Item)
    → ((q : ℕ) → (q ≡ p → ⊥) → (entry' q ≡ entry q) × (content' q ≡ content q))
    → ((y a k : ℕ) → (y ≡ r → a ≡ index z σ r p → ⊥) → σ' (Cell.entry y a k) ≡ σ (Cell.entry y a k))
    → (σ' (Cell.entry r (index z σ r p) 0) ≡ code_of (entry' p))
    → (σ' (Cell.entry r (index z σ r p) 1) ≡ (content' p).number)
    → (σ' (Cell.entry r (index z σ r p) 2) ≡ (content' p).value)
    → Agrees z.B g.lo g.hi g.gap g.at entry content (cell_of σ)
    → Agrees z.B g.lo g.hi g.gap g.at entry' content' (cell_of σ')
slot_changes z σ σ' g c r p s entry entry' content content' elsewhere others state number value a =
    agrees_changes z.B g.lo g.hi g.gap g.at entry entry' content content' (cell_of σ) (cell_of σ') s.before (index z σ r p)
    s.listed
    s.here.below
    (records_apart z σ g c)
    (λ q n. elsewhere q (λ e. n (e ∙ sym s.here.is)))
    (λ y b k n. others y b k (λ e q. n (e ∙ sym s.at_is) q))
    (rw (s.at_is, s.here.is) state)
    (rw (s.at_is, s.here.is) number)
    (rw (s.at_is, s.here.is) value)
    a

-- What the store has at the position.
pub slot_state : (z : Sizes) (σ : Reader) (γ : Ghost) (r p : ℕ) → Slot z σ γ.shape r p → AgreesWith z.B σ γ
    → σ (Cell.entry r (index z σ r p) 0) ≡ code_of (γ.entry p)
slot_state z σ γ r p s a =
    rw (s.at_is, s.here.is) at (a.states s.before (index z σ r p) s.listed s.here.below)

pub slot_number : (z : Sizes) (σ : Reader) (γ : Ghost) (r p : ℕ) → Slot z σ γ.shape r p → AgreesWith z.B σ γ
    → σ (Cell.entry r (index z σ r p) 1) ≡ (γ.content p).number
slot_number z σ γ r p s a =
    rw (s.at_is, s.here.is) at (a.numbers s.before (index z σ r p) s.listed s.here.below)

pub slot_value : (z : Sizes) (σ : Reader) (γ : Ghost) (r p : ℕ) → Slot z σ γ.shape r p → AgreesWith z.B σ γ
    → σ (Cell.entry r (index z σ r p) 2) ≡ (γ.content p).value
slot_value z σ γ r p s a =
    rw (s.at_is, s.here.is) at (a.values s.before (index z σ r p) s.listed s.here.below)
