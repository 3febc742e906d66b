-- The mark of the found entry, in the words of the rules: `marks`, and what a drain keeps (document 02, U5).
use Rattle.std.specs.Prelude.{◌≡◌, cond, List, [], ◌∷◌, ◌++◌, ℕ, suc, eqb, Result, MatchResult}
use Rattle.rules.specs.Sizes.{Sizes}
use Rattle.rules.specs.Cell.{Reader, reader, Write, ◌:=◌, head_position, consumer_phase, found_record, found_position, drain_count, pair_number, pair_value, state}
use Rattle.rules.specs.Rule.{Effect, refuse, goes}
use Rattle.rules.specs.Consumer.{marks}
use Rattle.store.specs.declared.Refusal.{Refusal}
use Rattle.store.specs.declared.Refusal.TheVariants.{Broken}
use Rattle.handled.specs.declared.Mark.{Mark}
use Rattle.handled.specs.declared.Mark.TheVariants.{Retires, Gives}

-- to phase 8
abbrev pub to_retire : List Write
to_retire = found_record := 0 ∷ found_position := 0 ∷ consumer_phase := 8 ∷ []

-- pair i, and the count one more
abbrev pub kept : (i number value : ℕ) → List Write
kept i n v = pair_number i := n ∷ pair_value i := v ∷ drain_count := suc i ∷ []

module _ (z : Sizes) (σ : Reader) where
  -- Entry i of record r becomes handled; if found is the head position, it advances.
  abbrev pub marked : (r i : ℕ) → List Write
  marked r i =
      cond (eqb (σ found_position) (σ head_position)) (state r i := 2 ∷ head_position := suc (σ head_position) ∷ []) (state r i := 2 ∷ [])

  -- The mark goes to 8, or gives the item, whatever is kept and whatever follows.
  abbrev pub LeadsTo : Mark → Type 0
  LeadsTo Retires = (r i : ℕ) (ws : List Write) (f : List Write → Effect) → marks z σ r i ws f ≡ goes (marked r i ++ (to_retire ++ ws))
  LeadsTo Gives = (r i : ℕ) (ws : List Write) (f : List Write → Effect) → marks z σ r i ws f ≡ f (marked r i ++ ws)

  -- It is refused with 9, whatever would be kept and would follow.
  pub record Unmarked : Type 0 where
    pub refused : (r i : ℕ) (ws : List Write) (f : List Write → Effect) → marks z σ r i ws f ≡ refuse 9

pub record Marks (z : Sizes) (m : List ℕ) (x : Mark) : Type 0 where
  pub to : LeadsTo z (reader z m) x

-- What `mark_leads` gives: what the mark leads to, or refusal 9.
abbrev pub Leads : Sizes → (m : List ℕ) → Result Mark Refusal → Type 0
Leads z m x = MatchResult x (Marks z m) (λ e. Unmarked z (reader z m) × (e ≡ Broken))
