-- Where the threads stand: bounds on places and positions that the records behind them need. From the clauses of the phases; a
-- producer whose entry is still empty is at or past the head.
use Rattle.std.specs.Prelude.{◌≡◌, ◌≢◌, ℕ, suc, ◌*◌, ◌≤◌, ◌<◌}
use Rattle.std.proofs.Math.Nat.{lt_of_mul-lt-mul_left}
use Rattle.std.proofs.Common.{arith}
use Rattle.history.specs.Linearization.{Item}
use Rattle.model.specs.State.{gone, writing, setting, scanning, looking, rescanning, found, holding, State}
use Rattle.model.specs.Invariant.{AtPosition, Inside, Reached, Found, Invariant}
use Rattle.model.specs.Facts.{gone_not_blank}
use Rattle.model.specs.Known.{lt_unless, blank_past_head}
use Rattle.model.specs.Walking.{producer_clause}
use Rattle.model.specs.Dequeues.{consumer_clause}

module _ (B : ℕ) (s : State) (i : Invariant B s) where
  open s use {tail, hp, lo, tp, hi, entry, history}

  -- producers

  pub placed_past_head : (n v L : ℕ) → AtPosition tail n v L entry history → hp ≤ L
  placed_past_head n v L o = blank_past_head B s i L o.is_blank

  -- a record that a blank position does not lie past is not before the head record
  placed_place : (n v L k : ℕ) → AtPosition tail n v L entry history → L < B * k → lo ≤ k
  placed_place n v L k o l =
      let below : lo < suc k = lt_of_mul-lt-mul_left B (omega (arith, i.places, placed_past_head n v L o)) in
      omega arith

  module _ (t n v L k : ℕ) where
    pub writing_place : s.producer t ≡ writing n v L k → (lo ≤ k) × (k ≤ tp) × Inside B L k
    writing_place e = let o = producer_clause B s i t _ e in (placed_place n v L k o.0 o.2.0, o.1, o.2)

    pub setting_place : s.producer t ≡ setting n v L k → (lo ≤ k) × (k ≤ tp) × Inside B L k
    setting_place e = let o = producer_clause B s i t _ e in (placed_place n v L k o.0 o.2.0, o.1, o.2)

  -- the head

  pub head_inside : hp ≢ B * lo → Inside B hp lo
  head_inside inside = omega (arith, i.places)

  pub gone_head_below_tail : entry hp ≡ gone → suc hp ≤ tail
  gone_head_below_tail is_gone = lt_unless hp tail (λ l. gone_not_blank _ is_gone (i.entries.blank_past hp l))

  pub read_head_below_tail : tail ≢ hp → suc hp ≤ tail
  read_head_below_tail more = omega (arith, i.places)

  -- the cursor

  module _ (c k : ℕ) where
    pub scanning_reached : s.consumer ≡ scanning c k → (c ≤ tail) × Reached B s c k
    scanning_reached e = let o = consumer_clause B s i _ e in (o.2, o.3)

    pub scanning_crosses : s.consumer ≡ scanning c k → k ≢ tp → k < tp
    scanning_crosses e more = let o = consumer_clause B s i _ e in omega arith

    pub looking_inside : s.consumer ≡ looking c k → (lo ≤ k) × (k ≤ tp) × Inside B c k
    looking_inside e = let o = consumer_clause B s i _ e in omega arith

    pub looking_below_tail : s.consumer ≡ looking c k → suc c ≤ tail
    looking_below_tail e = (consumer_clause B s i _ e).2

  module _ (c k f g : ℕ) (e : s.consumer ≡ rescanning c k f g) where
    pub rescanning_crosses : c ≡ B * k → k < tp
    rescanning_crosses at_end_lem =
        let o = consumer_clause B s i _ e in
        let before : k < g = lt_of_mul-lt-mul_left B (omega arith) in
        omega arith

    pub rescanning_inside : c ≢ B * k → (lo ≤ k) × (k ≤ tp) × Inside B c k
    rescanning_inside inside = let o = consumer_clause B s i _ e in omega arith

    pub rescanning_below_tail : suc c ≤ tail
    rescanning_below_tail = let o = consumer_clause B s i _ e in omega arith

  -- the found entry

  pub found_found : (f g : ℕ) → s.consumer ≡ found f g → Found B s f g
  found_found f g e = (consumer_clause B s i _ e).1

  pub holding_found : (f g : ℕ) (x : Item) → s.consumer ≡ holding f g x → Found B s f g
  holding_found f g x e = (consumer_clause B s i _ e).1
