-- What each call on a board leaves, by the tests that lead there.
use Rattle.std.specs.Prelude.{◌≡◌, Bool, List, ℕ, ◌≤◌, ◌<◌, get_or, set}
use Rattle.std.proofs.Math.Path.{refl}
use Rattle.std.proofs.Common.{ap, ap₂, subst, ◌∙◌}
use Rattle.std.proofs.Math.Bool.{true, false}
use borrow.Author.Tests.{lt-ltb, le-ltb, le-leb, lt-leb}
use Rattle.census_rules.specs.Board.{beds, last_state, states_on, in_range, Rules, rules_on, with_rules, count_on, with_counts}
use Rattle.census_rules.specs.Table.{last_office, is_table, rules_in}
use Rattle.census_rules.specs.Census.{refusing, accepting, bed_in, state_in, all_stay, all_changed, moved, taking, afresh, ruled, reading_table, counting}

-- the board that is left, in the parts in which it is made
pub moved_by : (b : List ℕ) (rules : Rules) (bed new : ℕ) → rules ≡ rules_on b
    → with_counts (set b bed new) (all_changed b rules (get_or b bed 0) new) ≡ moved b bed new
unfolding moved
moved_by b rules bed new e = ap (λ (r : Rules). with_counts (set b bed new) (all_changed b r (get_or b bed 0) new)) e

pub ruled_by : (b ws : List ℕ) {rules : Rules} {b' counts : List ℕ} → rules ≡ rules_in ws → b' ≡ with_rules b rules → counts ≡ afresh rules (states_on b)
    → with_counts b' counts ≡ ruled b (rules_in ws)
unfolding ruled
ruled_by b ws e f g = ap₂ with_counts (f ∙ ap (with_rules b) e) (g ∙ ap (λ (r : Rules). afresh r (states_on b)) e)

module _ (b : List ℕ) (v : ℕ) where
  pub taking_on_no_board : in_range b ≡ false → refusing 22 b ≡ taking v b
  unfolding taking
  taking_on_no_board e = rw e refl

  pub taking_no_bed : in_range b ≡ true → beds ≤ bed_in v → refusing 19 b ≡ taking v b
  unfolding taking
  taking_no_bed e h = rw (e, le-ltb (bed_in v) beds h) refl

  pub taking_no_state : in_range b ≡ true → bed_in v < beds → last_state < state_in v → refusing 19 b ≡ taking v b
  unfolding taking
  taking_no_state e h l = rw (e, lt-ltb (bed_in v) beds h, lt-leb (state_in v) last_state l) refl

  module _ (e : in_range b ≡ true) (h : bed_in v < beds) (l : state_in v ≤ last_state) {rules : Rules} (on : rules ≡ rules_on b) where
    by_rules : (t : Bool) → all_stay b rules (get_or b (bed_in v) 0) (state_in v) ≡ t → all_stay b (rules_on b) (get_or b (bed_in v) 0) (state_in v) ≡ t
    by_rules t = subst (λ (r : Rules). all_stay b r (get_or b (bed_in v) 0) (state_in v) ≡ t) on

    pub taking_out_of_range : all_stay b rules (get_or b (bed_in v) 0) (state_in v) ≡ false → refusing 22 b ≡ taking v b
    unfolding taking
    taking_out_of_range n = rw (e, lt-ltb (bed_in v) beds h, le-leb (state_in v) last_state l, by_rules false n) refl

    pub taking_moves : all_stay b rules (get_or b (bed_in v) 0) (state_in v) ≡ true → accepting (moved b (bed_in v) (state_in v)) ≡ taking v b
    unfolding taking
    taking_moves y = rw (e, lt-ltb (bed_in v) beds h, le-leb (state_in v) last_state l, by_rules true y) refl

module _ (b ws : List ℕ) where
  pub reading_on_no_board : in_range b ≡ false → refusing 22 b ≡ reading_table ws b
  unfolding reading_table
  reading_on_no_board e = rw e refl

  pub reading_no_table : in_range b ≡ true → is_table ws ≡ false → refusing 20 b ≡ reading_table ws b
  unfolding reading_table
  reading_no_table e n = rw (e, n) refl

  pub reading_rules : in_range b ≡ true → is_table ws ≡ true → accepting (ruled b (rules_in ws)) ≡ reading_table ws b
  unfolding reading_table
  reading_rules e y = rw (e, y) refl

module _ (b reply : List ℕ) (office : ℕ) where
  pub counting_on_no_board : in_range b ≡ false → refusing 22 reply ≡ counting office b reply
  unfolding counting
  counting_on_no_board e = rw e refl

  pub counting_no_office : in_range b ≡ true → last_office < office → refusing 21 reply ≡ counting office b reply
  unfolding counting
  counting_no_office e h = rw (e, lt-ltb last_office office h) refl

  pub counting_says : in_range b ≡ true → office ≤ last_office → accepting (set reply 0 (count_on b office)) ≡ counting office b reply
  unfolding counting
  counting_says e h = rw (e, le-ltb last_office office h) refl
