-- What every call keeps of a board: its words are in range, and each count is what a count made afresh gives. An item changes one bed, so a
-- count changes by the difference of two words of the table.
use Rattle.std.specs.Prelude.{◌≡◌, ◌⊎◌, Bool, true, false, List, [], ◌∷◌, ◌++◌, eqb, length, set}
use Rattle.std.proofs.Math.Path.{refl, subst⁻¹}
use Rattle.std.proofs.Common.{sym, ap, ap₂, subst, ◌∙◌, inl, inr, ⊎_elim, arith, length-take-le, get_or-take, get_or-drop, get_or-set_same, le-leb, eqb-true}
use Prim.Native.Nat.{ℕ, zero, suc, ◌+◌, ◌-◌, ◌≤◌, ◌<◌}
use Rattle.std.proofs.Math.ListN.{get_or, length-set}
use Rattle.std.proofs.Math.Seq.{slice, length-slice, get_or-set_other, take-set-lt}
use Rattle.std.proofs.lemmas.Bool.{eqb-false}
use Rattle.census_rules.specs.Board.{beds, last_state, first_count, board_words, at_most, states_on, in_range, Row, Rules, row_of, rules_on, with_rules, count_on, counted}
use Rattle.census_rules.specs.Table.{is_table, rules_in}
use Rattle.census_rules.specs.Census.{changed, stays, all_stay, all_changed, moved, ruled, afresh}
use Rattle.census_rules.specs.Laws.{Counting, at_most_at, state_in_range, rule_in_range, row_counts, board_counting, table_counting}
use Rattle.census_rules.specs.Words.{four, five, twenty, counts_long, counts_below, counts_leave_states, counts_at, rules_long, rules_leave_states, rules_word, rules_at, same_rules}
use Rattle.census_rules.specs.Counted.{counted_set, counted_at_most}

-- A board of which every count is right.
pub record Sound (b : List ℕ) : Type 0 where
  pub long : length b ≡ board_words
  pub fits : in_range b ≡ true
  pub right : (office : ℕ) → office < 4 → count_on b office ≡ counted (row_of (rules_on b) office) (states_on b)

-- every word of a list, or of a part of a board
at_most_all : (most : ℕ) (ws : List ℕ) → ((i : ℕ) → i < length ws → get_or ws i 0 ≤ most) → at_most most ws ≡ true
at_most_all most [] h = refl
at_most_all most (w ∷ ws) h = rw (le-leb w most (h 0 (omega arith))) (at_most_all most ws (λ i l. h (suc i) (omega arith)))

part_at_most : (most f t : ℕ) (b : List ℕ) → t ≤ length b → ((k : ℕ) → f ≤ k → k < t → get_or b k 0 ≤ most) → at_most most (slice f t b) ≡ true
part_at_most most f t b fits h =
    at_most_all most (slice f t b)
    (λ i l.
    let inside : f + i < t = omega (arith, length-slice f t b fits) in
    subst⁻¹ (λ (x : ℕ). x ≤ most) (get_or-drop f _ i 0 ∙ get_or-take t b (f + i) 0 inside) (h (f + i) (omega arith) inside))

pub in_range_by : (b : List ℕ) → length b ≡ board_words → ((k : ℕ) → k < beds → get_or b k 0 ≤ last_state)
    → ((k : ℕ) → beds ≤ k → k < first_count → get_or b k 0 ≤ 1) → ((office : ℕ) → office < 4 → count_on b office ≤ beds) → in_range b ≡ true
unfolding in_range
in_range_by b long states rules counts =
    rw (part_at_most last_state 0 beds b (omega arith) (λ k l h. states k h), part_at_most 1 beds first_count b (omega arith) rules)
    (part_at_most beds first_count board_words b (omega arith)
    (λ k l h. subst (λ (x : ℕ). get_or b x 0 ≤ beds) {x = first_count + (k - first_count)} (omega arith) (counts (k - first_count) (omega arith))))

-- each of the twenty words of a rule table that counts by 0 and 1
small_append : (xs ys : List ℕ) → ((i : ℕ) → get_or xs i 0 ≤ 1) → ((i : ℕ) → get_or ys i 0 ≤ 1) → (i : ℕ) → get_or (xs ++ ys) i 0 ≤ 1
small_append [] ys p q i = q i
small_append (x ∷ xs) ys p q zero = p 0
small_append (x ∷ xs) ys p q (suc i) = small_append xs ys (λ j. p (suc j)) q i

five_small : (r : Row) → at_most 1 r ≡ true → (i : ℕ) → get_or (five r) i 0 ≤ 1
five_small r e zero = at_most_at 1 r e 0
five_small r e (suc zero) = at_most_at 1 r e 1
five_small r e (suc (suc zero)) = at_most_at 1 r e 2
five_small r e (suc (suc (suc zero))) = at_most_at 1 r e 3
five_small r e (suc (suc (suc (suc zero)))) = at_most_at 1 r e 4
five_small r e (suc (suc (suc (suc (suc i))))) = omega arith

twenty_small : (t : Rules) → Counting t → (i : ℕ) → get_or (twenty t) i 0 ≤ 1
twenty_small t c =
    small_append (five (row_of t 0)) (five (row_of t 1) ++ (five (row_of t 2) ++ five (row_of t 3))) (five_small (row_of t 0) c.first)
    (small_append (five (row_of t 1)) (five (row_of t 2) ++ five (row_of t 3)) (five_small (row_of t 1) c.second)
    (small_append (five (row_of t 2)) (five (row_of t 3)) (five_small (row_of t 2) c.third) (five_small (row_of t 3) c.fourth)))

same_or_not : (a b : ℕ) → (a ≡ b) ⊎ (a ≡ b → ⊥)
same_or_not a b = go (eqb a b) refl
  where
    go : (t : Bool) → eqb a b ≡ t → (a ≡ b) ⊎ (a ≡ b → ⊥)
    go true e = inl (eqb-true a b e)
    go false e = inr (eqb-false a b e)

states_long : (b : List ℕ) → length b ≡ board_words → length (states_on b) ≡ beds
states_long b long = length-take-le beds b (omega arith)

-- An item.
module _ (b : List ℕ) (sound : Sound b) (bed new : ℕ) (inside : bed < beds) (known : new ≤ last_state) where
  abbrev old : ℕ
  old = get_or b bed 0

  abbrev row : ℕ → Row
  row office = row_of (rules_on b) office

  abbrev kept_up : List ℕ
  kept_up = all_changed b (rules_on b) old new

  -- the states after it, counted
  differs : (office : ℕ) → office < 4 → counted (row office) (set (states_on b) bed new) + get_or (row office) old 0 ≡ count_on b office + get_or (row office) new 0
  differs office h =
      ap (λ (x : ℕ). counted (row office) (set (states_on b) bed new) + get_or (row office) x 0) (sym (get_or-take beds b bed 0 inside))
      ∙ counted_set (row office) (states_on b) bed new (omega (arith, states_long b sound.long))
      ∙ ap (λ (x : ℕ). x + get_or (row office) new 0) (sym (sound.right office h))

  counted_few : (office : ℕ) → office < 4 → counted (row office) (set (states_on b) bed new) ≤ beds
  counted_few office h =
      omega (arith, counted_at_most (row office) (row_counts (rules_on b) (board_counting b sound.fits) office h) (set (states_on b) bed new), length-set (states_on b) bed new, states_long b sound.long)

  -- So the difference is the new count, within 0 to 512.
  changed_is : (office : ℕ) → office < 4 → changed (row office) (count_on b office) old new ≡ counted (row office) (set (states_on b) bed new)
  changed_is office h = omega (arith, differs office h)

  stays_in : (office : ℕ) → office < 4 → stays (row office) (count_on b office) old new ≡ true
  stays_in office h =
      rw (le-leb (get_or (row office) old 0) (count_on b office + get_or (row office) new 0) (omega (arith, differs office h)))
      (le-leb (changed (row office) (count_on b office) old new) beds (omega (arith, differs office h, counted_few office h)))

  pub all_stay_in : all_stay b (rules_on b) old new ≡ true
  all_stay_in = rw (stays_in 0 (omega arith), stays_in 1 (omega arith), stays_in 2 (omega arith)) (stays_in 3 (omega arith))

  -- The board after it.
  pub moved_states : states_on (moved b bed new) ≡ set (states_on b) bed new
  unfolding moved
  moved_states = counts_leave_states (set b bed new) kept_up ∙ take-set-lt beds b bed new inside

  pub moved_rules : rules_on (moved b bed new) ≡ rules_on b
  unfolding moved
  moved_rules = same_rules b (moved b bed new) (λ k l h. counts_below (set b bed new) kept_up k h ∙ get_or-set_other b bed k new 0 (λ e. omega arith))

  moved_long : length (moved b bed new) ≡ board_words
  unfolding moved
  moved_long = counts_long (set b bed new) kept_up ∙ length-set b bed new ∙ sound.long

  moved_count : (office : ℕ) → office < 4 → count_on (moved b bed new) office ≡ counted (row office) (set (states_on b) bed new)
  unfolding moved
  moved_count office h =
      counts_at (set b bed new) kept_up (length-set b bed new ∙ sound.long) office h ∙ each office h ∙ changed_is office h
    where
      each : (o : ℕ) → o < 4 → get_or (four (all_changed b (rules_on b) old new)) o 0 ≡ changed (row o) (count_on b o) old new
      each zero h = refl
      each (suc zero) h = refl
      each (suc (suc zero)) h = refl
      each (suc (suc (suc zero))) h = refl
      each (suc (suc (suc (suc o)))) h = absurd (omega arith)

  -- a bed's word
  moved_bed : (k : ℕ) → k < beds → get_or (moved b bed new) k 0 ≡ get_or (set b bed new) k 0
  unfolding moved
  moved_bed k h = counts_below (set b bed new) kept_up k (omega arith)

  pub moved_state : get_or (moved b bed new) bed 0 ≡ new
  moved_state = moved_bed bed inside ∙ get_or-set_same b bed new 0 (omega (arith, sound.long))

  pub moved_others : (k : ℕ) → k < beds → (k ≡ bed → ⊥) → get_or (moved b bed new) k 0 ≡ get_or b k 0
  moved_others k h n = moved_bed k h ∙ get_or-set_other b bed k new 0 n

  moved_rule : (k : ℕ) → beds ≤ k → k < first_count → get_or (moved b bed new) k 0 ≤ 1
  unfolding moved
  moved_rule k l h =
      subst⁻¹ (λ (x : ℕ). x ≤ 1) (counts_below (set b bed new) kept_up k h ∙ get_or-set_other b bed k new 0 (λ e. omega arith)) (rule_in_range b sound.fits k l h)

  pub moved_sound : Sound (moved b bed new)
  moved_sound =
      record {
        long = moved_long;
        fits = in_range_by (moved b bed new) moved_long small moved_rule (λ office h. subst⁻¹ (λ (x : ℕ). x ≤ beds) (moved_count office h) (counted_few office h));
        right = λ office h. moved_count office h ∙ ap₂ (λ (r : Rules) (ss : List ℕ). counted (row_of r office) ss) (sym moved_rules) (sym moved_states);
      }
    where
      small : (k : ℕ) → k < beds → get_or (moved b bed new) k 0 ≤ last_state
      small k h = ⊎_elim (λ e. subst⁻¹ (λ (x : ℕ). x ≤ last_state) (ap (λ (x : ℕ). get_or (moved b bed new) x 0) e ∙ moved_state) known) (λ n. subst⁻¹ (λ (x : ℕ). x ≤ last_state) (moved_others k h n) (state_in_range b sound.fits k h)) (same_or_not k bed)

-- A table.
module _ (b : List ℕ) (sound : Sound b) (ws : List ℕ) (table : is_table ws ≡ true) where
  abbrev t : Rules
  t = rules_in ws

  abbrev fresh : List ℕ
  fresh = afresh t (states_on b)

  laid_long : length (with_rules b t) ≡ board_words
  laid_long = rules_long b t ∙ sound.long

  pub ruled_states : states_on (ruled b t) ≡ states_on b
  unfolding ruled
  ruled_states = counts_leave_states (with_rules b t) fresh ∙ rules_leave_states b t

  pub ruled_rules : rules_on (ruled b t) ≡ t
  unfolding ruled
  ruled_rules = same_rules (with_rules b t) (ruled b t) (λ k l h. counts_below (with_rules b t) fresh k h) ∙ rules_at b t sound.long

  ruled_long : length (ruled b t) ≡ board_words
  unfolding ruled
  ruled_long = counts_long (with_rules b t) fresh ∙ laid_long

  ruled_count : (office : ℕ) → office < 4 → count_on (ruled b t) office ≡ counted (row_of t office) (states_on b)
  unfolding ruled
  ruled_count office h = counts_at (with_rules b t) fresh laid_long office h ∙ each office h
    where
      each : (o : ℕ) → o < 4 → get_or (four (afresh t (states_on b))) o 0 ≡ counted (row_of t o) (states_on b)
      each zero h = refl
      each (suc zero) h = refl
      each (suc (suc zero)) h = refl
      each (suc (suc (suc zero))) h = refl
      each (suc (suc (suc (suc o)))) h = absurd (omega arith)

  pub ruled_beds : (k : ℕ) → k < beds → get_or (ruled b t) k 0 ≡ get_or b k 0
  ruled_beds k h =
      sym (get_or-take beds (ruled b t) k 0 h) ∙ ap (λ (l : List ℕ). get_or l k 0) ruled_states ∙ get_or-take beds b k 0 h

  ruled_rule : (k : ℕ) → beds ≤ k → k < first_count → get_or (ruled b t) k 0 ≤ 1
  unfolding ruled
  ruled_rule k l h =
      subst⁻¹ (λ (x : ℕ). x ≤ 1) (counts_below (with_rules b t) fresh k h ∙ rules_word b t sound.long k l h) (twenty_small t (table_counting ws table) (k - beds))

  pub ruled_sound : Sound (ruled b t)
  ruled_sound =
      record {
        long = ruled_long;
        fits = in_range_by (ruled b t) ruled_long (λ k h. subst⁻¹ (λ (x : ℕ). x ≤ last_state) (ruled_beds k h) (state_in_range b sound.fits k h)) ruled_rule counts-small;
        right = λ office h. ruled_count office h ∙ ap₂ (λ (r : Rules) (ss : List ℕ). counted (row_of r office) ss) (sym ruled_rules) (sym ruled_states);
      }
    where
      counts-small : (office : ℕ) → office < 4 → count_on (ruled b t) office ≤ beds
      counts-small office h =
          omega (arith, ruled_count office h, counted_at_most (row_of t office) (row_counts t (table_counting ws table) office h) (states_on b), states_long b sound.long)
