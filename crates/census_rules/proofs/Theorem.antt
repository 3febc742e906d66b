-- After every list of calls on an opened board the counts are right, and no call is answered 22: by induction over the calls, from what
-- each keeps (Upkeep.antt).
use Rattle.std.specs.Prelude.{◌≡◌, ◌≢◌, Bool, true, false, ◌&&◌, cond, List, [], ◌∷◌, ℕ, zero, suc, ◌+◌, ◌≤◌, ◌<◌, eqb, ltb, leb, length, get_or, set, replicate}
use Rattle.std.proofs.Math.Path.{refl}
use Rattle.std.proofs.Common.{sym, ap, ap₂, subst, ◌∙◌, arith, ltb-true, ltb-false, leb-true, eqb-true}
use Rattle.std.proofs.lemmas.List.{length-replicate}
use Rattle.std.proofs.lemmas.Bool.{eqb-false}
use Rattle.census_rules.specs.Board.{beds, last_state, first_count, board_words, states_on, Row, Rules, row_of, rules_on, count_on, counted}
use Rattle.census_rules.specs.Table.{last_office, is_table, rules_in}
use Rattle.census_rules.specs.Census.{Outcome, refusing, accepting, open_board, bed_in, state_in, is_item, moved, taking, reading_table, counting}
use Rattle.census_rules.specs.Laws.{both, row_counts, board_counting}
use Rattle.census_rules.specs.Cases.{reading_no_table, reading_rules, counting_no_office, counting_says}
use Rattle.census_rules.specs.Statement.{Call, take, read_table, count, number_of, board_after, state_after, rules_after, no_rules, counts, census_of, AlwaysRight}
use Rattle.census_rules.specs.Counted.{counted_is_how_many, how_many_same}
use Rattle.census_rules.proofs.Upkeep.{Sound, in_range_by, all_stay_in, moved_rules, moved_state, moved_others, moved_sound, ruled_rules, ruled_beds, ruled_sound}

-- A board whose counts are right, with these states of its beds and this rule table.
pub record Kept (b : List ℕ) (state : ℕ → ℕ) (t : Rules) : Type 0 where
  pub sound : Sound b
  pub states : (bed : ℕ) → bed < beds → get_or b bed 0 ≡ state bed
  pub table : rules_on b ≡ t

module _ (b : List ℕ) (sound : Sound b) (v : ℕ) where
  -- An item is taken or refused with 19,
  took : is_item v ≡ true → taking v b ≡ accepting (moved b (bed_in v) (state_in v))
  unfolding taking
  took e =
      let parts = both (ltb (bed_in v) beds) (leb (state_in v) last_state) e in
      rw (sound.fits, e, all_stay_in b sound (bed_in v) (state_in v) (ltb-true _ _ parts.0) (leb-true _ _ parts.1)) refl

  refused_item : is_item v ≡ false → taking v b ≡ refusing 19 b
  unfolding taking
  refused_item e = rw (sound.fits, e) refl

module _ (b : List ℕ) (state : ℕ → ℕ) (t : Rules) (kept : Kept b state t) where
  -- a call that leaves the board, and what is said of it
  stays_kept : (b' : List ℕ) (state' : ℕ → ℕ) (t' : Rules) → b ≡ b' → ((bed : ℕ) → state bed ≡ state' bed) → t ≡ t' → Kept b' state' t'
  stays_kept b' state' t' same_board same-state same_rules =
      subst (λ (x : List ℕ). Kept x state' t') same_board
      (record { sound = kept.sound; states = λ bed h. kept.states bed h ∙ same-state bed; table = kept.table ∙ same_rules })

  keeps_item : (v : ℕ) → Kept (taking v b).words (λ bed. cond (is_item v && eqb (bed_in v) bed) (state_in v) (state bed)) t
  keeps_item v = go (is_item v) refl
    where
      by-bed : (inside : bed_in v < beds) (known : state_in v ≤ last_state) (k : ℕ) → k < beds → (i : Bool) → eqb (bed_in v) k ≡ i
          → get_or (moved b (bed_in v) (state_in v)) k 0 ≡ cond i (state_in v) (state k)
      by-bed inside known k h true e =
          ap (λ (x : ℕ). get_or (moved b (bed_in v) (state_in v)) x 0) (sym (eqb-true (bed_in v) k e)) ∙ moved_state b kept.sound (bed_in v) (state_in v) inside known
      by-bed inside known k h false e =
          moved_others b kept.sound (bed_in v) (state_in v) inside known k h (λ q. eqb-false (bed_in v) k e (sym q)) ∙ kept.states k h

      go : (i : Bool) → is_item v ≡ i → Kept (taking v b).words (λ bed. cond (is_item v && eqb (bed_in v) bed) (state_in v) (state bed)) t
      go false e =
          stays_kept (taking v b).words _ t (sym (ap (λ (o : Outcome). o.words) (refused_item b kept.sound v e))) (λ bed. rw e refl) refl
      go true e =
          let parts = both (ltb (bed_in v) beds) (leb (state_in v) last_state) e in
          let inside : bed_in v < beds = ltb-true _ _ parts.0 in
          let known : state_in v ≤ last_state = leb-true _ _ parts.1 in
          subst (λ (x : List ℕ). Kept x (λ bed. cond (is_item v && eqb (bed_in v) bed) (state_in v) (state bed)) t) (sym (ap (λ (o : Outcome). o.words) (took b kept.sound v e)))
          (record {
            sound = moved_sound b kept.sound (bed_in v) (state_in v) inside known;
            states = λ bed h. rw e (by-bed inside known bed h (eqb (bed_in v) bed) refl);
            table = moved_rules b kept.sound (bed_in v) (state_in v) inside known ∙ kept.table;
          })

  keeps_table : (ws : List ℕ) → Kept (reading_table ws b).words state (cond (is_table ws) (rules_in ws) t)
  keeps_table ws = go (is_table ws) refl
    where
      go : (i : Bool) → is_table ws ≡ i → Kept (reading_table ws b).words state (cond (is_table ws) (rules_in ws) t)
      go false e =
          stays_kept (reading_table ws b).words state _ (ap (λ (o : Outcome). o.words) (reading_no_table b ws kept.sound.fits e)) (λ bed. refl) (rw e refl)
      go true e =
          rw e
          (subst (λ (x : List ℕ). Kept x state (rules_in ws)) (ap (λ (o : Outcome). o.words) (reading_rules b ws kept.sound.fits e))
          (record {
            sound = ruled_sound b kept.sound ws e;
            states = λ bed h. ruled_beds b kept.sound ws e bed h ∙ kept.states bed h;
            table = ruled_rules b kept.sound ws e;
          }))

  -- No call is answered 22.
  never_22 : (c : Call) → number_of c b ≢ 22
  never_22 (take v) = go (is_item v) refl
    where
      go : (i : Bool) → is_item v ≡ i → (taking v b).number ≢ 22
      go true e q = let n = ap (λ (o : Outcome). o.number) (took b kept.sound v e) in omega arith
      go false e q = let n = ap (λ (o : Outcome). o.number) (refused_item b kept.sound v e) in omega arith
  never_22 (read_table ws) = go (is_table ws) refl
    where
      go : (i : Bool) → is_table ws ≡ i → (reading_table ws b).number ≢ 22
      go true e q = let n = ap (λ (o : Outcome). o.number) (reading_rules b ws kept.sound.fits e) in omega arith
      go false e q = let n = ap (λ (o : Outcome). o.number) (reading_no_table b ws kept.sound.fits e) in omega arith
  never_22 (count o r) = go (ltb last_office o) refl
    where
      go : (i : Bool) → ltb last_office o ≡ i → (counting o b r).number ≢ 22
      go true e q = let n = ap (λ (o : Outcome). o.number) (counting_no_office b r o kept.sound.fits (ltb-true _ _ e)) in omega arith
      go false e q = let n = ap (λ (o : Outcome). o.number) (counting_says b r o kept.sound.fits (ltb-false _ _ e)) in omega arith

  -- The census for an office is made afresh by the states and the table.
  census_is : (office : ℕ) → office ≤ last_office → count_on b office ≡ census_of t state office
  census_is office h =
      kept.sound.right office (omega arith)
      ∙ counted_is_how_many (row_of (rules_on b) office) (row_counts (rules_on b) (board_counting b kept.sound.fits) office (omega arith)) b beds (omega (arith, kept.sound.long))
      ∙ how_many_same beds _ _
      (λ bed l.
      ap₂ (λ (r : Rules) (s : ℕ). counts r office s) kept.table (kept.states bed l))

  says_census : (office : ℕ) → office ≤ last_office → (reply : List ℕ) → counting office b reply ≡ accepting (set reply 0 (census_of t state office))
  says_census office h reply =
      sym (counting_says b reply office kept.sound.fits h) ∙ ap (λ (n : ℕ). accepting (set reply 0 n)) (census_is office h)

-- Along a list of calls.
along : (cs : List Call) (b : List ℕ) (state : ℕ → ℕ) (t : Rules) → Kept b state t → Kept (board_after cs b) (λ bed. state_after cs (state bed) bed) (rules_after cs t)
along [] b state t kept = kept
along (take v ∷ cs) b state t kept = along cs (taking v b).words (λ bed. cond (is_item v && eqb (bed_in v) bed) (state_in v) (state bed)) t (keeps_item b state t kept v)
along (read_table ws ∷ cs) b state t kept = along cs (reading_table ws b).words state (cond (is_table ws) (rules_in ws) t) (keeps_table b state t kept ws)
along (count o r ∷ cs) b state t kept = along cs b state t kept

-- An opened board.
counted_none : (r : Row) → ((i : ℕ) → get_or r i 0 ≡ 0) → (ss : List ℕ) → counted r ss ≡ 0
counted_none r none [] = refl
counted_none r none (s ∷ ss) = omega (arith, none s, counted_none r none ss)

zeros : (n i : ℕ) → get_or {A = ℕ} (replicate n 0) i 0 ≡ 0
zeros zero i = refl
zeros (suc n) zero = refl
zeros (suc n) (suc i) = zeros n i

no_rule : (office i : ℕ) → get_or (row_of no_rules office) i 0 ≡ 0
no_rule zero i = zeros 5 i
no_rule (suc zero) i = zeros 5 i
no_rule (suc (suc zero)) i = zeros 5 i
no_rule (suc (suc (suc zero))) i = zeros 5 i
no_rule (suc (suc (suc (suc office)))) i = refl

opened : Kept open_board (λ bed. 0) no_rules
opened =
    record {
      sound =
          record {
            long = long;
            fits = in_range_by open_board long (λ k h. omega (arith, zeros board_words k)) (λ k l h. omega (arith, zeros board_words k)) (λ office h. omega (arith, zeros board_words (first_count + office)));
            right = λ office h. zeros board_words (first_count + office) ∙ sym (counted_none (row_of no_rules office) (no_rule office) (states_on open_board));
          };
      states = λ bed h. zeros board_words bed;
      table = refl;
    }
  where
    long : length open_board ≡ board_words
    long = length-replicate {A = ℕ} board_words 0

pub always_right : AlwaysRight
always_right cs =
    let kept : Kept (board_after cs open_board) (state_after cs 0) (rules_after cs no_rules) = along cs open_board (λ bed. 0) no_rules opened in
    record {
      states = kept.states;
      table = kept.table;
      census = says_census (board_after cs open_board) (state_after cs 0) (rules_after cs no_rules) kept;
      answered = never_22 (board_after cs open_board) (state_after cs 0) (rules_after cs no_rules) kept;
    }
