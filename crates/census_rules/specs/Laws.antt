-- What a board in range has: its words are small.
use Rattle.std.specs.Prelude.{◌≡◌, refl, Bool, true, false, ◌&&◌, cond, List, [], ◌∷◌, ℕ, zero, suc, ◌+◌, ◌-◌, ◌≤◌, ◌<◌, leb, eqb, length, get_or}
use mathlib.Core.Bool.{and-false}
use Rattle.std.proofs.Common.{ap, subst, ◌∙◌, arith, get_or-take, get_or-drop, leb-true, eqb-true, le-leb}
use Rattle.std.proofs.Math.Seq.{slice}
use Rattle.census_rules.specs.Board.{beds, last_state, first_count, board_words, at_most, states_on, in_range, Rules, row_of, row_at, rules_on, count_on}
use Rattle.census_rules.specs.Table.{table_rows, last_office, office_at, state_at, word_at, is_row, are_rows, is_for, each_once, is_table, word_in, rule_for, row_for, rules_in}

-- A board that is not refused with 22.
pub record InRange (b : List ℕ) : Type 0 where
  pub long : length b ≡ board_words
  pub fits : in_range b ≡ true

-- A rule table of which every word is 0 or 1.
pub record Counting (rules : Rules) : Type 0 where
  pub first : at_most 1 (row_of rules 0) ≡ true
  pub second : at_most 1 (row_of rules 1) ≡ true
  pub third : at_most 1 (row_of rules 2) ≡ true
  pub fourth : at_most 1 (row_of rules 3) ≡ true

-- an office's row of a rule table that counts by 0 and 1
pub row_counts : (t : Rules) → Counting t → (office : ℕ) → office < 4 → at_most 1 (row_of t office) ≡ true
row_counts t c zero h = c.first
row_counts t c (suc zero) h = c.second
row_counts t c (suc (suc zero)) h = c.third
row_counts t c (suc (suc (suc zero))) h = c.fourth
row_counts t c (suc (suc (suc (suc office)))) h = absurd (omega arith)

pub both : (a c : Bool) → (a && c) ≡ true → (a ≡ true) × (c ≡ true)
both true c e = (refl, e)
both false c e = absurd (let z : ◌≡◌ {A = ℕ} 0 1 = cc in omega arith)

-- a word of those that are at most so much, or 0 past their end
pub at_most_at : (most : ℕ) (ws : List ℕ) → at_most most ws ≡ true → (i : ℕ) → get_or ws i 0 ≤ most
at_most_at most [] e i = omega arith
at_most_at most (w ∷ ws) e zero = leb-true w most (both (leb w most) (at_most most ws) e).0
at_most_at most (w ∷ ws) e (suc i) = at_most_at most ws (both (leb w most) (at_most most ws) e).1 i

at_most_in : (most f t : ℕ) (b : List ℕ) → at_most most (slice f t b) ≡ true → (i : ℕ) → f + i < t → get_or b (f + i) 0 ≤ most
at_most_in most f t b e i h = subst (λ (x : ℕ). x ≤ most) (get_or-drop f _ i 0 ∙ get_or-take t b (f + i) 0 h) (at_most_at most (slice f t b) e i)

module _ (b : List ℕ) (fits : in_range b ≡ true) where
  parts : (at_most last_state (states_on b) && at_most 1 (slice beds first_count b)) ≡ true
      × (at_most beds (slice first_count board_words b) ≡ true)
  unfolding in_range
  parts = both _ _ fits

  pub state_in_range : (bed : ℕ) → bed < beds → get_or b bed 0 ≤ last_state
  state_in_range bed h = subst (λ (x : ℕ). get_or b x 0 ≤ last_state) (omega arith) (at_most_in last_state 0 beds b (both _ _ parts.0).0 bed (omega arith))

  pub rule_in_range : (k : ℕ) → beds ≤ k → k < first_count → get_or b k 0 ≤ 1
  rule_in_range k l h =
      subst (λ (x : ℕ). get_or b x 0 ≤ 1) {x = beds + (k - beds)} (omega arith)
      (at_most_in 1 beds first_count b (both (at_most last_state (states_on b)) _ parts.0).1 (k - beds) (omega arith))

  pub count_in_range : (office : ℕ) → office < 4 → count_on b office ≤ beds
  count_in_range office h = at_most_in beds first_count board_words b parts.1 office (omega arith)

-- every word of five is 0 or 1
five_at_most : {a b c d e : ℕ} → a ≤ 1 → b ≤ 1 → c ≤ 1 → d ≤ 1 → e ≤ 1 → at_most 1 (a ∷ b ∷ c ∷ d ∷ e ∷ []) ≡ true
five_at_most {a} {b} {c} {d} {e} p q r s t = rw (le-leb a 1 p, le-leb b 1 q, le-leb c 1 r, le-leb d 1 s, le-leb e 1 t) refl

-- So the rule table on a board counts by 0 and 1,
pub board_counting : (b : List ℕ) → in_range b ≡ true → Counting (rules_on b)
board_counting b fits =
    record {
      first = row 512 (omega arith) (omega arith);
      second = row 517 (omega arith) (omega arith);
      third = row 522 (omega arith) (omega arith);
      fourth = row 527 (omega arith) (omega arith);
    }
  where
    row : (at : ℕ) → beds ≤ at → at + 4 < first_count → at_most 1 (row_at b at) ≡ true
    row at l h =
        let word : (k : ℕ) → beds ≤ k → k < first_count → get_or b k 0 ≤ 1 = rule_in_range b fits in
        five_at_most (word at l (omega arith)) (word (at + 1) (omega arith) (omega arith)) (word (at + 2) (omega arith) (omega arith)) (word (at + 3) (omega arith) (omega arith)) (word (at + 4) (omega arith) h)

-- and so does that of a table.
word_at_most : (n : ℕ) (ws : List ℕ) (office state : ℕ) → are_rows n ws ≡ true → word_in n ws office state ≤ 1
unfolding are_rows word_in
word_at_most zero ws office state e = omega arith
word_at_most (suc n) ws office state e =
    let (before, here) = both (are_rows n ws) (is_row ws n) e in
    go (is_for ws n office state) (leb-true (word_at ws n) 1 (both (leb (office_at ws n) last_office && leb (state_at ws n) last_state) _ here).1) (word_at_most n ws office state before)
  where
    go : (t : Bool) → word_at ws n ≤ 1 → word_in n ws office state ≤ 1 → cond t (word_at ws n) (word_in n ws office state) ≤ 1
    go true p q = p
    go false p q = q

-- the parts of a table
pub record IsTable (ws : List ℕ) : Type 0 where
  pub long : length ws ≡ 60
  pub rows : are_rows table_rows ws ≡ true

pub is_table_lem : (ws : List ℕ) → is_table ws ≡ true → IsTable ws
unfolding is_table
is_table_lem ws e =
    let two : Bool = eqb (length ws) 60 && are_rows table_rows ws in
    let sizes = (both two (each_once ws 0) (both (two && each_once ws 0) (each_once ws 1) (both (two && each_once ws 0 && each_once ws 1) (each_once ws 2) (both (two && each_once ws 0 && each_once ws 1 && each_once ws 2) (each_once ws 3) e).0).0).0).0 in
    let parts = both (eqb (length ws) 60) (are_rows table_rows ws) sizes in
    record { long = eqb-true _ 60 parts.0; rows = parts.1 }

pub table_counting : (ws : List ℕ) → is_table ws ≡ true → Counting (rules_in ws)
table_counting ws e = record { first = row 0; second = row 1; third = row 2; fourth = row 3 }
  where
    row : (office : ℕ) → at_most 1 (row_for ws office) ≡ true
    row office =
        let word : (state : ℕ) → rule_for ws office state ≤ 1 = λ state. word_at_most table_rows ws office state (is_table_lem ws e).rows in
        five_at_most (word 0) (word 1) (word 2) (word 3) (word 4)

-- Whether a test holds of each number below n.
abbrev pub all_below : (ℕ → Bool) → (n : ℕ) → Bool
all_below f zero = true
all_below f (suc n) = all_below f n && f n

module _ (f : ℕ → Bool) where
  pub all_below_true : (n : ℕ) → ((k : ℕ) → k < n → f k ≡ true) → all_below f n ≡ true
  all_below_true zero h = refl
  all_below_true (suc n) h = rw (all_below_true n (λ k l. h k (omega arith))) (h n (omega arith))

  not_at : (n k d : ℕ) → n ≡ suc (k + d) → f k ≡ false → all_below f n ≡ false
  not_at zero k d h e = absurd (omega arith)
  not_at (suc n) k zero h e = ap (λ (j : ℕ). all_below f n && f j) {x = n} {y = k} (omega arith) ∙ ap (λ (b : Bool). all_below f n && b) e ∙ and-false (all_below f n)
  not_at (suc n) k (suc d) h e = ap (λ (b : Bool). b && f n) (not_at n k d (omega arith) e)

  pub all_below_false : (n k : ℕ) → k < n → f k ≡ false → all_below f n ≡ false
  all_below_false n k h e = not_at n k (n - suc k) (omega arith) e
