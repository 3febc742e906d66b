-- The words of a board after its parts were written: which stay, and what the others are.
use Rattle.std.specs.Prelude.{◌≡◌, refl, List, [], ◌∷◌, ◌++◌, ℕ, zero, suc, ◌+◌, ◌-◌, ◌≤◌, ◌<◌, length, get_or, take, set}
use Rattle.std.proofs.Common.{ap, ap₂, ◌∙◌, arith, length-set, get_or-set_same, get_or-set_other}
use Rattle.std.proofs.lemmas.List.Edits.{sets}
use Rattle.std.proofs.Math.Seq.{length-sets}
use Rattle.std.proofs.lemmas.List.{take-set-le}
use Rattle.census_rules.specs.Board.{beds, first_count, board_words, states_on, Row, Rules, row_of, row_at, rules_on, with_rules, count_on, with_counts}

-- Some words set, one after the other from one on.
pub sets_below : (vs l : List ℕ) (i k : ℕ) → k < i → get_or (sets l i vs) k 0 ≡ get_or l k 0
sets_below [] l i k h = refl
sets_below (v ∷ vs) l i k h = sets_below vs (set l i v) (suc i) k (omega arith) ∙ get_or-set_other l i k v 0 (λ e. omega arith)

pub sets_above : (vs l : List ℕ) (i k : ℕ) → i + length vs ≤ k → get_or (sets l i vs) k 0 ≡ get_or l k 0
sets_above [] l i k h = refl
sets_above (v ∷ vs) l i k h = sets_above vs (set l i v) (suc i) k (omega arith) ∙ get_or-set_other l i k v 0 (λ e. omega arith)

pub sets_at : (vs l : List ℕ) (i j k : ℕ) → k ≡ i + j → j < length vs → i + length vs ≤ length l → get_or (sets l i vs) k 0 ≡ get_or vs j 0
sets_at [] l i j k e h fits = absurd (omega arith)
sets_at (v ∷ vs) l i zero k e h fits =
    ap (λ (x : ℕ). get_or (sets (set l i v) (suc i) vs) x 0) {x = k} {y = i} (omega arith)
    ∙ sets_below vs (set l i v) (suc i) i (omega arith)
    ∙ get_or-set_same l i v 0 (omega arith)
sets_at (v ∷ vs) l i (suc j) k e h fits = sets_at vs (set l i v) (suc i) j k (omega arith) (omega arith) (simp length-set (omega arith))

pub take_sets : (vs l : List ℕ) (n i : ℕ) → n ≤ i → take n (sets l i vs) ≡ take n l
take_sets [] l n i h = refl
take_sets (v ∷ vs) l n i h = take_sets vs (set l i v) n (suc i) (omega arith) ∙ take-set-le n l i v h

-- A list of four, by its elements.
pub list_of_four : {A : Type 0} (xs : List A) (z : A) {a b c d : A} → length xs ≡ 4 → get_or xs 0 z ≡ a → get_or xs 1 z ≡ b → get_or xs 2 z ≡ c → get_or xs 3 z ≡ d
    → xs ≡ a ∷ b ∷ c ∷ d ∷ []
list_of_four [] z l p q r s = absurd (omega arith)
list_of_four (w ∷ []) z l p q r s = absurd (omega arith)
list_of_four (w ∷ x ∷ []) z l p q r s = absurd (omega arith)
list_of_four (w ∷ x ∷ y ∷ []) z l p q r s = absurd (omega arith)
list_of_four (v ∷ w ∷ x ∷ y ∷ []) z l p q r s = cc
list_of_four (u ∷ v ∷ w ∷ x ∷ y ∷ xs) z l p q r s = absurd (omega arith)

-- The counts, and the twenty words of a rule table, are such words.
abbrev pub four : List ℕ → List ℕ
four counts = get_or counts 0 0 ∷ get_or counts 1 0 ∷ get_or counts 2 0 ∷ get_or counts 3 0 ∷ []

abbrev pub five : Row → List ℕ
five r = get_or r 0 0 ∷ get_or r 1 0 ∷ get_or r 2 0 ∷ get_or r 3 0 ∷ get_or r 4 0 ∷ []

abbrev pub twenty : Rules → List ℕ
twenty t = five (row_of t 0) ++ (five (row_of t 1) ++ (five (row_of t 2) ++ five (row_of t 3)))

-- Five words from one on that are those of another list from another one on.
same_row : (x y : List ℕ) (at j : ℕ) → ((k l i : ℕ) → k ≡ at + i → l ≡ j + i → i < 5 → get_or x k 0 ≡ get_or y l 0) → row_at x at ≡ row_at y j
same_row x y at j same =
    let a = same at j 0 (omega arith) (omega arith) (omega arith) in
    let b = same (at + 1) (j + 1) 1 refl refl (omega arith) in
    let c = same (at + 2) (j + 2) 2 refl refl (omega arith) in
    let d = same (at + 3) (j + 3) 3 refl refl (omega arith) in
    let e = same (at + 4) (j + 4) 4 refl refl (omega arith) in
    cc

module _ (b counts : List ℕ) where
  pub counts_long : length (with_counts b counts) ≡ length b
  counts_long = length-sets b first_count (four counts)

  pub counts_below : (k : ℕ) → k < first_count → get_or (with_counts b counts) k 0 ≡ get_or b k 0
  counts_below k h = sets_below (four counts) b first_count k h

  pub counts_leave_states : states_on (with_counts b counts) ≡ states_on b
  counts_leave_states = take_sets (four counts) b beds first_count (omega arith)

  pub counts_at : length b ≡ board_words → (office : ℕ) → office < 4 → count_on (with_counts b counts) office ≡ get_or (four counts) office 0
  counts_at long office h = sets_at (four counts) b first_count office (first_count + office) refl h (omega arith)

module _ (b : List ℕ) (t : Rules) where
  pub rules_long : length (with_rules b t) ≡ length b
  rules_long = length-sets b beds (twenty t)

  pub rules_leave_states : states_on (with_rules b t) ≡ states_on b
  rules_leave_states = take_sets (twenty t) b beds beds (omega arith)

  pub rules_word : length b ≡ board_words → (k : ℕ) → beds ≤ k → k < first_count → get_or (with_rules b t) k 0 ≡ get_or (twenty t) (k - beds) 0
  rules_word long k l h = sets_at (twenty t) b beds (k - beds) k (omega arith) (omega arith) (omega arith)

  pub rules_at : length b ≡ board_words → rules_on (with_rules b t) ≡ five (row_of t 0) ∷ five (row_of t 1) ∷ five (row_of t 2) ∷ five (row_of t 3) ∷ []
  rules_at long =
      ap₂ ◌∷◌ (row 0 512 (omega arith) (omega arith))
      (ap₂ ◌∷◌ (row 5 517 (omega arith) (omega arith)) (ap₂ ◌∷◌ (row 10 522 (omega arith) (omega arith)) (ap (λ (r : Row). r ∷ []) (row 15 527 (omega arith) (omega arith)))))
    where
      row : (j at : ℕ) → at ≡ beds + j → j < 16 → row_at (with_rules b t) at ≡ row_at (twenty t) j
      row j at e h = same_row (with_rules b t) (twenty t) at j (λ k l i p q g. sets_at (twenty t) b beds l k (omega arith) (omega arith) (omega arith))

-- Boards with the same words in the table have the same rule table.
pub same_rules : (b b' : List ℕ) → ((k : ℕ) → beds ≤ k → k < first_count → get_or b' k 0 ≡ get_or b k 0) → rules_on b' ≡ rules_on b
same_rules b b' same =
    ap₂ ◌∷◌ (row 512 (omega arith) (omega arith))
    (ap₂ ◌∷◌ (row 517 (omega arith) (omega arith)) (ap₂ ◌∷◌ (row 522 (omega arith) (omega arith)) (ap (λ (r : Row). r ∷ []) (row 527 (omega arith) (omega arith)))))
  where
    row : (at : ℕ) → beds ≤ at → at + 4 < first_count → row_at b' at ≡ row_at b at
    row at l h = same_row b' b at at (λ k m i p q g. same k (omega arith) (omega arith) ∙ ap (λ (x : ℕ). get_or b x 0) (omega arith))
