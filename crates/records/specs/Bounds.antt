-- The bounds of a record's words as one row, so that the code compares word by word, and the range test of a record from it.
use Rattle.std.specs.Prelude.{◌≡◌, Bool, true, false, ◌&&◌, List, [], ◌∷◌, leb, length, set}
use Rattle.std.proofs.Math.Path.{refl, ap}
use Rattle.std.proofs.Common.{ap₂, sym, ◌∙◌, arith, le-leb}
use Rattle.std.proofs.Math.Bool.{and-true, and_assoc}
use Prim.Native.Nat.{ℕ, zero, suc, ◌+◌, ◌-◌, ◌*◌, ◌≤◌, ◌<◌}
use Rattle.std.proofs.Math.Decide.{dec_lt}
use Rattle.std.proofs.Math.ListN.{get_or, length-set}
use Rattle.std.proofs.Math.Seq.{get_or-set_same, get_or-set_other}
use Rattle.rules.specs.Sizes.{Sizes, most_place, first_record, record_words}
use Rattle.rules.specs.Cell.{Cell, reader, address, part, entry}
use Rattle.rules.specs.Range.{every, of_sorts, part_sorts, entry_sorts, record_in_range}
use Rattle.rules.specs.Address.{There}
use Rattle.rules.specs.InRange.{every_at, every_of}
use Rattle.records.specs.Rows.{every_same, at_most, from}
use Rattle.store.specs.Caps.{most_word}
use Rattle.store.specs.Words.{word_at}

-- a row with the bounds of place, next, prev and use
abbrev pub part_bounds : List ℕ → Sizes → List ℕ
part_bounds row z = set (set (set (set row 0 most_place) 1 z.N) 2 z.N) 3 3

-- a row with the bounds of state and call number of the first n entries, m the most that a call number may be
unfoldable pub entry_bounds : List ℕ → (m n : ℕ) → List ℕ
entry_bounds row m zero = row
entry_bounds row m (suc n) = set (set (entry_bounds row m n) (4 + 3 * n) 2) (5 + 3 * n) m

abbrev pub bounds : List ℕ → Sizes → ℕ → List ℕ
bounds row z n = entry_bounds (part_bounds row z) z.M n

-- What holds of a row of bounds: state, call number and value of each entry stand after the four parts.
pub record Bounded (z : Sizes) (b : List ℕ) : Type 0 where
  pub enough : 3 * z.B + 4 ≤ length b
  pub of_place : get_or b 0 0 ≡ most_place
  pub of_next : get_or b 1 0 ≡ z.N
  pub of_prev : get_or b 2 0 ≡ z.N
  pub of_use : get_or b 3 0 ≡ 3
  pub of_state : (i : ℕ) → i < z.B → get_or b (4 + 3 * i) 0 ≡ 2
  pub of_number : (i : ℕ) → i < z.B → get_or b (5 + 3 * i) 0 ≡ z.M
  pub of_value : (i : ℕ) → i < z.B → get_or b (6 + 3 * i) 0 ≡ most_word

-- the words of a row, each at most its bound
abbrev pub word_test : (m b : List ℕ) (at j : ℕ) → Bool
word_test m b at j = leb (get_or m (at + j) 0) (get_or b j 0)

pub length_bounds : (row : List ℕ) (m n : ℕ) → length (entry_bounds row m n) ≡ length row
unfolding entry_bounds
length_bounds row m zero = refl
length_bounds row m (suc n) = simp length-set (length_bounds row m n)

pub length_row : (row : List ℕ) (z : Sizes) (n : ℕ) → length (bounds row z n) ≡ length row
length_row row z n = length_bounds (part_bounds row z) z.M n ∙ simp length-set refl

-- A row that allows any word becomes a row of bounds.
module _ (row : List ℕ) (z : Sizes) (fits : 3 * z.B + 4 ≤ length row) (All-any : (j : ℕ) → j < 3 * z.B + 4 → get_or row j 0 ≡ most_word) where
  abbrev after : ℕ → List ℕ
  after n = bounds row z n

  -- a bound that no entry's state or call number has
  kept : (n j : ℕ) → ((i : ℕ) → (j ≡ 4 + 3 * i → ⊥) × (j ≡ 5 + 3 * i → ⊥)) → get_or (after n) j 0 ≡ get_or (part_bounds row z) j 0
  unfolding entry_bounds
  kept zero j h = refl
  kept (suc n) j h =
      get_or-set_other (set (after n) (4 + 3 * n) 2) (5 + 3 * n) j z.M 0 (h n).1 ∙ get_or-set_other (after n) (4 + 3 * n) j 2 0 (h n).0 ∙ kept n j h

  part_kept : (n k x : ℕ) → k < 4 → get_or (part_bounds row z) k 0 ≡ x → get_or (after n) k 0 ≡ x
  part_kept n k x l e = kept n k (λ i. (λ p. omega arith, λ p. omega arith)) ∙ e

  value : (n i : ℕ) → i < z.B → get_or (after n) (6 + 3 * i) 0 ≡ most_word
  value n i l =
      kept n (6 + 3 * i) (λ k. (λ e. omega arith, λ e. omega arith))
      ∙ get_or-set_other (set (set (set row 0 most_place) 1 z.N) 2 z.N) 3 (6 + 3 * i) 3 0 (λ e. omega arith)
      ∙ get_or-set_other (set (set row 0 most_place) 1 z.N) 2 (6 + 3 * i) z.N 0 (λ e. omega arith)
      ∙ get_or-set_other (set row 0 most_place) 1 (6 + 3 * i) z.N 0 (λ e. omega arith)
      ∙ get_or-set_other row 0 (6 + 3 * i) most_place 0 (λ e. omega arith)
      ∙ All-any (6 + 3 * i) (omega arith)

  state : (n i : ℕ) → i < n → n ≤ z.B → get_or (after n) (4 + 3 * i) 0 ≡ 2
  unfolding entry_bounds
  state zero i l h = absurd (omega arith)
  state (suc n) i l h =
      get_or-set_other (set (after n) (4 + 3 * n) 2) (5 + 3 * n) (4 + 3 * i) z.M 0 (λ e. omega arith) ∙ go (dec_lt i n) (λ k. state n i k (omega arith))
    where
      go : Dec (i < n) → (i < n → get_or (after n) (4 + 3 * i) 0 ≡ 2) → get_or (set (after n) (4 + 3 * n) 2) (4 + 3 * i) 0 ≡ 2
      go (yes k) rest = get_or-set_other (after n) (4 + 3 * n) (4 + 3 * i) 2 0 (λ e. omega arith) ∙ rest k
      go (no k) rest =
          ap (λ (x : ℕ). get_or (set (after n) (4 + 3 * n) 2) x 0) (omega arith)
          ∙ get_or-set_same (after n) (4 + 3 * n) 2 0 (omega (arith, length_row row z n))

  number : (n i : ℕ) → i < n → n ≤ z.B → get_or (after n) (5 + 3 * i) 0 ≡ z.M
  unfolding entry_bounds
  number zero i l h = absurd (omega arith)
  number (suc n) i l h = go (dec_lt i n) (λ k. number n i k (omega arith))
    where
      go : Dec (i < n) → (i < n → get_or (after n) (5 + 3 * i) 0 ≡ z.M)
          → get_or (set (set (after n) (4 + 3 * n) 2) (5 + 3 * n) z.M) (5 + 3 * i) 0 ≡ z.M
      go (yes k) rest =
          get_or-set_other (set (after n) (4 + 3 * n) 2) (5 + 3 * n) (5 + 3 * i) z.M 0 (λ e. omega arith)
          ∙ get_or-set_other (after n) (4 + 3 * n) (5 + 3 * i) 2 0 (λ e. omega arith)
          ∙ rest k
      go (no k) rest =
          ap (λ (x : ℕ). get_or (set (set (after n) (4 + 3 * n) 2) (5 + 3 * n) z.M) x 0) (omega arith)
          ∙ get_or-set_same (set (after n) (4 + 3 * n) 2) (5 + 3 * n) z.M 0 (simp length-set (omega (arith, length_row row z n)))

  pub bounded : Bounded z (bounds row z z.B)
  bounded =
      record {
        enough = omega (arith, length_row row z z.B);
        of_place = part_kept z.B 0 most_place (omega arith) place;
        of_next = part_kept z.B 1 z.N (omega arith) next;
        of_prev = part_kept z.B 2 z.N (omega arith) prev;
        of_use = part_kept z.B 3 3 (omega arith) last;
        of_state = λ i l. state z.B i l (omega arith);
        of_number = λ i l. number z.B i l (omega arith);
        of_value = λ i l. value z.B i l;
      }
    where
      -- a part's bound, and those written after it
      place : get_or (part_bounds row z) 0 0 ≡ most_place
      place =
          get_or-set_other (set (set (set row 0 most_place) 1 z.N) 2 z.N) 3 0 3 0 (λ e. omega arith)
          ∙ get_or-set_other (set (set row 0 most_place) 1 z.N) 2 0 z.N 0 (λ e. omega arith)
          ∙ get_or-set_other (set row 0 most_place) 1 0 z.N 0 (λ e. omega arith)
          ∙ get_or-set_same row 0 most_place 0 (omega arith)

      next : get_or (part_bounds row z) 1 0 ≡ z.N
      next =
          get_or-set_other (set (set (set row 0 most_place) 1 z.N) 2 z.N) 3 1 3 0 (λ e. omega arith)
          ∙ get_or-set_other (set (set row 0 most_place) 1 z.N) 2 1 z.N 0 (λ e. omega arith)
          ∙ get_or-set_same (set row 0 most_place) 1 z.N 0 (simp length-set (omega arith))

      prev : get_or (part_bounds row z) 2 0 ≡ z.N
      prev =
          get_or-set_other (set (set (set row 0 most_place) 1 z.N) 2 z.N) 3 2 3 0 (λ e. omega arith)
          ∙ get_or-set_same (set (set row 0 most_place) 1 z.N) 2 z.N 0 (simp length-set (omega arith))

      last : get_or (part_bounds row z) 3 0 ≡ 3
      last = get_or-set_same (set (set (set row 0 most_place) 1 z.N) 2 z.N) 3 3 0 (simp length-set (omega arith))

-- a row of four words and n times three
by_entries : (q : ℕ → Bool) (n : ℕ)
    → every (3 * n + 4) q ≡ ((q 0 && (q 1 && (q 2 && q 3))) && every n (λ i. q (4 + 3 * i) && (q (5 + 3 * i) && q (6 + 3 * i))))
by_entries q zero = simp (and_assoc, and-true)
by_entries q (suc n) =
    ap (λ (k : ℕ). every k q) {x = 3 * suc n + 4} {y = suc (suc (suc (3 * n + 4)))} (omega arith)
    ∙ three (every (3 * n + 4) q) (q 0 && (q 1 && (q 2 && q 3))) (every n (λ i. q (4 + 3 * i) && (q (5 + 3 * i) && q (6 + 3 * i))))
    (by_entries q n)
    (ap q {x = 3 * n + 4} {y = 4 + 3 * n} (omega arith))
    (ap q {x = suc (3 * n + 4)} {y = 5 + 3 * n} (omega arith))
    (ap q {x = suc (suc (3 * n + 4))} {y = 6 + 3 * n} (omega arith))
  where
    three : (a b c : Bool) → a ≡ (b && c) → {x y w x' y' w' : Bool} → x ≡ x' → y ≡ y' → w ≡ w' → (a && x && y && w) ≡ (b && (c && (x' && (y' && w'))))
    three a b c e f g h = rw (e, f, g, h) (simp and_assoc)

-- Record r, which begins at word `at`, is in range exactly when its parts and each entry's state and call number are; a value may
-- be any word.
pub words_test : (z : Sizes) (m : List ℕ) (r at : ℕ) → r < z.N → at ≡ first_record z + r * record_words z
    → record_in_range z (reader z m) r
    ≡ (at_most (from m at) 0 (most_place ∷ z.N ∷ z.N ∷ 3 ∷ []) && every z.B (λ i. at_most (from m (at + 4 + 3 * i)) 0 (2 ∷ z.M ∷ [])))
words_test z m r at h e = ap₂ ◌&&◌ parts (every_same z.B _ _ entries)
  where
    word : (c : Cell) → There z c → (j : ℕ) → j ≡ address z c → (x : ℕ) → leb (reader z m c) x ≡ leb (get_or m j 0) x
    word c t j i x = ap (λ y. leb y x) (word_at z m c t ∙ ap (λ (y : ℕ). get_or m y 0) (sym i))

    parts : of_sorts z (λ k. reader z m (part r k)) 0 part_sorts ≡ at_most (from m at) 0 (most_place ∷ z.N ∷ z.N ∷ 3 ∷ [])
    parts =
        ap₂ ◌&&◌ (word (part r 0) (h, omega arith) (at + 0) (omega arith) most_place)
        (ap₂ ◌&&◌ (word (part r 1) (h, omega arith) (at + 1) (omega arith) z.N)
        (ap₂ ◌&&◌ (word (part r 2) (h, omega arith) (at + 2) (omega arith) z.N) (ap (λ x. x && true) (word (part r 3) (h, omega arith) (at + 3) (omega arith) 3))))

    entries : (i : ℕ) → i < z.B
        → of_sorts z (λ k. reader z m (entry r i k)) 0 entry_sorts ≡ at_most (from m (at + 4 + 3 * i)) 0 (2 ∷ z.M ∷ [])
    entries i l =
        ap₂ ◌&&◌ (word (entry r i 0) (h, l, omega arith) (at + 4 + 3 * i + 0) (omega arith) 2)
        (ap (λ x. x && true) (word (entry r i 1) (h, l, omega arith) (at + 4 + 3 * i + 1) (omega arith) z.M))

-- A record's words one by one are a row of words, each at most its bound.
module _ (z : Sizes) (m b : List ℕ) (is : Bounded z b) (r at : ℕ) (h : r < z.N) (e : at ≡ first_record z + r * record_words z) where
  pub record_test : ((j : ℕ) → get_or m j 0 ≤ most_word) → record_in_range z (reader z m) r ≡ every (3 * z.B + 4) (word_test m b at)
  record_test fit = words_test z m r at h e ∙ ap₂ ◌&&◌ parts (every_same z.B _ _ entries) ∙ sym (by_entries q z.B)
    where
      q : ℕ → Bool
      q = word_test m b at

      bound : (j k x : ℕ) → j ≡ at + k → get_or b k 0 ≡ x → leb (get_or m j 0) x ≡ q k
      bound j k x i p = ap₂ leb (ap (λ (y : ℕ). get_or m y 0) i) (sym p)

      parts : at_most (from m at) 0 (most_place ∷ z.N ∷ z.N ∷ 3 ∷ []) ≡ (q 0 && (q 1 && (q 2 && q 3)))
      parts =
          ap₂ ◌&&◌ (bound (at + 0) 0 most_place refl is.of_place)
          (ap₂ ◌&&◌ (bound (at + 1) 1 z.N refl is.of_next)
          (ap₂ ◌&&◌ (bound (at + 2) 2 z.N refl is.of_prev) (and-true _ ∙ bound (at + 3) 3 3 refl is.of_use)))

      entries : (i : ℕ) → i < z.B → at_most (from m (at + 4 + 3 * i)) 0 (2 ∷ z.M ∷ []) ≡ (q (4 + 3 * i) && (q (5 + 3 * i) && q (6 + 3 * i)))
      entries i l =
          ap₂ ◌&&◌ (bound (at + 4 + 3 * i + 0) (4 + 3 * i) 2 (omega arith) (is.of_state i l))
          (ap₂ ◌&&◌ (bound (at + 4 + 3 * i + 1) (5 + 3 * i) z.M (omega arith) (is.of_number i l))
          (sym (rw (is.of_value i l) (le-leb (get_or m (at + (6 + 3 * i)) 0) most_word (fit (at + (6 + 3 * i)))))))

-- two rows at a time
pub every_both : (n : ℕ) (p q : ℕ → Bool) → every n (λ i. p i && q i) ≡ (every n p && every n q)
every_both zero p q = refl
every_both (suc n) p q = rw (every_both n p q) (four (every n p) (every n q) (p n) (q n))
  where
    four : (a b x y : Bool) → ((a && b) && (x && y)) ≡ ((a && x) && (b && y))
    four true b true y = refl
    four true true false y = refl
    four true false false y = refl
    four false b x y = refl

-- the first numbers beside the last, which overlap or meet
pub every_halves : (h k : ℕ) → k ≤ h → (p : ℕ → Bool) → every h (λ i. p i && p (i + k)) ≡ every (h + k) p
every_halves h k l p =
    every_both h p (λ i. p (i + k)) ∙ same (every h p) (every h (λ i. p (i + k))) (every (h + k) p)
    (λ x y. every_of (h + k) p (λ i m. go i m x y (dec_lt i h)))
    (λ w. every_of h p (λ i m. every_at (h + k) p w i (omega arith)))
    (λ w. every_of h (λ i. p (i + k)) (λ i m. every_at (h + k) p w (i + k) (omega arith)))
  where
    go : (i : ℕ) → i < h + k → every h p ≡ true → every h (λ i. p (i + k)) ≡ true → Dec (i < h) → p i ≡ true
    go i m x y (yes s) = every_at h p x i s
    go i m x y (no s) = ap p {x = i} {y = i - k + k} (omega arith) ∙ every_at h (λ i. p (i + k)) y (i - k) (omega arith)

    same : (a b c : Bool) → (a ≡ true → b ≡ true → c ≡ true) → (c ≡ true → a ≡ true) → (c ≡ true → b ≡ true) → (a && b) ≡ c
    same true true c f g h = sym (f refl refl)
    same true false true f g h = h refl
    same true false false f g h = refl
    same false b true f g h = g refl
    same false b false f g h = refl
