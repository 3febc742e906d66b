-- The ranges of one thread's words by name, taken apart and put together by its phase.
use Rattle.std.specs.Prelude.{◌≡◌, Bool, true, List, [], ◌∷◌, ℕ, zero, suc, ◌≤◌, ◌<◌, leb, length, get_or}
use Rattle.std.proofs.Math.Path.{refl, subst⁻¹}
use Rattle.std.proofs.Common.{subst, arith, le-leb, leb-true, eq-eqb, eqb-true}
use Rattle.std.proofs.lemmas.Bool.{false≢true}
use Rattle.std.proofs.Math.Decide.{dec_lt}
use Rattle.rules.specs.Sizes.{Sizes}
use Rattle.rules.specs.Range.{Sort, unused, exactly, number, link, record_number, most, any, nothing, producer_sorts, consumer_sorts, last_producer_phase, last_consumer_phase, of_sort, of_sorts, every, thread_in_range}
use Rattle.rules.specs.InRange.{every_at, sorts_at, sorts_of}
use Rattle.rules.specs.Update.{and_true, both}

-- What it is to be of a sort.
abbrev pub OfSort : Sizes → Sort → ℕ → Type 0
OfSort z unused x = x ≡ 0
OfSort z (exactly n) x = x ≡ n
OfSort z number x = x ≤ z.M
OfSort z link x = x ≤ z.N
OfSort z record_number x = (1 ≤ x) × (x ≤ z.N)
OfSort z (most n) x = x ≤ n
OfSort z any x = Unit
OfSort z nothing x = ⊥

pub of_sort_lem : (z : Sizes) (s : Sort) (x : ℕ) → OfSort z s x → of_sort z s x ≡ true
of_sort_lem z unused x h = eq-eqb x 0 h
of_sort_lem z (exactly n) x h = eq-eqb x n h
of_sort_lem z number x h = le-leb x z.M h
of_sort_lem z link x h = le-leb x z.N h
of_sort_lem z record_number x h = and_true (le-leb 1 x h.0) (le-leb x z.N h.1)
of_sort_lem z (most n) x h = le-leb x n h
of_sort_lem z any x h = refl
of_sort_lem z nothing x h = absurd h

pub has_sort : (z : Sizes) (s : Sort) (x : ℕ) → of_sort z s x ≡ true → OfSort z s x
has_sort z unused x e = eqb-true x 0 e
has_sort z (exactly n) x e = eqb-true x n e
has_sort z number x e = leb-true x z.M e
has_sort z link x e = leb-true x z.N e
has_sort z record_number x e = let p = both (leb 1 x) (leb x z.N) e in (leb-true 1 x p.0, leb-true x z.N p.1)
has_sort z (most n) x e = leb-true x n e
has_sort z any x e = tt
has_sort z nothing x e = absurd (false≢true e)

-- words k, k + 1, .. of a row: the contents
abbrev pub OfSorts : Sizes → (ℕ → ℕ) → ℕ → List Sort → Type 0
OfSorts z row k [] = Unit
OfSorts z row k (s ∷ ss) = OfSort z s (row k) × OfSorts z row (suc k) ss

pub of_sorts_lem : (z : Sizes) (row : ℕ → ℕ) (k : ℕ) (ss : List Sort) → OfSorts z row k ss → of_sorts z row k ss ≡ true
of_sorts_lem z row k [] h = refl
of_sorts_lem z row k (s ∷ ss) h = and_true (of_sort_lem z s (row k) h.0) (of_sorts_lem z row (suc k) ss h.1)

-- a row's words, one by one
past_end : (ss : List Sort) (j : ℕ) → length ss ≤ j → get_or ss j any ≡ any
past_end [] j h = refl
past_end (s ∷ ss) zero h = absurd (omega arith)
past_end (s ∷ ss) (suc j) h = past_end ss j (omega arith)

module _ (z : Sizes) (row : ℕ → ℕ) (ss : List Sort) where
  words_has : of_sorts z row 1 ss ≡ true → (j : ℕ) → OfSort z (get_or ss j any) (row (suc j))
  words_has e j = go (dec_lt j (length ss))
    where
      go : Dec (j < length ss) → OfSort z (get_or ss j any) (row (suc j))
      go (yes l) = has_sort z (get_or ss j any) (row (suc j)) (sorts_at z row 1 ss e j (suc j) l (omega arith))
      go (no l) = rw (past_end ss j (omega arith)) tt

  words_of : (n : ℕ) → length ss ≤ n → ((j : ℕ) → j < n → OfSort z (get_or ss j any) (row (suc j))) → of_sorts z row 1 ss ≡ true
  words_of n few each =
      sorts_of z row 1 ss
      (λ j i l q.
      let e : i ≡ suc j = omega arith in
      rw e (of_sort_lem z (get_or ss j any) (row (suc j)) (each j (omega arith))))

-- Words 1 to 7 of a producer, each of its sort.
pub record ProducerWords (z : Sizes) (row : ℕ → ℕ) (ss : List Sort) : Type 0 where
  pub call : OfSort z (get_or ss 0 any) (row 1)
  pub value : OfSort z (get_or ss 1 any) (row 2)
  pub position : OfSort z (get_or ss 2 any) (row 3)
  pub held : OfSort z (get_or ss 3 any) (row 4)
  pub claimed : OfSort z (get_or ss 4 any) (row 5)
  pub backed : OfSort z (get_or ss 5 any) (row 6)
  pub steps : OfSort z (get_or ss 6 any) (row 7)

-- Words 1 to 7 of the consumer.
pub record ConsumerWords (z : Sizes) (row : ℕ → ℕ) (ss : List Sort) : Type 0 where
  pub cursor_record : OfSort z (get_or ss 0 any) (row 1)
  pub cursor_position : OfSort z (get_or ss 1 any) (row 2)
  pub found_record : OfSort z (get_or ss 2 any) (row 3)
  pub found_position : OfSort z (get_or ss 3 any) (row 4)
  pub item_number : OfSort z (get_or ss 4 any) (row 5)
  pub item_value : OfSort z (get_or ss 5 any) (row 6)
  pub steps : OfSort z (get_or ss 6 any) (row 7)

-- no phase has more than seven words
few_words : List (List Sort) → ℕ → Bool
few_words table p = leb (length (get_or table p [])) 7

-- what holds of 0 to 6
seven : (Q : ℕ → Type 0) → Q 0 → Q 1 → Q 2 → Q 3 → Q 4 → Q 5 → Q 6 → (j : ℕ) → j < 7 → Q j
seven Q a b c d e f g zero h = a
seven Q a b c d e f g (suc zero) h = b
seven Q a b c d e f g (suc (suc zero)) h = c
seven Q a b c d e f g (suc (suc (suc zero))) h = d
seven Q a b c d e f g (suc (suc (suc (suc zero)))) h = e
seven Q a b c d e f g (suc (suc (suc (suc (suc zero))))) h = f
seven Q a b c d e f g (suc (suc (suc (suc (suc (suc zero)))))) h = g
seven Q a b c d e f g (suc (suc (suc (suc (suc (suc (suc j))))))) h = absurd (omega arith)

module _ (z : Sizes) (last : ℕ) (table : List (List Sort)) (row : ℕ → ℕ) where
  -- A thread's words in range: its phase is listed, and its words are of that phase's sorts.
  row_has : thread_in_range z last table row ≡ true → (p : ℕ) → row 0 ≡ p → (j : ℕ) → OfSort z (get_or (get_or table p []) j any) (row (suc j))
  row_has e p q =
      words_has z row (get_or table p [])
      (subst (λ (x : ℕ). of_sorts z row 1 (get_or table x []) ≡ true) q (both (leb (row 0) last) (of_sorts z row 1 (get_or table (row 0) [])) e).1)

  row_of : every (suc last) (few_words table) ≡ true → (p : ℕ) → row 0 ≡ p → p ≤ last
      → ((j : ℕ) → j < 7 → OfSort z (get_or (get_or table p []) j any) (row (suc j))) → thread_in_range z last table row ≡ true
  unfolding few_words
  row_of few p q l each =
      and_true (le-leb (row 0) last (rw q l))
      (subst⁻¹ (λ (x : ℕ). of_sorts z row 1 (get_or table x []) ≡ true) q
      (words_of z row (get_or table p []) 7 (leb-true (length (get_or table p [])) 7 (every_at (suc last) (few_words table) few p (omega arith))) each))

module _ (z : Sizes) (row : ℕ → ℕ) where
  pub producer_row_has : thread_in_range z last_producer_phase producer_sorts row ≡ true → (p : ℕ) → row 0 ≡ p → ProducerWords z row (get_or producer_sorts p [])
  producer_row_has e p q =
      let w = row_has z last_producer_phase producer_sorts row e p q in
      record { call = w 0; value = w 1; position = w 2; held = w 3; claimed = w 4; backed = w 5; steps = w 6 }

  pub producer_row_of : (p : ℕ) → row 0 ≡ p → p ≤ last_producer_phase → ProducerWords z row (get_or producer_sorts p []) → thread_in_range z last_producer_phase producer_sorts row ≡ true
  unfolding few_words
  producer_row_of p q l w =
      row_of z last_producer_phase producer_sorts row refl p q l
      (seven (λ j. OfSort z (get_or (get_or producer_sorts p []) j any) (row (suc j)))
      w.call w.value w.position w.held w.claimed w.backed w.steps)

  pub consumer_row_has : thread_in_range z last_consumer_phase consumer_sorts row ≡ true → (p : ℕ) → row 0 ≡ p → ConsumerWords z row (get_or consumer_sorts p [])
  consumer_row_has e p q =
      let w = row_has z last_consumer_phase consumer_sorts row e p q in
      record { cursor_record = w 0; cursor_position = w 1; found_record = w 2; found_position = w 3; item_number = w 4; item_value = w 5; steps = w 6 }

  pub consumer_row_of : (p : ℕ) → row 0 ≡ p → p ≤ last_consumer_phase → ConsumerWords z row (get_or consumer_sorts p []) → thread_in_range z last_consumer_phase consumer_sorts row ≡ true
  unfolding few_words
  consumer_row_of p q l w =
      row_of z last_consumer_phase consumer_sorts row refl p q l
      (seven (λ j. OfSort z (get_or (get_or consumer_sorts p []) j any) (row (suc j)))
      w.cursor_record w.cursor_position w.found_record w.found_position w.item_number w.item_value w.steps)
