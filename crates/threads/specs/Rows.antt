-- The range tests as the code makes them, word by word: a word of a sort is one that is at most the sort's cap.
use Rattle.std.specs.Prelude.{◌≡◌, refl, Bool, true, false, ◌&&◌, cond, List, [], ◌∷◌, map, ℕ, zero, suc, ◌+◌, ◌*◌, ◌≤◌, ◌<◌, leb, eqb, length, get_or}
use Rattle.std.proofs.Common.{ap, ap₂, sym, ◌∙◌, arith, ne_eqb, le-leb}
use Rattle.std.proofs.lemmas.Bool.{lt-leb}
use Rattle.rules.specs.Sizes.{Sizes, most_steps, content_words, thread_words}
use Rattle.rules.specs.Cell.{reader, consumer, producer}
use Rattle.rules.specs.Range.{Sort, unused, exactly, number, link, record_number, most, any, nothing, of_sort, of_sorts, thread_in_range, producer_in_range, consumer_in_range, producer_sorts, consumer_sorts, idle_sorts, placed_sorts, front_sorts, cursor_sorts, last_producer_phase, last_consumer_phase}
use Rattle.rules.specs.Update.{both, true_false}
use Rattle.store.specs.Caps.{cap, most_word}
use Rattle.store.specs.Words.{word_at}
use Rattle.records.specs.Rows.{at_most, from}

-- sorts that are bounds
abbrev capped : Sort → Bool
capped unused = true
capped (exactly n) = false
capped number = true
capped link = true
capped record_number = false
capped (most n) = true
capped any = true
capped nothing = false

abbrev pub all_capped : List Sort → Bool
all_capped [] = true
all_capped (s ∷ ss) = capped s && all_capped ss

zero_test : (x : ℕ) → eqb x 0 ≡ leb x 0
zero_test zero = refl
zero_test (suc x) = ne_eqb (suc x) 0 (λ e. omega arith) ∙ sym (lt-leb (suc x) 0 (omega arith))

sort_test : (z : Sizes) (s : Sort) (x : ℕ) → capped s ≡ true → x ≤ most_word → of_sort z s x ≡ leb x (cap z s)
sort_test z unused x c w = zero_test x
sort_test z (exactly n) x c w = absurd (true_false c refl)
sort_test z number x c w = refl
sort_test z link x c w = refl
sort_test z record_number x c w = absurd (true_false c refl)
sort_test z (most n) x c w = refl
sort_test z any x c w = sym (le-leb x most_word w)
sort_test z nothing x c w = absurd (true_false c refl)

-- a row of sorts is a row of bounds
pub row_test : (z : Sizes) (σ row : ℕ → ℕ) (ss : List Sort) (k : ℕ) → all_capped ss ≡ true
    → ((j : ℕ) → j < k + length ss → (σ j ≡ row j) × (row j ≤ most_word))
    → of_sorts z σ k ss ≡ at_most row k (map (cap z) ss)
row_test z σ row [] k c h = refl
row_test z σ row (s ∷ ss) k c h =
    let e = h k (omega arith) in
    let d = both (capped s) (all_capped ss) c in
    ap₂ ◌&&◌ (ap (of_sort z s) e.0 ∙ sort_test z s (row k) d.0 e.1)
    (row_test z σ row ss (suc k) d.1 (λ j l. h j (omega arith)))

-- a thread's words in a phase
pub thread_test : (z : Sizes) (last : ℕ) (sorts : List (List Sort)) (σ row : ℕ → ℕ) (p : ℕ) (ss : List Sort) → σ 0 ≡ p → p ≤ last
    → get_or sorts p [] ≡ ss → all_capped ss ≡ true → length ss ≡ 7 → ((j : ℕ) → j < 8 → (σ j ≡ row j) × (row j ≤ most_word))
    → thread_in_range z last sorts σ ≡ at_most row 1 (map (cap z) ss)
thread_test z last sorts σ row p ss e l g c n h =
    rw (e, le-leb p last l, g) (row_test z σ row ss 1 c (λ j i. h j (omega arith)))

pub thread_past : (z : Sizes) (last : ℕ) (sorts : List (List Sort)) (σ : ℕ → ℕ) (p : ℕ) → σ 0 ≡ p → last < p → thread_in_range z last sorts σ ≡ false
thread_past z last sorts σ p e l = rw (e, lt-leb p last l) refl

-- the same of a producer and of the consumer, from the lent words
module _ (z : Sizes) (m : List ℕ) (fit : (j : ℕ) → get_or m j 0 ≤ most_word) where
  producer_phase : (t : ℕ) → (1 ≤ t) × (t ≤ z.P) → (p : ℕ) → get_or m (content_words + thread_words * t) 0 ≡ p → reader z m (producer t 0) ≡ p
  producer_phase t h p e = word_at z m (producer t 0) (h.0, h.1, omega arith) ∙ ap (λ (x : ℕ). get_or m x 0) (omega arith) ∙ e

  pub producer_row : (t : ℕ) → (1 ≤ t) × (t ≤ z.P) → (p : ℕ) (ss : List Sort) → get_or m (content_words + thread_words * t) 0 ≡ p → p ≤ last_producer_phase → get_or producer_sorts p [] ≡ ss
      → all_capped ss ≡ true → length ss ≡ 7 → producer_in_range z (reader z m) t ≡ at_most (from m (content_words + thread_words * t)) 1 (map (cap z) ss)
  producer_row t h p ss e l g c n =
      thread_test z last_producer_phase producer_sorts (λ j. reader z m (producer t j)) (from m (content_words + thread_words * t)) p ss (producer_phase t h p e) l g c n
      (λ j i. (word_at z m (producer t j) (h.0, h.1, i), fit (content_words + thread_words * t + j)))

  pub producer_past : (t : ℕ) → (1 ≤ t) × (t ≤ z.P) → (p : ℕ) → get_or m (content_words + thread_words * t) 0 ≡ p → last_producer_phase < p → producer_in_range z (reader z m) t ≡ false
  producer_past t h p e l = thread_past z last_producer_phase producer_sorts (λ j. reader z m (producer t j)) p (producer_phase t h p e) l

  -- phase 1
  pub producer_out : (t : ℕ) → (1 ≤ t) × (t ≤ z.P) → get_or m (content_words + thread_words * t) 0 ≡ 1 → producer_in_range z (reader z m) t ≡ false
  producer_out t h e = rw (producer_phase t h 1 e) refl

  pub consumer_row : (p : ℕ) (ss : List Sort) → get_or m content_words 0 ≡ p → p ≤ last_consumer_phase → get_or consumer_sorts p [] ≡ ss
      → all_capped ss ≡ true → length ss ≡ 7 → consumer_in_range z (reader z m) ≡ at_most (from m content_words) 1 (map (cap z) ss)
  consumer_row p ss e l g c n =
      thread_test z last_consumer_phase consumer_sorts (λ j. reader z m (consumer j)) (from m content_words) p ss (word_at z m (consumer 0) (omega arith) ∙ e) l g c n
      (λ j i. (word_at z m (consumer j) i, fit (content_words + j)))

  -- the consumer's phases up to 2
  pub front_row : (p : ℕ) → get_or m content_words 0 ≡ p → p < 3
      → consumer_in_range z (reader z m) ≡ at_most (from m content_words) 1 (0 ∷ 0 ∷ 0 ∷ 0 ∷ 0 ∷ 0 ∷ cond (eqb p 0) 0 most_steps ∷ [])
  front_row zero e h = consumer_row 0 idle_sorts e (omega arith) refl refl refl
  front_row (suc zero) e h = consumer_row 1 front_sorts e (omega arith) refl refl refl
  front_row (suc (suc zero)) e h = consumer_row 2 front_sorts e (omega arith) refl refl refl
  front_row (suc (suc (suc p))) e h = absurd (omega arith)

  pub consumer_past : (p : ℕ) → get_or m content_words 0 ≡ p → last_consumer_phase < p → consumer_in_range z (reader z m) ≡ false
  consumer_past p e l = thread_past z last_consumer_phase consumer_sorts (λ j. reader z m (consumer j)) p (word_at z m (consumer 0) (omega arith) ∙ e) l

-- the producer's phases but 0, 1, 5, 10 and 11; the consumer's 3 and 4
pub placed_phase : (p : ℕ) → p ≤ last_producer_phase → (p ≡ 0 → ⊥) → (p ≡ 1 → ⊥) → (p ≡ 5 → ⊥) → (p ≡ 10 → ⊥) → (p ≡ 11 → ⊥) → get_or producer_sorts p [] ≡ placed_sorts
placed_phase zero h a b c d e = absurd (a refl)
placed_phase (suc zero) h a b c d e = absurd (b refl)
placed_phase (suc (suc zero)) h a b c d e = refl
placed_phase (suc (suc (suc zero))) h a b c d e = refl
placed_phase (suc (suc (suc (suc zero)))) h a b c d e = refl
placed_phase (suc (suc (suc (suc (suc zero))))) h a b c d e = absurd (c refl)
placed_phase (suc (suc (suc (suc (suc (suc zero)))))) h a b c d e = refl
placed_phase (suc (suc (suc (suc (suc (suc (suc zero))))))) h a b c d e = refl
placed_phase (suc (suc (suc (suc (suc (suc (suc (suc zero)))))))) h a b c d e = refl
placed_phase (suc (suc (suc (suc (suc (suc (suc (suc (suc zero))))))))) h a b c d e = refl
placed_phase (suc (suc (suc (suc (suc (suc (suc (suc (suc (suc zero)))))))))) h a b c d e = absurd (d refl)
placed_phase (suc (suc (suc (suc (suc (suc (suc (suc (suc (suc (suc zero))))))))))) h a b c d e = absurd (e refl)
placed_phase (suc (suc (suc (suc (suc (suc (suc (suc (suc (suc (suc (suc p)))))))))))) h a b c d e = absurd (omega arith)

pub cursor_phase : (p : ℕ) → 3 ≤ p → p < 5 → get_or consumer_sorts p [] ≡ cursor_sorts
cursor_phase zero l h = absurd (omega arith)
cursor_phase (suc zero) l h = absurd (omega arith)
cursor_phase (suc (suc zero)) l h = absurd (omega arith)
cursor_phase (suc (suc (suc zero))) l h = refl
cursor_phase (suc (suc (suc (suc zero)))) l h = refl
cursor_phase (suc (suc (suc (suc (suc p))))) l h = absurd (omega arith)
