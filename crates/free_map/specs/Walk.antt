-- The records one after the other: where a record's words are, and how far back the one before it is.
use Rattle.std.specs.Prelude.{◌≡◌, List, ℕ, ◌+◌, ◌-◌, ◌*◌, ◌≤◌, ◌<◌, length, get_or}
use Rattle.std.proofs.Common.{ap, ◌∙◌, add-mul, arith}
use Rattle.rules.specs.Sizes.{Sizes, first_record, record_words}
use Rattle.rules.specs.Cell.{place, used}
use Rattle.store.specs.Caps.{most_word}
use Rattle.store.specs.Store.{Admitted, Reads}
use Rattle.store.specs.Words.{reads_word, record_inside}

-- the first word of record r
abbrev pub first_word : Sizes → (r : ℕ) → ℕ
first_word z r = first_record z + r * record_words z

-- of the record before, and of the two before
module _ (z : Sizes) (r : ℕ) {at words : ℕ} (e : at ≡ first_word z r) (f : words ≡ record_words z) where
  pub one_back : 0 < r → (words ≤ at) × (at - words ≡ first_word z (r - 1))
  one_back h =
      let parts : r ≡ (r - 1) + 1 = omega arith in
      omega (arith, ap (λ (n : ℕ). n * record_words z) parts ∙ add-mul (r - 1) 1 (record_words z))

  pub two_back : 1 < r → (2 * words ≤ at) × (at - 2 * words ≡ first_word z (r - 2)) × (at - 2 * words + words ≡ first_word z (r - 2 + 1))
  two_back h =
      let parts : r ≡ (r - 2) + 2 = omega arith in
      omega (arith, ap (λ (n : ℕ). n * record_words z) parts ∙ add-mul (r - 2) 2 (record_words z), add-mul (r - 2) 1 (record_words z))

-- Record r begins at `at`: its words are there, and two of them are its place and its use.
module _ {z : Sizes} {m : List ℕ} {r at : ℕ} (a : Admitted z m) (h : r < z.N) (e : at ≡ first_word z r) where
  pub words_there : at + 4 ≤ length m
  words_there = omega (arith, record_inside z m r a.room h)

  pub reads_place : get_or m at 0 ≤ most_word → Reads z m (place r) (get_or m at 0)
  reads_place w = reads_word z m (place r) a (h, omega arith) at (omega arith) w

  pub reads_use : get_or m (at + 3) 0 ≤ most_word → Reads z m (used r) (get_or m (at + 3) 0)
  reads_use w = reads_word z m (used r) a (h, omega arith) (at + 3) (omega arith) w
