-- The range test of the contents as the code makes it, word by word.
use Rattle.std.specs.Prelude.{◌≡◌, refl, ◌&&◌, List, ℕ, ◌+◌, ◌<◌, leb, get_or, drop}
use Rattle.std.proofs.Common.{ap, sym, arith, eq-eqb}
use Rattle.rules.specs.Sizes.{Sizes, content_words, last_claimed_word, all_handled_word, first_spare}
use Rattle.rules.specs.Cell.{reader, content, last_claimed, all_handled, spare, consumer}
use Rattle.rules.specs.Range.{of_sort, of_sorts, contents_in_range, content_sorts, last_claimed_sort, spare_sorts, most_all_handled}
use Rattle.rules.specs.Request.{sizes_of}
use Rattle.store.specs.Words.{word_at}

-- contents word by word, words 0 to 3 being the sizes
pub contents_test : (z : Sizes) (m : List ℕ) → z ≡ sizes_of m
    → contents_in_range z (reader z m)
    ≡ (of_sorts z (λ k. get_or m k 0) 4 (drop 4 (content_sorts z)) && (of_sort z last_claimed_sort (get_or m last_claimed_word 0) && (leb (get_or m all_handled_word 0) (most_all_handled (get_or m content_words 0)) && of_sorts z (λ k. get_or m (first_spare + k) 0) 0 spare_sorts)))
contents_test z m e =
    rw (word 0 (omega arith), word 1 (omega arith), word 2 (omega arith), word 3 (omega arith), word 4 (omega arith), word 5 (omega arith), word 6 (omega arith), word 7 (omega arith), word 8 (omega arith), word 9 (omega arith), word 10 (omega arith), word_at z m last_claimed tt, word_at z m all_handled tt, word_at z m (consumer 0) (omega arith), spared 0 (omega arith), spared 1 (omega arith), spared 2 (omega arith), eq-eqb (get_or m 0 0) z.B (sym (ap (λ (y : Sizes). y.B) e)), eq-eqb (get_or m 1 0) z.N (sym (ap (λ (y : Sizes). y.N) e)), eq-eqb (get_or m 2 0) z.P (sym (ap (λ (y : Sizes). y.P) e)), eq-eqb (get_or m 3 0) z.M (sym (ap (λ (y : Sizes). y.M) e))) refl
  where
    word : (k : ℕ) → k < last_claimed_word → reader z m (content k) ≡ get_or m k 0
    word k h = word_at z m (content k) h

    spared : (k : ℕ) → first_spare + k < content_words → reader z m (spare k) ≡ get_or m (first_spare + k) 0
    spared k h = word_at z m (spare k) h
