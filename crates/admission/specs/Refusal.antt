-- Refusals 2 and 3 as one number: the first test of admission that fails, 0 where none does.
use Rattle.std.specs.Prelude.{◌≡◌, not, cond, List, ℕ, ltb, length, Result, MatchResult}
use Rattle.rules.specs.Sizes.{sizes_in_range, store_words, content_words}
use Rattle.rules.specs.Cell.{reader}
use Rattle.rules.specs.Range.{in_range}
use Rattle.rules.specs.Request.{sizes_of}
use Rattle.store.specs.declared.Refusal.{Refusal}
use Rattle.store.specs.declared.Shape.{Shape}
use Rattle.store.specs.Refusal.{refusal_number}
use Rattle.store.specs.Shape.{sizes}
use Rattle.store.specs.Store.{Admitted}

-- 2: store shorter than 16 words. 3: words 0 to 3 out of range. 2: shorter than its sizes need. 3: another word out of range.
unfoldable pub refusal : List ℕ → ℕ
refusal m =
    cond (ltb (length m) content_words) 2
    (cond (not (sizes_in_range (sizes_of m))) 3
    (cond (ltb (length m) (store_words (sizes_of m))) 2
    (cond (not (in_range (sizes_of m) (reader (sizes_of m) m))) 3 0)))

-- What admission gives: the sizes that words 0 to 3 give, where no test fails, so that the words are admitted with them; else the refusal of
-- that number.
pub record Goes (m : List ℕ) (z : Shape) : Type 0 where
  pub shape : sizes z ≡ sizes_of m
  pub none : refusal m ≡ 0
  pub admitted : Admitted (sizes z) m

abbrev pub Admits : (words : List ℕ) → Result Shape Refusal → Type 0
Admits m x = MatchResult x (Goes m) (λ e. refusal m ≡ refusal_number e)
