-- What C gets of the comparison: the number that is returned, and every word of the reply.
use Rattle.std.specs.Prelude.{◌≡◌, List, ℕ, min, set}
use Rattle.comparison.specs.declared.Recording.{Recording}
use Rattle.comparison.specs.declared.Recording.TheVariants.{First, Second}
use Rattle.comparison.specs.declared.Rest.{Rest}
use Rattle.comparison.specs.Compared.{Reply, Refused, SameCalls, OtherCalls, Comparison, compared}

-- 0 for same calls, 1 for other calls, or the refusal's number.
abbrev pub number_of : Reply → ℕ
number_of (Refused r n) = n
number_of SameCalls = 0
number_of OtherCalls = 1

-- 1 for the first recording, 2 for the second.
abbrev pub recording_number : Recording → ℕ
recording_number First = 1
recording_number Second = 2

-- On a refusal word 0 says which recording was refused.
abbrev pub with_refused : Reply → List ℕ → List ℕ
with_refused (Refused r n) said = set said 0 (recording_number r)
with_refused SameCalls said = said
with_refused OtherCalls said = said

-- the largest number that a word holds
abbrev pub most_word : ℕ
most_word = 4294967295

-- Word 1 says which recording the rest is of, word 2 the word of it at which the rest begins, or the largest number where that is more.
abbrev pub with_rest : Rest → List ℕ → List ℕ
with_rest rest said = set (set said 1 (recording_number rest.recording)) 2 (min rest.from most_word)

abbrev pub reply_words : Comparison → List ℕ → List ℕ
reply_words c said = with_rest c.rest (with_refused c.reply said)

-- The comparison of two recordings' words: the number, and the reply's words after those before.
pub record Replies (xs ys said said' : List ℕ) (r : ℕ) : Type 0 where
  pub replies : r ≡ number_of (compared xs ys).reply
  pub says : said' ≡ reply_words (compared xs ys) said
