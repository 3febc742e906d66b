-- Texts and what they print, as one table and one statement that the checker computes.
use Rattle.std.specs.Prelude.{◌≡◌, refl, List, [], ◌∷◌, ◌++◌, map, ℕ}
use Rattle.history.specs.Event.{decode}
use Rattle.history.specs.Form.{read}
use Rattle.equivalence.specs.Tests.{same_calls, keeps_precedence}
use Rattle.comparison.specs.Compared.{shared}
use Rattle.text.specs.Decimal.{digits_from, number_at, digits}
use Rattle.lines.specs.Lines.{numbers_from}
use Rattle.protocol.specs.Words.{space, newline, refused_word}
use Rattle.protocol.specs.Samples.{Sample, event, enqueue_starts, enqueue_ends, dequeue_starts, gives_item, bad}
use Rattle.two_recordings.specs.Report.{before_empty, same_calls_line, other_calls_line, kept_line, not_kept_line, printed_comparison, printed_second, printed_after, reported}

-- the empty line
abbrev pub blank_line : List ℕ
blank_line = newline ∷ []

-- `refused WHICH 1D`, by the digits' bytes
abbrev pub refusal : (which digit : ℕ) → List ℕ
refusal which digit = refused_word ++ (which ∷ space ∷ 49 ∷ digit ∷ newline ∷ [])

abbrev pub samples : List Sample
samples =
    -- no event in either; the same event in both, the last newline missing
    record { text = blank_line; printed = same_calls_line ++ kept_line }
    ∷ record { text = enqueue_starts ++ blank_line ++ (49 ∷ space ∷ 49 ∷ space ∷ 49 ∷ space ∷ 55 ∷ []); printed = same_calls_line ++ kept_line }
    -- the enqueue ends before the dequeue starts in the first alone, then in the second alone; the rest is of the first
    ∷ record {
      text = enqueue_starts ++ enqueue_ends ++ dequeue_starts ++ gives_item ++ blank_line ++ enqueue_starts ++ dequeue_starts ++ enqueue_ends ++ gives_item;
      printed = same_calls_line ++ kept_line ++ enqueue_ends ++ dequeue_starts ++ gives_item;
    }
    ∷ record {
      text = enqueue_starts ++ dequeue_starts ++ enqueue_ends ++ gives_item ++ blank_line ++ enqueue_starts ++ enqueue_ends ++ dequeue_starts ++ gives_item;
      printed = same_calls_line ++ not_kept_line ++ dequeue_starts ++ enqueue_ends ++ gives_item;
    }
    -- the second is longer by an end; a value that differs, and the rest of the longer one, the first
    ∷ record { text = enqueue_starts ++ blank_line ++ enqueue_starts ++ enqueue_ends; printed = other_calls_line ++ enqueue_ends }
    ∷ record { text = enqueue_starts ++ enqueue_ends ++ blank_line ++ event 49 49 49 56; printed = other_calls_line ++ enqueue_starts ++ enqueue_ends }
    -- kind 6 in the first, an end without its start in both; the second alone refused
    ∷ record { text = event 54 48 48 48 ++ blank_line ++ enqueue_ends; printed = refusal 49 50 }
    ∷ record { text = enqueue_ends ++ blank_line ++ enqueue_ends; printed = refusal 49 51 }
    ∷ record { text = enqueue_starts ++ blank_line ++ enqueue_ends; printed = refusal 50 51 }
    -- no empty line: nothing at all, and three good lines
    ∷ record { text = []; printed = bad 49 }
    ∷ record { text = enqueue_starts ++ dequeue_starts ++ enqueue_ends; printed = bad 52 }
    -- a bad line in both; in the second alone, counted on; another empty line
    ∷ record { text = dequeue_starts ++ (120 ∷ newline ∷ []) ++ blank_line ++ (120 ∷ []); printed = bad 50 }
    ∷ record { text = dequeue_starts ++ blank_line ++ dequeue_starts ++ (120 ∷ []); printed = bad 52 }
    ∷ record { text = dequeue_starts ++ blank_line ++ blank_line; printed = bad 51 }
    ∷ []

-- Every text of the table prints what the table says.
pub runs_as_written : map (λ x. reported x.text) samples ≡ map (λ x. x.printed) samples
unfolding reported printed_after printed_second printed_comparison before_empty shared same_calls keeps_precedence numbers_from digits_from number_at digits read decode
runs_as_written = refl
