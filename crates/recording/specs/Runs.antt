-- Recordings and what they print, as one table and one statement that the checker computes.
use Rattle.std.specs.Prelude.{◌≡◌, refl, List, [], ◌∷◌, ◌++◌, map, ℕ}
use Rattle.history.specs.Event.{decode}
use Rattle.history.specs.Form.{read}
use Rattle.criterion.specs.Pass.{explains}
use Rattle.criterion.specs.Order.{ordered, order_numbers}
use Rattle.text.specs.Decimal.{digits_from, number_at, digits}
use Rattle.lines.specs.Lines.{numbers_from}
use Rattle.protocol.specs.Words.{space, newline, refused_word, explained_line, unexplained_line}
use Rattle.protocol.specs.Samples.{Sample, event, enqueue_starts, enqueue_ends, dequeue_starts, gives_item, gives_empty, bad}
use Rattle.recording.specs.Report.{order_word, reported}

-- "order", the bytes of its numbers, and a newline
abbrev pub order : List ℕ → List ℕ
order numbers = order_word ++ (numbers ++ (newline ∷ []))

abbrev pub samples : List Sample
samples =
    -- no event; an item of an enqueue that is under way; empty after an enqueue has ended
    record { text = []; printed = explained_line ++ order [] }
    ∷ record { text = enqueue_starts ++ dequeue_starts ++ gives_item; printed = explained_line ++ order (space ∷ 49 ∷ space ∷ 50 ∷ []) }
    ∷ record { text = enqueue_starts ++ enqueue_ends ++ dequeue_starts ++ gives_empty; printed = unexplained_line }
    -- enqueues 1 and 2 at one time, then a dequeue gives item 2: the second enqueue, the first, the dequeue
    ∷ record {
      text = enqueue_starts ++ event 49 50 50 56 ++ enqueue_ends ++ event 50 50 50 56 ++ dequeue_starts ++ event 52 48 50 56;
      printed = explained_line ++ order (space ∷ 50 ∷ space ∷ 49 ∷ space ∷ 51 ∷ []);
    }
    -- kind 6; an end without its start
    ∷ record { text = event 54 48 48 48; printed = refused_word ++ (49 ∷ 50 ∷ newline ∷ []) }
    ∷ record { text = enqueue_ends; printed = refused_word ++ (49 ∷ 51 ∷ newline ∷ []) }
    -- three numbers; two spaces; the empty line; the same on the second line; a fifth number; no fourth number on the third line
    ∷ record { text = 51 ∷ space ∷ 48 ∷ space ∷ 48 ∷ newline ∷ []; printed = bad 49 }
    ∷ record { text = 51 ∷ space ∷ space ∷ 48 ∷ space ∷ 48 ∷ space ∷ 48 ∷ newline ∷ []; printed = bad 49 }
    ∷ record { text = newline ∷ []; printed = bad 49 }
    ∷ record { text = dequeue_starts ++ (newline ∷ []); printed = bad 50 }
    ∷ record { text = dequeue_starts ++ (53 ∷ space ∷ 48 ∷ space ∷ 48 ∷ space ∷ 48 ∷ space ∷ 48 ∷ newline ∷ []); printed = bad 50 }
    ∷ record { text = dequeue_starts ++ gives_empty ++ (51 ∷ space ∷ 48 ∷ space ∷ 48 ∷ []); printed = bad 51 }
    ∷ []

-- Every recording of the table prints what the table says.
pub runs_as_written : map (λ x. reported x.text) samples ≡ map (λ x. x.printed) samples
unfolding reported numbers_from digits_from number_at digits read decode explains ordered order_numbers
runs_as_written = refl
