-- Runs of the program, as one table and one statement that the checker computes.
use Rattle.std.specs.Prelude.{◌≡◌, refl, List, [], ◌∷◌, ◌++◌, map, ℕ}
use Rattle.text.specs.Decimal.{digits_from, number_at, digits}
use Rattle.criterion.specs.Pass.{explains}
use Rattle.rules.specs.Cell.{reader, writes}
use Rattle.rules.specs.Range.{in_range}
use Rattle.rules.specs.Free.{free, next_free}
use Rattle.rules.specs.Producer.{load_tail, look_next, claim_record, link_claimed, shift_tail, go_back, write_entry, set_entry, claim_ahead, link_ahead, producer_step}
use Rattle.rules.specs.Consumer.{front, read_tail, scan, read_entry, rescan, read_item, mark_handled, retire_head, consumer_step}
use Rattle.rules.specs.Request.{applied, opened, open_store, starting_enqueue, starting_dequeue, phase_step, counted, stepping, effect, admitted, result}
use Rattle.protocol.specs.Words.{ok_line, going_line, end_word, empty_word, bad_line, explained_line}
use Rattle.protocol.specs.Line.{lines_of, starts_with, field_at, last_at, open_line, enqueue_line, step_line, dequeue_line, parse_line}
use Rattle.protocol.specs.Printed.{printed}
use Rattle.session.specs.Session.{blank, opening, calling, run_lines, output}

pub record Trial : Type 0 where
  pub input : List ℕ
  pub printed : List ℕ

-- "open 2 2 1 9", "d", "e 1 7", "s 0" and "s 1", each with its newline
abbrev pub open_2_2_1_9 : List ℕ
open_2_2_1_9 = 111 ∷ 112 ∷ 101 ∷ 110 ∷ 32 ∷ 50 ∷ 32 ∷ 50 ∷ 32 ∷ 49 ∷ 32 ∷ 57 ∷ 10 ∷ []

abbrev pub d : List ℕ
d = 100 ∷ 10 ∷ []

abbrev pub e_1_7 : List ℕ
e_1_7 = 101 ∷ 32 ∷ 49 ∷ 32 ∷ 55 ∷ 10 ∷ []

abbrev pub s_0 : List ℕ
s_0 = 115 ∷ 32 ∷ 48 ∷ 10 ∷ []

abbrev pub s_1 : List ℕ
s_1 = 115 ∷ 32 ∷ 49 ∷ 10 ∷ []

abbrev pub table : List Trial
table =
    -- the printed run, with `empty 2` and `end 4` (document 02, U3); *start enqueue* is the first of the four (U8)
    record {
      input = open_2_2_1_9 ++ d ++ s_0 ++ s_0 ++ e_1_7 ++ s_1 ++ s_1 ++ s_1;
      printed =
          ok_line
          ++ ok_line
          ++ going_line
          ++ (empty_word ++ (50 ∷ 10 ∷ []))
          ++ (111 ∷ 107 ∷ 32 ∷ 49 ∷ 10 ∷ [])
          ++ going_line
          ++ going_line
          ++ (end_word ++ (52 ∷ 10 ∷ []))
          ++ explained_line;
    }
    -- no line
    ∷ record { input = []; printed = explained_line }
    -- a call before any open gives 3
    ∷ record { input = d; printed = (114 ∷ 101 ∷ 102 ∷ 117 ∷ 115 ∷ 101 ∷ 100 ∷ 32 ∷ 51 ∷ 10 ∷ []) ++ explained_line }
    -- a bad line, "s 00", after two replies; nothing is printed after it
    ∷ record { input = open_2_2_1_9 ++ d ++ (115 ∷ 32 ∷ 48 ∷ 48 ∷ 10 ∷ []) ++ s_0; printed = ok_line ++ ok_line ++ bad_line }
    -- the empty line is bad
    ∷ record { input = 10 ∷ []; printed = bad_line }
    -- the last line may lack its newline
    ∷ record { input = open_2_2_1_9 ++ (100 ∷ []); printed = ok_line ++ ok_line ++ explained_line }
    ∷ []

-- Every run of the table prints what the table says.
pub runs_as_written : map (λ t. output t.input) table ≡ map (λ t. t.printed) table
unfolding output blank run_lines opening calling lines_of starts_with field_at last_at open_line enqueue_line step_line dequeue_line parse_line printed digits_from number_at digits explains result admitted applied effect starting_enqueue starting_dequeue phase_step counted stepping open_store opened reader writes in_range free next_free load_tail look_next claim_record link_claimed shift_tail go_back write_entry set_entry claim_ahead link_ahead producer_step front read_tail scan read_entry rescan read_item mark_handled retire_head consumer_step
runs_as_written = refl
