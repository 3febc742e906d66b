-- How many steps an enqueue makes (document 02, U4), computed: runs in which its producer is stepped more often than it can make steps.
use Rattle.std.specs.Prelude.{◌≡◌, List, [], ◌∷◌, ◌++◌, map, ℕ, ◌+◌, ◌*◌, replicate}
use Rattle.rules.specs.Sizes.{Sizes, store_words}
use Rattle.rules.specs.Cell.{reader, writes}
use Rattle.rules.specs.Free.{free, next_free}
use Rattle.rules.specs.Producer.{load_tail, look_next, claim_record, link_claimed, shift_tail, go_back, write_entry, set_entry, claim_ahead, link_ahead, producer_step}
use Rattle.rules.specs.Consumer.{front, read_tail, scan, read_entry, rescan, read_item, mark_handled, retire_head, consumer_step}
use Rattle.rules.specs.Request.{Request, start_enqueue, start_dequeue, step, Invocation, applied, opened, starting_enqueue, starting_dequeue, starting_drain, phase_step, counted, stepping, effect}
use Rattle.rules.specs.Play.{Played, steps_made}
use Rattle.rules.specs.Quick.{quick_steps, steps_are}
use Rattle.rules.specs.Runs.{sized, times, plain, filled}

-- Calls after an open, and the accepted steps of the enqueue that a producer has under way, if it is then stepped 5 × P + N + 7 times.
pub record Length : Type 0 where
  pub sizes : Sizes
  pub requests : List Request
  pub thread : ℕ
  pub made : ℕ

-- the calls, and what stands before them
abbrev calls : Length → List Invocation
calls l = let z = l.sizes in map plain (l.requests ++ times (5 * z.P + z.N + 7) (step l.thread))

abbrev opened_as : Length → Played
opened_as l = record { words = opened l.sizes (replicate (store_words l.sizes) 0); replies = []; history = [] }

unfoldable pub accepted_steps : Length → ℕ
accepted_steps l = steps_made l.thread (calls l) (opened_as l) 0

-- The same, quicker to compute.
unfoldable pub quick_length : Length → ℕ
unfolding applied effect starting_enqueue starting_dequeue starting_drain phase_step counted stepping opened reader writes free next_free load_tail look_next claim_record link_claimed shift_tail go_back write_entry set_entry claim_ahead link_ahead producer_step front read_tail scan read_entry rescan read_item mark_handled retire_head consumer_step
quick_length l = quick_steps l.thread (calls l) (opened_as l) 0

pub length_is : (l : Length) → accepted_steps l ≡ quick_length l
unfolding accepted_steps quick_length
length_is l = steps_are l.thread (calls l) (opened_as l) 0

abbrev pub lengths : List Length
lengths =
    -- A producer stopped between phases 5 and 6 stalls nobody: producer 1 has linked a record and not moved the tail record; producer 3 moves
    -- it. 9 of 24.
    record {
      sizes = sized 2 3 3 9;
      requests =
          start_enqueue 1 10
          ∷ times 3 (step 1)
          ++ (start_enqueue 2 11 ∷ times 2 (step 2))
          ++ (start_enqueue 1 12 ∷ times 4 (step 1))
          ++ (start_enqueue 3 13 ∷ []);
      thread = 3;
      made = 9;
    }
    -- Phase 7 goes back: producer 3 takes 0 and stops while three records are linked. It goes back from the third. 6 of 25.
    ∷ record {
      sizes = sized 2 4 3 9;
      requests =
          start_enqueue 3 30
          ∷ start_enqueue 1 10
          ∷ times 5 (step 1)
          ++ (start_enqueue 1 11 ∷ times 6 (step 1))
          ++ (start_enqueue 1 12 ∷ times 5 (step 1))
          ++ (start_enqueue 1 13 ∷ times 6 (step 1));
      thread = 3;
      made = 6;
    }
    -- The longest of these sizes, 11 of 18: all records are full when the enqueue at 3 looks for one to link ahead. Producer 2 takes 4 and stops,
    -- producer 1 takes 5, makes a round on its own with the record that two dequeues let go, and links ahead with the next.
    ∷ record {
      sizes = sized 2 2 2 6;
      requests =
          filled
          ++ (start_enqueue 2 20 ∷ start_enqueue 1 14 ∷ [])
          ++ (start_dequeue ∷ times 3 (step 0))
          ++ (start_dequeue ∷ times 4 (step 0))
          ++ times 5 (step 1)
          ++ (start_dequeue ∷ times 3 (step 0))
          ++ (start_dequeue ∷ times 4 (step 0));
      thread = 1;
      made = 11;
    }
    -- A step refused with 8 isn't accepted: nothing is dequeued, and the fifth enqueue waits in phase 4.
    ∷ record {
      sizes = sized 2 2 1 9;
      requests = filled ++ (start_enqueue 1 14 ∷ []);
      thread = 1;
      made = 3;
    }
    ∷ []
