-- Further runs, computed: that the rules do all that the theorems speak of, and what the traps of document 01 would get wrong.
use Rattle.std.specs.Prelude.{◌≡◌, List, [], ◌∷◌, ◌++◌, map, ℕ, suc, replicate}
use Rattle.rules.specs.Sizes.{Sizes, store_words}
use Rattle.rules.specs.Cell.{Write, writes, ◌:=◌, last_claimed, tail, tail_record, head_position, starts, consumer_phase, found_record, found_position, item_number, item_value, phase, call as number, value, position, held, claimed, backed, enqueue_steps, step_count, place, next, used}
use Rattle.rules.specs.Rule.{Response, refused, accepted, ok, started, going, ended, empty, item}
use Rattle.rules.specs.Request.{Request, start_enqueue, start_dequeue, step, opened}
use Rattle.rules.specs.Runs.{Trial, sized, times, plain, first, goings, ends, begun, call, placed, enqueue, filled, filled_replies, replies_to, quick_replies, replies_to_lem}
use Rattle.rules.specs.Single.{Single}

abbrev pub witnesses : List Trial
witnesses =
    -- Items, an empty answer, a retired record that a stopped producer holds (so none is free: 8), and its reuse once it is let
    -- go. Producer 1 stops in phase 3 holding record 0; that record is drained and retired.
    record {
      words = 190;
      sizes = sized 2 2 2 9;
      requests =
          start_enqueue 2 10
          ∷ times 3 (step 2)
          ++ (start_enqueue 2 11 ∷ times 5 (step 2))
          ++ (start_enqueue 1 12 ∷ times 1 (step 1))
          ++ (start_dequeue ∷ times 3 (step 0))
          ++ (start_dequeue ∷ times 3 (step 0))
          ++ (start_dequeue ∷ times 1 (step 0))
          ++ (start_enqueue 2 13 ∷ times 7 (step 2))
          ++ (start_dequeue ∷ times 8 (step 0))
          ++ (start_enqueue 2 14 ∷ times 3 (step 2))
          ++ times 5 (step 1)
          ++ times 6 (step 2);
      replies =
          first ok
          ∷ enqueue 1 4
          ++ enqueue 2 6
          ++ placed 3 2
          ++ call ok 2 (item 1 10)
          ++ call ok 2 (item 2 11)
          ++ call ok 0 empty
          ++ enqueue 4 8
          ++ call ok 7 (item 4 13)
          ++ placed 5 3
          ++ (refused 8 ∷ [])
          ++ ends 2 4 ended
          ++ ends 3 5 ended;
    }
    -- A producer stopped between phases 5 and 6 stalls nobody: producer 1 has linked a record and not moved the tail record;
    -- producer 3 moves it, and ends.
    ∷ record {
      words = 208;
      sizes = sized 2 3 3 9;
      requests =
          start_enqueue 1 10
          ∷ times 3 (step 1)
          ++ (start_enqueue 2 11 ∷ times 2 (step 2))
          ++ (start_enqueue 1 12 ∷ times 4 (step 1))
          ++ (start_enqueue 3 13 ∷ times 8 (step 3));
      replies = first ok ∷ enqueue 1 4 ++ placed 2 3 ++ placed 3 5 ++ enqueue 4 9;
    }
    -- The scan passes an empty and a handled entry and crosses into the next record.
    ∷ record {
      words = 200;
      sizes = sized 2 3 2 9;
      requests =
          start_enqueue 1 10
          ∷ times 2 (step 1)
          ++ (start_enqueue 2 11 ∷ times 5 (step 2))
          ++ (start_dequeue ∷ times 7 (step 0))
          ++ (start_enqueue 2 12 ∷ times 6 (step 2))
          ++ (start_dequeue ∷ times 11 (step 0));
      replies =
          first ok
          ∷ placed 1 3
          ++ enqueue 2 6
          ++ call ok 6 (item 2 11)
          ++ enqueue 3 7
          ++ call ok 10 (item 3 12);
    }
    -- Phase 7. Producers 3 and 2 take 0 and 1 and stop; producer 1 takes 2, links a record and moves the tail record. Producers 3 and 2
    -- then load the second record, go back to the first, write and end: producer 2 at index 1, since phase 7 was taken.
    ∷ record {
      words = 218;
      sizes = sized 2 4 3 9;
      requests =
          start_enqueue 3 30
          ∷ start_enqueue 2 20
          ∷ start_enqueue 1 10
          ∷ times 5 (step 1)
          ++ times 4 (step 3)
          ++ times 4 (step 2);
      replies =
          first ok ∷ placed 1 1 ++ placed 2 1 ++ placed 3 6 ++ ends 1 3 ended ++ ends 1 3 ended;
    }
    -- Phase 5 gives back. Producer 3, at position 2, claims the third record after producer 1 has linked the second, and gives it back;
    -- so producer 1 finds it free in phase 10.
    ∷ record {
      words = 208;
      sizes = sized 2 3 3 9;
      requests =
          start_enqueue 3 30
          ∷ times 3 (step 3)
          ++ (start_enqueue 2 20 ∷ start_enqueue 3 31 ∷ times 2 (step 3))
          ++ (start_enqueue 1 10 ∷ times 7 (step 1))
          ++ times 2 (step 3)
          ++ times 2 (step 1);
      replies =
          first ok
          ∷ enqueue 1 4
          ++ placed 2 1
          ++ placed 3 3
          ++ placed 4 8
          ++ goings 3 2
          ++ goings 8 2;
    }
    -- Phase 11 gives back. Producer 3 has set position 1 and stands before phase 10 while producer 1 links a record for position 2. What
    -- producer 3 then claims it gives back, and finds free in phase 10 of its next enqueue.
    ∷ record {
      words = 208;
      sizes = sized 2 3 3 9;
      requests =
          start_enqueue 1 10
          ∷ times 3 (step 1)
          ++ (start_enqueue 3 30 ∷ times 3 (step 3))
          ++ (start_enqueue 1 11 ∷ times 5 (step 1))
          ++ times 2 (step 3)
          ++ (start_enqueue 3 31 ∷ times 4 (step 3));
      replies =
          first ok ∷ enqueue 1 4 ++ placed 2 4 ++ placed 3 6 ++ ends 4 1 ended ++ placed 4 5;
    }
    -- Handled advances the head. The item at 1 is taken while 0 is empty, then the one at 0; the next dequeue passes 1 and answers empty
    -- at the record's end.
    ∷ record {
      words = 200;
      sizes = sized 2 3 2 9;
      requests =
          start_enqueue 2 20
          ∷ times 1 (step 2)
          ++ (start_enqueue 1 10 ∷ times 3 (step 1))
          ++ (start_dequeue ∷ times 5 (step 0))
          ++ times 2 (step 2)
          ++ times 2 (step 0)
          ++ (start_dequeue ∷ times 3 (step 0))
          ++ (start_dequeue ∷ times 2 (step 0));
      replies =
          first ok
          ∷ placed 1 2
          ++ placed 2 4
          ++ begun ok 5
          ++ ends 2 1 ended
          ++ ends 5 1 (item 2 10)
          ++ call ok 2 (item 1 20)
          ++ call ok 1 empty;
    }
    -- The scan answers empty at the tail, and at the end of the tail record.
    ∷ record {
      words = 182;
      sizes = sized 2 2 1 9;
      requests = start_enqueue 1 10 ∷ start_dequeue ∷ times 3 (step 0);
      replies = first ok ∷ placed 1 1 ++ call ok 2 empty;
    }
    ∷ record {
      words = 208;
      sizes = sized 2 3 3 9;
      requests = start_enqueue 3 30 ∷ start_enqueue 1 10 ∷ start_dequeue ∷ times 5 (step 0);
      replies = first ok ∷ placed 1 1 ++ placed 2 1 ++ call ok 4 empty;
    }
    -- The rescan returns to the head. The item at 2 is found, 0 is passed while it is empty, 1 is set before it is read and found in
    -- its place, and 0 is set before it is read again: item 1.
    ∷ record {
      words = 210;
      sizes = sized 4 2 3 9;
      requests =
          start_enqueue 1 10
          ∷ times 2 (step 1)
          ++ (start_enqueue 2 20 ∷ times 2 (step 2))
          ++ (start_enqueue 3 30 ∷ times 3 (step 3))
          ++ (start_dequeue ∷ times 7 (step 0))
          ++ (step 2 ∷ step 0 ∷ step 1 ∷ times 3 (step 0));
      replies =
          first ok
          ∷ placed 1 3
          ++ placed 2 3
          ++ enqueue 3 4
          ++ begun ok 7
          ++ goings 3 1
          ++ goings 7 1
          ++ ends 3 0 ended
          ++ ends 8 2 (item 1 10);
    }
    -- A drained record is let go (document 02, U2). Two records are full, and the fifth enqueue meets 8. The dequeue that takes the head
    -- record's last item goes to phase 8, which retires it: with no further dequeue the producer claims it and ends.
    ∷ record {
      words = 182;
      sizes = sized 2 2 1 9;
      requests =
          filled
          ++ (start_enqueue 1 14 ∷ times 3 (step 1))
          ++ (start_dequeue ∷ times 3 (step 0))
          ++ (step 1 ∷ start_dequeue ∷ times 4 (step 0))
          ++ times 6 (step 1)
          ++ (start_dequeue ∷ times 3 (step 0));
      replies =
          first ok
          ∷ filled_replies
          ++ placed 5 3
          ++ (refused 8 ∷ [])
          ++ call ok 2 (item 1 10)
          ++ (refused 8 ∷ [])
          ++ call ok 3 (item 2 11)
          ++ ends 3 5 ended
          ++ call ok 2 (item 3 12);
    }
    -- Refusals 4, 5 and 7 in their order: idle threads, threads that are not there, and threads with a call under way, the producer when
    -- no start is left (5, not 6).
    ∷ record {
      words = 182;
      sizes = sized 2 2 1 1;
      requests =
          step 0
          ∷ step 1
          ∷ step 2
          ∷ start_enqueue 0 7
          ∷ start_enqueue 2 7
          ∷ start_enqueue 1 7
          ∷ start_enqueue 1 8
          ∷ start_dequeue
          ∷ start_dequeue
          ∷ [];
      replies =
          first ok
          ∷ refused 7
          ∷ refused 7
          ∷ refused 4
          ∷ refused 4
          ∷ refused 4
          ∷ accepted (started 1) 1
          ∷ refused 5
          ∷ first ok
          ∷ refused 5
          ∷ [];
    }
    ∷ []

-- Calls on a store that the engine did not write: an opened one, where some cells were then written.
pub record Probe : Type 0 where
  pub sizes : Sizes
  pub cells : List Write
  pub requests : List Request
  pub replies : List Response

unfoldable pub probe : Probe → List Response
probe p = replies_to (map plain p.requests) (writes p.sizes (opened p.sizes (replicate (store_words p.sizes) 0)) p.cells)

unfoldable pub quick_probe : Probe → List Response
unfolding quick_replies opened writes
quick_probe p = quick_replies (map plain p.requests) (writes p.sizes (opened p.sizes (replicate (store_words p.sizes) 0)) p.cells)

pub probe_is : (p : Probe) → probe p ≡ quick_probe p
unfolding probe quick_probe
probe_is p = replies_to_lem (map plain p.requests) _

-- the consumer in phase 8 with item 3 7, and these cells
abbrev retiring : List Write → List Write
retiring ws = consumer_phase := 8 ∷ item_number := 3 ∷ item_value := 7 ∷ ws

abbrev pub probes : List Probe
probes =
    -- A claimed record is held: record 1 is retired, and producer 2 has claimed it. Producer 1 finds none free.
    record {
      sizes = sized 2 2 2 9;
      cells = used 1 := 3 ∷ phase 1 := 4 ∷ held 1 := 1 ∷ phase 2 := 5 ∷ held 2 := 1 ∷ claimed 2 := 2 ∷ [];
      requests = step 1 ∷ [];
      replies = refused 8 ∷ [];
    }
    -- Phase 8 with no next, a next of no place, and one whose first position is past M.
    ∷ record { sizes = sized 2 2 1 9; cells = retiring []; requests = step 0 ∷ []; replies = refused 9 ∷ [] }
    ∷ record { sizes = sized 2 2 1 9; cells = retiring (next 0 := 2 ∷ []); requests = step 0 ∷ []; replies = refused 9 ∷ [] }
    ∷ record { sizes = sized 2 2 1 9; cells = retiring (next 0 := 2 ∷ place 1 := 6 ∷ []); requests = step 0 ∷ []; replies = refused 9 ∷ [] }
    -- It looks neither at the head position nor at the tail record: the head stands at position 0, and its record is the tail record.
    ∷ record { sizes = sized 2 2 1 9; cells = retiring (next 0 := 2 ∷ place 1 := 2 ∷ []); requests = step 0 ∷ []; replies = accepted (item 3 7) 1 ∷ [] }
    -- In phase 8 found is not in use; a phase 9 there is not.
    ∷ record { sizes = sized 2 2 1 9; cells = retiring (found_record := 1 ∷ []); requests = step 0 ∷ []; replies = refused 3 ∷ [] }
    ∷ record { sizes = sized 2 2 1 9; cells = retiring (consumer_phase := 9 ∷ []); requests = step 0 ∷ []; replies = refused 3 ∷ [] }
    -- Phase 7 leads to 8 at the head record's end, and not at that of found's record: the head stands at 3 and its record ends at 2, found's
    -- ends at 4.
    ∷ record {
      sizes = sized 2 3 1 9;
      cells =
          item_number := 3
          ∷ item_value := 7
          ∷ consumer_phase := 7
          ∷ place 1 := 2
          ∷ tail_record := 3
          ∷ found_record := 2
          ∷ found_position := 3
          ∷ head_position := 3
          ∷ [];
      requests = step 0 ∷ [];
      replies = accepted (item 3 7) 1 ∷ [];
    }
    -- The count is the stored one and one more (document 02, U3), up to 100,000,000; from there a step is refused with 9, also where it
    -- would end the call.
    ∷ record {
      sizes = sized 2 2 1 9;
      cells = retiring (next 0 := 2 ∷ place 1 := 2 ∷ step_count 0 := 41 ∷ []);
      requests = step 0 ∷ [];
      replies = accepted (item 3 7) 42 ∷ [];
    }
    ∷ record {
      sizes = sized 2 2 1 9;
      cells = phase 1 := 3 ∷ held 1 := 1 ∷ step_count 1 := 99999999 ∷ [];
      requests = step 1 ∷ step 1 ∷ [];
      replies = accepted going 100000000 ∷ refused 9 ∷ [];
    }
    ∷ record {
      sizes = sized 2 2 1 9;
      cells = consumer_phase := 2 ∷ step_count 0 := 99999999 ∷ [];
      requests = step 0 ∷ [];
      replies = accepted empty 100000000 ∷ [];
    }
    ∷ record {
      sizes = sized 2 2 1 9;
      cells = consumer_phase := 2 ∷ step_count 0 := 100000000 ∷ [];
      requests = step 0 ∷ [];
      replies = refused 9 ∷ [];
    }
    -- 8 is looked at before: with the count at its end, and then with a record free.
    ∷ record {
      sizes = sized 2 2 1 9;
      cells = phase 1 := 4 ∷ held 1 := 1 ∷ step_count 1 := 100000000 ∷ used 1 := 2 ∷ [];
      requests = step 1 ∷ [];
      replies = refused 8 ∷ [];
    }
    ∷ record {
      sizes = sized 2 2 1 9;
      cells = phase 1 := 4 ∷ held 1 := 1 ∷ step_count 1 := 100000000 ∷ [];
      requests = step 1 ∷ [];
      replies = refused 9 ∷ [];
    }
    -- Its range, and that an idle thread has none.
    ∷ record {
      sizes = sized 2 2 1 9;
      cells = consumer_phase := 2 ∷ step_count 0 := 100000001 ∷ [];
      requests = step 0 ∷ [];
      replies = refused 3 ∷ [];
    }
    ∷ record { sizes = sized 2 2 1 9; cells = step_count 1 := 1 ∷ []; requests = start_dequeue ∷ []; replies = refused 3 ∷ [] }
    ∷ []

-- A claim on a store of four records (document 02, U1): by the record claimed last (word 11) and the use of each record, what the producer's
-- claimed word and word 11 hold afterwards. All record numbers as stored, plus one.
abbrev pub use_writes : (r : ℕ) → List ℕ → List Write
use_writes r [] = []
use_writes r (u ∷ us) = used r := u ∷ use_writes (suc r) us

abbrev claim : (last : ℕ) → List ℕ → Response → List ℕ → Single
claim last uses r holds =
    record {
      sizes = sized 2 4 1 9;
      cells = last_claimed := last ∷ phase 1 := 4 ∷ held 1 := 1 ∷ use_writes 0 uses;
      request = step 1;
      looks = claimed 1 ∷ last_claimed ∷ [];
      reply = r ∷ [];
      holds = holds;
    }

-- a claim that takes r, and one that finds no record free
abbrev pub takes : (last : ℕ) → List ℕ → (r : ℕ) → Single
takes last uses r = claim last uses (accepted going 1) (r ∷ r ∷ [])

abbrev pub finds_none : (last : ℕ) → List ℕ → Single
finds_none last uses = claim last uses (refused 8) (0 ∷ last ∷ [])

abbrev pub claims : List Single
claims =
    -- the first free one after it
    takes 1 (2 ∷ 0 ∷ 0 ∷ 0 ∷ []) 2
    ∷ takes 1 (2 ∷ 2 ∷ 1 ∷ 0 ∷ []) 4
    -- not the one claimed last, nor a lower one, though they are free
    ∷ takes 2 (0 ∷ 0 ∷ 0 ∷ 2 ∷ []) 3
    -- past the end to record 0
    ∷ takes 4 (0 ∷ 2 ∷ 2 ∷ 0 ∷ []) 1
    ∷ takes 3 (2 ∷ 3 ∷ 0 ∷ 2 ∷ []) 2
    -- the one claimed last, last of all
    ∷ takes 4 (2 ∷ 2 ∷ 2 ∷ 0 ∷ []) 4
    ∷ takes 2 (2 ∷ 3 ∷ 2 ∷ 2 ∷ []) 2
    -- none is free: word 11 stays
    ∷ finds_none 3 (2 ∷ 2 ∷ 1 ∷ 2 ∷ [])
    ∷ []

-- A start enqueue of producer 2 (document 02, U8) by tail and starts: its reply, and then tail, starts, and all of its words.
abbrev start : (tail starts : ℕ) → List Write → Response → List ℕ → Single
start l n more r holds =
    record {
      sizes = sized 2 2 2 9;
      cells = tail := l ∷ starts := n ∷ more;
      request = start_enqueue 2 70;
      looks = tail ∷ starts ∷ phase 2 ∷ number 2 ∷ value 2 ∷ position 2 ∷ held 2 ∷ claimed 2 ∷ backed 2 ∷ enqueue_steps 2 ∷ [];
      reply = r ∷ [];
      holds = holds;
    }

abbrev no_words : List ℕ
no_words = replicate 8 0

abbrev pub starting : List Single
starting =
    -- It takes its position: the call's number is starts + 1, its position tail, one step is made, and the next phase is 2.
    start 0 0 [] (accepted (started 1) 1) (1 ∷ 1 ∷ 2 ∷ 1 ∷ 70 ∷ 0 ∷ 0 ∷ 0 ∷ 0 ∷ 1 ∷ [])
    ∷ start 8 3 [] (accepted (started 4) 1) (9 ∷ 4 ∷ 2 ∷ 4 ∷ 70 ∷ 8 ∷ 0 ∷ 0 ∷ 0 ∷ 1 ∷ [])
    -- With tail at M it is refused with 9, looked at after 5 and 6, and no word is changed.
    ∷ start 9 3 [] (refused 9) (9 ∷ 3 ∷ no_words)
    ∷ start 9 9 [] (refused 6) (9 ∷ 9 ∷ no_words)
    ∷ start 3 9 [] (refused 6) (3 ∷ 9 ∷ no_words)
    ∷ start 9 9 (phase 2 := 2 ∷ []) (refused 5) (9 ∷ 9 ∷ 2 ∷ replicate 7 0)
    -- A producer's phase 1 is out of range, its own and another's, whatever their words hold.
    ∷ start 0 0 (phase 2 := 1 ∷ []) (refused 3) (0 ∷ 0 ∷ 1 ∷ replicate 7 0)
    ∷ start 1 1 (phase 1 := 1 ∷ number 1 := 1 ∷ value 1 := 7 ∷ []) (refused 3) (1 ∷ 1 ∷ no_words)
    ∷ []
