-- Runs of the fold (document 02, U6), computed: a day with one stopped producer, single steps on stores that the engine did not write, and which
-- retired records are free.
use Rattle.std.specs.Prelude.{List, [], ◌∷◌, ◌++◌, ℕ}
use Rattle.rules.specs.Cell.{Cell, Write, ◌:=◌, spare, all_handled, tail, tail_record, head_record, consumer_phase, cursor_record, cursor_position, found_record, found_position, phase, held, claimed, place, next, prev, used, state}
use Rattle.rules.specs.Rule.{Response, refused, accepted, ok, going, ended, empty, item}
use Rattle.rules.specs.Request.{start_enqueue, start_dequeue, step}
use Rattle.rules.specs.Runs.{Trial, sized, times, first, ends, call, placed, enqueue}
use Rattle.rules.specs.Single.{Single}

abbrev pub fold_runs : List Trial
fold_runs =
    -- Producer 1 takes 0 and stops; producer 2 fills three records. The items at 1, 2 and 3 are taken. The dequeue that takes the one at 4 reads
    -- the second record as handled and folds it: its rescan crosses from the first record to the third. Producer 2 goes on, and at 7 claims
    -- the folded record ahead. Producer 1 then goes back from the fourth record over the third to the first. The head passes from the first
    -- record to the third.
    record {
      words = 210;
      sizes = sized 2 4 2 9;
      requests =
          start_enqueue 1 10
          ∷ start_enqueue 2 11
          ∷ times 5 (step 2)
          ++ (start_enqueue 2 12 ∷ times 6 (step 2))
          ++ (start_enqueue 2 13 ∷ times 5 (step 2))
          ++ (start_enqueue 2 14 ∷ times 6 (step 2))
          ++ (start_enqueue 2 15 ∷ times 5 (step 2))
          ++ (start_dequeue ∷ times 7 (step 0))
          ++ (start_dequeue ∷ times 11 (step 0))
          ++ (start_dequeue ∷ times 15 (step 0))
          ++ (start_dequeue ∷ times 17 (step 0))
          ++ (start_enqueue 2 16 ∷ times 6 (step 2))
          ++ (start_enqueue 2 17 ∷ times 5 (step 2))
          ++ times 5 (step 1)
          ++ (start_dequeue ∷ times 3 (step 0))
          ++ (start_dequeue ∷ times 7 (step 0));
      replies =
          first ok
          ∷ placed 1 1
          ++ enqueue 2 6
          ++ enqueue 3 7
          ++ enqueue 4 6
          ++ enqueue 5 7
          ++ enqueue 6 6
          ++ call ok 6 (item 2 11)
          ++ call ok 10 (item 3 12)
          ++ call ok 14 (item 4 13)
          ++ call ok 16 (item 5 14)
          ++ enqueue 7 7
          ++ enqueue 8 6
          ++ ends 1 4 ended
          ++ call ok 2 (item 1 10)
          ++ call ok 6 (item 6 15);
    }
    ∷ []

-- Three linked records, 0, 1 and 2, of places 1, 2 and 3; the first is the head record, the last the tail record; the tail stands at 6. The
-- cursor stands in record 1.
abbrev three_records : List Write
three_records =
    next 0 := 2
    ∷ used 1 := 2
    ∷ place 1 := 2
    ∷ prev 1 := 1
    ∷ next 1 := 3
    ∷ used 2 := 2
    ∷ place 2 := 3
    ∷ prev 2 := 2
    ∷ tail_record := 3
    ∷ tail := 6
    ∷ cursor_record := 2
    ∷ []

-- the scan in this phase, at this position, with this in word 12; then further cells
abbrev scanning : (phase position word : ℕ) → List Write → List Write
scanning p c w more = three_records ++ (consumer_phase := p ∷ cursor_position := c ∷ all_handled := w ∷ more)

-- what a crossing out of record 1 may write
abbrev links : List Cell
links = next 0 ∷ prev 2 ∷ used 1 ∷ next 1 ∷ prev 1 ∷ place 1 ∷ cursor_record ∷ cursor_position ∷ all_handled ∷ consumer_phase ∷ []

abbrev cursor : List Cell
cursor = cursor_record ∷ cursor_position ∷ found_record ∷ found_position ∷ all_handled ∷ consumer_phase ∷ []

abbrev single : List Write → List Cell → Response → List ℕ → Single
single cells looks r holds = record { sizes = sized 2 4 2 9; cells = cells; request = step 0; looks = looks; reply = r ∷ []; holds = holds }

abbrev going_on : Response
going_on = accepted going 1

abbrev pub singles : List Single
singles =
    -- The fold: records 0 and 2 are joined to each other; record 1 is retired and keeps its links and its place.
    single (scanning 3 4 1 []) links going_on (3 ∷ 1 ∷ 3 ∷ 3 ∷ 1 ∷ 2 ∷ 3 ∷ 4 ∷ 1 ∷ 3 ∷ [])
    -- Not all was read as handled: the crossing alone, and word 12 is then 1.
    ∷ single (scanning 3 4 0 []) links going_on (2 ∷ 2 ∷ 2 ∷ 3 ∷ 1 ∷ 2 ∷ 3 ∷ 4 ∷ 1 ∷ 3 ∷ [])
    -- The head record is not folded.
    ∷ single (scanning 3 4 1 (head_record := 2 ∷ [])) links going_on (2 ∷ 2 ∷ 2 ∷ 3 ∷ 1 ∷ 2 ∷ 3 ∷ 4 ∷ 1 ∷ 3 ∷ [])
    -- The tail record's end: empty, and all is zero.
    ∷ single (scanning 3 4 1 (tail_record := 2 ∷ [])) links (accepted empty 1) (2 ∷ 2 ∷ 2 ∷ 3 ∷ 1 ∷ 2 ∷ 0 ∷ 0 ∷ 0 ∷ 0 ∷ [])
    -- The cursor at tail: empty, and all is zero.
    ∷ single (scanning 3 3 1 (tail := 3 ∷ [])) cursor (accepted empty 1) (0 ∷ 0 ∷ 0 ∷ 0 ∷ 0 ∷ 0 ∷ [])
    -- No prev, no next, a next of no place, one whose first position is past M.
    ∷ single (scanning 3 4 1 (prev 1 := 0 ∷ [])) links (refused 9) (2 ∷ 2 ∷ 2 ∷ 3 ∷ 0 ∷ 2 ∷ 2 ∷ 4 ∷ 1 ∷ 3 ∷ [])
    ∷ single (scanning 3 4 1 (next 1 := 0 ∷ [])) links (refused 9) (2 ∷ 2 ∷ 2 ∷ 0 ∷ 1 ∷ 2 ∷ 2 ∷ 4 ∷ 1 ∷ 3 ∷ [])
    ∷ single (scanning 3 4 1 (place 2 := 0 ∷ [])) links (refused 9) (2 ∷ 2 ∷ 2 ∷ 3 ∷ 1 ∷ 2 ∷ 2 ∷ 4 ∷ 1 ∷ 3 ∷ [])
    ∷ single (scanning 3 4 1 (place 2 := 6 ∷ [])) links (refused 9) (2 ∷ 2 ∷ 2 ∷ 3 ∷ 1 ∷ 2 ∷ 2 ∷ 4 ∷ 1 ∷ 3 ∷ [])
    -- Phase 4: a handled entry leaves word 12, an empty one clears it, a set one is found and clears it.
    ∷ single (scanning 4 2 1 (state 1 0 := 2 ∷ [])) cursor going_on (2 ∷ 3 ∷ 0 ∷ 0 ∷ 1 ∷ 3 ∷ [])
    ∷ single (scanning 4 2 0 (state 1 0 := 2 ∷ [])) cursor going_on (2 ∷ 3 ∷ 0 ∷ 0 ∷ 0 ∷ 3 ∷ [])
    ∷ single (scanning 4 2 1 []) cursor going_on (2 ∷ 3 ∷ 0 ∷ 0 ∷ 0 ∷ 3 ∷ [])
    ∷ single (scanning 4 2 1 (state 1 0 := 1 ∷ [])) cursor going_on (1 ∷ 0 ∷ 2 ∷ 2 ∷ 0 ∷ 5 ∷ [])
    -- Phase 3 inside a record leaves it, and so does phase 2.
    ∷ single (scanning 3 2 1 []) cursor going_on (2 ∷ 2 ∷ 0 ∷ 0 ∷ 1 ∷ 4 ∷ [])
    ∷ single (three_records ++ (cursor_record := 0 ∷ consumer_phase := 2 ∷ [])) cursor going_on (1 ∷ 1 ∷ 0 ∷ 0 ∷ 0 ∷ 3 ∷ [])
    -- Its range by the phase, and the spare words after it.
    ∷ single (scanning 3 2 2 []) cursor (refused 3) (2 ∷ 2 ∷ 0 ∷ 0 ∷ 2 ∷ 3 ∷ [])
    ∷ single (three_records ++ (cursor_record := 0 ∷ consumer_phase := 2 ∷ all_handled := 1 ∷ [])) cursor (refused 3) (0 ∷ 0 ∷ 0 ∷ 0 ∷ 1 ∷ 2 ∷ [])
    ∷ single (scanning 5 2 1 (found_record := 3 ∷ found_position := 4 ∷ [])) cursor (refused 3) (2 ∷ 2 ∷ 3 ∷ 4 ∷ 1 ∷ 5 ∷ [])
    ∷ single (scanning 3 2 1 (spare 0 := 1 ∷ [])) cursor (refused 3) (2 ∷ 2 ∷ 0 ∷ 0 ∷ 1 ∷ 3 ∷ [])
    ∷ []

-- Producer 1 claims in phase 4, holding record 0; record 1 is retired, of place 4; records 2 and 3 are as these cells say. What the producer's
-- claimed word holds then, and its phase.
abbrev claiming : List Write → (thread : ℕ) → Response → List ℕ → Single
claiming cells t r holds =
    record {
      sizes = sized 2 4 2 9;
      cells = phase 1 := 4 ∷ held 1 := 1 ∷ used 1 := 3 ∷ place 1 := 4 ∷ used 3 := 2 ∷ cells;
      request = step t;
      looks = claimed 1 ∷ phase 1 ∷ used 1 ∷ [];
      reply = r ∷ [];
      holds = holds;
    }

abbrev taken : List ℕ
taken = 2 ∷ 5 ∷ 1 ∷ []

abbrev kept : List ℕ
kept = 0 ∷ 4 ∷ 3 ∷ []

abbrev pub claims : List Single
claims =
    -- held by nobody: free; held itself: kept
    claiming (used 2 := 2 ∷ []) 1 going_on taken
    ∷ claiming (used 2 := 2 ∷ phase 2 := 3 ∷ held 2 := 2 ∷ []) 1 (refused 8) kept
    -- a retired record is held that is of greater place; of the same; of a smaller one
    ∷ claiming (used 2 := 3 ∷ place 2 := 5 ∷ phase 2 := 3 ∷ held 2 := 3 ∷ []) 1 (refused 8) kept
    ∷ claiming (used 2 := 3 ∷ place 2 := 4 ∷ phase 2 := 3 ∷ held 2 := 3 ∷ []) 1 going_on taken
    ∷ claiming (used 2 := 3 ∷ place 2 := 3 ∷ phase 2 := 3 ∷ held 2 := 3 ∷ []) 1 going_on taken
    -- a linked one of greater place keeps nothing; a retired one that was claimed keeps
    ∷ claiming (used 2 := 2 ∷ place 2 := 5 ∷ phase 2 := 3 ∷ held 2 := 3 ∷ []) 1 going_on taken
    ∷ claiming (used 2 := 3 ∷ place 2 := 5 ∷ phase 2 := 5 ∷ held 2 := 1 ∷ claimed 2 := 3 ∷ []) 1 (refused 8) kept
    -- the claiming producer's own keeps too
    ∷ claiming (held 1 := 3 ∷ used 2 := 3 ∷ place 2 := 5 ∷ []) 1 (refused 8) kept
    -- use 0 is free all the same
    ∷ claiming (used 1 := 0 ∷ used 2 := 3 ∷ place 2 := 5 ∷ phase 2 := 3 ∷ held 2 := 3 ∷ []) 1 going_on taken
    ∷ []
