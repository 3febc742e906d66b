-- Runs with drains (document 02, U5), computed: the replies, the history, and what the last call leaves in its buffer and in the drain area.
use Rattle.std.specs.Prelude.{◌≡◌, ◌&&◌, List, [], ◌∷◌, ◌++◌, map, reverse, ℕ, replicate}
use Rattle.std.proofs.Common.{ap, ◌∙◌}
use Rattle.history.specs.Event.{History, enqueue_started, enqueue_ended, dequeue_started, gave_item, gave_empty}
use Rattle.history.specs.Linearization.{Item}
use Rattle.rules.specs.Sizes.{Sizes, store_words}
use Rattle.rules.specs.Cell.{Write, reader, writes, ◌:=◌, consumer_phase, found_record, item_number, item_value, scanned, step_count, drain_limit, drain_count, pair_number, pair_value, state}
use Rattle.rules.specs.Free.{free, next_free}
use Rattle.rules.specs.Rule.{Response, refused, accepted, ok, going, ended, item, drained}
use Rattle.rules.specs.Producer.{load_tail, look_next, claim_record, link_claimed, shift_tail, go_back, write_entry, set_entry, claim_ahead, link_ahead, producer_step}
use Rattle.rules.specs.Consumer.{front, read_tail, scan, read_entry, rescan, read_item, mark_handled, retire_head, consumer_step}
use Rattle.rules.specs.Request.{start_enqueue, start_dequeue, start_drain, step, Invocation, lending, Result, applied, opened, starting_enqueue, starting_dequeue, starting_drain, phase_step, counted, stepping, effect, result}
use Rattle.rules.specs.Play.{Played, play_one}
use Rattle.rules.specs.Quick.{quick_result, result_is, with_result}
use Rattle.rules.specs.Update.{both}
use Rattle.rules.specs.Runs.{sized, times, plain, first, ends, begun, call, placed, enqueue, played_on, quick_on, played_on_lem, replies_to, quick_replies, replies_to_lem}
use Rattle.rules.specs.Sameness.{Sameness, responses, events, word_lists}

-- Calls on an opened store whose cells were then written so, and a last one; what they come to.
pub record DrainRun : Type 0 where
  pub sizes : Sizes
  pub cells : List Write
  pub calls : List Invocation
  pub last : Invocation
  pub replies : List Response
  pub history : History
  pub buffer : List ℕ
  pub area : List ℕ

-- The replies, the history, the last buffer; of the area limit, count and two pairs.
pub record Outcome : Type 0 where
  pub replies : List Response
  pub history : History
  pub buffer : List ℕ
  pub area : List ℕ

unfoldable pub outcomes : Sameness Outcome
unfolding responses events word_lists
outcomes =
    record {
      test =
          λ x y.
          responses.test x.replies y.replies
          && (events.test x.history y.history && (word_lists.test x.buffer y.buffer && word_lists.test x.area y.area));
      sound =
          λ x y e.
          let a = both (responses.test x.replies y.replies) _ e in
          let b = both (events.test x.history y.history) _ a.1 in
          let c = both (word_lists.test x.buffer y.buffer) (word_lists.test x.area y.area) b.1 in
          λ i. record {
            replies = responses.sound x.replies y.replies a.0 i;
            history = events.sound x.history y.history b.0 i;
            buffer = word_lists.sound x.buffer y.buffer c.0 i;
            area = word_lists.sound x.area y.area c.1 i;
          };
    }

abbrev opened_as : DrainRun → List ℕ
opened_as d = writes d.sizes (opened d.sizes (replicate (store_words d.sizes) 0)) d.cells

-- what stands after the last call, and the buffer that it leaves
abbrev outcome_of : DrainRun → Played → (buffer : List ℕ) → Outcome
outcome_of d p b =
    let σ = reader d.sizes p.words in
    record {
      replies = reverse p.replies;
      history = p.history;
      buffer = b;
      area = σ drain_limit ∷ σ drain_count ∷ σ (pair_number 0) ∷ σ (pair_value 0) ∷ σ (pair_number 1) ∷ σ (pair_value 1) ∷ [];
    }

unfoldable pub outcome : DrainRun → Outcome
outcome d =
    let before = played_on d.calls (opened_as d) in outcome_of d (play_one d.last before) (result d.last before.words).buffer

-- The same, quicker to compute.
unfoldable pub quick_outcome : DrainRun → Outcome
unfolding quick_on applied effect starting_enqueue starting_dequeue starting_drain phase_step counted stepping opened reader writes free next_free load_tail look_next claim_record link_claimed shift_tail go_back write_entry set_entry claim_ahead link_ahead producer_step front read_tail scan read_entry rescan read_item mark_handled retire_head consumer_step
quick_outcome d =
    let before = quick_on d.calls (opened_as d) in
    let r = quick_result d.last before.words in
    outcome_of d (with_result d.last before r) r.buffer

pub outcome_is : (d : DrainRun) → outcome d ≡ quick_outcome d
unfolding outcome quick_outcome
outcome_is d =
    ap (λ (p : Played). outcome_of d (play_one d.last p) (result d.last p.words).buffer) (played_on_lem d.calls (opened_as d))
    ∙ ap (λ (r : Result). outcome_of d (with_result d.last (quick_on d.calls (opened_as d)) r) r.buffer) (result_is d.last (quick_on d.calls (opened_as d)).words)

abbrev pub expected : DrainRun → Outcome
expected d = record { replies = d.replies; history = d.history; buffer = d.buffer; area = d.area }

-- three items of producer 1, in two records of two entries, as calls, replies and history
abbrev three_in : List Invocation
three_in =
    map plain
    (start_enqueue 1 10
    ∷ times 3 (step 1)
    ++ (start_enqueue 1 11 ∷ times 5 (step 1))
    ++ (start_enqueue 1 12 ∷ times 6 (step 1)))

abbrev three_replies : List Response
three_replies = enqueue 1 4 ++ enqueue 2 6 ++ enqueue 3 7

abbrev three_events : History
three_events =
    enqueue_ended 1 3 12
    ∷ enqueue_started 1 3 12
    ∷ enqueue_ended 1 2 11
    ∷ enqueue_started 1 2 11
    ∷ enqueue_ended 1 1 10
    ∷ enqueue_started 1 1 10
    ∷ []

abbrev an : (number value : ℕ) → Item
an n v = record { number = n; value = v }

abbrev three_items : List Item
three_items = an 1 10 ∷ an 2 11 ∷ an 3 12 ∷ []

-- the first two of them are marked, the first dequeue open since the start, and each begun at the mark of the one before
abbrev two_marked : History
two_marked = gave_item 2 11 ∷ dequeue_started ∷ gave_item 1 10 ∷ dequeue_started ∷ three_events

abbrev no_area : List ℕ
no_area = replicate 6 0

abbrev small : Sizes
small = sized 2 2 1 9

-- the consumer's step, lent a buffer
abbrev into : List ℕ → ℕ → Invocation
into b n = lending b n (step 0)

abbrev pub drain_runs : List DrainRun
drain_runs =
    -- A limit of 3: phases 1, 6 and 7 for each item, and 8 after the second, which empties the head record; the third reaches the limit. They
    -- go into the buffer from the named word, and the area is zero.
    record {
      sizes = small;
      cells = [];
      calls = three_in ++ map plain (start_drain 3 ∷ times 9 (step 0));
      last = into (50 ∷ 51 ∷ 52 ∷ 53 ∷ 54 ∷ 55 ∷ 56 ∷ 57 ∷ []) 1;
      replies = three_replies ++ call ok 9 (drained three_items);
      history = gave_item 3 12 ∷ dequeue_started ∷ two_marked;
      buffer = 50 ∷ 1 ∷ 10 ∷ 2 ∷ 11 ∷ 3 ∷ 12 ∷ 57 ∷ [];
      area = no_area;
    }
    -- A limit of 2 is reached in phase 8.
    ∷ record {
      sizes = small;
      cells = [];
      calls = three_in ++ map plain (start_drain 2 ∷ times 6 (step 0));
      last = into (replicate 4 0) 0;
      replies = three_replies ++ call ok 6 (drained (an 1 10 ∷ an 2 11 ∷ []));
      history = two_marked;
      buffer = 1 ∷ 10 ∷ 2 ∷ 11 ∷ [];
      area = no_area;
    }
    -- Under way: each item is kept from its mark, in 7 also if 8 follows, and one more dequeue has been open since the last mark.
    ∷ record {
      sizes = small;
      cells = [];
      calls = three_in ++ map plain (start_drain 3 ∷ times 5 (step 0));
      last = into [] 7;
      replies = three_replies ++ begun ok 6;
      history = dequeue_started ∷ two_marked;
      buffer = [];
      area = 3 ∷ 2 ∷ 1 ∷ 10 ∷ 2 ∷ 11 ∷ [];
    }
    -- Its limit of 5 is not reached: the front entry after the third item is empty, and tail is not read although an enqueue has taken that
    -- position. The last item's end moves past that enqueue's start, and the dequeue begun at its mark is withdrawn.
    ∷ record {
      sizes = small;
      cells = [];
      calls = three_in ++ map plain (start_drain 5 ∷ times 10 (step 0) ++ (start_enqueue 1 13 ∷ []));
      last = into (replicate 6 0) 0;
      replies = three_replies ++ begun ok 10 ++ placed 4 1 ++ ends 10 0 (drained three_items);
      history = gave_item 3 12 ∷ enqueue_started 1 4 13 ∷ dequeue_started ∷ two_marked;
      buffer = 1 ∷ 10 ∷ 2 ∷ 11 ∷ 3 ∷ 12 ∷ [];
      area = no_area;
    }
    -- The tail record's end counts so: two items fill the only linked record, and the third step after the second mark finds the head there.
    ∷ record {
      sizes = sized 2 2 1 9;
      cells = state 0 0 := 1 ∷ state 0 1 := 1 ∷ [];
      calls = map plain (start_drain 5 ∷ times 6 (step 0));
      last = into (replicate 4 9) 0;
      replies = call ok 6 (drained (an 0 0 ∷ an 0 0 ∷ []));
      history = gave_item 0 0 ∷ dequeue_started ∷ gave_item 0 0 ∷ dequeue_started ∷ [];
      buffer = 0 ∷ 0 ∷ 0 ∷ 0 ∷ [];
      area = no_area;
    }
    -- Nothing waits: one dequeue that answered empty. A buffer that ends before the named word gives 15, and the drain stays under way.
    ∷ record {
      sizes = small;
      cells = [];
      calls = map plain (start_drain 64 ∷ step 0 ∷ []) ++ (into (7 ∷ []) 2 ∷ []);
      last = into (7 ∷ []) 1;
      replies = begun ok 1 ++ (refused 15 ∷ []) ++ ends 1 0 (drained []);
      history = gave_empty ∷ dequeue_started ∷ [];
      buffer = 7 ∷ [];
      area = no_area;
    }
    -- The first front is not set, and the rescan returns to the head (document 01's run with B = 4): the drain acts as one dequeue and ends with
    -- it, though the next item is set.
    ∷ record {
      sizes = sized 4 2 2 9;
      cells = [];
      calls =
          map plain
          (start_enqueue 1 10
          ∷ times 2 (step 1)
          ++ (start_drain 9 ∷ times 2 (step 0))
          ++ (step 1 ∷ start_enqueue 2 20 ∷ times 5 (step 2))
          ++ times 4 (step 0));
      last = into (replicate 3 0) 1;
      replies = placed 1 3 ++ begun ok 2 ++ ends 3 0 ended ++ enqueue 2 6 ++ ends 2 4 (drained (an 1 10 ∷ []));
      history =
          gave_item 1 10
          ∷ enqueue_ended 2 2 20
          ∷ enqueue_started 2 2 20
          ∷ enqueue_ended 1 1 10
          ∷ dequeue_started
          ∷ enqueue_started 1 1 10
          ∷ [];
      buffer = 0 ∷ 1 ∷ 10 ∷ [];
      area = no_area;
    }
    -- A buffer one word too short gives 15 and changes nothing: the items are still kept.
    ∷ record {
      sizes = small;
      cells = [];
      calls = three_in ++ map plain (start_drain 2 ∷ times 6 (step 0));
      last = into (replicate 4 9) 1;
      replies = three_replies ++ begun ok 6 ++ (refused 15 ∷ []);
      history = dequeue_started ∷ two_marked;
      buffer = replicate 4 9;
      area = 2 ∷ 2 ∷ 1 ∷ 10 ∷ 2 ∷ 11 ∷ [];
    }
    -- A limit outside 1 to 64 gives 14, after 5.
    ∷ record {
      sizes = small;
      cells = [];
      calls = map plain (start_drain 0 ∷ start_drain 65 ∷ start_drain 1 ∷ start_drain 0 ∷ []);
      last = plain start_dequeue;
      replies = refused 14 ∷ refused 14 ∷ first ok ∷ refused 5 ∷ refused 5 ∷ [];
      history = dequeue_started ∷ [];
      buffer = [];
      area = 1 ∷ replicate 5 0;
    }
    ∷ []

-- Steps of the consumer on stores that the engine did not write: the cells that were written on an opened one, and the reply.
pub record DrainProbe : Type 0 where
  pub cells : List Write
  pub reply : Response

unfoldable pub probed : DrainProbe → List Response
probed p = replies_to (into (replicate 128 0) 0 ∷ []) (writes small (opened small (replicate (store_words small) 0)) p.cells)

unfoldable pub quick_probed : DrainProbe → List Response
unfolding quick_replies opened writes
quick_probed p = quick_replies (into (replicate 128 0) 0 ∷ []) (writes small (opened small (replicate (store_words small) 0)) p.cells)

pub probed_is : (p : DrainProbe) → probed p ≡ quick_probed p
unfolding probed quick_probed
probed_is p = replies_to_lem (into (replicate 128 0) 0 ∷ []) _

-- a drain with this limit and count in phase 7, found the head's entry, with item 3 7
abbrev marking : (limit count : ℕ) → List Write → List Write
marking l c ws =
    drain_limit := l ∷ drain_count := c ∷ consumer_phase := 7 ∷ found_record := 1 ∷ item_number := 3 ∷ item_value := 7 ∷ ws

abbrev pub drain_probes : List DrainProbe
drain_probes =
    -- The count would pass the limit: 9. One below it, and the drain ends.
    record { cells = marking 1 1 []; reply = refused 9 }
    ∷ record { cells = marking 1 0 []; reply = accepted (drained (an 3 7 ∷ [])) 1 }
    -- It goes on below the limit, unless it came through the scan.
    ∷ record { cells = marking 2 0 []; reply = accepted going 1 }
    ∷ record { cells = marking 2 0 (scanned := 1 ∷ []); reply = accepted (drained (an 3 7 ∷ [])) 1 }
    -- A dequeue is none the wiser for the flag.
    ∷ record { cells = marking 0 0 (scanned := 1 ∷ []); reply = accepted (item 3 7) 1 }
    -- 9 for the number of steps comes before 15: here the buffer is long enough, and the count of steps is at its end.
    ∷ record { cells = marking 1 0 (step_count 0 := 100000000 ∷ []); reply = refused 9 }
    -- Ranges: the limit, also while the consumer is idle; the count; a pair below the count and one past it; the flag.
    ∷ record { cells = marking 65 0 []; reply = refused 3 }
    ∷ record { cells = drain_limit := 1 ∷ []; reply = refused 3 }
    ∷ record { cells = marking 1 2 []; reply = refused 3 }
    ∷ record { cells = marking 2 1 (pair_number 0 := 10 ∷ []); reply = refused 3 }
    ∷ record { cells = marking 2 1 (pair_number 0 := 9 ∷ pair_value 0 := 4294967295 ∷ []); reply = accepted (drained (an 9 4294967295 ∷ an 3 7 ∷ [])) 1 }
    ∷ record { cells = marking 2 1 (pair_value 1 := 1 ∷ []); reply = refused 3 }
    ∷ record { cells = marking 2 1 (pair_number 63 := 1 ∷ []); reply = refused 3 }
    ∷ record { cells = marking 2 0 (scanned := 2 ∷ []); reply = refused 3 }
    ∷ record { cells = consumer_phase := 1 ∷ scanned := 1 ∷ []; reply = refused 3 }
    ∷ []
