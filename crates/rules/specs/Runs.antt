-- The runs of the store that document 01 marks (P), as one table and one statement that the checker computes ("Runs to hold it
-- to").
use Rattle.std.specs.Prelude.{◌≡◌, refl, true, List, [], ◌∷◌, ◌++◌, map, reverse, ℕ, zero, suc, ◌+◌, ◌-◌, replicate}
use Rattle.std.proofs.Common.{ap, ap₂, ◌∙◌}
use Rattle.rules.specs.Sizes.{Sizes}
use Rattle.rules.specs.Cell.{reader, writes}
use Rattle.rules.specs.Free.{free, next_free}
use Rattle.rules.specs.Rule.{Reply, Response, refused, accepted, ok, started, going, ended, empty, item}
use Rattle.rules.specs.Producer.{load_tail, look_next, claim_record, link_claimed, shift_tail, go_back, write_entry, set_entry, claim_ahead, link_ahead, producer_step}
use Rattle.rules.specs.Consumer.{front, read_tail, scan, read_entry, rescan, read_item, mark_handled, retire_head, consumer_step}
use Rattle.rules.specs.Request.{Request, start_enqueue, start_dequeue, step, Invocation, lending, applied, opened, open_store, starting_enqueue, starting_dequeue, starting_drain, phase_step, counted, stepping, effect}
use Rattle.rules.specs.Play.{Played, play}
use Rattle.rules.specs.Quick.{quick_play, play_is}
use Rattle.rules.specs.Sameness.{Sameness, lists}

-- An open of a store of so many zero words, the calls after it, and the replies of all of them, in order.
pub record Trial : Type 0 where
  pub words : ℕ
  pub sizes : Sizes
  pub requests : List Request
  pub replies : List Response

abbrev pub sized : (B N P M : ℕ) → Sizes
sized B N P M = record { B = B; N = N; P = P; M = M }

-- a call made n times
abbrev pub times : ℕ → Request → List Request
times zero q = []
times (suc n) q = q ∷ times n q

-- A call whose step is lent no words.
abbrev pub plain : Request → Invocation
plain q = lending [] 0 q

-- The reply of an open, or of a start that makes no step; of the n steps after a call's first k, all going; of those and the one that ends it.
abbrev pub first : Reply → Response
first r = accepted r 0

abbrev pub goings : (k n : ℕ) → List Response
goings k zero = []
goings k (suc n) = accepted going (suc k) ∷ goings (suc k) n

abbrev pub ends : (k n : ℕ) → Reply → List Response
ends k n r = goings k n ++ (accepted r (suc (k + n)) ∷ [])

-- of the start of a dequeue or a drain and n steps that go on; of a whole one
abbrev pub begun : Reply → ℕ → List Response
begun r n = first r ∷ goings 0 n

abbrev pub call : Reply → ℕ → Reply → List Response
call r n e = first r ∷ ends 0 n e

-- of n steps of the enqueue with call number k, the first its start's take; of a whole one that has n
abbrev pub placed : (k n : ℕ) → List Response
placed k n = accepted (started k) 1 ∷ goings 1 (n - 1)

abbrev pub enqueue : (k n : ℕ) → List Response
enqueue k n = accepted (started k) 1 ∷ ends 1 (n - 2) ended

-- What the rules make of some calls on these words, the replies that they give to them, and to an open and the calls after it.
unfoldable pub played_on : List Invocation → List ℕ → Played
played_on vs m = play vs (record { words = m; replies = []; history = [] })

unfoldable pub replies_to : List Invocation → List ℕ → List Response
replies_to vs m = reverse (played_on vs m).replies

unfoldable pub replay : Trial → List Response
replay t = let o = open_store t.sizes (replicate t.words 0) in o.reply ∷ replies_to (map plain t.requests) o.words

-- The same, quicker to compute.
unfoldable pub quick_on : List Invocation → List ℕ → Played
unfolding applied effect starting_enqueue starting_dequeue starting_drain phase_step counted stepping reader writes free next_free load_tail look_next claim_record link_claimed shift_tail go_back write_entry set_entry claim_ahead link_ahead producer_step front read_tail scan read_entry rescan read_item mark_handled retire_head consumer_step
quick_on vs m = quick_play vs (record { words = m; replies = []; history = [] })

pub played_on_lem : (vs : List Invocation) (m : List ℕ) → played_on vs m ≡ quick_on vs m
unfolding played_on quick_on
played_on_lem vs m = play_is vs (record { words = m; replies = []; history = [] })

unfoldable pub quick_replies : List Invocation → List ℕ → List Response
unfolding quick_on
quick_replies vs m = reverse (quick_on vs m).replies

pub replies_to_lem : (vs : List Invocation) (m : List ℕ) → replies_to vs m ≡ quick_replies vs m
unfolding replies_to quick_replies
replies_to_lem vs m = ap (λ (p : Played). reverse p.replies) (played_on_lem vs m)

unfoldable pub quick_replay : Trial → List Response
unfolding quick_replies open_store opened writes
quick_replay t = let o = open_store t.sizes (replicate t.words 0) in o.reply ∷ quick_replies (map plain t.requests) o.words

pub replay_is : (t : Trial) → replay t ≡ quick_replay t
unfolding replay quick_replay
replay_is t =
    let o = open_store t.sizes (replicate t.words 0) in
    ap (λ (rs : List Response). o.reply ∷ rs) (replies_to_lem (map plain t.requests) o.words)

-- To compute a table of runs, compute it so, and test it.
map_same : {A B : Type 0} (f g : A → B) → ((x : A) → f x ≡ g x) → (xs : List A) → map f xs ≡ map g xs
map_same f g h [] = refl
map_same f g h (x ∷ xs) = ap₂ (λ y ys. y ∷ ys) (h x) (map_same f g h xs)

pub computed : {A B : Type 0} (s : Sameness B) (f g e : A → B) → ((x : A) → f x ≡ g x) → (xs : List A)
    → (lists s).test (map g xs) (map e xs) ≡ true → map f xs ≡ map e xs
computed s f g e h xs t = map_same f g h xs ∙ (lists s).sound (map g xs) (map e xs) t

-- Producer 1 fills two records of two entries.
abbrev pub filled : List Request
filled =
    start_enqueue 1 10
    ∷ times 3 (step 1)
    ++ (start_enqueue 1 11 ∷ times 5 (step 1))
    ++ (start_enqueue 1 12 ∷ times 6 (step 1))
    ++ (start_enqueue 1 13 ∷ times 4 (step 1))

abbrev pub filled_replies : List Response
filled_replies = enqueue 1 4 ++ enqueue 2 6 ++ enqueue 3 7 ++ enqueue 4 5

abbrev pub table : List Trial
table =
    -- the printed run, with the step counts of document 02, U3, and its start that takes the position (U8); then `d` and three steps give going, going, item 1 7
    record {
      words = 12826;
      sizes = sized 2 2 1 9;
      requests = start_dequeue ∷ times 2 (step 0) ++ (start_enqueue 1 7 ∷ times 3 (step 1)) ++ (start_dequeue ∷ times 3 (step 0));
      replies = first ok ∷ call ok 1 empty ++ enqueue 1 4 ++ call ok 2 (item 1 7);
    }
    -- B = 2, N = 2: the enqueue at position 1 takes 6 steps, its start among them, at position 2 takes 7, at 3 takes 5; the one at position 4,
    -- nothing dequeued, meets 8 on its fourth
    ∷ record {
      words = 182;
      sizes = sized 2 2 1 9;
      requests = filled ++ (start_enqueue 1 14 ∷ times 3 (step 1));
      replies = first ok ∷ filled_replies ++ placed 5 3 ++ (refused 8 ∷ []);
    }
    -- B = 4. Producer 1 takes 0 and stops before phase 9. The dequeue steps twice. Producer 1 ends; producer 2 enqueues and
    -- ends. Five more steps give item 1
    ∷ record {
      words = 202;
      sizes = sized 4 2 2 9;
      requests =
          start_enqueue 1 10
          ∷ times 2 (step 1)
          ++ (start_dequeue ∷ times 2 (step 0))
          ++ (step 1 ∷ start_enqueue 2 20 ∷ times 5 (step 2))
          ++ times 5 (step 0);
      replies =
          first ok ∷ placed 1 3 ++ begun ok 2 ++ ends 3 0 ended ++ enqueue 2 6 ++ ends 2 4 (item 1 10);
    }
    -- B = 1, N = 65, P = 0, P = 17, M = 0 give 1; B = 64, N = 64, P = 16 needs 12,826 words
    ∷ record { words = 182; sizes = sized 1 2 1 9; requests = []; replies = refused 1 ∷ [] }
    ∷ record { words = 182; sizes = sized 2 65 1 9; requests = []; replies = refused 1 ∷ [] }
    ∷ record { words = 182; sizes = sized 2 2 0 9; requests = []; replies = refused 1 ∷ [] }
    ∷ record { words = 182; sizes = sized 2 2 17 9; requests = []; replies = refused 1 ∷ [] }
    ∷ record { words = 182; sizes = sized 2 2 1 0; requests = []; replies = refused 1 ∷ [] }
    ∷ record { words = 12826; sizes = sized 64 64 16 9; requests = []; replies = first ok ∷ [] }
    ∷ record { words = 12825; sizes = sized 64 64 16 9; requests = []; replies = refused 2 ∷ [] }
    -- M = 1: once enqueue 1 has ended, a second enqueue start gives 6
    ∷ record {
      words = 182;
      sizes = sized 2 2 1 1;
      requests = start_enqueue 1 7 ∷ times 3 (step 1) ++ (start_enqueue 1 8 ∷ []);
      replies = first ok ∷ enqueue 1 4 ++ (refused 6 ∷ []);
    }
    ∷ []
