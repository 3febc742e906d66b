-- The calls *open*, *start enqueue*, *start dequeue*, *start drain* and *step*: from the lent words and the arguments to the reply and the
-- words after, every refusal in the table's order (document 01, "Calls" and "Where a call is turned down"; document 02, U5).
use Rattle.std.specs.Prelude.{Bool, false, ◌||◌, not, cond, List, [], ◌∷◌, ◌++◌, ℕ, suc, ◌+◌, ◌*◌, ltb, eqb, length, get_or, drop, replicate}
use Rattle.std.proofs.lemmas.List.Edits.{sets}
use Rattle.history.specs.Linearization.{Item}
use Rattle.rules.specs.Sizes.{Sizes, between, sizes_in_range, most_steps, most_drained, content_words, first_record, store_words}
use Rattle.rules.specs.Cell.{Cell, Reader, Write, reader, writes, ◌:=◌, content, last_claimed, tail, tail_record, head_record, starts, consumer_phase, drain_limit, phase, call, value, position, enqueue_steps, step_count, place, used}
use Rattle.rules.specs.Range.{in_range}
use Rattle.rules.specs.Free.{next_free}
use Rattle.rules.specs.Rule.{Effect, Reply, Response, refused, accepted, ok, started, going, ended, empty, item, drained, refuse, reply, up_to}
use Rattle.rules.specs.Producer.{producer_step}
use Rattle.rules.specs.Consumer.{consumer_step}

-- What a call leaves: its reply, and every lent word, of the store and of the buffer.
pub record Result : Type 0 where
  pub reply : Response
  pub words : List ℕ
  pub buffer : List ℕ

-- The words of some items: call number and value of each.
abbrev pub item_words : List Item → List ℕ
item_words [] = []
item_words (x ∷ xs) = x.number ∷ x.value ∷ item_words xs

-- Refusal 15: the buffer is too short from the named word, or ends before it. Only the end of a drain looks at it.
abbrev pub too_short : (buffer : List ℕ) (from : ℕ) → Reply → Bool
too_short b n (drained xs) = ltb (length b) (n + 2 * length xs)
too_short b n ok = false
too_short b n (started k) = false
too_short b n going = false
too_short b n ended = false
too_short b n empty = false
too_short b n (item k v) = false

-- The items go into the buffer from the named word; other words stay.
abbrev pub handed_over : (buffer : List ℕ) (from : ℕ) → Reply → List ℕ
handed_over b n (drained xs) = sets b n (item_words xs)
handed_over b n ok = b
handed_over b n (started k) = b
handed_over b n going = b
handed_over b n ended = b
handed_over b n empty = b
handed_over b n (item k v) = b

-- A refused call changes no word; an accepted one makes its writes, and one that ends a drain hands its items over. 15 is looked at last.
unfoldable pub applied : (steps : ℕ) → Sizes → (words buffer : List ℕ) (from : ℕ) → Effect → Result
applied k z m b n (refuse e) = record { reply = refused e; words = m; buffer = b }
applied k z m b n (reply r ws) =
    cond (too_short b n r) (record { reply = refused 15; words = m; buffer = b })
    (record { reply = accepted r k; words = writes z m ws; buffer = handed_over b n r })

-- *Open* zeroes the store, writes the contents, and links record 0 with place 1 as head and tail record. After opening, the last one
-- claimed is record 0. Words past the store are never written.
abbrev pub open_writes : Sizes → List Write
open_writes z =
    content 0 := z.B
    ∷ content 1 := z.N
    ∷ content 2 := z.P
    ∷ content 3 := z.M
    ∷ content 4 := content_words
    ∷ content 5 := first_record z
    ∷ tail_record := 1
    ∷ head_record := 1
    ∷ last_claimed := 1
    ∷ place 0 := 1
    ∷ used 0 := 2
    ∷ []

unfoldable pub opened : Sizes → List ℕ → List ℕ
opened z m = writes z (replicate (store_words z) 0 ++ drop (store_words z) m) (open_writes z)

-- 1: B, N, P or M outside its limits. 2: store shorter than 16 words, or than its sizes need. It is lent no buffer.
unfoldable pub open_store : Sizes → List ℕ → Result
open_store z m =
    cond (not (sizes_in_range z)) (record { reply = refused 1; words = m; buffer = [] })
    (cond (ltb (length m) 16 || ltb (length m) (store_words z)) (record { reply = refused 2; words = m; buffer = [] })
    (record { reply = accepted ok 0; words = opened z m; buffer = [] }))

-- A start or a step.
pub data Request : Type 0 where
  start_enqueue : (producer value : ℕ) → Request
  start_dequeue : Request
  start_drain : (limit : ℕ) → Request
  step : (thread : ℕ) → Request

-- A call as it is made: every step is lent a word buffer, and names a word of it. (A start is lent none, and looks at neither.)
pub record Invocation : Type 0 where
  pub request : Request
  pub buffer : List ℕ
  pub from : ℕ

abbrev pub lending : (buffer : List ℕ) (from : ℕ) → Request → Invocation
lending b n q = record { request = q; buffer = b; from = n }

-- *Start enqueue* gives call number starts + 1 and takes a position: L becomes tail, tail grows by one. The take is the call's first step;
-- phase 2 (document 02, U8).
abbrev pub start_writes : Reader → (t v : ℕ) → List Write
start_writes σ t v =
    starts := suc (σ starts)
    ∷ tail := suc (σ tail)
    ∷ phase t := 2
    ∷ call t := suc (σ starts)
    ∷ value t := v
    ∷ position t := σ tail
    ∷ enqueue_steps t := 1
    ∷ []

-- 4: no such producer. 5: that thread has a call under way. 6: starts equal M. 9: tail equals M.
unfoldable pub starting_enqueue : (t v : ℕ) → Sizes → Reader → Effect
starting_enqueue t v z σ =
    cond (eqb t 0 || ltb z.P t) (refuse 4)
    (cond (not (eqb (σ (phase t)) 0)) (refuse 5)
    (cond (eqb (σ starts) z.M) (refuse 6)
    (cond (eqb (σ tail) z.M) (refuse 9)
    (reply (started (suc (σ starts))) (start_writes σ t v)))))

-- *Start dequeue* puts the consumer in phase 1. 5: that thread has a call under way.
unfoldable pub starting_dequeue : Sizes → Reader → Effect
starting_dequeue z σ = cond (not (eqb (σ consumer_phase) 0)) (refuse 5) (reply ok (consumer_phase := 1 ∷ []))

-- *Start drain* (limit) puts the consumer in phase 1 and stores the limit. 5: that thread has a call under way. 14: a limit outside 1 to 64.
unfoldable pub starting_drain : (limit : ℕ) → Sizes → Reader → Effect
starting_drain n z σ =
    cond (not (eqb (σ consumer_phase) 0)) (refuse 5)
    (cond (not (between 1 most_drained n)) (refuse 14) (reply ok (drain_limit := n ∷ consumer_phase := 1 ∷ [])))

-- *Step* (thread) does one phase, where a claim takes this record (plus one; zero for none). 4: a thread above P. 7: thread idle. 8 and 9
-- are the phases' own.
unfoldable pub phase_step : (choice : ℕ) → ℕ → Sizes → Reader → Effect
phase_step choice t z σ =
    cond (ltb z.P t) (refuse 4)
    (cond (eqb t 0)
    (cond (eqb (σ consumer_phase) 0) (refuse 7) (consumer_step z σ))
    (cond (eqb (σ (phase t)) 0) (refuse 7) (producer_step choice z σ t)))

-- The number of accepted steps is kept where the call goes on; a call that ends has cleared its thread.
abbrev pub count_kept : Cell → ℕ → Reply → List Write
count_kept c k going = c := k ∷ []
count_kept c k ok = []
count_kept c k (started n) = []
count_kept c k ended = []
count_kept c k empty = []
count_kept c k (item n v) = []
count_kept c k (drained xs) = []

-- An accepted step is the k-th of its call. Refusal 9: that number would leave its range; looked at after the phase's own 8 and 9.
unfoldable pub counted : Cell → (k : ℕ) → Effect → Effect
counted c k (refuse n) = refuse n
counted c k (reply r ws) = up_to most_steps k (reply r (ws ++ count_kept c k r))

-- A step does its phase and is counted.
unfoldable pub stepping : (choice : ℕ) → ℕ → Sizes → Reader → Effect
stepping choice t z σ = counted (step_count t) (suc (σ (step_count t))) (phase_step choice t z σ)

-- What each call does. A claim takes the next free record.
unfoldable pub effect : Request → Sizes → Reader → Effect
effect (start_enqueue t v) z σ = starting_enqueue t v z σ
effect start_dequeue z σ = starting_dequeue z σ
effect (start_drain n) z σ = starting_drain n z σ
effect (step t) z σ = stepping (next_free z σ) t z σ

-- the sizes that words 0 to 3 give
abbrev pub sizes_of : List ℕ → Sizes
sizes_of m = record { B = get_or m 0 0; N = get_or m 1 0; P = get_or m 2 0; M = get_or m 3 0 }

-- 2: store shorter than 16 words. 3: words 0 to 3 out of range. 2: shorter than its sizes need. 3: another word out of range.
-- Then the call's own.
unfoldable pub admitted : List ℕ → (Sizes → Reader → Effect) → Effect
admitted m f =
    cond (ltb (length m) 16) (refuse 2)
    (cond (not (sizes_in_range (sizes_of m))) (refuse 3)
    (cond (ltb (length m) (store_words (sizes_of m))) (refuse 2)
    (cond (not (in_range (sizes_of m) (reader (sizes_of m) m))) (refuse 3) (f (sizes_of m) (reader (sizes_of m) m)))))

-- The number of accepted steps that an accepted call's reply carries: a start enqueue 1, its take; another start 0; a step the stored number
-- plus one.
abbrev pub steps_so_far : Request → Reader → ℕ
steps_so_far (start_enqueue t v) σ = 1
steps_so_far start_dequeue σ = 0
steps_so_far (start_drain n) σ = 0
steps_so_far (step t) σ = suc (σ (step_count t))

unfoldable pub result : Invocation → List ℕ → Result
result v m =
    applied (steps_so_far v.request (reader (sizes_of m) m)) (sizes_of m) m v.buffer v.from (admitted m (effect v.request))
