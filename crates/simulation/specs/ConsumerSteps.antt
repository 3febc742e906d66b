-- What the consumer's steps share: its words by its phase, the records it stands in, and the empty answer, where a drain ends too.
use Rattle.std.specs.Prelude.{◌≡◌, refl, ◌≢◌, true, false, List, [], ◌∷◌, ℕ, zero, suc, ◌+◌, ◌*◌, ◌/◌, ◌%◌, ◌≤◌, ◌<◌, eqb, length, get_or}
use Rattle.std.proofs.Common.{ap, sym, ◌∙◌, subst, mod-lt, arith, eq-eqb, eqb-true, leb-true}
use Rattle.std.proofs.Math.Path.{subst⁻¹}
use Rattle.std.proofs.Math.Nat.{div-add-mod, lt_of_mul-lt-mul_left}
use Rattle.std.proofs.lemmas.Bool.{eqb-false}
use Rattle.history.specs.Lists.{All}
use Rattle.history.specs.Event.{History, gave_item, gave_empty, withdrawn}
use Rattle.history.specs.Form.{well_formed}
use Rattle.history.specs.Linearization.{Item}
use Rattle.criterion.specs.Growth.{dequeue_may_be_empty}
use Rattle.criterion.specs.Settle.{settled_formed}
use Rattle.rules.specs.Sizes.{Sizes}
use Rattle.rules.specs.Cell.{Reader, Write, ◌:=◌, all_handled, clear_consumer, clear_drain, consumer, drain, pair, drain_limit, drain_count, pair_number, pair_value, consumer_phase, cursor_record, cursor_position, found_record, found_position, item_number, item_value, tail, tail_record, head_record, place, next, used, of_consumer}
use Rattle.rules.specs.Update.{after, Own, own_leaves, written_already}
use Rattle.rules.specs.Range.{number, consumer_sorts, consumer_in_range, drain_in_range, most_all_handled}
use Rattle.rules.specs.Rule.{Effect, Reply, going, empty, drained, cross}
use Rattle.rules.specs.Consumer.{by_state, pair_at, items_marked, ends_empty}
use Rattle.rules.specs.Request.{Request, step}
use Rattle.rules.specs.Play.{thread_of, drain_ended}
use Rattle.rules.specs.Readback.{WriteThere}
use Rattle.rules.specs.InRange.{InSort, writes_keep_range}
use Rattle.model.specs.State.{Entry, blank, put, gone, Consumer, resting}
use Rattle.model.specs.Invariant.{HandledFrom, Invariant, is_busy}
use Rattle.model.specs.Known.{handled_to_tail}
use Rattle.model.specs.Moves.{with_consumer, answer_empty}
use Rattle.model.specs.Settling.{settle_keeps}
use Rattle.memory.specs.Listed.{Joined, Onward, onward, from_right}
use Rattle.memory.specs.Memory.{row_of, Linked, Memory, head_listed, tail_listed}
use Rattle.memory.specs.Light.{Light, consumer_keeps}
use Rattle.simulation.specs.View.{Ghost, places_of, place_of, consumer_at, consumer_of, view, code_of, AgreesWith}
use Rattle.simulation.specs.Good.{Good, Pending, told, Goes, Fine, Moved, Tells, places_stay, by_need, by_cond, by_up_to}
use Rattle.simulation.specs.Told.{Early, early, told_early, tells_going, none_pending, tells_end}
use Rattle.simulation.specs.DrainWords.{drain_in, drain_from, no_drain, marked_length, ended_with}
use Rattle.simulation.specs.Rows.{has_sort, ConsumerWords, consumer_row_has, consumer_row_of}
use Rattle.simulation.specs.OwnWords.{with_history, later, ScanOk, scan_none, consumer_own}
use Rattle.simulation.specs.Limits.{limits}

-- an entry's state by cases
pub by_state_lem : (P : Effect → Type 0) (x : ℕ) (e : Entry) (a b c : Effect) → x ≡ code_of e
    → (e ≡ blank → P a) → (e ≡ put → P b) → (e ≡ gone → P c) → P (by_state x a b c)
by_state_lem P x blank a b c q f g h = rw q (f refl)
by_state_lem P x put a b c q f g h = rw q (g refl)
by_state_lem P x gone a b c q f g h = rw q (h refl)

-- whether an entry is set, by its state
pub is_set : (x : ℕ) (e : Entry) → x ≡ code_of e → eqb x 1 ≡ true → e ≡ put
is_set x blank q b = absurd (omega (arith, eqb-true x 1 b))
is_set x put q b = refl
is_set x gone q b = absurd (omega (arith, eqb-true x 1 b))

pub is_not_set : (x : ℕ) (e : Entry) → x ≡ code_of e → eqb x 1 ≡ false → e ≡ put → ⊥
is_not_set x e q b p = eqb-false x 1 b (q ∙ ap code_of p)

-- what stands beside the store, with other entries and another history
abbrev pub with_entries : Ghost → (ℕ → Entry) → History → Ghost
with_entries γ entries h = record { shape = γ.shape; entry = entries; content = γ.content; history = h }

-- zero into the words that a drain used; word 12 too, where it may have been in use
abbrev pub cleared : List Write
cleared = clear_consumer ∷ clear_drain ∷ []

abbrev emptied : List Write
emptied = all_handled := 0 ∷ cleared

-- and into those of a dequeue
abbrev dequeue_emptied : List Write
dequeue_emptied = all_handled := 0 ∷ clear_consumer ∷ []

module _ (z : Sizes) (σ : Reader) (γ : Ghost) (good : Good z σ γ) where
  -- the consumer's words 1 to 7, by its phase
  pub consumer_words : (p : ℕ) → σ consumer_phase ≡ p → ConsumerWords z (λ k. σ (consumer k)) (get_or consumer_sorts p [])
  consumer_words = consumer_row_has z (λ k. σ (consumer k)) good.range.consuming

  -- the consumer of the position machine, by its phase
  pub consumer_at_lem : (p : ℕ) → σ consumer_phase ≡ p
      → (view σ γ).consumer
      ≡ consumer_at p (σ cursor_position) (place_of (places_of σ) (σ cursor_record)) (σ found_position) (place_of (places_of σ) (σ found_record))
      (record { number = σ item_number; value = σ item_value })
  consumer_at_lem p e =
      ap
      (λ (x : ℕ). consumer_at x (σ cursor_position) (place_of (places_of σ) (σ cursor_record)) (σ found_position) (place_of (places_of σ) (σ found_record))
      (record { number = σ item_number; value = σ item_value }))
      e

  -- A position up to tail is a number in range.
  pub tail_fits : σ tail ≤ z.M
  tail_fits = has_sort z number (σ tail) (good.range.words tail (omega arith))

  -- The head record is that of place lo.
  pub head_placed : place_of (places_of σ) (σ head_record) ≡ γ.shape.lo
  head_placed =
      ap (place_of (places_of σ)) good.memory.head_is
      ∙ good.memory.chain.placed γ.shape.lo (head_listed good.memory)

  pub head_linked : Linked σ (σ head_record)
  head_linked =
      rw good.memory.head_is
      (good.memory.chain.linked γ.shape.lo (head_listed good.memory))

  -- by its number
  module _ (h : ℕ) (q : σ head_record ≡ suc h) where
    pub head_record_linked : σ (used h) ≡ 2
    head_record_linked = rw q at head_linked

    pub head_record_placed : σ (place h) ≡ γ.shape.lo
    head_record_placed = ap (place_of (places_of σ)) (sym q) ∙ head_placed

  -- A linked record whose place is not the tail's: it is not the tail record, and it has a next, one place on.
  pub tail_record_is : (r : ℕ) → σ (used r) ≡ 2 → σ tail_record ≡ suc r → σ (place r) ≡ γ.shape.tp
  tail_record_is r u e =
      let is : r ≡ γ.shape.at γ.shape.tp = omega (arith, good.memory.tail_is) in
      ap (λ (x : ℕ). σ (place x)) is ∙ good.memory.chain.placed γ.shape.tp (tail_listed good.memory)

  pub not_tail_record : (r : ℕ) → σ (used r) ≡ 2 → (σ tail_record ≡ suc r → ⊥) → σ (place r) ≢ γ.shape.tp
  not_tail_record r u n e = n (good.memory.tail_is ∙ ap suc (ap γ.shape.at (sym e) ∙ (good.memory.chain.only r u).1))

  -- Where a crossing lands: the place that record r's is joined to, and its record n. Every position between is handled.
  pub record Lands (r n : ℕ) : Type 0 where
    pub before : ℕ
    pub joined : Joined γ.shape.lo γ.shape.hi γ.shape.gap (σ (place r)) (suc before)
    pub is : n ≡ γ.shape.at (suc before)
    pub linked : σ (used n) ≡ 2
    pub placed : σ (place n) ≡ suc before
    pub handled : HandledFrom z.B (view σ γ) (z.B * σ (place r)) (z.B * before)
    pub on : σ (place r) ≤ before
    pub before_tail : before < γ.shape.tp

  -- To cross from a linked record before the tail record leads to the first position of the next one in the list.
  pub by_cross : (P : Effect → Type 0) (r : ℕ) (f : ℕ → ℕ → Effect) → σ (used r) ≡ 2 → σ (place r) < γ.shape.tp
      → z.B * σ (place r) ≤ σ tail
      → ((n : ℕ) (l : Lands r n) → P (f n (z.B * l.before)))
      → P (cross z σ r f)
  by_cross P r f u l reached each =
      let o = m.chain.only r u in
      go (onward (σ (place r)) γ.shape.tp o.0 (tail_listed m) l) o.1
    where
      m : Memory z σ γ.shape
      m = good.memory

      -- a position of a place between is one of a gap
      between : (q : ℕ) → Joined γ.shape.lo γ.shape.hi γ.shape.gap (σ (place r)) (suc q)
          → HandledFrom z.B (view σ γ) (z.B * σ (place r)) (z.B * q)
      between q j p a b =
          let positive : 0 < z.B = omega (arith, (limits z good.sizes).two_entries) in
          let whole : z.B * (p / z.B) + p % z.B ≡ p = div-add-mod p z.B in
          let below : p % z.B < z.B = mod-lt p positive in
          let first : σ (place r) < suc (p / z.B) = lt_of_mul-lt-mul_left z.B (omega arith) in
          let last : p / z.B < q = lt_of_mul-lt-mul_left z.B (omega arith) in
          ap γ.entry (sym whole)
          ∙ good.agrees.folded (p / z.B) (p % z.B) (j.between (suc (p / z.B)) first (omega arith)) below

      lands : (q : ℕ) → Joined γ.shape.lo γ.shape.hi γ.shape.gap (σ (place r)) (suc q) → (n : ℕ) → n ≡ γ.shape.at (suc q) → Lands r n
      lands q j n is =
          record {
            before = q;
            joined = j;
            is = is;
            linked = ap (λ (x : ℕ). σ (used x)) is ∙ m.chain.linked (suc q) j.right;
            placed = ap (λ (x : ℕ). σ (place x)) is ∙ m.chain.placed (suc q) j.right;
            handled = between q j;
            on = omega (arith, j.rises);
            before_tail = from_right j γ.shape.tp (tail_listed m) l;
          }

      to-place : (k : ℕ) → Joined γ.shape.lo γ.shape.hi γ.shape.gap (σ (place r)) k → σ (next r) ≡ suc (γ.shape.at k) → P (cross z σ r f)
      to-place zero j onward = absurd (omega (arith, j.rises))
      to-place (suc q) j onward =
          by_need P (σ (next r)) _ (λ e. omega arith)
          (λ n e.
          let is : n ≡ γ.shape.at (suc q) = omega arith in
          let w = lands q j n is in
          by_need P (σ (place n)) _ (λ c. omega (arith, w.placed))
          (λ c d.
          let same : q ≡ c = omega (arith, w.placed) in
          by_up_to P z.M (z.B * c) _
          (rw (← same) (omega (arith, tail_fits, handled_to_tail z.B (view σ γ) good.model (z.B * σ (place r)) (z.B * q) reached w.handled)))
          (rw (← same) (each n w))))

      go : Onward γ.shape.lo γ.shape.hi γ.shape.gap (σ (place r)) → γ.shape.at (σ (place r)) ≡ r → P (cross z σ r f)
      go o is =
          to-place o.place o.joined (ap (λ (x : ℕ). σ (next x)) (sym is) ∙ m.chain.nexts (σ (place r)) o.place o.joined)

  -- A consumer whose words are all zero is idle.
  pub resting_in_range : (σ' : Reader) → ((k : ℕ) → σ' (consumer k) ≡ 0) → consumer_in_range z σ' ≡ true
  resting_in_range σ' none =
      consumer_row_of z (λ k. σ' (consumer k)) 0 (none 0) (omega arith)
      (record { cursor_record = none 1; cursor_position = none 2; found_record = none 3; found_position = none 4; item_number = none 5; item_value = none 6; steps = none 7 })

  -- A step of the consumer that writes its own words alone, and goes on to phase p.
  pub consumer_goes : Early σ → (ws : List Write) (p : ℕ) (x : Consumer) → All (Own of_consumer) ws → after σ ws consumer_phase ≡ p → (1 ≤ p) × (p < 8)
      → ConsumerWords z (λ k. after σ ws (consumer k)) (get_or consumer_sorts p [])
      → Linked σ (after σ ws cursor_record) × Linked σ (after σ ws found_record)
      → consumer_of (after σ ws) ≡ x
      → ScanOk z σ γ good (after σ ws) x
      → Invariant z.B (with_consumer (view σ γ) x)
      → Goes z σ γ (step 0) going ws
  consumer_goes before ws p x own phase l row linked seen scan model =
      consumer_own z σ γ good ws own (step 0) refl going x γ.history (consumer_row_of z (λ k. after σ ws (consumer k)) p phase (omega arith) row)
      (λ idle. absurd (omega arith))
      linked
      seen
      scan
      model
      good.formed
      (tells_going σ (after σ ws) (step 0) γ.history before (early (after σ ws) phase l.1) (λ k. own_leaves of_consumer σ ws own (drain k) refl)
      (λ i k. own_leaves of_consumer σ ws own (pair i k) refl)
      good.pending)

  -- A step of the consumer that writes none of the records' words outside the entries, nor the head record.
  pub light_keeps : (ws : List Write) (entries : ℕ → Entry) (h : History)
      → All (InSort z 0) ws
      → Light σ (after σ ws)
      → ((u k : ℕ) → row_of (after σ ws) u k ≡ row_of σ u k)
      → (after σ ws tail_record ≡ σ tail_record) × (after σ ws head_record ≡ σ head_record)
      → (consumer_in_range z (after σ ws) ≡ true) × (drain_in_range z (after σ ws) ≡ true)
      → after σ ws all_handled ≡ 0
      → Linked σ (after σ ws cursor_record) × Linked σ (after σ ws found_record)
      → AgreesWith z.B (after σ ws) (with_entries γ entries h)
      → Invariant z.B (view (after σ ws) (with_entries γ entries h))
      → well_formed h ≡ true
      → Pending (after σ ws) h
      → Good z (after σ ws) (with_entries γ entries h)
  light_keeps ws entries h in_sort light rows ends in_row no_scan linked agrees model formed pending =
      record {
        sizes = good.sizes;
        range = writes_keep_range z 0 σ ws in_sort good.range (λ e. (in_row.0, in_row.1, (scan_none z σ γ good (after σ ws) resting no_scan).fits)) (λ l. absurd (omega arith));
        memory = consumer_keeps z σ (after σ ws) γ.shape good.memory light ends.0 ends.1 linked.0 linked.1 rows;
        agrees = agrees;
        model = model;
        formed = formed;
        pending = pending;
        read = λ e. absurd (omega arith);
      }

  pub consumer_light : (q : Request) → thread_of q ≡ 0 → (r : Reply) (ws : List Write) (entries : ℕ → Entry) (h : History)
      → All (InSort z 0) ws
      → All (WriteThere z) ws
      → Light σ (after σ ws)
      → ((u k : ℕ) → row_of (after σ ws) u k ≡ row_of σ u k)
      → (after σ ws tail_record ≡ σ tail_record) × (after σ ws head_record ≡ σ head_record)
      → (consumer_in_range z (after σ ws) ≡ true) × (drain_in_range z (after σ ws) ≡ true)
      → after σ ws all_handled ≡ 0
      → Linked σ (after σ ws cursor_record) × Linked σ (after σ ws found_record)
      → AgreesWith z.B (after σ ws) (with_entries γ entries h)
      → Invariant z.B (view (after σ ws) (with_entries γ entries h))
      → well_formed h ≡ true
      → Tells σ (after σ ws) q r γ.history h
      → σ tail ≤ after σ ws tail
      → Goes z σ γ q r ws
  consumer_light q of r ws entries h in_sort there light rows ends in_row no_scan linked agrees model formed tells grows =
      record {
        there = there;
        next = with_entries γ entries h;
        good = light_keeps ws entries h in_sort light rows ends in_row no_scan linked agrees model formed tells.pending;
        grown = tells.grown;
        moved =
            subst⁻¹ (λ (t : ℕ). Moved t σ (after σ ws) γ (with_entries γ entries h)) of
            (places_stay z 0 σ γ (with_entries γ entries h) ws in_sort (λ x. light.parts x 0) grows (omega arith) (omega arith) (λ l. absurd (omega arith)));
      }

  -- The consumer's words and the drain area are then zero.
  pub record AllZero (ws : List Write) : Type 0 where
    pub words : (k : ℕ) → after σ ws (consumer k) ≡ 0
    pub limit : after σ ws drain_limit ≡ 0
    pub count : after σ ws drain_count ≡ 0
    pub pairs : (i k : ℕ) → after σ ws (pair i k) ≡ 0

  pub zero_in_range : (ws : List Write) → AllZero ws → (consumer_in_range z (after σ ws) ≡ true) × (drain_in_range z (after σ ws) ≡ true)
  zero_in_range ws none = (
    resting_in_range (after σ ws) none.words,
    drain_from z (after σ ws) (no_drain z (after σ ws) none.limit none.count none.pairs),
  )

  -- No drain is under way: nothing is counted.
  pub none_counted : σ drain_limit ≡ 0 → σ drain_count ≡ 0
  none_counted none = omega (arith, (drain_in z σ good.range.draining).counted)

  -- The consumer rests after a drain.
  drain_emptied : (h : History) → well_formed h ≡ true → Invariant z.B (with_history (with_consumer (view σ γ) resting) h) → Good z (after σ emptied) (later γ h)
  drain_emptied h formed model =
      light_keeps emptied γ.entry h (refl, (refl, (refl, tt))) (record { parts = λ x k. refl; entries = λ x u i k. refl }) (λ u k. refl) (refl, refl)
      (zero_in_range emptied (record { words = λ k. refl; limit = refl; count = refl; pairs = λ i k. refl }))
      refl
      (tt, tt)
      good.agrees
      model
      formed
      (none_pending (after σ emptied) h (omega arith) refl refl)

  -- Word 12 is zero but in phases 3 and 4.
  pub no_scan : (p : ℕ) → σ consumer_phase ≡ p → most_all_handled p ≡ 0 → σ all_handled ≡ 0
  no_scan p e none = omega (arith, leb-true (σ all_handled) (most_all_handled (σ consumer_phase)) good.range.scanning, ap most_all_handled e)

  pub drain_cleared : σ all_handled ≡ 0 → (h : History) → well_formed h ≡ true → Invariant z.B (with_history (with_consumer (view σ γ) resting) h)
      → Good z (after σ cleared) (later γ h)
  drain_cleared none h formed model =
      subst (λ (τ : Reader). Good z (after τ cleared) (later γ h)) (written_already σ all_handled 0 none) (drain_emptied h formed model)

  -- The history in which the end of a drain's last item, pair c, moves here.
  abbrev pub settled_with : (c : ℕ) → History
  settled_with c = gave_item (σ (pair_number c)) (σ (pair_value c)) ∷ withdrawn γ.history

  pub settled_is : (c : ℕ) → σ drain_count ≡ suc c → drain_ended (σ drain_count) (items_marked σ (suc c)) γ.history ≡ settled_with c
  settled_is c e =
      ended_with (σ drain_count) (items_marked σ c) (pair_at σ c) γ.history
      ∙ rw (eq-eqb (suc (length (items_marked σ c))) (σ drain_count) (ap suc (marked_length σ c) ∙ sym e)) refl

  -- A dequeue answers empty, and a drain ends with what it has marked. If that is nothing, the answer empty is fine.
  module _ (before : told σ γ.history ≡ γ.history) (busy : is_busy (view σ γ).consumer ≡ true) where
    dequeue_ends : σ drain_limit ≡ 0 → Invariant z.B (answer_empty (view σ γ)) → Goes z σ γ (step 0) empty dequeue_emptied
    dequeue_ends none model =
        consumer_own z σ γ good dequeue_emptied ((refl, omega arith), ((refl, omega arith), tt)) (step 0) refl empty resting (gave_empty ∷ γ.history)
        (resting_in_range (after σ dequeue_emptied) (λ k. refl))
        (λ idle. none)
        (tt, tt)
        refl
        (scan_none z σ γ good (after σ dequeue_emptied) resting refl)
        model
        (dequeue_may_be_empty γ.history good.formed (good.model.calls.of_consumer_lem ∙ busy))
        (tells_end σ (after σ dequeue_emptied) (step 0) empty γ.history (gave_empty ∷ γ.history) before (omega arith) none (none_counted none) refl)

    drain_ends : (xs : List Item) (h : History) → h ≡ drain_ended (σ drain_count) xs γ.history → well_formed h ≡ true
        → Invariant z.B (with_history (with_consumer (view σ γ) resting) h)
        → Goes z σ γ (step 0) (drained xs) emptied
    drain_ends xs h is formed model =
        record {
          there = (tt, (tt, (tt, tt)));
          next = later γ h;
          good = drain_emptied h formed model;
          grown = is ∙ ap (drain_ended (σ drain_count) xs) (sym before);
          moved = places_stay z 0 σ γ (later γ h) emptied (refl, (refl, (refl, tt))) (λ x. refl) (omega arith) (omega arith) (omega arith) (λ l. absurd (omega arith));
        }

    -- the last item's end is told here
    drain_settles : (c : ℕ) → σ drain_count ≡ suc c → Goes z σ γ (step 0) (drained (items_marked σ (suc c))) emptied
    drain_settles c e =
        let late = good.pending.of_drain c e in
        drain_ends (items_marked σ (suc c)) (settled_with c) (sym (settled_is c e)) (settled_formed late good.formed)
        (settle_keeps z.B (view σ γ) good.model good.formed late)

    ends_fine : (σ drain_count ≡ 0 → Invariant z.B (answer_empty (view σ γ))) → Fine z σ γ (step 0) (ends_empty z σ)
    ends_fine model =
        by_cond (Fine z σ γ (step 0)) (eqb (σ drain_limit) 0) _ _
        (λ b. let none : σ drain_limit ≡ 0 = eqb-true (σ drain_limit) 0 b in dequeue_ends none (model (none_counted none)))
        (λ b. by_count (σ drain_count) refl)
      where
        by_count : (c : ℕ) → σ drain_count ≡ c → Goes z σ γ (step 0) (drained (items_marked σ c)) emptied
        by_count zero e =
            drain_ends [] (gave_empty ∷ γ.history) refl (dequeue_may_be_empty γ.history good.formed (good.model.calls.of_consumer_lem ∙ busy)) (model e)
        by_count (suc c) e = drain_settles c e

  pub answers_empty : Early σ → is_busy (view σ γ).consumer ≡ true → (σ drain_count ≡ 0 → Invariant z.B (answer_empty (view σ γ)))
      → Fine z σ γ (step 0) (ends_empty z σ)
  answers_empty before = ends_fine (told_early σ before γ.history)
