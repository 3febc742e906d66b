-- The move past the end of the head record, which phases 1 and 8 share, and phase 8.
use Rattle.std.specs.Prelude.{◌≡◌, refl, ◌⊎◌, ◌≢◌, Bool, true, ◌&&◌, ◌||◌, cond, List, [], ◌∷◌, ◌++◌, ℕ, zero, suc, ◌+◌, ◌*◌, ◌≤◌, ◌<◌, eqb}
use Rattle.std.proofs.Common.{ap, ap₂, sym, ◌∙◌, subst, inl, inr, arith, ne_eqb, eqb-true}
use Rattle.std.proofs.Math.Path.{fun_ext}
use Rattle.std.proofs.Math.Bool.{and-false}
use Rattle.std.proofs.lemmas.Bool.{false≢true, eqb-false}
use Rattle.std.proofs.Math.Decide.{dec_le}
use Rattle.history.specs.Lists.{All}
use Rattle.history.specs.Event.{History, gave_item, withdrawn}
use Rattle.criterion.specs.Late.{Late}
use Rattle.criterion.specs.Settle.{settled_formed}
use Rattle.rules.specs.Sizes.{Sizes}
use Rattle.rules.specs.Cell.{Cell, content, last_claimed, all_handled, spare, consumer, producer, part, entry, drain, pair, Reader, Area, of_consumer, of_drain, Write, ◌:=◌, clear_consumer, tail, head_record, head_position, consumer_phase, cursor_record, found_record, found_position, item_number, item_value, scanned, drain_limit, drain_count, place, used, state}
use Rattle.rules.specs.Update.{area_of, update, after, neither, area_touched, other_area, OtherKind, other_kind, Own}
use Rattle.rules.specs.Range.{number, record_number, retiring_sorts}
use Rattle.rules.specs.Rule.{Effect, Reply, ok, started, going, ended, empty, item, drained}
use Rattle.rules.specs.Consumer.{items_marked, by_call, replies_item, goes_on, move_head, retire_head}
use Rattle.rules.specs.Request.{step}
use Rattle.rules.specs.Play.{drain_ended, recorded}
use Rattle.rules.specs.Readback.{WriteThere}
use Rattle.rules.specs.InRange.{InSort, writes_keep_range}
use Rattle.model.specs.State
use Rattle.model.specs.State.{Entry, blank, gone, resting}
use Rattle.model.specs.Invariant.{ConsumerOk}
use Rattle.model.specs.Moves
use Rattle.model.specs.Facts.{gone_not_blank}
use Rattle.model.specs.Known.{handled_to_tail, blank_past_head}
use Rattle.model.specs.Dequeues.{consumer_clause}
use Rattle.model.specs.Threads.{consumer_goes_on}
use Rattle.model.specs.Scanning.{retire_head_lem}
use Rattle.model.specs.Settling.{settle_keeps}
use Rattle.memory.specs.Listed.{Joined}
use Rattle.memory.specs.Memory.{ChainShape, ListedIn, Memory}
use Rattle.memory.specs.RetireHead.{retire_writes, retire_keeps}
use Rattle.simulation.specs.View.{Ghost, consumer_of, view, code_of}
use Rattle.simulation.specs.Good.{Good, Goes, Fine, untold, told, places_stay, by_need, by_cond}
use Rattle.simulation.specs.Told.{gone_on_lem, still_pending, none_pending}
use Rattle.simulation.specs.Rows.{of_sort_lem, ConsumerWords, consumer_row_of}
use Rattle.simulation.specs.DrainWords.{drain_in}
use Rattle.simulation.specs.OwnWords.{later, scan_none, consumer_keeps_good}
use Rattle.simulation.specs.Awaiting.{awaited_in}
use Rattle.simulation.specs.ConsumerSteps.{cleared, consumer_words, consumer_at_lem, tail_fits, no_scan, head_record_linked, head_record_placed, by_cross, resting_in_range, none_counted, drain_cleared, settled_with, settled_is}

-- what stands beside the store when the head record is retired, and the next one in the list is of place suc k
abbrev retired : (k : ℕ) → Ghost → Ghost
retired k γ =
    record {
      shape = record { lo = suc k; tp = γ.shape.tp; hi = γ.shape.hi; at = γ.shape.at; gap = γ.shape.gap };
      entry = γ.entry;
      content = γ.content;
      history = γ.history;
    }

-- The head's move: from the head record to that of place suc k, at position B × k.
pub record Move (B : ℕ) (g : ChainShape) (entry : ℕ → Entry) (k : ℕ) : Type 0 where
  pub first : Joined g.lo g.hi g.gap g.lo (suc k)
  pub handled : (p : ℕ) → B * g.lo ≤ p → p < B * k → entry p ≡ gone
  pub on : g.lo ≤ k
  pub before_tail : k < g.tp

abbrev pub MoveOf : Sizes → Ghost → ℕ → Type 0
MoveOf z γ = Move z.B γ.shape γ.entry

module _ (z : Sizes) (σ : Reader) (γ : Ghost) (good : Good z σ γ) where
  m : Memory z σ γ.shape
  m = good.memory

  abbrev lo : ℕ
  lo = γ.shape.lo

  -- what the move writes
  abbrev moved : (k : ℕ) → List Write
  moved k = retire_writes (γ.shape.at lo) (γ.shape.at (suc k)) (z.B * k)

  -- The head stands at the end of its record, and that is not the tail record.
  module _ (at_end_lem : σ head_position ≡ z.B * lo) (more : lo < γ.shape.tp) where
    -- The move is from the record of place lo to the next one in the list.
    pub by_move_head : (P : Effect → Type 0) (h : ℕ) → σ head_record ≡ suc h → (f : List Write → Effect)
        → ((k : ℕ) → MoveOf z γ k → P (f (moved k))) → P (move_head z σ h f)
    by_move_head P h q f each =
        let linked : σ (used h) ≡ 2 = head_record_linked z σ γ good h q in
        let placed : σ (place h) ≡ lo = head_record_placed z σ γ good h q in
        by_cross z σ γ good P h (λ n p. f (retire_writes h n p)) linked (omega arith) (rw placed (omega (arith, at_end_lem, good.model.places.head_below)))
        (λ n l.
        let a : γ.shape.at lo ≡ h = ap γ.shape.at (sym placed) ∙ (m.chain.only h linked).1 in
        let w : MoveOf z γ l.before = record {
          first = rw placed at l.joined;
          handled = λ p b c. l.handled p (rw placed b) c;
          on = rw placed at l.on;
          before_tail = l.before_tail;
        } in
        subst P (λ i. f (retire_writes (a i) (sym l.is i) (z.B * l.before))) (each l.before w))

    module _ (k : ℕ) (move : MoveOf z γ k) where
      position_fits : z.B * k ≤ z.M
      position_fits =
          omega (arith, tail_fits z σ γ good, handled_to_tail z.B (view σ γ) good.model (z.B * lo) (z.B * k) (omega (arith, at_end_lem, good.model.places.head_below)) move.handled)

      first_fits : γ.shape.at lo < z.N
      first_fits = m.chain.fits lo move.first.left

      second_fits : γ.shape.at (suc k) < z.N
      second_fits = m.chain.fits (suc k) move.first.right

      -- its writes are in range and there
      in_sort : All (InSort z 0) (moved k)
      in_sort = (
        of_sort_lem z record_number (suc (γ.shape.at (suc k))) (omega arith, second_fits),
        (of_sort_lem z number (z.B * k) position_fits, (refl, tt)),
      )

      there : All (WriteThere z) (moved k)
      there = (omega arith, (omega arith, ((first_fits, omega arith), tt)))

      -- every entry of the old head record is below the head, so it has been handled
      handled : (i : ℕ) → i < z.B → σ (state (γ.shape.at lo) i) ≡ 1 → ⊥
      handled i l x = go lo refl move.first.left good.model.places.first
        where
          go : (j : ℕ) → lo ≡ j → ListedIn γ.shape j → 1 ≤ j → ⊥
          go zero w listed one = omega arith
          go (suc j) w listed one =
              let below : z.B * j + i < σ head_position = omega (arith, at_end_lem, ap (λ (y : ℕ). z.B * y) w) in
              let code : σ (state (γ.shape.at (suc j)) i) ≡ code_of (γ.entry (z.B * j + i)) = good.agrees.states j i listed l in
              let two : code_of (γ.entry (z.B * j + i)) ≡ 2 = ap code_of (good.model.entries.gone_below (z.B * j + i) below) in
              let same : σ (state (γ.shape.at lo) i) ≡ σ (state (γ.shape.at (suc j)) i) = ap (λ (y : ℕ). σ (state (γ.shape.at y) i)) w in
              omega arith

      -- an empty position is not before where the head moves to
      from : (L : ℕ) → γ.entry L ≡ blank → z.B * suc k ≤ L + z.B
      from L none = go (dec_le (z.B * k) L)
        where
          go : Dec (z.B * k ≤ L) → z.B * suc k ≤ L + z.B
          go (yes l) = omega arith
          go (no l) =
              let past : σ head_position ≤ L = blank_past_head z.B (view σ γ) good.model L none in
              absurd (gone_not_blank _ (move.handled L (omega arith) (omega arith)) none)

      -- a place of the shorter list
      longer : (j : ℕ) → ListedIn (retired k γ).shape j → ListedIn γ.shape j
      longer j l = record { from = omega (arith, l.from, move.first.rises); to = l.to; no_gap = l.no_gap }

      -- The move keeps the store good, of a consumer that stands in no record and whose phase says nothing of the head.
      module _ (ok : ConsumerOk z.B (Moves.retire_head z.B (view σ γ) k) (consumer_of σ)) (no-cursor : σ cursor_record ≡ 0)
          (no_found : σ found_record ≡ 0) where
        move_keeps : Good z (after σ (moved k)) (retired k γ)
        move_keeps =
            record {
              sizes = good.sizes;
              range = writes_keep_range z 0 σ (moved k) in_sort good.range (λ x. (good.range.consuming, good.range.draining, good.range.scanning)) (λ l. absurd (omega arith));
              memory =
                  retire_keeps z σ γ.shape m (z.B * k) (suc k) more move.first no-cursor no_found handled
                  (awaited_in z σ γ good (retired k γ).shape refl good.agrees.folded from);
              agrees =
                  record {
                    states = λ j i l s. good.agrees.states j i (longer (suc j) l) s;
                    numbers = λ j i l s. good.agrees.numbers j i (longer (suc j) l) s;
                    values = λ j i l s. good.agrees.values j i (longer (suc j) l) s;
                    folded = good.agrees.folded;
                    fresh = good.agrees.fresh;
                  };
              model = retire_head_lem z.B (view σ γ) good.model k move.on move.before_tail (λ p l b. move.handled p (omega arith) b) ok;
              formed = good.formed;
              pending = still_pending σ (after σ (moved k)) γ.history [] tt (record { words = λ j. refl; counts = λ j. refl; pairs = λ x j. refl }) good.pending;
              read = good.read;
            }

        -- 1 at the record's end. (What was told is as before: the phase stays.)
        pub retires : Goes z σ γ (step 0) going (moved k)
        retires =
            record {
              there = there;
              next = retired k γ;
              good = move_keeps;
              grown = sym (gone_on_lem σ (after σ (moved k)) (told σ γ.history) refl);
              moved = places_stay z 0 σ γ (retired k γ) (moved k) in_sort (λ r. refl) (omega arith) (omega arith) (omega arith) (λ l. absurd (omega arith));
            }

-- The move writes neither the consumer's words nor the drain area's: so it does not matter whether it comes before or after writes of those.
abbrev NotMoved : Write → Type 0
NotMoved w = (area_touched w ≡ of_consumer) ⊎ (area_touched w ≡ of_drain)

not_in : (w : Write) → NotMoved w → (a : Area) → OtherKind of_consumer a → OtherKind of_drain a → area_touched w ≡ a → ⊥
not_in w (inl e) a p q x = other_kind of_consumer a p (sym e ∙ x)
not_in w (inr e) a p q x = other_kind of_drain a q (sym e ∙ x)

own_leaves_all : (σ : Reader) (ws : List Write) → All NotMoved ws → (c : Cell) → OtherKind of_consumer (area_of c) → OtherKind of_drain (area_of c) → after σ ws c ≡ σ c
own_leaves_all σ [] own c p q = refl
own_leaves_all σ (w ∷ ws) own c p q = own_leaves_all (update σ w) ws own.1 c p q ∙ other_area σ w c (not_in w own.0 (area_of c) p q)

module _ (h n p : ℕ) where
  passes_one : (σ : Reader) (w : Write) → NotMoved w → after (update σ w) (retire_writes h n p) ≡ update (after σ (retire_writes h n p)) w
  passes_one σ w own = fun_ext each
    where
      leaves : (τ : Reader) (c : Cell) → OtherKind of_consumer (area_of c) → OtherKind of_drain (area_of c) → update τ w c ≡ τ c
      leaves τ c a b = other_area τ w c (not_in w own (area_of c) a b)

      each : (c : Cell) → after (update σ w) (retire_writes h n p) c ≡ update (after σ (retire_writes h n p)) w c
      each (content k) = rw (leaves σ (content k) refl refl, leaves (after σ (retire_writes h n p)) (content k) refl refl) refl
      each last_claimed = refl
      each all_handled = refl
      each (spare k) = refl
      each (consumer k) = refl
      each (producer t k) = refl
      each (part r k) = rw (leaves σ (part r k) refl refl, leaves (after σ (retire_writes h n p)) (part r k) refl refl) refl
      each (entry r i k) = refl
      each (drain k) = refl
      each (pair i k) = refl

  moved_last : (σ : Reader) (ws : List Write) → All NotMoved ws → after (after σ ws) (retire_writes h n p) ≡ after σ (retire_writes h n p ++ ws)
  moved_last σ [] own = refl
  moved_last σ (w ∷ ws) own = moved_last (update σ w) ws own.1 ∙ ap (λ (τ : Reader). after τ ws) (passes_one σ w own.0)

-- 8. The move and retirement of phase 1. Reply item, or as a drain goes on.
module _ (z : Sizes) (σ : Reader) (γ : Ghost) (good : Good z σ γ) (e : σ consumer_phase ≡ 8) where
  at_end_lem : (σ head_position ≡ z.B * γ.shape.lo) × (γ.shape.lo < γ.shape.tp)
  at_end_lem = consumer_clause z.B (view σ γ) good.model State.retiring (consumer_at_lem z σ γ good 8 e)

  module _ (k : ℕ) (move : MoveOf z γ k) where
    -- The consumer's own writes leave such a store, with this history; then comes the move.
    module _ (r : Reply) (ws : List Write) (h : History) (good' : Good z (after σ ws) (later γ h)) (own : All NotMoved ws)
        (sorted : All (InSort z 0) ws) (are-there : All (WriteThere z) ws) (same : (c : Cell) → OtherKind of_consumer (area_of c) → OtherKind of_drain (area_of c) → after σ ws c ≡ σ c)
        (no-cursor : after σ ws cursor_record ≡ 0) (no_found : after σ ws found_record ≡ 0)
        (as_seen : ConsumerOk z.B (Moves.retire_head z.B (view (after σ ws) (later γ h)) k) (consumer_of (after σ ws)))
        (grown : told (after σ ws) h ≡ recorded (step 0) σ (after σ ws) r (told σ γ.history)) where
      abbrev last : List Write
      last = moved z σ γ good k ++ ws

      one_way : after (after σ ws) (moved z σ γ good k) ≡ after σ last
      one_way = moved_last _ _ _ σ ws own

      moves_on : Goes z σ γ (step 0) r last
      moves_on =
          record {
            there = let w = there z σ γ good at_end_lem.0 at_end_lem.1 k move in (w.0, (w.1.0, (w.1.1.0, are-there)));
            next = retired k (later γ h);
            good =
                subst (λ (τ : Reader). Good z τ (retired k (later γ h))) one_way
                (move_keeps z (after σ ws) (later γ h) good' (same head_position refl refl ∙ at_end_lem.0) at_end_lem.1 k move as_seen no-cursor no_found);
            grown = subst (λ (τ : Reader). told τ h ≡ recorded (step 0) σ τ r (told σ γ.history)) one_way (by_reply r grown);
            moved =
                places_stay z 0 σ γ (retired k (later γ h)) last sorted_all
                (λ x. ap (λ (τ : Reader). τ (place x)) (sym one_way) ∙ same (place x) refl refl)
                (omega (arith, ap (λ (τ : Reader). τ tail) one_way, same tail refl refl))
                (omega arith)
                (omega arith)
                (λ l. absurd (omega arith));
          }
        where
          sorted_all : All (InSort z 0) last
          sorted_all = let w = in_sort z σ γ good at_end_lem.0 at_end_lem.1 k move in (w.0, (w.1.0, (w.1.1.0, sorted)))

          by_reply : (r : Reply) → told (after σ ws) h ≡ recorded (step 0) σ (after σ ws) r (told σ γ.history)
              → told (after (after σ ws) (moved z σ γ good k)) h ≡ recorded (step 0) σ (after (after σ ws) (moved z σ γ good k)) r (told σ γ.history)
          by_reply ok g = g
          by_reply (started n) g = g
          by_reply going g = g
          by_reply ended g = g
          by_reply empty g = g
          by_reply (item n v) g = g
          by_reply (drained xs) g = g

    -- A dequeue: the item's end is told, and the consumer rests.
    module _ (none : σ drain_limit ≡ 0) where
      is_untold : untold σ ≡ true
      is_untold = ap₂ (λ (p l : ℕ). eqb p 8 && eqb l 0) e none

      late : Late (σ item_number) (σ item_value) γ.history (withdrawn γ.history)
      late = good.pending.of_dequeue is_untold

      abbrev settled : History
      settled = gave_item (σ item_number) (σ item_value) ∷ withdrawn γ.history

      settles : Good z (after σ (clear_consumer ∷ [])) (later γ settled)
      settles =
          consumer_keeps_good z σ γ good (clear_consumer ∷ []) ((refl, omega arith), tt) resting settled
          (resting_in_range z σ γ good (after σ (clear_consumer ∷ [])) (λ k. refl))
          (λ idle. none)
          (tt, tt)
          refl
          (scan_none z σ γ good (after σ (clear_consumer ∷ [])) resting (no_scan z σ γ good 8 e refl))
          (settle_keeps z.B (view σ γ) good.model good.formed late)
          (settled_formed late good.formed)
          (none_pending (after σ (clear_consumer ∷ [])) settled (omega arith) none (none_counted z σ γ good none))

      gives : Goes z σ γ (step 0) (item (σ item_number) (σ item_value)) (moved z σ γ good k ++ (clear_consumer ∷ []))
      gives =
          moves_on (item (σ item_number) (σ item_value)) (clear_consumer ∷ []) settled settles (inl refl, tt) (refl, tt) (tt, tt)
          (own_leaves_all σ (clear_consumer ∷ []) (inl refl, tt))
          refl
          refl
          tt
          (ap (λ (b : Bool). gave_item (σ item_number) (σ item_value) ∷ cond b (withdrawn γ.history) γ.history) (sym is_untold))

    -- A drain: all is told.
    module _ (draining : σ drain_limit ≢ 0) where
      all_told : told σ γ.history ≡ γ.history
      all_told = rw (ne_eqb (σ drain_limit) 0 draining, and-false (eqb (σ consumer_phase) 8)) refl

      -- it ends: the last item's end moves here
      ends : (c : ℕ) → σ drain_count ≡ suc c → Goes z σ γ (step 0) (drained (items_marked σ (suc c))) (moved z σ γ good k ++ cleared)
      ends c count =
          let late = good.pending.of_drain c count in
          moves_on (drained (items_marked σ (suc c))) cleared (settled_with z σ γ good c)
          (drain_cleared z σ γ good (no_scan z σ γ good 8 e refl) (settled_with z σ γ good c) (settled_formed late good.formed) (settle_keeps z.B (view σ γ) good.model good.formed late))
          (inl refl, (inr refl, tt))
          (refl, (refl, tt))
          (tt, (tt, tt))
          (own_leaves_all σ cleared (inl refl, (inr refl, tt)))
          refl
          refl
          tt
          (sym (settled_is z σ γ good c count) ∙ ap (drain_ended (σ drain_count) (items_marked σ (suc c))) (sym all_told))

      -- it goes on from the front
      abbrev back : List Write
      back = found_record := 0 ∷ found_position := 0 ∷ item_number := 0 ∷ item_value := 0 ∷ consumer_phase := 1 ∷ []

      goes_back : σ drain_count ≢ σ drain_limit → σ scanned ≢ 1 → Goes z σ γ (step 0) going (moved z σ γ good k ++ back)
      goes_back more not-scanned =
          moves_on going back γ.history
          (consumer_keeps_good z σ γ good back own State.front γ.history
          (consumer_row_of z (λ k. after σ back (consumer k)) 1 refl (omega arith)
          (record { cursor_record = words.cursor_record; cursor_position = omega (arith, words.cursor_position); found_record = refl; found_position = refl; item_number = refl; item_value = refl; steps = words.steps }))
          (λ idle. absurd (omega arith))
          (good.memory.cursor, tt)
          refl
          (scan_none z σ γ good (after σ back) State.front (no_scan z σ γ good 8 e refl))
          (consumer_goes_on z.B (view σ γ) good.model State.retiring State.front (consumer_at_lem z σ γ good 8 e) refl tt)
          good.formed
          (record {
            of_dequeue = λ x. absurd (false≢true x);
            of_drain = good.pending.of_drain;
            below = λ l n. omega (arith, (drain_in z σ good.range.draining).counted);
            some = λ l x. absurd (omega arith);
          }))
          (inl refl, (inl refl, (inl refl, (inl refl, (inl refl, tt)))))
          (refl, (refl, (refl, (refl, (refl, tt)))))
          (omega arith, (omega arith, (omega arith, (omega arith, (omega arith, tt)))))
          (own_leaves_all σ back (inl refl, (inl refl, (inl refl, (inl refl, (inl refl, tt))))))
          words.cursor_record
          refl
          tt
          (sym (gone_on_lem σ (after σ back) (told σ γ.history) refl ∙ all_told))
        where
          words : ConsumerWords z (λ k. σ (consumer k)) retiring_sorts
          words = consumer_words z σ γ good 8 e

          own : All (Own of_consumer) back
          own = ((refl, omega arith), ((refl, omega arith), ((refl, omega arith), ((refl, omega arith), ((refl, omega arith), tt)))))

      goes_on_lem : Fine z σ γ (step 0) (goes_on z σ (σ drain_count) (items_marked σ (σ drain_count)) (moved z σ γ good k))
      goes_on_lem =
          by_cond (Fine z σ γ (step 0)) (eqb (σ drain_count) (σ drain_limit) || eqb (σ scanned) 1) _ _
          (λ b. by_count (σ drain_count) refl)
          (λ b.
          let n = neither (eqb (σ drain_count) (σ drain_limit)) (eqb (σ scanned) 1) b in
          goes_back (eqb-false (σ drain_count) (σ drain_limit) n.0) (eqb-false (σ scanned) 1 n.1))
        where
          by_count : (c : ℕ) → σ drain_count ≡ c → Goes z σ γ (step 0) (drained (items_marked σ c)) (moved z σ γ good k ++ cleared)
          by_count zero none = absurd (good.pending.some draining e none)
          by_count (suc c) count = ends c count

  pub retire_head_fine : Fine z σ γ (step 0) (retire_head z σ)
  unfolding retire_head
  retire_head_fine =
      by_need (Fine z σ γ (step 0)) (σ head_record) _ (λ x. omega (arith, good.memory.head_is))
      (λ h q.
      by_move_head z σ γ good at_end_lem.0 at_end_lem.1 (Fine z σ γ (step 0)) h q
      (λ ws. by_call z σ (replies_item z σ ws) (goes_on z σ (σ drain_count) (items_marked σ (σ drain_count)) ws))
      (λ k move.
      by_cond (Fine z σ γ (step 0)) (eqb (σ drain_limit) 0) _ _
      (λ b. gives k move (eqb-true (σ drain_limit) 0 b))
      (λ b. goes_on_lem k move (eqb-false (σ drain_limit) 0 b))))
