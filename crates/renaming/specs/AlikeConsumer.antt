-- The consumer's step on two stores alike, phases 1 to 8: answers alike. From what the stores share of linked records, the only
-- ones that the consumer comes to.
use Rattle.std.specs.Prelude.{◌≡◌, ◌||◌, not, cond, leb, eqb}
use Rattle.std.proofs.Math.Path.{refl, ap}
use Rattle.std.proofs.Common.{sym, ◌∙◌, eq-eqb, eqb-true}
use mathlib.Core.List.{List, [], ◌∷◌, ◌++◌}
use Prim.Native.Nat.{ℕ, zero, suc, ◌*◌}
use Rattle.history.specs.Linearization.{Item}
use Rattle.rules.specs.Sizes.{Sizes}
use Rattle.rules.specs.Cell.{Reader, Write, ◌:=◌, clear_consumer, clear_drain, scanned, drain_limit, drain_count, pair_number, pair_value, tail, tail_record, head_record, head_position, all_handled, consumer_phase, cursor_record, cursor_position, found_record, found_position, item_number, item_value, place, prev, used, state, entry_number, entry_value}
use Rattle.rules.specs.Update.{both, true_false, not_true}
use Rattle.rules.specs.Rule.{Effect, going, empty, item, drained, reply, goes, at_end, cross, need, up_to}
use Rattle.rules.specs.Consumer.{items_marked, by_call, move_head, by_state, ends_empty, replies_item, goes_on, front, read_tail, entered, folded, is_read, scan_crosses, scan, still_handled, read_entry, through_scan, rescanned, rescan, read_item, drained_at, marks, keep_item, mark_handled, retire_head}
use Rattle.model.specs.State.{retiring}
use Rattle.model.specs.Dequeues.{consumer_clause}
use Rattle.memory.specs.Memory.{Memory}
use Rattle.memory.specs.RetireHead.{retire_writes}
use Rattle.simulation.specs.View.{view}
use Rattle.simulation.specs.ConsumerSteps.{consumer_at_lem, head_record_placed}
use Rattle.renaming.specs.Renaming.{renamed}
use Rattle.renaming.specs.Alike.{Alike}
use Rattle.renaming.specs.AlikeEffects.{Like, by_refusal, by_cond, by_up_to, by_inside, by_need, by_cross, by_plain}
use Rattle.renaming.specs.AlikeRecords.{Twins, head_linked, cursor_linked, found_linked, next_linked, tail_test, head_test}
use Rattle.renaming.specs.AlikeRetires.{head_retires, folds}

module _ {z : Sizes} {σ τ : Reader} (pair : Twins z σ τ) where
  abbrev f : ℕ → ℕ
  f = pair.stores.renaming.to

  abbrev a : Alike f σ τ
  a = pair.stores.alike

  m : Memory z σ pair.γ.shape
  m = pair.good.memory

  by_state_lem : (x y : ℕ) {b s h b' s' h' : Effect} → y ≡ x → Like z σ τ b b' → Like z σ τ s s' → Like z σ τ h h'
      → Like z σ τ (by_state x b s h) (by_state y b' s' h')
  by_state_lem zero y e blank set handled = rw e blank
  by_state_lem (suc zero) y e blank set handled = rw e set
  by_state_lem (suc (suc x)) y e blank set handled = rw e handled

  -- the drain area is the same
  limit_same : τ drain_limit ≡ σ drain_limit
  limit_same = a.words drain_limit tt

  count_same : τ drain_count ≡ σ drain_count
  count_same = a.words drain_count tt

  items_same : (n : ℕ) → items_marked τ n ≡ items_marked σ n
  items_same zero = refl
  items_same (suc n) = rw (items_same n, a.words (pair_number n) tt, a.words (pair_value n) tt) refl

  all_same : items_marked τ (τ drain_count) ≡ items_marked σ (σ drain_count)
  all_same = rw count_same (items_same (σ drain_count))

  -- by the call that is under way
  by_call_lem : {x y x' y' : Effect} → Like z σ τ x x' → Like z σ τ y y' → Like z σ τ (by_call z σ x y) (by_call z τ x' y')
  by_call_lem of_dequeue of_drain = by_cond (eqb (σ drain_limit) 0) (eqb (τ drain_limit) 0) (rw limit_same refl) (λ b. of_dequeue) (λ b. of_drain)

  abbrev cleared : List Write
  cleared = clear_consumer ∷ clear_drain ∷ []

  abbrev back : List Write
  back = found_record := 0 ∷ found_position := 0 ∷ item_number := 0 ∷ item_value := 0 ∷ consumer_phase := 1 ∷ []

  ends_empty_lem : Like z σ τ (ends_empty z σ) (ends_empty z τ)
  ends_empty_lem =
      by_call_lem (by_plain pair.stores empty (all_handled := 0 ∷ clear_consumer ∷ []) _ refl refl)
      (rw all_same (by_plain pair.stores (drained (items_marked σ (σ drain_count))) (all_handled := 0 ∷ cleared) _ refl refl))

  tail_same : τ tail ≡ σ tail
  tail_same = a.words tail tt

  head_same : τ head_record ≡ renamed f (σ head_record)
  head_same = a.words head_record tt

  position_same : τ head_position ≡ σ head_position
  position_same = a.words head_position tt

  cursor_same : τ cursor_position ≡ σ cursor_position
  cursor_same = a.words cursor_position tt

  found_same : τ found_position ≡ σ found_position
  found_same = a.words found_position tt

  -- A linked record has the same place and entries; whether a position stands at its end is the same.
  place_same : (r : ℕ) → σ (used r) ≡ 2 → τ (place (f r)) ≡ σ (place r)
  place_same r u = (a.linked r u).placed

  state_same : (r : ℕ) → σ (used r) ≡ 2 → (i : ℕ) → τ (state (f r) i) ≡ σ (state r i)
  state_same r u i = (a.linked r u).entries i 0

  end_same : (r : ℕ) → σ (used r) ≡ 2 → (p q : ℕ) → q ≡ p → at_end z τ (f r) q ≡ at_end z σ r p
  end_same r u p q e = rw (place_same r u, e) refl

  crosses : (r : ℕ) (k k' : ℕ → ℕ → Effect) → σ (used r) ≡ 2 → ((n p : ℕ) → σ (used n) ≡ 2 → Like z σ τ (k n p) (k' (f n) p))
      → Like z σ τ (cross z σ r k) (cross z τ (f r) k')
  crosses r k k' u = by_cross pair.stores r k k' u (λ n e. (next_linked m r u n e).0)

  -- what is done at the cursor's record, and at found's
  at_cursor : (k k' : ℕ → Effect) → ((r : ℕ) → σ (used r) ≡ 2 → Like z σ τ (k r) (k' (f r))) → Like z σ τ (need (σ cursor_record) k) (need (τ cursor_record) k')
  at_cursor k k' each = by_need pair.stores (σ cursor_record) (τ cursor_record) k k' (a.words cursor_record tt) (λ r q. each r (cursor_linked m r q))

  -- at the end of the cursor's record, or not
  at_cursor_end : (k k' j j' : ℕ → Effect) → ((r : ℕ) → σ (used r) ≡ 2 → Like z σ τ (k r) (k' (f r))) → ((r : ℕ) → σ (used r) ≡ 2 → Like z σ τ (j r) (j' (f r)))
      → Like z σ τ (need (σ cursor_record) (λ r. cond (at_end z σ r (σ cursor_position)) (k r) (j r))) (need (τ cursor_record) (λ r. cond (at_end z τ r (τ cursor_position)) (k' r) (j' r)))
  at_cursor_end k k' j j' ends goes_on_lem = at_cursor _ _ (λ r u. by_cond _ _ (end_same r u _ _ cursor_same) (λ b. ends r u) (λ b. goes_on_lem r u))

  at_found : (k k' : ℕ → Effect) → ((r : ℕ) → σ (used r) ≡ 2 → Like z σ τ (k r) (k' (f r))) → Like z σ τ (need (σ found_record) k) (need (τ found_record) k')
  at_found k k' each = by_need pair.stores (σ found_record) (τ found_record) k k' (a.words found_record tt) (λ r q. each r (found_linked m r q))

  at_head : (k k' : ℕ → Effect) → ((h : ℕ) → σ head_record ≡ suc h → σ (used h) ≡ 2 → Like z σ τ (k h) (k' (f h))) → Like z σ τ (need (σ head_record) k) (need (τ head_record) k')
  at_head k k' each = by_need pair.stores (σ head_record) (τ head_record) k k' head_same (λ h q. each h q (head_linked m h q))

  -- the move past the end of the head record
  moves : (h : ℕ) → σ (used h) ≡ 2 → (k k' : List Write → Effect) → ((n p : ℕ) → Like z σ τ (k (retire_writes h n p)) (k' (retire_writes (f h) (f n) p)))
      → Like z σ τ (move_head z σ h k) (move_head z τ (f h) k')
  moves h u k k' each = crosses h (λ n p. k (retire_writes h n p)) (λ n p. k' (retire_writes (f h) n p)) u (λ n p l. each n p)

  -- 1. Front.
  pub front_alike : Like z σ τ (front z σ) (front z τ)
  unfolding front
  front_alike =
      at_head _ _
      (λ h q u.
      by_cond (at_end z σ h (σ head_position)) (at_end z τ (f h) (τ head_position)) (end_same h u _ _ position_same)
      (λ b.
      by_cond (eqb (σ tail_record) (suc h)) (eqb (τ tail_record) (suc (f h))) (tail_test pair h)
      (λ c. ends_empty_lem)
      (λ c. moves h u goes goes (λ n p. head_retires pair going h n p [] refl refl (eqb-true (σ head_position) (z.B * σ (place h)) b))))
      (λ b.
      by_inside h (f h) (σ head_position) (τ head_position) (place_same h u) position_same
      (λ i.
      by_state_lem (σ (state h i)) (τ (state (f h) i)) (state_same h u i)
      (by_cond (eqb (σ drain_count) 0) (eqb (τ drain_count) 0) (rw count_same refl)
      (λ c. by_plain pair.stores going (consumer_phase := 2 ∷ []) _ refl refl)
      (λ c. ends_empty_lem))
      (by_plain pair.stores going (found_record := suc h ∷ found_position := σ head_position ∷ consumer_phase := 6 ∷ [])
      (found_record := suc (f h) ∷ found_position := τ head_position ∷ consumer_phase := 6 ∷ []) (rw position_same refl) refl)
      (by_up_to z.M (suc (σ head_position)) (suc (τ head_position)) (ap suc position_same)
      (by_plain pair.stores going (head_position := suc (σ head_position) ∷ []) (head_position := suc (τ head_position) ∷ []) (rw position_same refl) refl)))))

  -- 2. Read tail.
  pub read_tail_alike : Like z σ τ (read_tail z σ) (read_tail z τ)
  unfolding read_tail
  read_tail_alike =
      by_cond (eqb (σ tail) (σ head_position)) (eqb (τ tail) (τ head_position)) (rw (tail_same, position_same) refl)
      (λ b. ends_empty_lem)
      (λ b.
      by_up_to z.M (suc (σ head_position)) (suc (τ head_position)) (ap suc position_same)
      (by_plain pair.stores going (cursor_record := σ head_record ∷ cursor_position := suc (σ head_position) ∷ consumer_phase := 3 ∷ [])
      (cursor_record := τ head_record ∷ cursor_position := suc (τ head_position) ∷ consumer_phase := 3 ∷ []) (rw (head_same, position_same) refl) refl))

  -- the crossing of the scan, and the fold
  handled_same : τ all_handled ≡ σ all_handled
  handled_same = a.words all_handled tt

  scan_crosses_lem : (r : ℕ) → σ (used r) ≡ 2 → Like z σ τ (scan_crosses z σ r) (scan_crosses z τ (f r))
  scan_crosses_lem r u =
      crosses r
      (λ n p. cond (is_read z σ r) (need (σ (prev r)) λ q. goes (folded z σ r q n ++ entered z σ n p)) (goes (entered z σ n p)))
      (λ n p. cond (is_read z τ (f r)) (need (τ (prev (f r))) λ q. goes (folded z τ (f r) q n ++ entered z τ n p)) (goes (entered z τ n p)))
      u
      (λ n p l.
      by_cond (is_read z σ r) (is_read z τ (f r)) (rw (handled_same, head_test pair r) refl)
      (λ b.
      let w = both (eqb (σ all_handled) 1) (not (eqb (σ head_record) (suc r))) b in
      folds pair r n p u l (λ x. true_false (eq-eqb (σ head_record) (suc r) x) (not_true (eqb (σ head_record) (suc r)) w.1)))
      (λ b. by_plain pair.stores going (entered z σ n p) _ refl refl))

  -- 3. Scan.
  pub scan_alike : Like z σ τ (scan z σ) (scan z τ)
  unfolding scan
  scan_alike =
      at_cursor_end _ _ _ _
      (λ r u.
      by_cond (eqb (σ tail_record) (suc r)) (eqb (τ tail_record) (suc (f r))) (tail_test pair r)
      (λ c. ends_empty_lem)
      (λ c. scan_crosses_lem r u))
      (λ r u.
      by_cond (eqb (σ cursor_position) (σ tail)) (eqb (τ cursor_position) (τ tail)) (rw (cursor_same, tail_same) refl)
      (λ c. ends_empty_lem)
      (λ c. by_plain pair.stores going (consumer_phase := 4 ∷ []) _ refl refl))

  -- 4. Read the entry.
  pub read_entry_alike : Like z σ τ (read_entry z σ) (read_entry z τ)
  unfolding read_entry
  read_entry_alike =
      at_cursor _ _
      (λ r u.
      by_inside r (f r) (σ cursor_position) (τ cursor_position) (place_same r u) cursor_same
      (λ i.
      by_cond (eqb (σ (state r i)) 1) (eqb (τ (state (f r) i)) 1) (rw (state_same r u i) refl)
      (λ b.
      by_plain pair.stores going
      (found_record := suc r ∷ found_position := σ cursor_position ∷ cursor_record := σ head_record ∷ cursor_position := σ head_position ∷ all_handled := 0 ∷ consumer_phase := 5 ∷ [])
      (found_record := suc (f r) ∷ found_position := τ cursor_position ∷ cursor_record := τ head_record ∷ cursor_position := τ head_position ∷ all_handled := 0 ∷ consumer_phase := 5 ∷ [])
      (rw (cursor_same, head_same, position_same) refl) refl)
      (λ b.
      by_up_to z.M (suc (σ cursor_position)) (suc (τ cursor_position)) (ap suc cursor_same)
      (by_plain pair.stores going (cursor_position := suc (σ cursor_position) ∷ all_handled := still_handled z σ r i ∷ consumer_phase := 3 ∷ [])
      (cursor_position := suc (τ cursor_position) ∷ all_handled := still_handled z τ (f r) i ∷ consumer_phase := 3 ∷ [])
      (rw (cursor_same, state_same r u i, handled_same) refl) refl))))

  -- 5. Rescan. Found is the cursor's entry; the cursor returns to the head; the step goes to 6.
  abbrev refound : Reader → ℕ → List Write → List Write
  refound κ r rest = found_record := suc r ∷ found_position := κ cursor_position ∷ rest

  abbrev to_head : Reader → List Write
  to_head κ = cursor_record := κ head_record ∷ cursor_position := κ head_position ∷ []

  abbrev to_item : Reader → List Write
  to_item κ = cursor_record := 0 ∷ scanned := through_scan z κ ∷ consumer_phase := 6 ∷ []

  flag_same : through_scan z τ ≡ through_scan z σ
  flag_same = rw limit_same refl

  pub rescan_alike : Like z σ τ (rescan z σ) (rescan z τ)
  unfolding rescan
  rescan_alike =
      at_cursor_end _ _ _ _
      (λ r u.
      crosses r
      (λ n p. rescanned z σ p (σ found_position) (cursor_record := suc n ∷ cursor_position := p ∷ []) [])
      (λ n p. rescanned z τ p (τ found_position) (cursor_record := suc n ∷ cursor_position := p ∷ []) []) u
      (λ n p l.
      by_cond (eqb p (σ found_position)) (eqb p (τ found_position)) (rw found_same refl)
      (λ c. by_plain pair.stores going (to_item σ) (to_item τ) (rw flag_same refl) refl)
      (λ c. by_plain pair.stores going (cursor_record := suc n ∷ cursor_position := p ∷ []) _ refl refl)))
      (λ r u.
      by_inside r (f r) (σ cursor_position) (τ cursor_position) (place_same r u) cursor_same
      (λ i.
      by_cond (eqb (σ (state r i)) 1) (eqb (τ (state (f r) i)) 1) (rw (state_same r u i) refl)
      (λ c.
      by_cond (eqb (σ head_position) (σ cursor_position)) (eqb (τ head_position) (τ cursor_position)) (rw (position_same, cursor_same) refl)
      (λ d. by_plain pair.stores going (refound σ r (to_item σ)) (refound τ (f r) (to_item τ)) (rw (cursor_same, flag_same) refl) refl)
      (λ d. by_plain pair.stores going (refound σ r (to_head σ)) (refound τ (f r) (to_head τ)) (rw (cursor_same, head_same, position_same) refl) refl))
      (λ c.
      by_up_to z.M (suc (σ cursor_position)) (suc (τ cursor_position)) (ap suc cursor_same)
      (by_cond (eqb (suc (σ cursor_position)) (σ found_position)) (eqb (suc (τ cursor_position)) (τ found_position)) (rw (cursor_same, found_same) refl)
      (λ d. by_plain pair.stores going (to_item σ) (to_item τ) (rw flag_same refl) refl)
      (λ d.
      by_plain pair.stores going (cursor_position := suc (σ cursor_position) ∷ []) (cursor_position := suc (τ cursor_position) ∷ []) (rw cursor_same refl) refl)))))

  -- 6. Read call number and value.
  pub read_item_alike : Like z σ τ (read_item z σ) (read_item z τ)
  unfolding read_item
  read_item_alike =
      at_found _ _
      (λ r u.
      by_inside r (f r) (σ found_position) (τ found_position) (place_same r u) found_same
      (λ i.
      let number : τ (entry_number (f r) i) ≡ σ (entry_number r i) = (a.linked r u).entries i 1 in
      let what : τ (entry_value (f r) i) ≡ σ (entry_value r i) = (a.linked r u).entries i 2 in
      by_plain pair.stores going (item_number := σ (entry_number r i) ∷ item_value := σ (entry_value r i) ∷ consumer_phase := 7 ∷ [])
      (item_number := τ (entry_number (f r) i) ∷ item_value := τ (entry_value (f r) i) ∷ consumer_phase := 7 ∷ []) (rw (number, what) refl) refl))

  number_same : τ item_number ≡ σ item_number
  number_same = a.words item_number tt

  value_same : τ item_value ≡ σ item_value
  value_same = a.words item_value tt

  -- where the item is replied
  gives : (ws vs : List Write) → Like z σ τ (reply (item (σ item_number) (σ item_value)) ws) (reply (item (σ item_number) (σ item_value)) vs)
      → Like z σ τ (reply (item (σ item_number) (σ item_value)) ws) (reply (item (τ item_number) (τ item_value)) vs)
  gives ws vs same = rw (number_same, value_same) same

  -- where a drain goes on, or ends
  goes_on_lem : (n n' : ℕ) (xs ys : List Item) (ws vs : List Write) → n' ≡ n → ys ≡ xs
      → Like z σ τ (reply (drained xs) (ws ++ cleared)) (reply (drained xs) (vs ++ cleared))
      → Like z σ τ (goes (ws ++ back)) (goes (vs ++ back))
      → Like z σ τ (goes_on z σ n xs ws) (goes_on z τ n' ys vs)
  goes_on_lem n n' xs ys ws vs e same ends on =
      rw (e, same)
      (by_cond (eqb n (σ drain_limit) || eqb (σ scanned) 1) (eqb n (τ drain_limit) || eqb (τ scanned) 1) (rw (limit_same, a.words scanned tt) refl)
      (λ b. ends) (λ b. on))

  -- 7. Mark handled: at each leaf of the rule.
  abbrev to_retire : List Write → List Write
  to_retire kept = found_record := 0 ∷ found_position := 0 ∷ consumer_phase := 8 ∷ kept

  marks_alike : (r i : ℕ) (kept kept' : List Write) (k k' : List Write → Effect)
      → Like z σ τ (k (state r i := 2 ∷ kept)) (k' (state (f r) i := 2 ∷ kept'))
      → Like z σ τ (k (state r i := 2 ∷ head_position := suc (σ head_position) ∷ kept)) (k' (state (f r) i := 2 ∷ head_position := suc (τ head_position) ∷ kept'))
      → Like z σ τ (goes (state r i := 2 ∷ head_position := suc (σ head_position) ∷ to_retire kept)) (goes (state (f r) i := 2 ∷ head_position := suc (τ head_position) ∷ to_retire kept'))
      → Like z σ τ (marks z σ r i kept k) (marks z τ (f r) i kept' k')
  marks_alike r i kept kept' k k' of-item of-front to-8 =
      by_cond (eqb (σ found_position) (σ head_position)) (eqb (τ found_position) (τ head_position)) (rw (found_same, position_same) refl)
      (λ b.
      by_up_to z.M (suc (σ head_position)) (suc (τ head_position)) (ap suc position_same)
      (at_head _ _
      (λ h q l.
      by_cond (drained_at z σ h (suc (σ head_position))) (drained_at z τ (f h) (suc (τ head_position)))
      (rw (end_same h l (suc (σ head_position)) (suc (τ head_position)) (ap suc position_same), tail_test pair h) refl)
      (λ c. to-8)
      (λ c. of-front))))
      (λ b. of-item)

  abbrev now : Reader → List Item
  now κ = items_marked κ (κ drain_count) ++ (record { number = κ item_number; value = κ item_value } ∷ [])

  now_same : now τ ≡ now σ
  now_same = rw (all_same, number_same, value_same) refl

  abbrev onward : Reader → (r i : ℕ) → List Write
  onward κ r i = state r i := 2 ∷ head_position := suc (κ head_position) ∷ keep_item z κ

  -- a drain's mark
  drain_marks : (r i : ℕ)
      → Like z σ τ (up_to (σ drain_limit) (suc (σ drain_count)) (marks z σ r i (keep_item z σ) (goes_on z σ (suc (σ drain_count)) (now σ))))
      (up_to (τ drain_limit) (suc (τ drain_count)) (marks z τ (f r) i (keep_item z τ) (goes_on z τ (suc (τ drain_count)) (now τ))))
  drain_marks r i =
      by_cond (leb (suc (σ drain_count)) (σ drain_limit)) (leb (suc (τ drain_count)) (τ drain_limit)) (rw (limit_same, count_same) refl)
      (λ b.
      marks_alike r i (keep_item z σ) (keep_item z τ) (goes_on z σ (suc (σ drain_count)) (now σ)) (goes_on z τ (suc (τ drain_count)) (now τ))
      (goes_on_lem _ _ _ _ (state r i := 2 ∷ keep_item z σ) (state (f r) i := 2 ∷ keep_item z τ) (ap suc count_same) now_same
      (by_plain pair.stores (drained (now σ)) ((state r i := 2 ∷ keep_item z σ) ++ cleared) ((state (f r) i := 2 ∷ keep_item z τ) ++ cleared) (rw (count_same, number_same, value_same) refl) refl)
      (by_plain pair.stores going ((state r i := 2 ∷ keep_item z σ) ++ back) ((state (f r) i := 2 ∷ keep_item z τ) ++ back) (rw (count_same, number_same, value_same) refl) refl))
      (goes_on_lem _ _ _ _ (onward σ r i) (onward τ (f r) i) (ap suc count_same) now_same
      (by_plain pair.stores (drained (now σ)) (onward σ r i ++ cleared) (onward τ (f r) i ++ cleared) (rw (count_same, number_same, value_same, position_same) refl) refl)
      (by_plain pair.stores going (onward σ r i ++ back) (onward τ (f r) i ++ back) (rw (count_same, number_same, value_same, position_same) refl) refl))
      (by_plain pair.stores going (state r i := 2 ∷ head_position := suc (σ head_position) ∷ to_retire (keep_item z σ))
      (state (f r) i := 2 ∷ head_position := suc (τ head_position) ∷ to_retire (keep_item z τ)) (rw (count_same, number_same, value_same, position_same) refl) refl))
      (λ b. by_refusal 9)

  pub mark_handled_alike : Like z σ τ (mark_handled z σ) (mark_handled z τ)
  unfolding mark_handled
  mark_handled_alike =
      at_found _ _
      (λ r u.
      by_inside r (f r) (σ found_position) (τ found_position) (place_same r u) found_same
      (λ i.
      by_call_lem
      (marks_alike r i [] [] (replies_item z σ) (replies_item z τ)
      (gives _ _ (by_plain pair.stores _ (state r i := 2 ∷ clear_consumer ∷ []) _ refl refl))
      (gives _ _ (by_plain pair.stores _ (state r i := 2 ∷ head_position := suc (σ head_position) ∷ clear_consumer ∷ []) _ (rw position_same refl) refl))
      (by_plain pair.stores going (state r i := 2 ∷ head_position := suc (σ head_position) ∷ to_retire []) (state (f r) i := 2 ∷ head_position := suc (τ head_position) ∷ to_retire []) (rw position_same refl) refl))
      (drain_marks r i)))

  -- 8. The move past the end of the head record. Reply item, or as a drain goes on.
  pub retire_head_alike : σ consumer_phase ≡ 8 → Like z σ τ (retire_head z σ) (retire_head z τ)
  unfolding retire_head
  retire_head_alike e =
      at_head _ _
      (λ h q u.
      let end : σ head_position ≡ z.B * σ (place h) =
      (consumer_clause z.B (view σ pair.γ) pair.good.model retiring (consumer_at_lem z σ pair.γ pair.good 8 e)).0
      ∙ ap (λ (x : ℕ). z.B * x) (sym (head_record_placed z σ pair.γ pair.good h q)) in
      moves h u
      (λ ws. by_call z σ (replies_item z σ ws) (goes_on z σ (σ drain_count) (items_marked σ (σ drain_count)) ws))
      (λ ws. by_call z τ (replies_item z τ ws) (goes_on z τ (τ drain_count) (items_marked τ (τ drain_count)) ws))
      (λ n p.
      by_call_lem (gives _ _ (head_retires pair _ h n p (clear_consumer ∷ []) refl refl end))
      (goes_on_lem _ _ _ _ (retire_writes h n p) (retire_writes (f h) (f n) p) count_same all_same
      (head_retires pair _ h n p cleared refl refl end)
      (head_retires pair going h n p back refl refl end))))
