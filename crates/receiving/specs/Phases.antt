-- What the consumer's eight phases do to the drain area, at each leaf of each rule: only the mark of phase 7 and the end of a drain write it.
-- Of the store it is used only that no more items are marked than the limit says.
use Rattle.std.specs.Prelude.{◌≡◌, false, ◌||◌, eqb, get_or}
use Rattle.std.proofs.Math.Path.{refl}
use Rattle.std.proofs.Common.{inl, inr}
use Rattle.std.proofs.Math.Bool.{cond}
use mathlib.Core.List.{List, [], ◌∷◌, ◌++◌}
use Prim.Native.Nat.{ℕ, zero, suc, ◌*◌, ◌≤◌, ◌<◌}
use native.Mathlib.Omega.{arith}
use borrow.Author.Tests.{eqb-true, ne_eqb}
use Rattle.history.specs.Linearization.{Item}
use Rattle.rules.specs.Sizes.{Sizes}
use Rattle.rules.specs.Cell.{Reader, Write, ◌:=◌, clear_consumer, clear_drain, tail, tail_record, head_record, head_position, consumer_phase, cursor_record, cursor_position, found_record, found_position, item_number, item_value, scanned, drain_limit, drain_count, prev, used, state}
use Rattle.rules.specs.Rule.{Effect, refuse, reply, drained, goes, need, at_end, within, index}
use Rattle.rules.specs.Consumer.{by_state, items_marked, by_call, ends_empty, replies_item, goes_on, front, read_tail, is_read, folded, entered, scan, read_entry, through_scan, rescanned, rescan, read_item, drained_at, marks, keep_item, mark_handled, retire_head, consumer_rules, consumer_step}
use Rattle.simulation.specs.Good.{by_cond}
use Rattle.progress.specs.Leaves.{each_need, each_up_to, each_cross}
use Rattle.receiving.specs.Hands.{HandsOver, refused_hands, reply_hands, goes_hands, marks_hands}

-- what a drain writes where it goes back to phase 1
abbrev back : List Write
back = found_record := 0 ∷ found_position := 0 ∷ item_number := 0 ∷ item_value := 0 ∷ consumer_phase := 1 ∷ []

-- what a move of the head writes
abbrev moved : (h n p : ℕ) → List Write
moved h n p = head_record := suc n ∷ head_position := p ∷ used h := 3 ∷ []

module _ (z : Sizes) (σ : Reader) (counted : σ drain_count ≤ σ drain_limit) where
  -- what is shown of every effect
  abbrev P : Effect → Type 0
  P = HandsOver σ

  -- the items marked, and the one that is taken
  abbrev now : List Item
  now = items_marked σ (σ drain_count) ++ (record { number = σ item_number; value = σ item_value } ∷ [])

  -- at a refusal
  down : (n : ℕ) → P (refuse n)
  down = refused_hands σ

  -- at each state of an entry
  each_state : (x : ℕ) (a b c : Effect) → P a → P b → P c → P (by_state x a b c)
  each_state zero a b c f g h = f
  each_state (suc zero) a b c f g h = g
  each_state (suc (suc x)) a b c f g h = h

  -- at a position inside a record
  in-record : (r p : ℕ) (a : Effect) → P a → P (cond (within z σ r p) a (refuse 9))
  in-record r p a f = by_cond P (within z σ r p) a (refuse 9) (λ b. f) (λ b. down 9)

  -- A call ends without an item of its own.
  ends_empty_lem : P (ends_empty z σ)
  ends_empty_lem =
      by_cond P (eqb (σ drain_limit) 0) _ _
      (λ b. let none = eqb-true (σ drain_limit) 0 b in reply_hands σ _ _ (omega arith, omega arith))
      (λ b. reply_hands σ _ _ (inl refl, refl))

  -- 1 to 5. A step that goes on writes no word of the area, by computing.
  front_hands : P (front z σ)
  unfolding front
  front_hands =
      each_need P down (σ head_record) _
      (λ h e.
      by_cond P (at_end z σ h (σ head_position)) _ _
      (λ b.
      by_cond P (eqb (σ tail_record) (suc h)) _ _ (λ c. ends_empty_lem)
      (λ c. each_cross P down z σ h (λ n p. goes (moved h n p)) (λ n q x y. goes_hands σ _ refl (λ i l. refl))))
      (λ b.
      in-record h (σ head_position) _
      (each_state (σ (state h (index z σ h (σ head_position)))) _ _ _
      (by_cond P (eqb (σ drain_count) 0) _ _ (λ c. goes_hands σ _ refl (λ i l. refl)) (λ c. ends_empty_lem))
      (goes_hands σ _ refl (λ i l. refl))
      (each_up_to P down z.M (suc (σ head_position)) _ (λ m. goes_hands σ _ refl (λ i l. refl))))))

  read_tail_hands : P (read_tail z σ)
  unfolding read_tail
  read_tail_hands =
      by_cond P (eqb (σ tail) (σ head_position)) _ _ (λ b. ends_empty_lem)
      (λ b. each_up_to P down z.M (suc (σ head_position)) _ (λ m. goes_hands σ _ refl (λ i l. refl)))

  scan_hands : P (scan z σ)
  unfolding scan
  scan_hands =
      each_need P down (σ cursor_record) _
      (λ r e.
      by_cond P (at_end z σ r (σ cursor_position)) _ _
      (λ b.
      by_cond P (eqb (σ tail_record) (suc r)) _ _ (λ c. ends_empty_lem)
      (λ c.
      each_cross P down z σ r
      (λ n p. cond (is_read z σ r) (need (σ (prev r)) λ q. goes (folded z σ r q n ++ entered z σ n p)) (goes (entered z σ n p)))
      (λ n q x y.
      by_cond P (is_read z σ r) _ _
      (λ d. each_need P down (σ (prev r)) _ (λ p o. goes_hands σ _ refl (λ i l. refl)))
      (λ d. goes_hands σ _ refl (λ i l. refl)))))
      (λ b. by_cond P (eqb (σ cursor_position) (σ tail)) _ _ (λ c. ends_empty_lem) (λ c. goes_hands σ _ refl (λ i l. refl))))

  read_entry_hands : P (read_entry z σ)
  unfolding read_entry
  read_entry_hands =
      each_need P down (σ cursor_record) _
      (λ r e.
      in-record r (σ cursor_position) _
      (by_cond P (eqb (σ (state r (index z σ r (σ cursor_position)))) 1) _ _ (λ b. goes_hands σ _ refl (λ i l. refl))
      (λ b. each_up_to P down z.M (suc (σ cursor_position)) _ (λ m. goes_hands σ _ refl (λ i l. refl)))))

  -- the rescan goes on or has come to found
  rescanned_hands : (cursor found : ℕ) (stays moved : List Write) → P (goes (moved ++ stays))
      → P (goes (moved ++ (cursor_record := 0 ∷ scanned := through_scan z σ ∷ consumer_phase := 6 ∷ [])))
      → P (rescanned z σ cursor found stays moved)
  rescanned_hands cursor found stays moved f g = by_cond P (eqb cursor found) _ _ (λ b. g) (λ b. f)

  rescan_hands : P (rescan z σ)
  unfolding rescan
  rescan_hands =
      each_need P down (σ cursor_record) _
      (λ r e.
      by_cond P (at_end z σ r (σ cursor_position)) _ _
      (λ b.
      each_cross P down z σ r (λ n p. rescanned z σ p (σ found_position) (cursor_record := suc n ∷ cursor_position := p ∷ []) [])
      (λ n q x y.
      rescanned_hands (z.B * q) (σ found_position) (cursor_record := suc n ∷ cursor_position := z.B * q ∷ []) []
      (goes_hands σ _ refl (λ i l. refl)) (goes_hands σ _ refl (λ i l. refl))))
      (λ b.
      in-record r (σ cursor_position) _
      (by_cond P (eqb (σ (state r (index z σ r (σ cursor_position)))) 1) _ _
      (λ c.
      rescanned_hands (σ head_position) (σ cursor_position) (cursor_record := σ head_record ∷ cursor_position := σ head_position ∷ [])
      (found_record := suc r ∷ found_position := σ cursor_position ∷ [])
      (goes_hands σ _ refl (λ i l. refl)) (goes_hands σ _ refl (λ i l. refl)))
      (λ c.
      each_up_to P down z.M (suc (σ cursor_position)) _
      (λ m.
      rescanned_hands (suc (σ cursor_position)) (σ found_position) (cursor_position := suc (σ cursor_position) ∷ []) []
      (goes_hands σ _ refl (λ i l. refl)) (goes_hands σ _ refl (λ i l. refl)))))))

  -- 6.
  read_item_hands : P (read_item z σ)
  unfolding read_item
  read_item_hands =
      each_need P down (σ found_record) _ (λ r e. in-record r (σ found_position) _ (goes_hands σ _ refl (λ i l. refl)))

  -- Where a dequeue replies its item, a drain ends or goes back to phase 1.
  goes_on_hands : (n : ℕ) (items : List Item) (ws : List Write) → P (reply (drained items) (ws ++ (clear_consumer ∷ clear_drain ∷ []))) → P (goes (ws ++ back))
      → P (goes_on z σ n items ws)
  goes_on_hands n items ws f g = by_cond P (eqb n (σ drain_limit) || eqb (σ scanned) 1) _ _ (λ b. f) (λ b. g)

  -- the rule of the mark, at each of its leaves
  mark_hands : (r i : ℕ) (kept : List Write) (f : List Write → Effect) → P (f (state r i := 2 ∷ kept)) → P (f (state r i := 2 ∷ head_position := suc (σ head_position) ∷ kept))
      → P (goes (state r i := 2 ∷ head_position := suc (σ head_position) ∷ found_record := 0 ∷ found_position := 0 ∷ consumer_phase := 8 ∷ kept))
      → P (marks z σ r i kept f)
  mark_hands r i kept f of-item of-front to-8 =
      by_cond P (eqb (σ found_position) (σ head_position)) _ _
      (λ b.
      each_up_to P down z.M (suc (σ head_position)) _
      (λ m. each_need P down (σ head_record) _ (λ h e. by_cond P (drained_at z σ h (suc (σ head_position))) _ _ (λ d. to-8) (λ d. of-front))))
      (λ b. of-item)

  -- the pairs before the one that is kept
  other_pair : (i : ℕ) → i < σ drain_count → eqb (σ drain_count) i ≡ false
  other_pair i l = ne_eqb (σ drain_count) i (λ e. omega arith)

  -- 7. The item is taken, and a drain keeps it.
  mark_handled_hands : P (mark_handled z σ)
  unfolding mark_handled
  mark_handled_hands =
      each_need P down (σ found_record) _
      (λ r e.
      in-record r (σ found_position) _
      (by_cond P (eqb (σ drain_limit) 0) _ _
      (λ b.
      let none = eqb-true (σ drain_limit) 0 b in
      mark_hands r (index z σ r (σ found_position)) [] (replies_item z σ) (reply_hands σ _ _ (omega arith, omega arith)) (reply_hands σ _ _ (omega arith, omega arith))
      (goes_hands σ _ refl (λ i l. refl)))
      (λ b.
      each_up_to P down (σ drain_limit) (suc (σ drain_count)) _
      (λ m.
      mark_hands r (index z σ r (σ found_position)) (keep_item z σ) (goes_on z σ (suc (σ drain_count)) now)
      (goes_on_hands (suc (σ drain_count)) now (state r (index z σ r (σ found_position)) := 2 ∷ keep_item z σ) (reply_hands σ _ _ (inr (_, refl), refl))
      (marks_hands σ _ refl (λ i l. rw (other_pair i l) refl)))
      (goes_on_hands (suc (σ drain_count)) now (state r (index z σ r (σ found_position)) := 2 ∷ head_position := suc (σ head_position) ∷ keep_item z σ)
      (reply_hands σ _ _ (inr (_, refl), refl))
      (marks_hands σ _ refl (λ i l. rw (other_pair i l) refl)))
      (marks_hands σ _ refl (λ i l. rw (other_pair i l) refl))))))

  -- 8. The item was taken in 7.
  retire_head_hands : P (retire_head z σ)
  unfolding retire_head
  retire_head_hands =
      each_need P down (σ head_record) _
      (λ h e.
      each_cross P down z σ h
      (λ n p. by_call z σ (replies_item z σ (moved h n p)) (goes_on z σ (σ drain_count) (items_marked σ (σ drain_count)) (moved h n p)))
      (λ n q x y.
      by_cond P (eqb (σ drain_limit) 0) _ _
      (λ b. let none = eqb-true (σ drain_limit) 0 b in reply_hands σ _ _ (omega arith, omega arith))
      (λ b.
      goes_on_hands (σ drain_count) (items_marked σ (σ drain_count)) (moved h n (z.B * q)) (reply_hands σ _ _ (inl refl, refl)) (goes_hands σ _ refl (λ i l. refl)))))

  -- Every phase.
  pub consumer_hands : P (consumer_step z σ)
  unfolding consumer_step
  consumer_hands = by-phase (σ consumer_phase)
    where
      by-phase : (p : ℕ) → P (get_or consumer_rules p (λ z σ. refuse 7) z σ)
      by-phase zero = down 7
      by-phase (suc zero) = front_hands
      by-phase (suc (suc zero)) = read_tail_hands
      by-phase (suc (suc (suc zero))) = scan_hands
      by-phase (suc (suc (suc (suc zero)))) = read_entry_hands
      by-phase (suc (suc (suc (suc (suc zero))))) = rescan_hands
      by-phase (suc (suc (suc (suc (suc (suc zero)))))) = read_item_hands
      by-phase (suc (suc (suc (suc (suc (suc (suc zero))))))) = mark_handled_hands
      by-phase (suc (suc (suc (suc (suc (suc (suc (suc zero)))))))) = retire_head_hands
      by-phase (suc (suc (suc (suc (suc (suc (suc (suc (suc p))))))))) = down 7
