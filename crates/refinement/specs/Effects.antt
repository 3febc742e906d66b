-- What every answer is like, on any store in range: a refusal has a number of the table, a reply is of the call's kind, and every write
-- is of a word that the store has.
use Rattle.std.specs.Prelude.{◌≡◌, Bool, true, false, ◌&&◌, ◌||◌, not, cond, leb, length, get_or}
use Rattle.std.proofs.Math.Path.{refl, subst⁻¹}
use mathlib.Core.List.{List, [], ◌∷◌, ◌++◌}
use Prim.Native.Nat.{ℕ, zero, suc, ◌+◌, ◌*◌, ◌≤◌, ◌<◌}
use Rattle.std.proofs.Math.Decide.{dec_le}
use native.Mathlib.Omega.{arith}
use Rattle.std.proofs.Math.Dec.{ltb, eqb}
use borrow.Author.Tests.{leb-true, lt-ltb, ltb-true, ltb-false, eqb-false, not-false}
use Rattle.history.specs.Lists.{All}
use Rattle.history.specs.Linearization.{Item}
use Rattle.criterion.specs.Members.{all_append}
use Rattle.rules.specs.Sizes.{Sizes, between, sizes_in_range, most_place, most_steps, most_drained, store_words}
use Rattle.rules.specs.Cell.{Cell, Reader, reader, Write, tail_record, head_record, held, claimed, cursor_record, found_record, cursor_position, found_position, consumer_phase, head_position, tail, starts, state, phase, position, backed, step_count, place, next, prev, used, ◌:=◌, clear_producer, clear_consumer, clear_drain, scanned, drain_limit, drain_count}
use Rattle.rules.specs.Range.{in_range}
use Rattle.rules.specs.Free.{next_free}
use Rattle.rules.specs.Rule.{Reply, ok, started, going, ended, empty, item, drained, Effect, refuse, reply, need, up_to, within, index, at_end}
use Rattle.rules.specs.Producer.{linked, load_tail, look_next, claim_record, link_claimed, shift_tail, go_back, write_entry, set_entry, claim_ahead, link_ahead, producer_rules, producer_step}
use Rattle.rules.specs.Consumer.{by_state, ends_empty, replies_item, goes_on, front, read_tail, is_read, scan, read_entry, rescan, read_item, drained_at, marks, keep_item, mark_handled, retire_head, consumer_rules, consumer_step}
use Rattle.rules.specs.Request.{Request, start_enqueue, start_dequeue, start_drain, step, starting_enqueue, starting_dequeue, starting_drain, phase_step, count_kept, counted, stepping, effect, sizes_of, admitted}
use Rattle.rules.specs.Update.{count_of, count_is, both, neither}
use Rattle.rules.specs.Readback.{WriteThere}
use Rattle.rules.specs.InRange.{InRange, range_has}
use Rattle.simulation.specs.DrainWords.{drain_in}
use Rattle.memory.specs.NextFree.{RightChoice, next_free_right}
use Rattle.refinement.specs.RecordNumbers.{is_link, links, consumer_link, producer_link, content_link, last_claimed_link, part_link}

-- The three kinds of replies: ok, a call number, a step's.
abbrev pub kind_of : Reply → ℕ
kind_of ok = 0
kind_of (started n) = 1
kind_of going = 2
kind_of ended = 2
kind_of empty = 2
kind_of (item n v) = 2
kind_of (drained xs) = 2

abbrev pub kind_for : Request → ℕ
kind_for (start_enqueue t v) = 1
kind_for start_dequeue = 0
kind_for (start_drain n) = 0
kind_for (step t) = 2

abbrev pub Sound : Sizes → Request → Effect → Type 0
Sound z q (refuse n) = (1 ≤ n) × (n ≤ 14)
Sound z q (reply r ws) = (kind_of r ≡ kind_for q) × All (WriteThere z) ws

-- To show that an answer is sound, show it at each leaf.
by_cond : (z : Sizes) (q : Request) (b : Bool) (a c : Effect) → (b ≡ true → Sound z q a) → (b ≡ false → Sound z q c) → Sound z q (cond b a c)
by_cond z q true a c f g = f refl
by_cond z q false a c f g = g refl

module _ (z : Sizes) (σ : Reader) (range : InRange z σ) (t : ℕ) where
  abbrev S : Effect → Type 0
  S a = Sound z (step t) a

  either : (b : Bool) (a c : Effect) → S a → S c → S (cond b a c)
  either b a c x y = by_cond z (step t) b a c (λ _. x) (λ _. y)

  needs : (x : ℕ) (f : ℕ → Effect) → x ≤ z.N → ((r : ℕ) → r < z.N → S (f r)) → S (need x f)
  needs zero f h each = omega arith
  needs (suc r) f h each = each r h

  up_to_lem : (limit x : ℕ) (a : Effect) → S a → S (up_to limit x a)
  up_to_lem limit x a s = either (leb x limit) a (refuse 9) s (omega arith)

  up_to_with : (limit x : ℕ) (a : Effect) → (x ≤ limit → S a) → S (up_to limit x a)
  up_to_with limit x a f = by_cond z (step t) (leb x limit) a (refuse 9) (λ e. f (leb-true x limit e)) (λ _. omega arith)

  in-record : (r p : ℕ) (a : Effect) → (index z σ r p < z.B → S a) → S (cond (within z σ r p) a (refuse 9))
  in-record r p a f =
      by_cond z (step t) (within z σ r p) a (refuse 9)
      (λ e.
      let b = both (ltb p (z.B * σ (place r))) (leb (z.B * σ (place r)) (p + z.B)) e in
      f (omega (arith, ltb-true p (z.B * σ (place r)) b.0, leb-true (z.B * σ (place r)) (p + z.B) b.1)))
      (λ _. omega arith)

  places : (x : ℕ) (f : ℕ → Effect) → ((y : ℕ) → S (f y)) → S (need x f)
  places zero f each = omega arith
  places (suc y) f each = each y

  next_most : (r : ℕ) → r < z.N → σ (next r) ≤ z.N
  unfolding is_link
  next_most r h = part_link range r 1 (h, omega arith) refl

  prev_most : (r : ℕ) → r < z.N → σ (prev r) ≤ z.N
  unfolding is_link
  prev_most r h = part_link range r 2 (h, omega arith) refl

  tail_most : σ tail_record ≤ z.N
  unfolding is_link
  tail_most = content_link range 7 (omega arith) refl

  head_most : σ head_record ≤ z.N
  unfolding is_link
  head_most = content_link range 8 (omega arith) refl

  cursor_most : σ cursor_record ≤ z.N
  unfolding links is_link
  cursor_most = consumer_link range 0 refl

  found_most : σ found_record ≤ z.N
  unfolding links is_link
  found_most = consumer_link range 2 refl

  -- Where a dequeue answers empty, and where a drain goes on.
  empty_sound : S (ends_empty z σ)
  empty_sound = either (eqb (σ drain_limit) 0) _ _ (omega arith) (omega arith)

  on_sound : (n : ℕ) (items : List Item) (ws : List Write) → All (WriteThere z) ws → S (goes_on z σ n items ws)
  on_sound n items ws a =
      either (eqb n (σ drain_limit) || eqb (σ scanned) 1) _ _
      (refl, all_append (WriteThere z) ws (clear_consumer ∷ clear_drain ∷ []) a (omega arith))
      (refl, all_append (WriteThere z) ws _ a (omega arith))

  -- The consumer's phases.
  front_sound : S (front z σ)
  unfolding front
  front_sound =
      needs (σ head_record) _ head_most
      λ h l. either (at_end z σ h (σ head_position)) _ _
      (either (eqb (σ tail_record) (suc h)) _ _ empty_sound (needs (σ (next h)) _ (next_most h l) λ n k. places (σ (place n)) _ λ y. up_to_lem z.M (z.B * y) _ (omega arith)))
      (in-record h (σ head_position) _
      λ b. by_state_lem (σ (state h (index z σ h (σ head_position)))) _ _ _ (either (eqb (σ drain_count) 0) _ _ (omega arith) empty_sound) (omega arith) (up_to_lem z.M (suc (σ head_position)) _ (omega arith)))
    where
      by_state_lem : (x : ℕ) (a b c : Effect) → S a → S b → S c → S (by_state x a b c)
      by_state_lem zero a b c f g h = f
      by_state_lem (suc zero) a b c f g h = g
      by_state_lem (suc (suc x)) a b c f g h = h

  read_tail_sound : S (read_tail z σ)
  unfolding read_tail
  read_tail_sound = either (eqb (σ tail) (σ head_position)) _ _ empty_sound (up_to_lem z.M (suc (σ head_position)) _ (omega arith))

  scan_sound : S (scan z σ)
  unfolding scan
  scan_sound =
      needs (σ cursor_record) _ cursor_most
      λ r l. either (at_end z σ r (σ cursor_position)) _ _
      (either (eqb (σ tail_record) (suc r)) _ _ empty_sound
      (needs (σ (next r)) _ (next_most r l)
      λ n k. places (σ (place n)) _
      λ y. up_to_lem z.M (z.B * y) _ (either (is_read z σ r) _ _ (needs (σ (prev r)) _ (prev_most r l) λ q j. omega arith) (omega arith))))
      (either (eqb (σ cursor_position) (σ tail)) _ _ empty_sound (omega arith))

  read_entry_sound : S (read_entry z σ)
  unfolding read_entry
  read_entry_sound =
      needs (σ cursor_record) _ cursor_most
      λ r l. in-record r (σ cursor_position) _
      λ b. either (eqb (σ (state r (index z σ r (σ cursor_position)))) 1) _ _ (omega arith) (up_to_lem z.M (suc (σ cursor_position)) _ (omega arith))

  rescan_sound : S (rescan z σ)
  unfolding rescan
  rescan_sound =
      needs (σ cursor_record) _ cursor_most
      λ r l. either (at_end z σ r (σ cursor_position)) _ _
      (needs (σ (next r)) _ (next_most r l)
      λ n k. places (σ (place n)) _ λ y. up_to_lem z.M (z.B * y) _ (either (eqb (z.B * y) (σ found_position)) _ _ (omega arith) (omega arith)))
      (in-record r (σ cursor_position) _
      λ b. either (eqb (σ (state r (index z σ r (σ cursor_position)))) 1) _ _
      (either (eqb (σ head_position) (σ cursor_position)) _ _ (omega arith) (omega arith))
      (up_to_lem z.M (suc (σ cursor_position)) _ (either (eqb (suc (σ cursor_position)) (σ found_position)) _ _ (omega arith) (omega arith))))

  read_item_sound : S (read_item z σ)
  unfolding read_item
  read_item_sound = needs (σ found_record) _ found_most λ r l. in-record r (σ found_position) _ λ b. omega arith

  marks_sound : (r i : ℕ) → r < z.N → i < z.B → (kept : List Write) → All (WriteThere z) kept → (f : List Write → Effect)
      → ((ws : List Write) → All (WriteThere z) ws → S (f ws)) → S (marks z σ r i kept f)
  marks_sound r i l b kept a f each =
      either (eqb (σ found_position) (σ head_position)) _ _
      (up_to_lem z.M (suc (σ head_position)) _
      (needs (σ head_record) _ head_most
      λ h k. either (drained_at z σ h (suc (σ head_position))) _ _
      (refl, ((l, b, omega arith), (omega arith, (omega arith, (omega arith, (omega arith, a))))))
      (each _ ((l, b, omega arith), (omega arith, a)))))
      (each _ ((l, b, omega arith), a))

  mark_sound : S (mark_handled z σ)
  unfolding mark_handled
  mark_sound =
      needs (σ found_record) _ found_most
      λ r l. in-record r (σ found_position) _
      λ b. either (eqb (σ drain_limit) 0) _ _
      (marks_sound r (index z σ r (σ found_position)) l b [] tt (replies_item z σ) λ ws a. (refl, all_append (WriteThere z) ws (clear_consumer ∷ []) a (omega arith)))
      (up_to_with (σ drain_limit) (suc (σ drain_count)) _
      λ more. marks_sound r (index z σ r (σ found_position)) l b (keep_item z σ) (omega (arith, (drain_in z σ range.draining).most)) (goes_on z σ (suc (σ drain_count)) _)
      λ ws a. on_sound (suc (σ drain_count)) _ ws a)

  retire_sound : S (retire_head z σ)
  unfolding retire_head
  retire_sound =
      needs (σ head_record) _ head_most
      λ h l. needs (σ (next h)) _ (next_most h l)
      λ n k. places (σ (place n)) _
      λ y. up_to_lem z.M (z.B * y) _ (either (eqb (σ drain_limit) 0) _ _ (omega arith)
      (on_sound (σ drain_count) _ (head_record := suc n ∷ head_position := z.B * y ∷ used h := 3 ∷ []) (omega arith)))

  consumer_sound : S (consumer_step z σ)
  unfolding consumer_step
  consumer_sound = by-phase (σ consumer_phase)
    where
      by-phase : (p : ℕ) → S (get_or consumer_rules p (λ z σ. refuse 7) z σ)
      by-phase zero = omega arith
      by-phase (suc zero) = front_sound
      by-phase (suc (suc zero)) = read_tail_sound
      by-phase (suc (suc (suc zero))) = scan_sound
      by-phase (suc (suc (suc (suc zero)))) = read_entry_sound
      by-phase (suc (suc (suc (suc (suc zero))))) = rescan_sound
      by-phase (suc (suc (suc (suc (suc (suc zero)))))) = read_item_sound
      by-phase (suc (suc (suc (suc (suc (suc (suc zero))))))) = mark_sound
      by-phase (suc (suc (suc (suc (suc (suc (suc (suc zero)))))))) = retire_sound
      by-phase (suc (suc (suc (suc (suc (suc (suc (suc (suc p))))))))) = omega arith

  -- A producer's phases.
  module _ (there : (1 ≤ t) × (t ≤ z.P)) where
    held_most : σ (held t) ≤ z.N
    unfolding links is_link
    held_most = producer_link range t there 3 refl

    claimed_most : σ (claimed t) ≤ z.N
    unfolding links is_link
    claimed_most = producer_link range t there 4 refl

    load_sound : S (load_tail z σ t)
    unfolding load_tail
    load_sound = needs (σ tail_record) _ tail_most λ r h. omega arith

    look_sound : S (look_next z σ t)
    unfolding look_next
    look_sound = needs (σ (held t)) _ held_most λ r h. omega arith

    claim_sound : (c : ℕ) → c ≤ z.N → S (claim_record z σ t c)
    unfolding claim_record
    claim_sound zero h = omega arith
    claim_sound (suc r) h = omega arith

    linked_sound : (r : Reply) (vs : List Write) → kind_of r ≡ 2 → All (WriteThere z) vs → S (linked z σ t λ ws. reply r (ws ++ vs))
    linked_sound r vs e a =
        needs (σ (held t)) _ held_most
        λ h l. needs (σ (claimed t)) _ claimed_most
        λ c k. either (eqb (σ (next h)) 0) _ _
        (up_to_lem most_place (suc (σ (place h))) _ (e, (omega arith, (omega arith, (omega arith, (omega arith, a))))))
        (e, (omega arith, a))

    link_sound : S (link_claimed z σ t)
    unfolding link_claimed
    link_sound = linked_sound going (claimed t := 0 ∷ phase t := 6 ∷ []) refl (omega arith)

    shift_sound : S (shift_tail z σ t)
    unfolding shift_tail
    shift_sound =
        needs (σ (held t)) _ held_most
        λ h l. either (eqb (σ tail_record) (suc h)) _ _
        (needs (σ (next h)) _ (next_most h l) λ n k. omega arith)
        (omega arith)

    back_sound : S (go_back z σ t)
    unfolding go_back is_link
    back_sound =
        needs (σ (held t)) _ held_most
        λ h l. needs (σ (prev h)) _ (part_link range h 2 (l, omega arith) refl) λ p k. omega arith

    write_sound : S (write_entry z σ t)
    unfolding write_entry
    write_sound =
        needs (σ (held t)) _ held_most
        λ h l. in-record h (σ (position t)) _ λ b. omega arith

    set_sound : S (set_entry z σ t)
    unfolding set_entry
    set_sound =
        needs (σ (held t)) _ held_most
        λ h l. in-record h (σ (position t)) _
        λ b. either (eqb (index z σ h (σ (position t))) 1 && eqb (σ (backed t)) 0) _ _ (omega arith) (omega arith)

    ahead_sound : (c : ℕ) → c ≤ z.N → S (claim_ahead z σ t c)
    unfolding claim_ahead
    ahead_sound zero h = omega arith
    ahead_sound (suc r) h = omega arith

    link_ahead_sound : S (link_ahead z σ t)
    unfolding link_ahead
    link_ahead_sound = linked_sound ended (clear_producer t ∷ []) refl (omega arith)

    pub producer_sound : (c : ℕ) → c ≤ z.N → S (producer_step c z σ t)
    unfolding producer_step
    producer_sound c h = by-phase (σ (phase t))
      where
        by-phase : (p : ℕ) → S (get_or (producer_rules c) p (λ z σ t. refuse 7) z σ t)
        by-phase zero = omega arith
        by-phase (suc zero) = omega arith
        by-phase (suc (suc zero)) = load_sound
        by-phase (suc (suc (suc zero))) = look_sound
        by-phase (suc (suc (suc (suc zero)))) = claim_sound c h
        by-phase (suc (suc (suc (suc (suc zero))))) = link_sound
        by-phase (suc (suc (suc (suc (suc (suc zero)))))) = shift_sound
        by-phase (suc (suc (suc (suc (suc (suc (suc zero))))))) = back_sound
        by-phase (suc (suc (suc (suc (suc (suc (suc (suc zero)))))))) = write_sound
        by-phase (suc (suc (suc (suc (suc (suc (suc (suc (suc zero))))))))) = set_sound
        by-phase (suc (suc (suc (suc (suc (suc (suc (suc (suc (suc zero)))))))))) = ahead_sound c h
        by-phase (suc (suc (suc (suc (suc (suc (suc (suc (suc (suc (suc zero))))))))))) = link_ahead_sound
        by-phase (suc (suc (suc (suc (suc (suc (suc (suc (suc (suc (suc (suc p)))))))))))) = omega arith

module _ (z : Sizes) (σ : Reader) (range : InRange z σ) where
  start_enqueue_sound : (t v : ℕ) → Sound z (start_enqueue t v) (starting_enqueue t v z σ)
  unfolding starting_enqueue
  start_enqueue_sound t v =
      by_cond z (start_enqueue t v) (eqb t 0 || ltb z.P t) _ _ (λ _. omega arith)
      λ e. let n = neither (eqb t 0) (ltb z.P t) e in
      by_cond z (start_enqueue t v) (not (eqb (σ (phase t)) 0)) _ _ (λ _. omega arith)
      λ _. by_cond z (start_enqueue t v) (eqb (σ starts) z.M) _ _ (λ _. omega arith)
      λ _. by_cond z (start_enqueue t v) (eqb (σ tail) z.M) _ _ (λ _. omega arith)
      λ _. omega (arith, eqb-false t 0 n.0, ltb-false z.P t n.1)

  start_dequeue_sound : Sound z start_dequeue (starting_dequeue z σ)
  unfolding starting_dequeue
  start_dequeue_sound = by_cond z start_dequeue (not (eqb (σ consumer_phase) 0)) _ _ (λ _. omega arith) (λ _. omega arith)

  start_drain_sound : (n : ℕ) → Sound z (start_drain n) (starting_drain n z σ)
  unfolding starting_drain
  start_drain_sound n =
      by_cond z (start_drain n) (not (eqb (σ consumer_phase) 0)) _ _ (λ _. omega arith)
      λ _. by_cond z (start_drain n) (not (between 1 most_drained n)) _ _ (λ _. omega arith) (λ _. omega arith)

  -- the record that a claim takes is one of the N
  choice_most : next_free z σ ≤ z.N
  choice_most = go (next_free z σ) (next_free_right z σ (last_claimed_link range))
    where
      go : (c : ℕ) → RightChoice z σ c → c ≤ z.N
      go zero h = omega arith
      go (suc r) h = h.0

  phase_sound : (t : ℕ) → Sound z (step t) (phase_step (next_free z σ) t z σ)
  unfolding phase_step
  phase_sound t =
      by_cond z (step t) (ltb z.P t) _ _ (λ _. omega arith)
      λ l. by_cond z (step t) (eqb t 0) _ _
      (λ _. either z σ range t (eqb (σ consumer_phase) 0) _ _ (omega arith) (consumer_sound z σ range t))
      λ n. either z σ range t (eqb (σ (phase t)) 0) _ _ (omega arith)
      (producer_sound z σ range t (omega (arith, eqb-false t 0 n, ltb-false z.P t l)) (next_free z σ) choice_most)

  -- A step that is counted writes one word more, its own thread's.
  counted_sound : (t k : ℕ) → t ≤ z.P → (a : Effect) → Sound z (step t) a → Sound z (step t) (counted (step_count t) k a)
  unfolding counted
  counted_sound t k l (refuse n) s = s
  counted_sound t k l (reply r ws) s =
      by_cond z (step t) (leb k most_steps) _ _ (λ b. (s.0, all_append (WriteThere z) ws (count_kept (step_count t) k r) s.1 (kept r))) (λ b. omega arith)
    where
      there : (t : ℕ) → t ≤ z.P → WriteThere z (count_of t := k)
      there zero l = omega arith
      there (suc p) l = (omega arith, l, omega arith)

      kept : (r : Reply) → All (WriteThere z) (count_kept (step_count t) k r)
      kept going = (subst⁻¹ (λ (c : Cell). WriteThere z (c := k)) (count_is t) (there t l), tt)
      kept ok = tt
      kept (started n) = tt
      kept ended = tt
      kept empty = tt
      kept (item n v) = tt
      kept (drained xs) = tt

  step_sound : (t : ℕ) → Sound z (step t) (stepping (next_free z σ) t z σ)
  unfolding stepping phase_step counted
  step_sound t = go (dec_le t z.P)
    where
      go : Dec (t ≤ z.P) → Sound z (step t) (stepping (next_free z σ) t z σ)
      go (yes l) = counted_sound t (suc (σ (step_count t))) l (phase_step (next_free z σ) t z σ) (phase_sound t)
      go (no l) = rw (lt-ltb z.P t (omega arith)) (omega arith)

  pub answer_sound : (q : Request) → Sound z q (effect q z σ)
  unfolding effect
  answer_sound (start_enqueue t v) = start_enqueue_sound t v
  answer_sound start_dequeue = start_dequeue_sound
  answer_sound (start_drain n) = start_drain_sound n
  answer_sound (step t) = step_sound t

-- The same of a call on any words.
pub admitted_sound : (q : Request) (m : List ℕ) → Sound (sizes_of m) q (admitted m (effect q))
unfolding admitted
admitted_sound q m =
    let z = sizes_of m in
    let σ = reader z m in
    by_cond z q (ltb (length m) 16) _ _ (λ _. omega arith)
    λ _. by_cond z q (not (sizes_in_range z)) _ _ (λ _. omega arith)
    λ _. by_cond z q (ltb (length m) (store_words z)) _ _ (λ _. omega arith)
    λ _. by_cond z q (not (in_range z σ)) _ _ (λ _. omega arith)
    λ e. answer_sound z σ (range_has z σ (not-false (in_range z σ) e)) q
