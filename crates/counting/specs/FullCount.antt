-- A step of a call whose count of accepted steps is full: it is refused, with 9 unless its phase refuses with 8. A phase refuses with 9
-- alone, but phase 4 where no record is free.
use Rattle.std.specs.Prelude.{◌≡◌, Bool, true, false, cond, List, [], ℕ, zero, suc, ◌≤◌, ◌<◌, leb, get_or}
use Rattle.std.proofs.Math.Path.{refl}
use Rattle.std.proofs.Common.{arith}
use borrow.Author.Tests.{le-ltb, lt-leb, leb-true, eq-eqb, ne_eqb, eqb-true}
use Rattle.rules.specs.Sizes.{Sizes, most_steps}
use Rattle.rules.specs.Cell.{Cell, Reader, reader, Write, consumer, producer, consumer_phase, phase, step_count}
use Rattle.rules.specs.Range.{Sort, of_sorts, idle_sorts, consumer_sorts, producer_sorts, last_consumer_phase, last_producer_phase, thread_in_range}
use Rattle.rules.specs.Update.{both, true_false}
use Rattle.rules.specs.InRange.{sorts_at}
use Rattle.rules.specs.Free.{next_free}
use Rattle.rules.specs.Rule.{Effect, Reply, refuse, reply, need}
use Rattle.rules.specs.Producer.{load_tail, look_next, claim_record, link_claimed, shift_tail, go_back, write_entry, set_entry, claim_ahead, link_ahead, producer_rules, producer_step}
use Rattle.rules.specs.Consumer.{by_state, front, read_tail, scan, read_entry, rescan, read_item, mark_handled, retire_head, consumer_rules, consumer_step}
use Rattle.rules.specs.Request.{step, effect, stepping, phase_step, counted}
use Rattle.store.specs.Store.{Admitted}

-- An effect that is no refusal but 9.
data Only9 : Effect → Type 0 where
  refuses : Only9 (refuse 9)
  replies : {r : Reply} {ws : List Write} → Only9 (reply r ws)

-- The words that rules are written in.
either : (t : Bool) {a b : Effect} → Only9 a → Only9 b → Only9 (cond t a b)
either true p q = p
either false p q = q

needed : (x : ℕ) {f : ℕ → Effect} → ((r : ℕ) → Only9 (f r)) → Only9 (need x f)
needed zero p = refuses
needed (suc r) p = p r

stated : (s : ℕ) {a b c : Effect} → Only9 a → Only9 b → Only9 c → Only9 (by_state s a b c)
stated zero p q r = p
stated (suc zero) p q r = q
stated (suc (suc s)) p q r = r

-- The consumer's phases.
module _ (z : Sizes) (σ : Reader) where
  front_9 : Only9 (front z σ)
  unfolding front
  front_9 = search (needed, either, stated, refuses, replies) depth 8

  read_tail_9 : Only9 (read_tail z σ)
  unfolding read_tail
  read_tail_9 = search (either, refuses, replies)

  scan_9 : Only9 (scan z σ)
  unfolding scan
  scan_9 = search (needed, either, refuses, replies) depth 12

  read_entry_9 : Only9 (read_entry z σ)
  unfolding read_entry
  read_entry_9 = search (needed, either, refuses, replies)

  rescan_9 : Only9 (rescan z σ)
  unfolding rescan
  rescan_9 = search (needed, either, refuses, replies) depth 8

  read_item_9 : Only9 (read_item z σ)
  unfolding read_item
  read_item_9 = search (needed, either, refuses, replies)

  mark_handled_9 : Only9 (mark_handled z σ)
  unfolding mark_handled
  mark_handled_9 = search (needed, either, refuses, replies) depth 12

  retire_head_9 : Only9 (retire_head z σ)
  unfolding retire_head
  retire_head_9 = search (needed, either, refuses, replies) depth 8

  -- A producer's.
  module _ (t : ℕ) where
    load_tail_9 : Only9 (load_tail z σ t)
    unfolding load_tail
    load_tail_9 = search (needed, replies)

    look_next_9 : Only9 (look_next z σ t)
    unfolding look_next
    look_next_9 = search (needed, replies)

    link_claimed_9 : Only9 (link_claimed z σ t)
    unfolding link_claimed
    link_claimed_9 = search (needed, either, refuses, replies)

    shift_tail_9 : Only9 (shift_tail z σ t)
    unfolding shift_tail
    shift_tail_9 = search (needed, either, replies)

    go_back_9 : Only9 (go_back z σ t)
    unfolding go_back
    go_back_9 = search (needed, replies)

    write_entry_9 : Only9 (write_entry z σ t)
    unfolding write_entry
    write_entry_9 = search (needed, either, refuses, replies)

    set_entry_9 : Only9 (set_entry z σ t)
    unfolding set_entry
    set_entry_9 = search (needed, either, refuses, replies)

    link_ahead_9 : Only9 (link_ahead z σ t)
    unfolding link_ahead
    link_ahead_9 = search (needed, either, refuses, replies)

-- The rule of any phase: the consumer's, and a producer's but for phase 4 with no record free.
consumer_9 : (z : Sizes) (σ : Reader) (p : ℕ) → 1 ≤ p → p ≤ last_consumer_phase → Only9 (get_or consumer_rules p (λ z σ. refuse 7) z σ)
consumer_9 z σ zero l h = absurd (omega arith)
consumer_9 z σ (suc zero) l h = front_9 z σ
consumer_9 z σ (suc (suc zero)) l h = read_tail_9 z σ
consumer_9 z σ (suc (suc (suc zero))) l h = scan_9 z σ
consumer_9 z σ (suc (suc (suc (suc zero)))) l h = read_entry_9 z σ
consumer_9 z σ (suc (suc (suc (suc (suc zero))))) l h = rescan_9 z σ
consumer_9 z σ (suc (suc (suc (suc (suc (suc zero)))))) l h = read_item_9 z σ
consumer_9 z σ (suc (suc (suc (suc (suc (suc (suc zero))))))) l h = mark_handled_9 z σ
consumer_9 z σ (suc (suc (suc (suc (suc (suc (suc (suc zero)))))))) l h = retire_head_9 z σ
consumer_9 z σ (suc (suc (suc (suc (suc (suc (suc (suc (suc p))))))))) l h = absurd (omega arith)

claim_9 : (z : Sizes) (σ : Reader) (t choice : ℕ) → (choice ≡ 0 → ⊥) → Only9 (claim_record z σ t choice)
unfolding claim_record
claim_9 z σ t zero n = absurd (n refl)
claim_9 z σ t (suc r) n = replies

claim_ahead_9 : (z : Sizes) (σ : Reader) (t choice : ℕ) → Only9 (claim_ahead z σ t choice)
unfolding claim_ahead
claim_ahead_9 z σ t zero = replies
claim_ahead_9 z σ t (suc r) = replies

producer_9 : (choice : ℕ) (z : Sizes) (σ : Reader) (t p : ℕ) → 2 ≤ p → p ≤ last_producer_phase → (p ≡ 4 → choice ≡ 0 → ⊥) → Only9 (get_or (producer_rules choice) p (λ z σ t. refuse 7) z σ t)
producer_9 choice z σ t zero l h n = absurd (omega arith)
producer_9 choice z σ t (suc zero) l h n = absurd (omega arith)
producer_9 choice z σ t (suc (suc zero)) l h n = load_tail_9 z σ t
producer_9 choice z σ t (suc (suc (suc zero))) l h n = look_next_9 z σ t
producer_9 choice z σ t (suc (suc (suc (suc zero)))) l h n = claim_9 z σ t choice (n refl)
producer_9 choice z σ t (suc (suc (suc (suc (suc zero))))) l h n = link_claimed_9 z σ t
producer_9 choice z σ t (suc (suc (suc (suc (suc (suc zero)))))) l h n = shift_tail_9 z σ t
producer_9 choice z σ t (suc (suc (suc (suc (suc (suc (suc zero))))))) l h n = go_back_9 z σ t
producer_9 choice z σ t (suc (suc (suc (suc (suc (suc (suc (suc zero)))))))) l h n = write_entry_9 z σ t
producer_9 choice z σ t (suc (suc (suc (suc (suc (suc (suc (suc (suc zero))))))))) l h n = set_entry_9 z σ t
producer_9 choice z σ t (suc (suc (suc (suc (suc (suc (suc (suc (suc (suc zero)))))))))) l h n = claim_ahead_9 z σ t choice
producer_9 choice z σ t (suc (suc (suc (suc (suc (suc (suc (suc (suc (suc (suc zero))))))))))) l h n = link_ahead_9 z σ t
producer_9 choice z σ t (suc (suc (suc (suc (suc (suc (suc (suc (suc (suc (suc (suc p)))))))))))) l h n = absurd (omega arith)

-- A thread in range that has accepted steps is not idle.
busy : (z : Sizes) (last : ℕ) (sorts : List (List Sort)) (row : ℕ → ℕ) → get_or sorts 0 [] ≡ idle_sorts → thread_in_range z last sorts row ≡ true → 1 ≤ row 7
    → (1 ≤ row 0) × (row 0 ≤ last) × (of_sorts z row 1 (get_or sorts (row 0) []) ≡ true)
busy z last sorts row idle e h =
    let b = both (leb (row 0) last) (of_sorts z row 1 (get_or sorts (row 0) [])) e in
    (started (row 0) refl b.1, leb-true (row 0) last b.0, b.1)
  where
    started : (p : ℕ) → row 0 ≡ p → of_sorts z row 1 (get_or sorts (row 0) []) ≡ true → 1 ≤ p
    started zero q s = absurd (omega (arith, eqb-true (row 7) 0 (sorts_at z row 1 idle_sorts (rw (q, idle) at s) 6 7 (omega arith) refl)))
    started (suc p) q s = omega arith

-- A producer in range is not in phase 1.
not_1 : (z : Sizes) (row : ℕ → ℕ) → of_sorts z row 1 (get_or producer_sorts (row 0) []) ≡ true → row 0 ≡ 1 → ⊥
not_1 z row e q = true_false (rw q at e) refl

-- A count past its most turns an effect into a refusal.
past_most : {a : Effect} → Only9 a → (c : Cell) (k : ℕ) → most_steps < k → counted c k a ≡ refuse 9
unfolding counted
past_most refuses c k h = refl
past_most replies c k h = rw (lt-leb k most_steps h) refl

module _ {z : Sizes} {m : List ℕ} {t : ℕ} (a : Admitted z m) (b : t ≤ z.P) (full : most_steps ≤ reader z m (step_count t)) where
  -- the consumer's step
  pub consumer_full : t ≡ 0 → effect (step t) z (reader z m) ≡ refuse 9
  unfolding effect stepping phase_step consumer_step
  consumer_full o =
      let count : most_steps ≤ reader z m (consumer 7) = rw (eq-eqb t 0 o) at full in
      let p = busy z last_consumer_phase consumer_sorts (λ k. reader z m (consumer k)) refl a.ranges.consuming (omega arith) in
      past_most (rw (le-ltb z.P t b, eq-eqb t 0 o, ne_eqb (reader z m consumer_phase) 0 (λ e. omega arith)) (consumer_9 z (reader z m) (reader z m consumer_phase) p.0 p.1)) (step_count t) (suc (reader z m (step_count t))) (omega arith)

  module _ (o : t ≡ 0 → ⊥) where
    -- a producer's phase
    in_phase : (2 ≤ reader z m (phase t)) × (reader z m (phase t) ≤ last_producer_phase)
    in_phase =
        let count : most_steps ≤ reader z m (producer t 7) = rw (ne_eqb t 0 o) at full in
        let row : ℕ → ℕ = λ k. reader z m (producer t k) in
        let p = busy z last_producer_phase producer_sorts row refl (a.ranges.producing t (omega arith) b) (omega arith) in
        let n = not_1 z row p.2 in
        (omega arith, p.1)

    -- a producer's step, but in phase 4 with no record free
    pub producer_full : (reader z m (phase t) ≡ 4 → next_free z (reader z m) ≡ 0 → ⊥) → effect (step t) z (reader z m) ≡ refuse 9
    unfolding effect stepping phase_step producer_step
    producer_full n =
        let p = in_phase in
        past_most (rw (le-ltb z.P t b, ne_eqb t 0 o, ne_eqb (reader z m (phase t)) 0 (λ e. omega arith)) (producer_9 (next_free z (reader z m)) z (reader z m) t (reader z m (phase t)) p.0 p.1 n)) (step_count t) (suc (reader z m (step_count t))) (omega arith)

    -- and there
    pub none_free : reader z m (phase t) ≡ 4 → next_free z (reader z m) ≡ 0 → effect (step t) z (reader z m) ≡ refuse 8
    unfolding effect stepping phase_step producer_step claim_record counted
    none_free p f = rw (le-ltb z.P t b, ne_eqb t 0 o, p, f) refl
