-- What another thread's call leaves of a call's steps: no more than before.
use Rattle.std.specs.Prelude.{◌≡◌, refl, Bool, true, false, cond, ℕ, zero, suc, ◌+◌, ◌-◌, ◌*◌, ◌≤◌, ◌<◌, eqb, ltb}
use Rattle.std.proofs.Common.{ap, ◌∙◌, subst, eq-eqb, eqb-true, lt-ltb, ltb-true}
use Rattle.std.proofs.Math.Path.{sym}
use Rattle.std.proofs.Math.Decide.{dec_le}
use native.Mathlib.Omega.{arith}
use Rattle.rules.specs.Sizes.{Sizes}
use Rattle.rules.specs.Cell.{Reader, producer, consumer, drain, drain_count, tail_record, head_record, head_position, consumer_phase, cursor_record, cursor_position, found_record, found_position, phase, position, held, backed, place, used, state}
use Rattle.rules.specs.Update.{both, and_true}
use Rattle.model.specs.State.{Entry, blank, put, gone}
use Rattle.model.specs.Walking.{producer_clause}
use Rattle.memory.specs.Memory.{ListedIn, Linked, tail_listed}
use Rattle.simulation.specs.View.{Ghost, places_of, place_of, view, code_of}
use Rattle.simulation.specs.Good.{Good, Behind, Moved}
use Rattle.simulation.specs.Limits.{limits}
use Rattle.simulation.specs.ProducerSteps.{seen_at}
use Rattle.simulation.specs.ConsumerSteps.{head_placed}
use Rattle.progress.specs.Arithmetic.{count_grows, count_same, scaled, ahead_less}
use Rattle.progress.specs.Measure.{records_back, load_steps, enqueue_at, enqueue_left, rank, first_handled, read_steps, dequeue_at, consumer_left}

-- the entry of a state
is_gone : (e : Entry) → code_of e ≡ 2 → e ≡ gone
is_gone blank q = absurd (omega arith)
is_gone put q = absurd (omega arith)
is_gone gone q = refl

gone_not_blank : gone ≡ blank → ⊥
gone_not_blank e = let q : ◌≡◌ {A = ℕ} 2 0 = ap code_of e in omega arith

module _ (z : Sizes) (σ σ' : Reader) (γ γ' : Ghost) (good : Good z σ γ) (good' : Good z σ' γ') (t : ℕ) (moved : Moved t σ σ' γ γ') where
  -- A producer's call, seen by the consumer.
  module _ (a-producer : 1 ≤ t) where
    abbrev same : Behind σ σ' γ γ'
    same = moved.behind a-producer

    -- a listed place stays listed; one up to the old last place was so before
    stays_listed : (j : ℕ) → ListedIn γ.shape j → ListedIn γ'.shape j
    stays_listed j l = record { from = omega (arith, same.same_first, l.from); to = omega (arith, moved.last_grows, l.to); no_gap = same.same_gaps j ∙ l.no_gap }

    was_listed : (j : ℕ) → ListedIn γ'.shape j → j ≤ γ.shape.hi → ListedIn γ.shape j
    was_listed j l h = record { from = omega (arith, same.same_first, l.from); to = h; no_gap = sym (same.same_gaps j) ∙ l.no_gap }

    -- a linked record stays linked in its place
    stays_linked : (r : ℕ) → σ (used r) ≡ 2 → (σ' (used r) ≡ 2) × (σ' (place r) ≡ σ (place r))
    stays_linked r u =
        let o = good.memory.chain.only r u in
        let is : γ'.shape.at (σ (place r)) ≡ r = same.same_records (σ (place r)) o.0.to ∙ o.1 in
        let l = stays_listed (σ (place r)) o.0 in (
          subst (λ (x : ℕ). σ' (used x) ≡ 2) is (good'.memory.chain.linked (σ (place r)) l),
          subst (λ (x : ℕ). σ' (place x) ≡ σ (place r)) is (good'.memory.chain.placed (σ (place r)) l),
        )

    -- one that is linked up to the old last place was so before
    was_linked : (r : ℕ) → σ' (used r) ≡ 2 → σ' (place r) ≤ γ.shape.hi → (σ (used r) ≡ 2) × (σ (place r) ≡ σ' (place r))
    was_linked r u l =
        let o = good'.memory.chain.only r u in
        let is : γ.shape.at (σ' (place r)) ≡ r = sym (same.same_records (σ' (place r)) l) ∙ o.1 in
        let was = was_listed (σ' (place r)) o.0 l in (
          subst (λ (x : ℕ). σ (used x) ≡ 2) is (good.memory.chain.linked (σ' (place r)) was),
          subst (λ (x : ℕ). σ (place x) ≡ σ' (place r)) is (good.memory.chain.placed (σ' (place r)) was),
        )

    -- one whose first entry is handled was linked, and it was handled before
    was_handled : (r : ℕ) → σ' (used r) ≡ 2 → σ' (state r 0) ≡ 2 → (σ (used r) ≡ 2) × (σ (state r 0) ≡ 2)
    was_handled r u h = go (σ' (place r)) refl
      where
        o : ListedIn γ'.shape (σ' (place r)) × (γ'.shape.at (σ' (place r)) ≡ r)
        o = good'.memory.chain.only r u

        some : 0 < z.B
        some = omega (arith, (limits z good.sizes).two_entries)

        before : (j : ℕ) → σ' (place r) ≡ suc j → γ.entry (z.B * j + 0) ≡ gone → Dec (suc j ≤ γ.shape.hi) → (σ (used r) ≡ 2) × (σ (state r 0) ≡ 2)
        before j e was (yes l) =
            let is : γ.shape.at (suc j) ≡ r = sym (same.same_records (suc j) l) ∙ ap γ'.shape.at (sym e) ∙ o.1 in
            let listed = was_listed (suc j) (rw e at o.0) l in (
              (was_linked r u (omega arith)).0,
              ap (λ (x : ℕ). σ (state x 0)) (sym is) ∙ good.agrees.states j 0 listed some ∙ ap code_of was,
            )
        before j e was (no n) =
            absurd
            (gone_not_blank
            (sym was ∙ good.model.entries.blank_ahead (z.B * j + 0) (omega (arith, scaled z.B γ.shape.tp j (omega (arith, good.memory.tail_last))))))

        go : (k : ℕ) → σ' (place r) ≡ k → (σ (used r) ≡ 2) × (σ (state r 0) ≡ 2)
        go zero e = absurd (omega (arith, o.0.from, good'.model.places.first))
        go (suc j) e =
            let is : γ'.shape.at (suc j) ≡ r = ap γ'.shape.at (sym e) ∙ o.1 in
            let code : code_of (γ'.entry (z.B * j + 0)) ≡ 2 =
            sym (good'.agrees.states j 0 (rw e at o.0) some) ∙ ap (λ (x : ℕ). σ' (state x 0)) is ∙ h in
            before j e (same.was_gone (z.B * j + 0) (is_gone (γ'.entry (z.B * j + 0)) code)) (dec_le (suc j) γ.shape.hi)

    -- a record number that the consumer has: its place stays, and is not past the last one
    seen_place : (x : ℕ) → Linked σ x → (place_of (places_of σ') x ≡ place_of (places_of σ) x) × (place_of (places_of σ) x ≤ γ.shape.hi)
    seen_place zero l = (refl, omega arith)
    seen_place (suc r) l = ((stays_linked r l).1, (good.memory.chain.only r l).0.to)

    ranks : (k : ℕ) → k ≤ γ.shape.hi → rank z σ' k ≡ rank z σ k
    ranks k l =
        count_same z.N _ _
        (λ r n p.
        let b = both (eqb (σ' (used r)) 2) (ltb (σ' (place r)) k) p in
        let less : σ' (place r) < k = ltb-true (σ' (place r)) k b.1 in
        let w = was_linked r (eqb-true (σ' (used r)) 2 b.0) (omega arith) in
        and_true (eq-eqb (σ (used r)) 2 w.0) (lt-ltb (σ (place r)) k (omega (arith, w.1))))
        (λ r n p.
        let b = both (eqb (σ (used r)) 2) (ltb (σ (place r)) k) p in
        let less : σ (place r) < k = ltb-true (σ (place r)) k b.1 in
        let w = stays_linked r (eqb-true (σ (used r)) 2 b.0) in
        and_true (eq-eqb (σ' (used r)) 2 w.0) (lt-ltb (σ' (place r)) k (omega (arith, w.1))))

    fewer : first_handled z σ' ≤ first_handled z σ
    fewer =
        count_grows z.N _ _
        (λ r n p.
        let b = both (eqb (σ' (used r)) 2) (eqb (σ' (state r 0)) 2) p in
        let w = was_handled r (eqb-true (σ' (used r)) 2 b.0) (eqb-true (σ' (state r 0)) 2 b.1) in
        and_true (eq-eqb (σ (used r)) 2 w.0) (eq-eqb (σ (state r 0)) 2 w.1))

    reads_less : read_steps z σ' ≤ read_steps z σ
    reads_less = omega (arith, scaled (suc (2 * z.B)) (z.N + first_handled z σ') (z.N + first_handled z σ) (omega (arith, fewer)))

    at_front : (b : Bool) → cond b (read_steps z σ') 3 ≤ cond b (read_steps z σ) 3
    at_front true = reads_less
    at_front false = omega arith

    at_phase : (p hp lo c k f g n : ℕ) → k ≤ γ.shape.hi → g ≤ γ.shape.hi → dequeue_at z σ' p hp lo c k f g n ≤ dequeue_at z σ p hp lo c k f g n
    at_phase zero hp lo c k f g n a b = omega arith
    at_phase (suc zero) hp lo c k f g n a b = omega (arith, at_front (eqb n 0), scaled (suc z.B) (first_handled z σ') (first_handled z σ) fewer)
    at_phase (suc (suc zero)) hp lo c k f g n a b = reads_less
    at_phase (suc (suc (suc zero))) hp lo c k f g n a b = rw (ranks k a) (omega (arith, scaled (suc (2 * z.B)) (z.N - rank z σ k + first_handled z σ') (z.N - rank z σ k + first_handled z σ) (omega (arith, fewer))))
    at_phase (suc (suc (suc (suc zero)))) hp lo c k f g n a b = rw (ranks k a) (omega (arith, scaled (suc (2 * z.B)) (z.N - rank z σ k + first_handled z σ') (z.N - rank z σ k + first_handled z σ) (omega (arith, fewer))))
    at_phase (suc (suc (suc (suc (suc zero))))) hp lo c k f g n a b = rw (ranks k a, ranks g b) (omega arith)
    at_phase (suc (suc (suc (suc (suc (suc zero)))))) hp lo c k f g n a b = omega arith
    at_phase (suc (suc (suc (suc (suc (suc (suc zero))))))) hp lo c k f g n a b = omega arith
    at_phase (suc (suc (suc (suc (suc (suc (suc (suc zero)))))))) hp lo c k f g n a b = omega arith
    at_phase (suc (suc (suc (suc (suc (suc (suc (suc (suc p))))))))) hp lo c k f g n a b = omega arith

    pub consumer_not_raised : consumer_left z σ' ≤ consumer_left z σ
    unfolding consumer_left
    consumer_not_raised =
        let area : (k : ℕ) → σ' (drain k) ≡ σ (drain k) = λ k. moved.others (drain k) (λ e. omega arith) in
        let word : (k : ℕ) → σ' (consumer k) ≡ σ (consumer k) = λ k. moved.others (consumer k) (λ e. omega arith) in
        let cursor = seen_place (σ cursor_record) good.memory.cursor in
        let found = seen_place (σ found_record) good.memory.found in
        let head : place_of (places_of σ') (σ' head_record) ≡ place_of (places_of σ) (σ head_record) =
        head_placed z σ' γ' good' ∙ same.same_first ∙ sym (head_placed z σ γ good) in
        rw (word 0, same.same_head, head, word 2, word 1, word 4, word 3, cursor.0, found.0, area 0, area 1)
        (omega (
          arith,
          at_phase (σ consumer_phase) (σ head_position) (place_of (places_of σ) (σ head_record)) (σ cursor_position) (place_of (places_of σ) (σ cursor_record)) (σ found_position)
              (place_of (places_of σ) (σ found_record)) (σ drain_count) cursor.1 found.1,
        ))

  -- Another call, seen by producer u.
  module _ (u : ℕ) (other : t ≡ u → ⊥) (there : (1 ≤ u) × (u ≤ z.P)) where
    tail_placed : (τ : Reader) (δ : Ghost) → Good z τ δ → place_of (places_of τ) (τ tail_record) ≡ δ.shape.tp
    tail_placed τ δ g =
        ap (place_of (places_of τ)) g.memory.tail_is ∙ g.memory.chain.placed δ.shape.tp (tail_listed g.memory)

    load_less : (L h k tp tp' : ℕ) → tp ≤ tp' → load_steps z σ' L h k tp' ≤ load_steps z σ L h k tp
    load_less L h k tp tp' l = omega (arith, ahead_less z.B L tp tp' (omega (arith, (limits z good.sizes).two_entries)) l)

    back_less : (L k : ℕ) → k ≤ γ.shape.hi → records_back z σ' L k ≤ records_back z σ L k
    back_less L k l =
        count_grows z.N _ _
        (λ r n p.
        let b = both (ltb L (z.B * σ' (place r))) (ltb (σ' (place r)) k) p in
        let low : L < z.B * σ' (place r) = ltb-true L (z.B * σ' (place r)) b.0 in
        let high : σ' (place r) < k = ltb-true (σ' (place r)) k b.1 in
        let had : σ (place r) ≡ σ' (place r) = moved.had_place r (placed r low) (omega arith) in
        rw had p)
      where
        placed : (r : ℕ) → L < z.B * σ' (place r) → 1 ≤ σ' (place r)
        placed r h = go (σ' (place r)) h
          where
            go : (x : ℕ) → L < z.B * x → 1 ≤ x
            go zero h = absurd (omega arith)
            go (suc x) h = omega arith

    in_phase : (p L k tp tp' h b : ℕ) → tp ≤ tp' → (p ≡ 7 → k ≤ γ.shape.hi) → enqueue_at z σ' p L k tp' h b ≤ enqueue_at z σ p L k tp h b
    in_phase zero L k tp tp' h b up low = omega arith
    in_phase (suc zero) L k tp tp' h b up low = omega arith
    in_phase (suc (suc zero)) L k tp tp' h b up low = load_less L h k tp tp' up
    in_phase (suc (suc (suc zero))) L k tp tp' h b up low = omega arith
    in_phase (suc (suc (suc (suc zero)))) L k tp tp' h b up low = omega arith
    in_phase (suc (suc (suc (suc (suc zero))))) L k tp tp' h b up low = omega arith
    in_phase (suc (suc (suc (suc (suc (suc zero)))))) L k tp tp' h b up low = omega arith
    in_phase (suc (suc (suc (suc (suc (suc (suc zero))))))) L k tp tp' h b up low = omega (arith, back_less L k (low refl))
    in_phase (suc (suc (suc (suc (suc (suc (suc (suc zero)))))))) L k tp tp' h b up low = omega arith
    in_phase (suc (suc (suc (suc (suc (suc (suc (suc (suc zero))))))))) L k tp tp' h b up low = omega arith
    in_phase (suc (suc (suc (suc (suc (suc (suc (suc (suc (suc zero)))))))))) L k tp tp' h b up low = omega arith
    in_phase (suc (suc (suc (suc (suc (suc (suc (suc (suc (suc (suc zero))))))))))) L k tp tp' h b up low = omega arith
    in_phase (suc (suc (suc (suc (suc (suc (suc (suc (suc (suc (suc (suc p)))))))))))) L k tp tp' h b up low = omega arith

    pub enqueue_not_raised : enqueue_left z σ' u ≤ enqueue_left z σ u
    unfolding enqueue_left
    enqueue_not_raised =
        let row : (k : ℕ) → σ' (producer u k) ≡ σ (producer u k) = λ k. moved.others (producer u k) other in
        rw (row 0, row 3, row 4, row 6, moved.held_places u other)
        (in_phase (σ (phase u)) (σ (position u)) (place_of (places_of σ) (σ (held u))) _ _ (σ (held u)) (σ (backed u)) (omega (arith, tail_placed σ γ good, tail_placed σ' γ' good', moved.shifts_on))
        (λ e. omega (arith, (producer_clause z.B (view σ γ) good.model u _ (seen_at z σ γ good u there 7 e)).1, good.memory.tail_last)))
