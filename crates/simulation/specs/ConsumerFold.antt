-- The crossing of the scan, and the fold of a record that it has read.
use Rattle.std.specs.Prelude.{◌≡◌, refl, ◌≢◌, true, List, ◌++◌, ℕ, zero, suc, ◌+◌, ◌*◌, ◌≤◌, ◌<◌}
use Rattle.std.proofs.Common.{ap, sym, ◌∙◌, subst, arith}
use Rattle.std.proofs.Math.Path.{subst⁻¹}
use Rattle.std.proofs.Math.Decide.{ℕ_discrete}
use Rattle.history.specs.Lists.{All}
use Rattle.rules.specs.Sizes.{Sizes}
use Rattle.rules.specs.Cell.{Reader, Write, tail, head_record, all_handled, consumer, consumer_phase, cursor_record, cursor_position, found_position, place, prev, state}
use Rattle.rules.specs.Update.{after}
use Rattle.rules.specs.Range.{link, cursor_sorts}
use Rattle.rules.specs.Rule.{going, goes, need}
use Rattle.rules.specs.Consumer.{entered, folded}
use Rattle.rules.specs.Request.{step}
use Rattle.rules.specs.Readback.{WriteThere}
use Rattle.rules.specs.InRange.{InSort, writes_keep_range}
use Rattle.model.specs.State
use Rattle.model.specs.State.{gone}
use Rattle.model.specs.Invariant.{Invariant}
use Rattle.model.specs.Moves.{with_consumer}
use Rattle.model.specs.Known.{handled_to_tail, blank_past_head}
use Rattle.model.specs.Scanning.{scan_cross}
use Rattle.model.specs.Bounds.{scanning_reached}
use Rattle.memory.specs.Listed.{Joined, Backward, backward}
use Rattle.memory.specs.Chain.{with_gap, with_gap_other, no_gap_with}
use Rattle.memory.specs.Memory.{ListedIn, Memory, head_listed}
use Rattle.memory.specs.Folding.{fold_writes, fold_keeps}
use Rattle.simulation.specs.View.{Ghost, places_of, place_of, consumer_of, view, code_of}
use Rattle.simulation.specs.Good.{Good, Read, Goes, Fine, Tells, places_stay, by_need}
use Rattle.simulation.specs.Told.{early, tells_going}
use Rattle.simulation.specs.Rows.{of_sort_lem, ConsumerWords, consumer_row_of}
use Rattle.simulation.specs.RecordSteps.{seen_as}
use Rattle.simulation.specs.Awaiting.{awaited_in}
use Rattle.simulation.specs.ConsumerCursor.{stays, placed, linked, at_end_lem}
use Rattle.simulation.specs.ConsumerSteps.{consumer_words, consumer_at_lem, tail_fits, Lands}

module _ (z : Sizes) (σ : Reader) (γ : Ghost) (good : Good z σ γ) where
  m : Memory z σ γ.shape
  m = good.memory

  -- Where a crossing lands is a number in range.
  pub lands_fits : (r n : ℕ) (l : Lands z σ γ good r n) → z.B * σ (place r) ≤ σ tail → z.B * l.before ≤ z.M
  lands_fits r n l reached =
      omega (arith, tail_fits z σ γ good, handled_to_tail z.B (view σ γ) good.model (z.B * σ (place r)) (z.B * l.before) reached l.handled)

  module _ (e : σ consumer_phase ≡ 3) (r : ℕ) (q : σ cursor_record ≡ suc r) (end : σ cursor_position ≡ z.B * σ (place r)) where
    seen : (view σ γ).consumer ≡ State.scanning (σ cursor_position) (place_of (places_of σ) (σ cursor_record))
    seen = consumer_at_lem z σ γ good 3 e

    -- the crossing in the position machine
    pub crossed : (n : ℕ) (l : Lands z σ γ good r n) → Invariant z.B (with_consumer (view σ γ) (State.scanning (z.B * l.before) (suc l.before)))
    crossed n l =
        scan_cross z.B (view σ γ) good.model _ _ l.before seen (at_end_lem z σ γ good r q (σ cursor_position) end)
        (rw (placed z σ γ good r q) l.on) l.before_tail (rw end l.handled)

    words : ConsumerWords z (λ k. σ (consumer k)) cursor_sorts
    words = consumer_words z σ γ good 3 e

    -- The scan has read the whole record, and it is neither the head record nor the tail record.
    module _ (before : σ (place r) < γ.shape.tp) (is_read : σ all_handled ≡ 1) (not-head : σ head_record ≢ suc r) where
      abbrev k : ℕ
      k = σ (place r)

      only : ListedIn γ.shape k × (γ.shape.at k ≡ r)
      only = m.chain.only r (linked z σ γ good r q)

      -- its positions are handled
      handled : (j i : ℕ) → k ≡ suc j → i < z.B → γ.entry (z.B * j + i) ≡ gone
      handled j i w l =
          let all = subst (Read z.B γ.entry) seen (good.read is_read) in
          let bound : z.B * k ≡ z.B * j + z.B = ap (λ (x : ℕ). z.B * x) w ∙ omega arith in
          all (z.B * j + i) (omega (arith, ap (λ (x : ℕ). z.B * x) (placed z σ γ good r q))) (omega arith)

      -- so none of its entries is set
      none_set : (i : ℕ) → i < z.B → σ (state (γ.shape.at k) i) ≡ 1 → ⊥
      none_set i l x = go k refl only.0
        where
          go : (y : ℕ) → k ≡ y → ListedIn γ.shape y → ⊥
          go zero w listed = omega (arith, listed.from, good.model.places.first)
          go (suc j) w listed =
              let code : σ (state (γ.shape.at (suc j)) i) ≡ code_of (γ.entry (z.B * j + i)) = good.agrees.states j i listed l in
              let two : code_of (γ.entry (z.B * j + i)) ≡ 2 = ap code_of (handled j i w l) in
              let same : σ (state (γ.shape.at k) i) ≡ σ (state (γ.shape.at (suc j)) i) = ap (λ (y : ℕ). σ (state (γ.shape.at y) i)) w in
              omega arith

      -- it is behind the head record, so that there is one before it
      past_head : γ.shape.lo < k
      past_head =
          let other : γ.shape.lo ≡ k → ⊥ = λ w. not-head (m.head_is ∙ ap suc (ap γ.shape.at w ∙ only.1)) in
          omega (arith, only.0.from)

      back : Backward γ.shape.lo γ.shape.hi γ.shape.gap k
      back = backward γ.shape.lo k (head_listed m) only.0 past_head

      -- what stands beside the store then
      abbrev after_fold : Ghost
      after_fold =
          record {
            shape = record { lo = γ.shape.lo; tp = γ.shape.tp; hi = γ.shape.hi; at = γ.shape.at; gap = with_gap γ.shape.gap k };
            entry = γ.entry;
            content = γ.content;
            history = γ.history;
          }

      -- a place of the list then was in the list
      still : (j : ℕ) → ListedIn after_fold.shape j → ListedIn γ.shape j
      still j l = record { from = l.from; to = l.to; no_gap = (no_gap_with γ.shape.gap k j l.no_gap).1 }

      -- and a gap then was one, or is the folded record's place
      gaps : (j i : ℕ) → with_gap γ.shape.gap k (suc j) ≡ true → i < z.B → γ.entry (z.B * j + i) ≡ gone
      gaps j i g l = go (ℕ_discrete k (suc j))
        where
          go : Dec (k ≡ suc j) → γ.entry (z.B * j + i) ≡ gone
          go (yes w) = handled j i w l
          go (no n) = good.agrees.folded j i (sym (with_gap_other γ.shape.gap k (suc j) n) ∙ g) l

      module _ (n : ℕ) (l : Lands z σ γ good r n) (i : ℕ) (left : Joined γ.shape.lo γ.shape.hi γ.shape.gap i k) where
        abbrev ws : List Write
        ws = fold_writes (γ.shape.at k) (γ.shape.at i) (γ.shape.at (suc l.before)) (z.B * l.before)

        fits : (a : ℕ) → ListedIn γ.shape a → γ.shape.at a < z.N
        fits a listed = m.chain.fits a listed

        in_sort : All (InSort z 0) ws
        in_sort = (
          of_sort_lem z link (suc (γ.shape.at (suc l.before))) (fits (suc l.before) l.joined.right),
          (of_sort_lem z link (suc (γ.shape.at i)) (fits i left.left), (refl, (refl, (refl, (refl, tt))))),
        )

        there : All (WriteThere z) ws
        there = (
          (fits i left.left, omega arith),
          ((fits (suc l.before) l.joined.right, omega arith), ((fits k only.0, omega arith), (omega arith, (omega arith, (tt, tt))))),
        )

        now_seen : consumer_of (after σ ws) ≡ State.scanning (z.B * l.before) (suc l.before)
        now_seen =
            stays z σ γ good 3 e (z.B * l.before) (σ (place (γ.shape.at (suc l.before)))) (σ found_position) _ _
            ∙ ap (State.scanning (z.B * l.before)) (m.chain.placed (suc l.before) l.joined.right)

        tells : Tells σ (after σ ws) (step 0) going γ.history γ.history
        tells =
            tells_going σ (after σ ws) (step 0) γ.history (early σ e (omega arith)) (early (after σ ws) e (omega arith)) (λ j. refl) (λ x j. refl) good.pending

        goes_fold : Goes z σ γ (step 0) going ws
        goes_fold =
            record {
              there = there;
              next = after_fold;
              good =
                  record {
                    sizes = good.sizes;
                    range =
                        writes_keep_range z 0 σ ws in_sort good.range
                        (λ x. (
                          consumer_row_of z (λ j. after σ ws (consumer j)) 3 e (omega arith)
                              (record { cursor_record = fits (suc l.before) l.joined.right; cursor_position = lands_fits r n l reached; found_record = words.found_record; found_position = words.found_position; item_number = words.item_number; item_value = words.item_value; steps = words.steps }),
                          good.range.draining,
                          rw e refl,
                        ))
                        (λ x. absurd (omega arith));
                    memory =
                        fold_keeps z σ γ.shape m (z.B * l.before) i k (suc l.before) before left l.joined words.found_record none_set
                        (awaited_in z σ γ good after_fold.shape refl gaps
                        (λ L empty. omega (arith, good.model.places.head_from, blank_past_head z.B (view σ γ) good.model L empty)));
                    agrees =
                        record {
                          states = λ j x s. good.agrees.states j x (still (suc j) s);
                          numbers = λ j x s. good.agrees.numbers j x (still (suc j) s);
                          values = λ j x s. good.agrees.values j x (still (suc j) s);
                          folded = gaps;
                          fresh = good.agrees.fresh;
                        };
                    model = seen_as (crossed n l) refl refl refl refl (sym now_seen);
                    formed = good.formed;
                    pending = tells.pending;
                    read = λ x. subst⁻¹ (Read z.B γ.entry) now_seen (λ p low high. absurd (omega arith));
                  };
              grown = tells.grown;
              moved = places_stay z 0 σ γ after_fold ws in_sort (λ x. refl) (omega arith) (omega arith) (omega arith) (λ x. absurd (omega arith));
            }
          where
            reached : z.B * σ (place r) ≤ σ tail
            reached = omega (arith, (scanning_reached z.B (view σ γ) good.model _ _ seen).0)

      pub folds : (n : ℕ) (l : Lands z σ γ good r n)
          → Fine z σ γ (step 0) (need (σ (prev r)) λ b. goes (folded z σ r b n ++ entered z σ n (z.B * l.before)))
      folds n l =
          let is : σ (prev r) ≡ suc (γ.shape.at back.place) = ap (λ (x : ℕ). σ (prev x)) (sym only.1) ∙ m.chain.prevs back.place k back.joined in
          by_need (Fine z σ γ (step 0)) (σ (prev r)) _ (λ x. omega arith)
          (λ b x.
          let same : γ.shape.at back.place ≡ b = omega arith in
          subst (λ (vs : List Write). Goes z σ γ (step 0) going vs)
          (λ j. fold_writes (only.1 j) (same j) (sym l.is j) (z.B * l.before))
          (goes_fold n l back.place back.joined))
