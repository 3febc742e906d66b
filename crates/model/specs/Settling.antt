-- An item's end is told after its mark. The invariant over the history that is kept, in which the item was given at its mark and the
-- next dequeue opened there, gives the invariant over what is told, with the item's end last and the consumer resting. From
-- criterion's LateFacts and Settle.
--
-- Phase 7 that leads to 8 (`drain_front_lem`): at the mark the kept history takes the item's end and a start, and `marked` relates it to
-- what was told; each enqueue event is then added to both. Where phase 8 replies the item, `settle_keeps` makes the told history the
-- kept one.
-- Of the consumer nothing is asked: a resting one has no clause, and what the others say of the last dequeue (`Passed`) is said of
-- the one opened at the mark, which is withdrawn.
use Rattle.std.specs.Prelude.{◌≡◌, refl, true, ◌∷◌, ℕ, suc, ◌*◌, ◌<◌}
use Rattle.std.proofs.Common.{sym, ◌∙◌, arith}
use Rattle.std.proofs.Math.Path.{transport, transport⁻¹}
use Rattle.std.proofs.Math.Logic.{⊎_map}
use Rattle.history.specs.Event.{History, gave_item}
use Rattle.history.specs.Form.{well_formed}
use Rattle.history.specs.Linearization.{Item}
use Rattle.criterion.specs.Late.{Late, SameEnqueues}
use Rattle.criterion.specs.LateFacts.{late_same}
use Rattle.criterion.specs.Settle.{settled_explained}
use Rattle.model.specs.State.{resting, front, holding, retiring, State}
use Rattle.model.specs.Invariant.{Invariant}
use Rattle.model.specs.Moves.{begin_dequeue, take_front, drain_front}
use Rattle.model.specs.Frame.{Kept, producer_kept, kept_call}
use Rattle.model.specs.Threads.{consumer_goes_on}
use Rattle.model.specs.Dequeues.{begin_dequeue_lem, take_front_lem}

-- The head record's last item is taken.
pub drain_front_lem : (B : ℕ) (s : State) (i : Invariant B s) (f g : ℕ) (x : Item) → s.consumer ≡ holding f g x → f ≡ s.hp
    → suc s.hp ≡ B * s.lo → s.lo < s.tp → Invariant B (drain_front s f x)
drain_front_lem B s i f g x e at_head at_end_lem more =
    let taken : Invariant B (take_front s f x) = take_front_lem B s i f g x e at_head in
    consumer_goes_on B (begin_dequeue (take_front s f x)) (begin_dequeue_lem B (take_front s f x) taken) front retiring refl refl (at_end_lem, more)

-- the item's end is told: the consumer rests
abbrev pub settled : State → (n v : ℕ) → History → State
settled s n v h =
    record {
      tail = s.tail;
      hp = s.hp;
      lo = s.lo;
      tp = s.tp;
      hi = s.hi;
      starts = s.starts;
      entry = s.entry;
      content = s.content;
      producer = s.producer;
      consumer = resting;
      history = gave_item n v ∷ h;
    }

module _ (B : ℕ) (s : State) (i : Invariant B s) (formed : well_formed s.history ≡ true) {n v : ℕ} {h : History} (late : Late n v s.history h) where
  same : SameEnqueues s.history (gave_item n v ∷ h)
  same = late_same late

  kept : (m : ℕ) → Kept s (settled s n v h) m
  kept m =
      kept_call s (settled s n v h) m (omega arith) refl refl
      (record {
        stays_started = λ w. transport (same.same_started m w);
        stays_open = transport⁻¹ (same.same_ended m);
        stays_taken = transport (same.same_taken m);
      })

  pub settle_keeps : Invariant B (settled s n v h)
  settle_keeps =
      record {
        places = i.places;
        entries = i.entries;
        owners =
            record {
              all_placed = i.owners.all_placed;
              begun = λ p l. transport (same.same_begun _) (i.owners.begun p l);
              in_order = λ p q le l e. i.owners.in_order p q le l (transport⁻¹ (same.same_before _ _) e);
            };
        contents =
            record {
              number_is = i.contents.number_is;
              value_is = λ p e. transport (same.same_started _ _) (i.contents.value_is p e);
            };
        past =
            record {
              explained = settled_explained late formed i.past.explained;
              numbered = λ m b. i.past.numbered m (transport⁻¹ (same.same_begun m) b);
              one_value =
                  λ m w x a b. i.past.one_value m w x (transport⁻¹ (same.same_started m w) a) (transport⁻¹ (same.same_started m x) b);
              ended_has = λ m e. ⊎_map (transport (same.same_taken m)) (λ has. has) (i.past.ended_has m (transport⁻¹ (same.same_ended m) e));
              taken_has = λ m t. i.past.taken_has m (transport⁻¹ (same.same_taken m) t);
            };
        calls =
            record {
              of_producers = λ t. sym (same.same_current t) ∙ i.calls.of_producers t;
              of_consumer_lem = refl;
              apart = i.calls.apart;
            };
        producers = λ u. producer_kept B s (settled s n v h) (s.producer u) (λ y e. kept y.number) (i.producers u);
        consuming = tt;
      }
