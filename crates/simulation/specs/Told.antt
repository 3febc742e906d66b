-- What is told of each call: an enqueue's events join the kept history and what was told alike; a step of the consumer that goes on before
-- phase 8 and marks nothing tells nothing; one that ends its call before phase 8 tells what is kept.
use Rattle.std.specs.Prelude.{◌≡◌, refl, Bool, true, false, ◌&&◌, cond, List, [], ◌∷◌, ◌++◌, ℕ, ◌≤◌, ◌<◌, eqb}
use Rattle.std.proofs.Common.{ap, ap₂, sym, ◌∙◌, true≢false, arith, ne_eqb, le-ltb}
use Rattle.std.proofs.Math.Path.{subst⁻¹}
use Rattle.history.specs.Lists.{All}
use Rattle.history.specs.Event.{History, enqueue_started, enqueue_ended, dequeue_started, gave_item, gave_empty, withdrawn}
use Rattle.criterion.specs.Late.{OfEnqueue}
use Rattle.criterion.specs.LateFacts.{withdrawn_adds, late_adds}
use Rattle.rules.specs.Sizes.{Sizes}
use Rattle.rules.specs.Cell.{Reader, Write, consumer, drain, pair, consumer_phase, drain_limit, drain_count}
use Rattle.rules.specs.Update.{after}
use Rattle.rules.specs.Rule.{Reply, ok, started, going, ended, empty, item, drained}
use Rattle.rules.specs.Request.{Request}
use Rattle.rules.specs.Play.{end_of_enqueue, thread_of, reply_events, gone_on, recorded}
use Rattle.rules.specs.InRange.{InSort, others_untouched}
use Rattle.simulation.specs.View.{Ghost}
use Rattle.simulation.specs.Good.{Good, untold, told, Pending, Tells}

-- a reply that an enqueue's start or step gives
abbrev pub ToEnqueue : Reply → Type 0
ToEnqueue ok = ⊥
ToEnqueue (started n) = Unit
ToEnqueue going = Unit
ToEnqueue ended = Unit
ToEnqueue empty = ⊥
ToEnqueue (item n v) = ⊥
ToEnqueue (drained xs) = ⊥

-- The end of an enqueue is an enqueue's event, and it is the same of what is kept and what was told.
end_of_enqueue_lem : (t : ℕ) (h : History) → All OfEnqueue (end_of_enqueue t h)
end_of_enqueue_lem t [] = tt
end_of_enqueue_lem t (enqueue_started u n v ∷ h) = go (eqb u t) (end_of_enqueue_lem t h)
  where
    go : (b : Bool) → All OfEnqueue (end_of_enqueue t h) → All OfEnqueue (elim b [ true ↦ enqueue_ended u n v ∷ [] | false ↦ end_of_enqueue t h ])
    go true rest = (tt, tt)
    go false rest = rest
end_of_enqueue_lem t (enqueue_ended u n v ∷ h) = end_of_enqueue_lem t h
end_of_enqueue_lem t (dequeue_started ∷ h) = end_of_enqueue_lem t h
end_of_enqueue_lem t (gave_item n v ∷ h) = end_of_enqueue_lem t h
end_of_enqueue_lem t (gave_empty ∷ h) = end_of_enqueue_lem t h

end_of_withdrawn : (t : ℕ) (h : History) → end_of_enqueue t (withdrawn h) ≡ end_of_enqueue t h
end_of_withdrawn t [] = refl
end_of_withdrawn t (enqueue_started u n v ∷ h) =
    ap (λ (k : History). elim (eqb u t) [ true ↦ enqueue_ended u n v ∷ [] | false ↦ k ]) (end_of_withdrawn t h)
end_of_withdrawn t (enqueue_ended u n v ∷ h) = end_of_withdrawn t h
end_of_withdrawn t (dequeue_started ∷ h) = end_of_withdrawn t h
end_of_withdrawn t (gave_item n v ∷ h) = refl
end_of_withdrawn t (gave_empty ∷ h) = end_of_withdrawn t h

module _ (q : Request) (g : History) where
  enqueue_events : (r : Reply) → ToEnqueue r → All OfEnqueue (reply_events q g r)
  enqueue_events ok of = absurd of
  enqueue_events (started n) of = (tt, tt)
  enqueue_events going of = tt
  enqueue_events ended of = end_of_enqueue_lem (thread_of q) g
  enqueue_events empty of = absurd of
  enqueue_events (item n v) of = absurd of
  enqueue_events (drained xs) of = absurd of

  same_events_lem : (r : Reply) → ToEnqueue r → reply_events q (withdrawn g) r ≡ reply_events q g r
  same_events_lem ok of = absurd of
  same_events_lem (started n) of = refl
  same_events_lem going of = refl
  same_events_lem ended of = end_of_withdrawn (thread_of q) g
  same_events_lem empty of = absurd of
  same_events_lem (item n v) of = absurd of
  same_events_lem (drained xs) of = absurd of

-- A step that goes on adds nothing where the count of marked items stays.
pub gone_on_lem : (σ σ' : Reader) (h : History) → σ' drain_count ≡ σ drain_count → gone_on σ σ' h ≡ h
gone_on_lem σ σ' h same = rw (le-ltb (σ drain_count) (σ' drain_count) (omega arith)) refl

-- A reply to an enqueue adds its events, where the count of marked items stays.
pub recorded_enqueue : (σ σ' : Reader) (q : Request) (r : Reply) (h : History) → ToEnqueue r → σ' drain_count ≡ σ drain_count
    → recorded q σ σ' r h ≡ reply_events q h r ++ h
recorded_enqueue σ σ' q ok h of same = absurd of
recorded_enqueue σ σ' q (started n) h of same = refl
recorded_enqueue σ σ' q going h of same = gone_on_lem σ σ' h same
recorded_enqueue σ σ' q ended h of same = refl
recorded_enqueue σ σ' q empty h of same = absurd of
recorded_enqueue σ σ' q (item n v) h of same = absurd of
recorded_enqueue σ σ' q (drained xs) h of same = absurd of

-- The consumer's words and those of the drain area stay.
pub record SameConsumer (σ σ' : Reader) : Type 0 where
  pub words : (k : ℕ) → σ' (consumer k) ≡ σ (consumer k)
  pub counts : (k : ℕ) → σ' (drain k) ≡ σ (drain k)
  pub pairs : (i k : ℕ) → σ' (pair i k) ≡ σ (pair i k)

-- Enqueue events are added, and the consumer's words stay: what was pending still is.
pub still_pending : (σ σ' : Reader) (g es : History) → All OfEnqueue es → SameConsumer σ σ' → Pending σ g → Pending σ' (es ++ g)
still_pending σ σ' g es of same p =
    record {
      of_dequeue = λ e. rw (same.words 5, same.words 6, withdrawn_adds es of g) (late_adds es of (p.of_dequeue (sym as_before ∙ e)));
      of_drain =
          λ c e. rw (same.pairs c 0, same.pairs c 1, withdrawn_adds es of g) (late_adds es of (p.of_drain c (sym (same.counts 1) ∙ e)));
      below = λ l n. rw (same.counts 0, same.counts 1) (p.below (λ e. l (same.counts 0 ∙ e)) (λ e. n (same.words 0 ∙ e)));
      some = λ l n e. p.some (λ x. l (same.counts 0 ∙ x)) (sym (same.words 0) ∙ n) (sym (same.counts 1) ∙ e);
    }
  where
    as_before : untold σ' ≡ untold σ
    as_before = ap₂ (λ (x y : ℕ). eqb x 8 && eqb y 0) (same.words 0) (same.counts 0)

-- An enqueue's start or step, which leaves the consumer's words.
tells_enqueue : (σ σ' : Reader) (q : Request) (r : Reply) (g g' : History) → ToEnqueue r → SameConsumer σ σ'
    → Pending σ g → g' ≡ reply_events q g r ++ g → Tells σ σ' q r g g'
tells_enqueue σ σ' q r g g' of same pending grown =
    subst⁻¹ (Tells σ σ' q r g) grown
    (record {
      pending = still_pending σ σ' g (reply_events q g r) events same pending;
      grown = told-grows ∙ sym (recorded_enqueue σ σ' q r (told σ g) of (same.counts 1));
    })
  where
    events : All OfEnqueue (reply_events q g r)
    events = enqueue_events q g r of

    by-phase : (b : Bool) → cond b (withdrawn (reply_events q g r ++ g)) (reply_events q g r ++ g) ≡ reply_events q (cond b (withdrawn g) g) r ++ cond b (withdrawn g) g
    by-phase true = withdrawn_adds (reply_events q g r) events g ∙ ap (λ (h : History). h ++ withdrawn g) (sym (same_events_lem q g r of))
    by-phase false = refl

    told-grows : told σ' (reply_events q g r ++ g) ≡ reply_events q (told σ g) r ++ told σ g
    told-grows =
        ap₂ (λ (x y : ℕ). cond (eqb x 8 && eqb y 0) (withdrawn (reply_events q g r ++ g)) (reply_events q g r ++ g)) (same.words 0) (same.counts 0)
        ∙ by-phase (untold σ)

pub enqueue_tells : (z : Sizes) (σ : Reader) (γ : Ghost) → Good z σ γ → (t : ℕ) → 1 ≤ t → (q : Request) (r : Reply) → ToEnqueue r
    → (ws : List Write) (h : History) → All (InSort z t) ws → h ≡ reply_events q γ.history r ++ γ.history
    → Tells σ (after σ ws) q r γ.history h
enqueue_tells z σ γ good t a-producer q r of ws h in_sort =
    tells_enqueue σ (after σ ws) q r γ.history h of
    (record {
      words = λ k. others_untouched z t σ ws in_sort (consumer k) (λ e. omega arith);
      counts = λ k. others_untouched z t σ ws in_sort (drain k) (λ e. omega arith);
      pairs = λ i k. others_untouched z t σ ws in_sort (pair i k) (λ e. omega arith);
    })
    good.pending

-- Before phase 8 what was told is what is kept.
abbrev pub Early : Reader → Type 0
Early σ = σ consumer_phase < 8

pub early : (σ : Reader) {p : ℕ} → σ consumer_phase ≡ p → p < 8 → Early σ
early σ {p} e l = omega arith

pub told_early : (σ : Reader) → Early σ → (g : History) → told σ g ≡ g
told_early σ l g = rw (ne_eqb (σ consumer_phase) 8 (λ x. omega arith)) refl

-- A step that goes on before phase 8 and marks nothing: what is kept and told stays.
pub tells_going : (σ σ' : Reader) (q : Request) (g : History) → Early σ → Early σ' → ((k : ℕ) → σ' (drain k) ≡ σ (drain k))
    → ((i k : ℕ) → σ' (pair i k) ≡ σ (pair i k)) → Pending σ g → Tells σ σ' q going g g
tells_going σ σ' q g before after counts pairs p =
    record {
      pending =
          record {
            of_dequeue = λ e. absurd (true≢false (sym e ∙ rw (ne_eqb (σ' consumer_phase) 8 (λ x. omega arith)) refl));
            of_drain = λ c e. rw (pairs c 0, pairs c 1) (p.of_drain c (sym (counts 1) ∙ e));
            below = λ l n. rw (counts 0, counts 1) (p.below (λ e. l (counts 0 ∙ e)) (λ e. omega arith));
            some = λ l e. absurd (omega arith);
          };
      grown = told_early σ' after g ∙ sym (gone_on_lem σ σ' (told σ g) (counts 1) ∙ told_early σ before g);
    }

-- Where no drain is under way and no item is untold, nothing is pending.
pub none_pending : (σ : Reader) (g : History) → Early σ → σ drain_limit ≡ 0 → σ drain_count ≡ 0 → Pending σ g
none_pending σ g l none count =
    record {
      of_dequeue = λ e. absurd (true≢false (sym e ∙ rw (ne_eqb (σ consumer_phase) 8 (λ x. omega arith)) refl));
      of_drain = λ c e. absurd (omega arith);
      below = λ n x. absurd (n none);
      some = λ n x. absurd (n none);
    }

-- A dequeue starts, or a dequeue or drain ends.
pub tells_end : (σ σ' : Reader) (q : Request) (r : Reply) (g g' : History) → told σ g ≡ g → Early σ' → σ' drain_limit ≡ 0 → σ' drain_count ≡ 0
    → g' ≡ recorded q σ σ' r g → Tells σ σ' q r g g'
tells_end σ σ' q r g g' before after none count grown =
    record {
      pending = none_pending σ' g' after none count;
      grown = told_early σ' after g' ∙ grown ∙ ap (recorded q σ σ' r) (sym before);
    }
