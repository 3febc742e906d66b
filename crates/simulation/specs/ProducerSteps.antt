-- A producer's step that writes none of the records' words outside the entries: what is left to show of it.
use Rattle.std.specs.Prelude.{◌≡◌, refl, ◌≢◌, Bool, true, false, cond, List, [], ◌++◌, ℕ, suc, ◌≤◌, eqb, get_or}
use Rattle.std.proofs.Common.{ap, ap₂, sym, ◌∙◌, subst, ⊎_elim, arith, eq-eqb, ne_eqb}
use Rattle.std.proofs.Math.Path.{fun_ext}
use Rattle.std.proofs.Math.Decide.{ℕ_discrete}
use Rattle.history.specs.Lists.{All}
use Rattle.history.specs.Event.{History}
use Rattle.history.specs.Form.{well_formed}
use Rattle.history.specs.Linearization.{Item}
use Rattle.rules.specs.Sizes.{Sizes}
use Rattle.rules.specs.Cell.{Reader, Write, tail, consumer, tail_record, head_record, head_position, cursor_record, found_record, phase, call, value, position, held}
use Rattle.rules.specs.Update.{after}
use Rattle.rules.specs.Range.{producer_sorts, producer_in_range}
use Rattle.rules.specs.Rule.{Reply}
use Rattle.rules.specs.Request.{step}
use Rattle.rules.specs.Play.{reply_events}
use Rattle.rules.specs.Readback.{WriteThere}
use Rattle.rules.specs.InRange.{InSort, others_untouched, writes_keep_range}
use Rattle.model.specs.State.{Entry, gone, Producer, State, override}
use Rattle.model.specs.Invariant.{Invariant}
use Rattle.model.specs.Moves.{with_producer}
use Rattle.memory.specs.Memory.{ChainShape, Held, TrailFrom, ThreadOk, row_of}
use Rattle.memory.specs.OtherThreads.{OthersKept, others_kept}
use Rattle.memory.specs.Light.{Light, producer_keeps}
use Rattle.simulation.specs.View.{Ghost, places_of, place_of, producer_at, producer_of, producers_of, consumer_from, consumer_of, view, Agrees, cell_of}
use Rattle.simulation.specs.Good.{Good, read_still, Goes, PlacesKept, Tells, places_stay}
use Rattle.simulation.specs.Told.{ToEnqueue, enqueue_tells}
use Rattle.simulation.specs.Rows.{ProducerWords, producer_row_has}

-- a state with other producers
abbrev pub with_producers : State → (ℕ → Producer) → State
with_producers s f =
    record {
      tail = s.tail;
      hp = s.hp;
      lo = s.lo;
      tp = s.tp;
      hi = s.hi;
      starts = s.starts;
      entry = s.entry;
      content = s.content;
      producer = f;
      consumer = s.consumer;
      history = s.history;
    }

-- the invariant, with the producers seen another way
pub as_seen : {B : ℕ} {s : State} {f : ℕ → Producer} → Invariant B s → s.producer ≡ f → Invariant B (with_producers s f)
as_seen {B} {s} i e = subst (λ (g : ℕ → Producer). Invariant B (with_producers s g)) e i

-- The producers after a call of thread t: only t's is another one.
pub producers_after : (t : ℕ) (σ σ' : Reader) → OthersKept t σ σ' → PlacesKept t σ σ' → (x : Producer) → producers_of σ' t ≡ x
    → override (producers_of σ) t x ≡ producers_of σ'
producers_after t σ σ' kept places x e = fun_ext (λ u. go u (ℕ_discrete t u))
  where
    go : (u : ℕ) → Dec (t ≡ u) → override (producers_of σ) t x u ≡ producers_of σ' u
    go u (yes q) = rw (eq-eqb t u q) (sym e ∙ ap (producers_of σ') q)
    go u (no n) =
        rw (ne_eqb t u n)
        (sym
        (ap (producer_of (places_of σ')) (fun_ext (kept u n))
        ∙ ap (λ (k : ℕ). producer_at (row_of σ u 0) (row_of σ u 1) (row_of σ u 2) (row_of σ u 3) k) (places u n)))

-- Where t's is the same, none is another one.
at_itself : {A : Type 0} (f : ℕ → A) (k : ℕ) → override f k (f k) ≡ f
at_itself {A} f k = fun_ext (λ j. go j (ℕ_discrete k j))
  where
    go : (j : ℕ) → Dec (k ≡ j) → override f k (f k) j ≡ f j
    go j (yes q) = rw (eq-eqb k j q) (ap f q)
    go j (no n) = rw (ne_eqb k j n) refl

-- The later of two changes of t's is the one that is seen.
pub at_twice : {A : Type 0} (f : ℕ → A) (k : ℕ) (x y : A) → override (override f k x) k y ≡ override f k y
at_twice {A} f k x y = fun_ext (λ j. go j (eqb k j))
  where
    go : (j : ℕ) (b : Bool) → cond b y (cond b x (f j)) ≡ cond b y (f j)
    go j true = refl
    go j false = refl

-- A producer that goes on as it was.
pub goes_on_same : (B : ℕ) (s : State) (t : ℕ) (x : Producer) → s.producer t ≡ x → Invariant B s → Invariant B (with_producer s t x)
goes_on_same B s t x e i =
    as_seen i (sym (at_itself s.producer t) ∙ ap (override s.producer t) e)

-- A producer's clause, where it claims nothing.
pub unclaimed : (z : Sizes) (σ : Reader) (row : ℕ → ℕ) → Held σ (row 4) → row 5 ≡ 0 → (3 ≤ row 0 → row 4 ≢ 0)
    → (row 0 ≡ 5 → ⊥) → (row 0 ≡ 11 → ⊥) → (row 0 ≡ 7 → TrailFrom z.B σ (row 3) (row 4)) → ThreadOk z σ row
unclaimed z σ row holding none some not_five not-eleven way =
    record {
      holding = holding;
      claiming = rw none tt;
      has_held = some;
      has_claimed = λ p. absurd (⊎_elim not_five not-eleven p);
      trail = way;
    }

module _ (z : Sizes) (σ : Reader) (γ : Ghost) (good : Good z σ γ) (t : ℕ) (a-producer : (1 ≤ t) × (t ≤ z.P)) where
  -- the producer's words 1 to 7, by its phase
  pub own_words : (p : ℕ) → σ (phase t) ≡ p → ProducerWords z (row_of σ t) (get_or producer_sorts p [])
  own_words = producer_row_has z (row_of σ t) (good.range.producing t a-producer.0 a-producer.1)

  -- none is in phase 1
  pub not_in_one : σ (phase t) ≡ 1 → ⊥
  not_in_one e = (own_words 1 e).call

  -- the producer of the position machine, by its phase
  pub seen_at : (p : ℕ) → σ (phase t) ≡ p
      → (view σ γ).producer t ≡ producer_at p (σ (call t)) (σ (value t)) (σ (position t)) (place_of (places_of σ) (σ (held t)))
  seen_at p e = ap (λ (x : ℕ). producer_at x (σ (call t)) (σ (value t)) (σ (position t)) (place_of (places_of σ) (σ (held t)))) e

  pub producer_goes : (r : Reply) → ToEnqueue r → (ws : List Write) (tp : ℕ) (entry : ℕ → Entry) (content : ℕ → Item) (h : History)
      → let g : ChainShape = record { lo = γ.shape.lo; tp = tp; hi = γ.shape.hi; at = γ.shape.at; gap = γ.shape.gap } in
      let γ' : Ghost = record { shape = g; entry = entry; content = content; history = h } in
      All (InSort z t) ws
      → All (WriteThere z) ws
      → Light σ (after σ ws)
      → (after σ ws head_record ≡ σ head_record) × (after σ ws cursor_record ≡ σ cursor_record) × (after σ ws found_record ≡ σ found_record) × (after σ ws head_position ≡ σ head_position)
      → producer_in_range z (after σ ws) t ≡ true
      → ThreadOk z σ (row_of (after σ ws) t)
      → row_of (after σ ws) t 5 ≡ 0
      → (γ.shape.tp ≤ tp) × (tp ≤ γ.shape.hi) × (after σ ws tail_record ≡ suc (γ.shape.at tp))
      → Agrees z.B γ.shape.lo γ.shape.hi γ.shape.gap γ.shape.at entry content (cell_of (after σ ws))
      → Invariant z.B (view (after σ ws) γ')
      → well_formed h ≡ true
      → h ≡ reply_events (step t) γ.history r ++ γ.history
      → σ tail ≤ after σ ws tail
      → ((p : ℕ) → (entry p ≡ gone → γ.entry p ≡ gone) × (γ.entry p ≡ gone → entry p ≡ gone))
      → Goes z σ γ (step t) r ws
  producer_goes r of ws tp entry content h in_sort there light fixed in_row own claims_none tail_at agrees model formed grown grows same-gone =
      record {
        there = there;
        next = record { shape = record { lo = γ.shape.lo; tp = tp; hi = γ.shape.hi; at = γ.shape.at; gap = γ.shape.gap }; entry = entry; content = content; history = h };
        good =
            record {
              sizes = good.sizes;
              range = writes_keep_range z t σ ws in_sort good.range (λ e. absurd (omega (arith, a-producer.0))) (λ l. in_row);
              memory =
                  producer_keeps z σ (after σ ws) γ.shape good.memory light t tp a-producer (others_kept z t σ ws in_sort) own claims_none
                  tail_at.0 tail_at.1 tail_at.2 fixed.0 fixed.1 fixed.2;
              agrees = agrees;
              model = model;
              formed = formed;
              pending = tells.pending;
              read = read_still z σ γ good t a-producer.0 ws entry in_sort seen (λ p. (same-gone p).1);
            };
        grown = tells.grown;
        moved =
            places_stay z t σ γ _ ws in_sort (λ x. light.parts x 0) grows tail_at.0 (omega arith)
            (λ l. record { same_head = fixed.3; same_first = refl; same_gaps = λ k. refl; same_records = λ k h. refl; was_gone = λ p. (same-gone p).0 });
      }
    where
      seen : consumer_of (after σ ws) ≡ consumer_of σ
      seen =
          ap₂ consumer_from (fun_ext (λ x. light.parts x 0))
          (fun_ext (λ k. others_untouched z t σ ws in_sort (consumer k) (λ e. omega (arith, a-producer.0))))

      tells : Tells σ (after σ ws) (step t) r γ.history h
      tells = enqueue_tells z σ γ good t a-producer.0 (step t) r of ws h in_sort grown
