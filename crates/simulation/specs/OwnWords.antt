-- A step that writes its own thread's words alone: what is left to show of it is that thread's.
use Rattle.std.specs.Prelude.{◌≡◌, refl, true, List, [], ◌∷◌, ◌++◌, ℕ, ◌≤◌}
use Rattle.std.proofs.Common.{ap, ap₂, sym, ◌∙◌, subst, arith, le-leb}
use Rattle.std.proofs.Math.Path.{subst⁻¹, fun_ext}
use Rattle.history.specs.Lists.{All}
use Rattle.history.specs.Event.{History}
use Rattle.history.specs.Form.{well_formed}
use Rattle.rules.specs.Sizes.{Sizes}
use Rattle.rules.specs.Cell.{Cell, content, last_claimed, all_handled, spare, consumer, producer, part, entry, drain, pair, Reader, Area, contents, of_scan, spares, of_consumer, of_producer, of_record, of_drain, Write, ◌:=◌, clear, tail_record, head_record, consumer_phase, cursor_record, found_record, drain_limit, tail, head_position, starts, place}
use Rattle.rules.specs.Update.{area_of, after, OtherKind, other_kind, owner_of, Own, own_leaves}
use Rattle.rules.specs.Address.{AreaThere}
use Rattle.rules.specs.Range.{producer_in_range, consumer_in_range, drain_in_range, most_all_handled, scan_in_range}
use Rattle.rules.specs.Rule.{Reply}
use Rattle.rules.specs.Request.{Request, step}
use Rattle.rules.specs.Play.{thread_of, reply_events}
use Rattle.rules.specs.Readback.{WriteThere}
use Rattle.rules.specs.InRange.{InSort, writes_keep_range}
use Rattle.model.specs.State.{Producer, Consumer, State}
use Rattle.model.specs.Invariant.{Invariant}
use Rattle.model.specs.Moves.{with_producer, with_consumer}
use Rattle.memory.specs.Memory.{ThreadOk, row_of, Linked}
use Rattle.memory.specs.OtherThreads.{others_kept}
use Rattle.memory.specs.Light.{consumer_keeps}
use Rattle.simulation.specs.View.{Ghost, places_of, place_of, producer_of, producers_of, consumer_from, consumer_of, view, Agrees, cell_of}
use Rattle.simulation.specs.Good.{Good, Read, Goes, Moved, Pending, Tells, places_stay}
use Rattle.simulation.specs.Told.{ToEnqueue}
use Rattle.simulation.specs.DrainWords.{drain_in, drain_from, same_in}
use Rattle.simulation.specs.RecordSteps.{seen_as}
use Rattle.simulation.specs.ProducerSteps.{producers_after, producer_goes}

-- An area that a call of thread t may write as it likes: its own.
pub record Thread (z : Sizes) (t : ℕ) (a : Area) : Type 0 where
  pub in_sort : InSort z t (clear a)
  pub is_there : AreaThere z a
  pub no_contents : OtherKind contents a
  pub no_spare : OtherKind spares a
  pub no_record : (r : ℕ) → OtherKind (of_record r) a
  pub no_drain : OtherKind of_drain a

pub a_consumer : (z : Sizes) → Thread z 0 of_consumer
a_consumer z = record { in_sort = refl; is_there = tt; no_contents = refl; no_spare = refl; no_record = λ r. refl; no_drain = refl }

pub of_producer_lem : (z : Sizes) (t : ℕ) → (1 ≤ t) × (t ≤ z.P) → Thread z t (of_producer t)
of_producer_lem z t h = record { in_sort = refl; is_there = h; no_contents = refl; no_spare = refl; no_record = λ r. refl; no_drain = refl }

-- Its words are in range and there.
pub own_sorted : (z : Sizes) (t : ℕ) (a : Area) → Thread z t a → (w : Write) → Own a w → InSort z t w × WriteThere z w
own_sorted z t a th (content k := v) h = absurd (other_kind contents a th.no_contents h.0)
own_sorted z t a th (last_claimed := v) h = absurd (other_kind contents a th.no_contents h.0)
own_sorted z t a th (all_handled := v) h = (subst⁻¹ (λ (b : Area). InSort z t (clear b)) h.0 th.in_sort, tt)
own_sorted z t a th (spare k := v) h = absurd (other_kind spares a th.no_spare h.0)
own_sorted z t a th (consumer k := v) h = (subst⁻¹ (λ (b : Area). InSort z t (clear b)) h.0 th.in_sort, h.1)
own_sorted z t a th (producer u k := v) h =
    let is : AreaThere z (of_producer u) = subst⁻¹ (AreaThere z) h.0 th.is_there in
    (subst⁻¹ (λ (b : Area). InSort z t (clear b)) h.0 th.in_sort, (is.0, is.1, h.1))
own_sorted z t a th (part r k := v) h = absurd (other_kind (of_record r) a (th.no_record r) h.0)
own_sorted z t a th (entry r i k := v) h = absurd (other_kind (of_record r) a (th.no_record r) h.0)
own_sorted z t a th (drain k := v) h = absurd (other_kind of_drain a th.no_drain h.0)
own_sorted z t a th (pair i k := v) h = absurd (other_kind of_drain a th.no_drain h.0)
own_sorted z t a th (clear contents) h = absurd (other_kind contents a th.no_contents h.0)
own_sorted z t a th (clear of_scan) h = (subst⁻¹ (λ (x : Area). InSort z t (clear x)) h.0 th.in_sort, tt)
own_sorted z t a th (clear spares) h = absurd (other_kind spares a th.no_spare h.0)
own_sorted z t a th (clear of_consumer) h = (subst⁻¹ (λ (x : Area). InSort z t (clear x)) h.0 th.in_sort, tt)
own_sorted z t a th (clear (of_producer u)) h =
    (subst⁻¹ (λ (x : Area). InSort z t (clear x)) h.0 th.in_sort, subst⁻¹ (AreaThere z) h.0 th.is_there)
own_sorted z t a th (clear (of_record r)) h = absurd (other_kind (of_record r) a (th.no_record r) h.0)
own_sorted z t a th (clear of_drain) h = absurd (other_kind of_drain a th.no_drain h.0)

all_map : {A : Type 0} (P Q : A → Type 0) → ((x : A) → P x → Q x) → (xs : List A) → All P xs → All Q xs
all_map P Q f [] h = tt
all_map P Q f (x ∷ xs) h = (f x h.0, all_map P Q f xs h.1)

-- the same of a list
pub own_in_sort : (z : Sizes) (t : ℕ) (a : Area) → Thread z t a → (ws : List Write) → All (Own a) ws → All (InSort z t) ws
own_in_sort z t a th ws = all_map (Own a) (InSort z t) (λ w h. (own_sorted z t a th w h).0) ws

pub own_there : (z : Sizes) (t : ℕ) (a : Area) → Thread z t a → (ws : List Write) → All (Own a) ws → All (WriteThere z) ws
own_there z t a th ws = all_map (Own a) (WriteThere z) (λ w h. (own_sorted z t a th w h).1) ws

-- a state with another history
abbrev pub with_history : State → History → State
with_history s h =
    record {
      tail = s.tail;
      hp = s.hp;
      lo = s.lo;
      tp = s.tp;
      hi = s.hi;
      starts = s.starts;
      entry = s.entry;
      content = s.content;
      producer = s.producer;
      consumer = s.consumer;
      history = h;
    }

-- what stands beside the store, with another history
abbrev pub later : Ghost → History → Ghost
later γ h = record { shape = γ.shape; entry = γ.entry; content = γ.content; history = h }

module _ (z : Sizes) (σ : Reader) (γ : Ghost) (good : Good z σ γ) where
  -- Cells outside the threads that stay as they were.
  places_same : (σ' : Reader) → ((r k : ℕ) → σ' (part r k) ≡ σ (part r k)) → places_of σ' ≡ places_of σ
  places_same σ' e = fun_ext (λ r. e r 0)

  cells_same : (σ' : Reader) → ((r i k : ℕ) → σ' (entry r i k) ≡ σ (entry r i k)) → cell_of σ ≡ cell_of σ'
  cells_same σ' e = fun_ext (λ r. fun_ext (λ i. fun_ext (λ k. sym (e r i k))))

  -- A step of producer t that writes its own words alone.
  pub producer_own : (t : ℕ) → (1 ≤ t) × (t ≤ z.P) → (r : Reply) → ToEnqueue r → (ws : List Write) (x : Producer) (h : History)
      → All (Own (of_producer t)) ws
      → producer_in_range z (after σ ws) t ≡ true
      → ThreadOk z σ (row_of (after σ ws) t)
      → row_of (after σ ws) t 5 ≡ 0
      → producers_of (after σ ws) t ≡ x
      → Invariant z.B (with_history (with_producer (view σ γ) t x) h)
      → well_formed h ≡ true
      → h ≡ reply_events (step t) γ.history r ++ γ.history
      → Goes z σ γ (step t) r ws
  producer_own t a r to ws x h own in_row thread none seen model formed grown =
      producer_goes z σ γ good t a r to ws γ.shape.tp γ.entry γ.content h in_sort
      (own_there z t (of_producer t) (of_producer_lem z t a) ws own)
      (record { parts = λ y k. same (part y k) refl; entries = λ y n i k. same (entry y i k) refl })
      (same head_record refl, same cursor_record refl, same found_record refl, same head_position refl)
      in_row
      thread
      none
      (omega arith, good.memory.tail_last, same tail_record refl ∙ good.memory.tail_is)
      (subst (Agrees z.B γ.shape.lo γ.shape.hi γ.shape.gap γ.shape.at γ.entry γ.content) (cells_same σ' (λ y i k. same (entry y i k) refl)) good.agrees)
      (seen_as model (sym (same tail refl)) (sym (same head_position refl)) (sym (same starts refl))
      (producers_after t σ σ' (others_kept z t σ ws in_sort)
      (λ u n. ap (λ (f : ℕ → ℕ). place_of f (row_of σ u 4)) (places_same σ' (λ y k. same (part y k) refl))) x seen)
      (ap₂ consumer_from (sym (places_same σ' (λ y k. same (part y k) refl))) (fun_ext (λ k. sym (same (consumer k) refl)))))
      formed
      grown
      (omega (arith, same tail refl))
      (λ p. ((λ e. e), (λ e. e)))
    where
      σ' : Reader
      σ' = after σ ws

      same : (c : Cell) → OtherKind (of_producer t) (owner_of (area_of c)) → σ' c ≡ σ c
      same = own_leaves (of_producer t) σ ws own

      in_sort : All (InSort z t) ws
      in_sort = own_in_sort z t (of_producer t) (of_producer_lem z t a) ws own

  -- What the consumer's step leaves in word 12: in range, and what it says is so.
  pub record ScanOk (σ' : Reader) (x : Consumer) : Type 0 where
    pub fits : scan_in_range σ' ≡ true
    pub says : σ' all_handled ≡ 1 → Read z.B γ.entry x

  -- zero says nothing
  pub scan_none : (σ' : Reader) (x : Consumer) → σ' all_handled ≡ 0 → ScanOk σ' x
  scan_none σ' x e = record { fits = rw e (le-leb 0 (most_all_handled (σ' consumer_phase)) (omega arith)); says = λ f. absurd (omega arith) }

  -- A step of the consumer that writes its own words alone.
  module _ (ws : List Write) (own : All (Own of_consumer) ws) where
    same : (c : Cell) → OtherKind of_consumer (owner_of (area_of c)) → after σ ws c ≡ σ c
    same = own_leaves of_consumer σ ws own

    in_sort : All (InSort z 0) ws
    in_sort = own_in_sort z 0 of_consumer (a_consumer z) ws own

    -- the drain area stays in range, if no drain is under way where the consumer is then idle
    drain_stays : (after σ ws consumer_phase ≡ 0 → σ drain_limit ≡ 0) → drain_in_range z (after σ ws) ≡ true
    drain_stays idle =
        drain_from z (after σ ws)
        (same_in z σ (after σ ws) (after σ ws consumer_phase) (same (drain 0) refl) (same (drain 1) refl) (λ i k. same (pair i k) refl) refl idle
        (drain_in z σ good.range.draining))

    pub consumer_keeps_good : (x : Consumer) (h : History)
        → consumer_in_range z (after σ ws) ≡ true
        → (after σ ws consumer_phase ≡ 0 → σ drain_limit ≡ 0)
        → Linked σ (after σ ws cursor_record) × Linked σ (after σ ws found_record)
        → consumer_of (after σ ws) ≡ x
        → ScanOk (after σ ws) x
        → Invariant z.B (with_history (with_consumer (view σ γ) x) h)
        → well_formed h ≡ true
        → Pending (after σ ws) h
        → Good z (after σ ws) (later γ h)
    consumer_keeps_good x h in_row idle linked seen scan model formed pending =
        record {
          sizes = good.sizes;
          range = writes_keep_range z 0 σ ws in_sort good.range (λ e. (in_row, drain_stays idle, scan.fits)) (λ l. absurd (omega arith));
          memory =
              consumer_keeps z σ (after σ ws) γ.shape good.memory
              (record { parts = λ y k. same (part y k) refl; entries = λ y n i k. same (entry y i k) refl })
              (same tail_record refl)
              (same head_record refl)
              linked.0
              linked.1
              (λ u k. same (producer u k) refl);
          agrees = subst (Agrees z.B γ.shape.lo γ.shape.hi γ.shape.gap γ.shape.at γ.entry γ.content) (cells_same (after σ ws) (λ y i k. same (entry y i k) refl)) good.agrees;
          model =
              seen_as model (sym (same tail refl)) (sym (same head_position refl)) (sym (same starts refl))
              (fun_ext (λ u. ap₂ producer_of (sym (places_same (after σ ws) (λ y k. same (part y k) refl))) (fun_ext (λ k. sym (same (producer u k) refl)))))
              (sym seen);
          formed = formed;
          pending = pending;
          read = λ e. subst⁻¹ (Read z.B γ.entry) seen (scan.says e);
        }

    pub consumer_own : (q : Request) → thread_of q ≡ 0 → (r : Reply) (x : Consumer) (h : History)
        → consumer_in_range z (after σ ws) ≡ true
        → (after σ ws consumer_phase ≡ 0 → σ drain_limit ≡ 0)
        → Linked σ (after σ ws cursor_record) × Linked σ (after σ ws found_record)
        → consumer_of (after σ ws) ≡ x
        → ScanOk (after σ ws) x
        → Invariant z.B (with_history (with_consumer (view σ γ) x) h)
        → well_formed h ≡ true
        → Tells σ (after σ ws) q r γ.history h
        → Goes z σ γ q r ws
    consumer_own q of r x h in_row idle linked seen scan model formed tells =
        record {
          there = own_there z 0 of_consumer (a_consumer z) ws own;
          next = later γ h;
          good = consumer_keeps_good x h in_row idle linked seen scan model formed tells.pending;
          grown = tells.grown;
          moved =
              subst⁻¹ (λ (t : ℕ). Moved t σ (after σ ws) γ (later γ h)) of
              (places_stay z 0 σ γ (later γ h) ws in_sort (λ x. same (place x) refl) (omega (arith, same tail refl)) (omega arith) (omega arith) (λ l. absurd (omega arith)));
        }
