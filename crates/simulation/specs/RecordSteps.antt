-- A producer's step that writes a record's words: what is left to show of it, and what others see of it, nothing.
use Rattle.std.specs.Prelude.{◌≡◌, refl, Bool, true, List, ◌++◌, ℕ, zero, suc, ◌+◌, ◌*◌, ◌≤◌}
use Rattle.std.proofs.Common.{ap, sym, ◌∙◌, subst, arith}
use Rattle.std.proofs.Math.Decide.{ℕ_discrete}
use Rattle.history.specs.Lists.{All}
use Rattle.history.specs.Form.{well_formed}
use Rattle.history.specs.Linearization.{Item}
use Rattle.rules.specs.Sizes.{Sizes}
use Rattle.rules.specs.Cell.{Reader, Write, consumer, place, used, cursor_record, found_record}
use Rattle.rules.specs.Update.{after}
use Rattle.rules.specs.Range.{producer_in_range}
use Rattle.rules.specs.Rule.{Reply}
use Rattle.rules.specs.Request.{Request}
use Rattle.rules.specs.Play.{thread_of, reply_events}
use Rattle.rules.specs.Readback.{WriteThere}
use Rattle.rules.specs.InRange.{InSort, writes_keep_range}
use Rattle.model.specs.State.{Entry, blank, gone, Producer, Consumer, State}
use Rattle.model.specs.Invariant.{Invariant}
use Rattle.memory.specs.Listed.{Listed}
use Rattle.memory.specs.Chain
use Rattle.memory.specs.Memory.{Linked, Memory}
use Rattle.simulation.specs.View.{Ghost, places_of, place_of, consumer_at, consumer_of, view, code_of, Agrees, AgreesWith}
use Rattle.simulation.specs.Good.{Good, read_still, Goes, Moved, Tells}
use Rattle.simulation.specs.Told.{ToEnqueue, enqueue_tells}

module _ (z : Sizes) (σ : Reader) (γ : Ghost) (good : Good z σ γ) (t : ℕ) (a-producer : (1 ≤ t) × (t ≤ z.P)) where
  pub record_goes : (q : Request) (r : Reply) → ToEnqueue r → (ws : List Write) (γ' : Ghost)
      → All (InSort z t) ws
      → All (WriteThere z) ws
      → producer_in_range z (after σ ws) t ≡ true
      → Memory z (after σ ws) γ'.shape
      → AgreesWith z.B (after σ ws) γ'
      → Invariant z.B (view (after σ ws) γ')
      → consumer_of (after σ ws) ≡ consumer_of σ
      → ((p : ℕ) → γ.entry p ≡ gone → γ'.entry p ≡ gone)
      → well_formed γ'.history ≡ true
      → γ'.history ≡ reply_events q γ.history r ++ γ.history
      → Moved (thread_of q) σ (after σ ws) γ γ'
      → Goes z σ γ q r ws
  record_goes q r of ws γ' in_sort there in_row memory agrees model seen still formed grown moved =
      record {
        there = there;
        next = γ';
        good =
            record {
              sizes = good.sizes;
              range = writes_keep_range z t σ ws in_sort good.range (λ e. absurd (omega (arith, a-producer.0))) (λ l. in_row);
              memory = memory;
              agrees = agrees;
              model = model;
              formed = formed;
              pending = tells.pending;
              read = read_still z σ γ good t a-producer.0 ws γ'.entry in_sort seen still;
            };
        grown = tells.grown;
        moved = moved;
      }
    where
      tells : Tells σ (after σ ws) q r γ.history γ'.history
      tells = enqueue_tells z σ γ good t a-producer.0 q r of ws γ'.history in_sort grown

-- Places stay where the only record whose place is written is another one.
pub place_same : (σ σ' : Reader) (c : ℕ) → ((y : ℕ) → (y ≡ c → ⊥) → σ' (place y) ≡ σ (place y)) → (x : ℕ) → (x ≡ suc c → ⊥)
    → place_of (places_of σ') x ≡ place_of (places_of σ) x
place_same σ σ' c same zero n = refl
place_same σ σ' c same (suc y) n = same y (λ e. n (ap suc e))

-- a record that is not linked is not where the consumer stands
pub not_linked_there : (σ : Reader) (c x : ℕ) → (σ (used c) ≡ 2 → ⊥) → Linked σ x → x ≡ suc c → ⊥
not_linked_there σ c zero n l e = omega arith
not_linked_there σ c (suc y) n l e = n (subst (λ (w : ℕ). σ (used w) ≡ 2) (omega arith) l)

-- What the consumer sees stays, where its words do and the only place that is written is that of a record that was not linked.
pub consumer_same : (σ σ' : Reader) (c : ℕ) → ((k : ℕ) → σ' (consumer k) ≡ σ (consumer k))
    → ((y : ℕ) → (y ≡ c → ⊥) → σ' (place y) ≡ σ (place y)) → (σ (used c) ≡ 2 → ⊥)
    → Linked σ (σ cursor_record) → Linked σ (σ found_record) → consumer_of σ' ≡ consumer_of σ
consumer_same σ σ' c row same n cursor found =
    let k : place_of (places_of σ') (σ' cursor_record) ≡ place_of (places_of σ) (σ cursor_record) =
    ap (place_of (places_of σ')) (row 1) ∙ place_same σ σ' c same (σ cursor_record) (not_linked_there σ c (σ cursor_record) n cursor) in
    let g : place_of (places_of σ') (σ' found_record) ≡ place_of (places_of σ) (σ found_record) =
    ap (place_of (places_of σ')) (row 3) ∙ place_same σ σ' c same (σ found_record) (not_linked_there σ c (σ found_record) n found) in
    λ i. consumer_at (row 0 i) (row 2 i) (k i) (row 4 i) (g i) (record { number = row 5 i; value = row 6 i })

-- a state with what is read off the store seen another way
abbrev pub with_seen : State → (tail hp starts : ℕ) → (ℕ → Producer) → Consumer → State
with_seen s tail hp starts f c =
    record {
      tail = tail;
      hp = hp;
      lo = s.lo;
      tp = s.tp;
      hi = s.hi;
      starts = starts;
      entry = s.entry;
      content = s.content;
      producer = f;
      consumer = c;
      history = s.history;
    }

pub seen_as : {B : ℕ} {s : State} {tail hp starts : ℕ} {f : ℕ → Producer} {c : Consumer} → Invariant B s
    → s.tail ≡ tail → s.hp ≡ hp → s.starts ≡ starts → s.producer ≡ f → s.consumer ≡ c → Invariant B (with_seen s tail hp starts f c)
seen_as {B} {s} i a b d p q = subst (Invariant B) (λ j. with_seen s (a j) (b j) (d j) (p j) (q j)) i

-- Entries stay where those of the linked records do.
pub agrees_kept : (B lo hi : ℕ) (gap : ℕ → Bool) (at : ℕ → ℕ) (entry : ℕ → Entry) (content : ℕ → Item) (cell cell' : ℕ → ℕ → ℕ → ℕ)
    → ((k i j : ℕ) → Listed lo hi gap (suc k) → cell' (at (suc k)) i j ≡ cell (at (suc k)) i j)
    → Agrees B lo hi gap at entry content cell → Agrees B lo hi gap at entry content cell'
agrees_kept B lo hi gap at entry content cell cell' same a =
    record {
      states = λ k i l b. same k i 0 l ∙ a.states k i l b;
      numbers = λ k i l b. same k i 1 l ∙ a.numbers k i l b;
      values = λ k i l b. same k i 2 l ∙ a.values k i l b;
      folded = a.folded;
      fresh = a.fresh;
    }

-- They agree with one more record, of zero entries, behind the last one.
pub agrees_grows : (B lo hi : ℕ) (gap : ℕ → Bool) (at : ℕ → ℕ) (entry : ℕ → Entry) (content : ℕ → Item) (cell cell' : ℕ → ℕ → ℕ → ℕ) (c : ℕ)
    → ((y i j : ℕ) → cell' y i j ≡ cell y i j) → ((i j : ℕ) → cell c i j ≡ 0) → ((p : ℕ) → B * hi ≤ p → entry p ≡ blank)
    → Agrees B lo hi gap at entry content cell → Agrees B lo (suc hi) gap (Chain.with_place at (suc hi) c) entry content cell'
agrees_grows B lo hi gap at entry content cell cell' c same zeros blanks a =
    record {
      states =
          λ k i l b. each (λ k y. cell' y i 0 ≡ code_of (entry (B * k + i)))
          (same c i 0 ∙ zeros i 0 ∙ ap code_of (sym (blanks (B * hi + i) (omega arith)))) (λ k l. same (at (suc k)) i 0 ∙ a.states k i l b) k l;
      numbers =
          λ k i l b. each (λ k y. cell' y i 1 ≡ (content (B * k + i)).number)
          (same c i 1 ∙ zeros i 1 ∙ ap (λ (x : Item). x.number) (sym (a.fresh (B * hi + i) (omega arith))))
          (λ k l. same (at (suc k)) i 1 ∙ a.numbers k i l b) k l;
      values =
          λ k i l b. each (λ k y. cell' y i 2 ≡ (content (B * k + i)).value)
          (same c i 2 ∙ zeros i 2 ∙ ap (λ (x : Item). x.value) (sym (a.fresh (B * hi + i) (omega arith))))
          (λ k l. same (at (suc k)) i 2 ∙ a.values k i l b) k l;
      folded = a.folded;
      fresh = λ p l. a.fresh p (omega arith);
    }
  where
    each : (Q : ℕ → ℕ → Type 0) → Q hi c → ((k : ℕ) → Listed lo hi gap (suc k) → Q k (at (suc k)))
        → (k : ℕ) → Listed lo (suc hi) gap (suc k) → Q k (Chain.with_place at (suc hi) c (suc k))
    each Q new old k l = go (ℕ_discrete k hi)
      where
        go : Dec (k ≡ hi) → Q k (Chain.with_place at (suc hi) c (suc k))
        go (yes e) = rw (e, Chain.with_place_same at (suc hi) c) new
        go (no n) = rw (Chain.with_place_other at (suc hi) c (suc k) (λ e. omega arith)) (old k (record { from = l.from; to = omega (arith, l.to); no_gap = l.no_gap }))
