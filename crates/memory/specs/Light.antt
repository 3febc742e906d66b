-- A step that writes no word of a record outside its entries, and entries of linked records alone, keeps the records' invariant.
use Rattle.std.specs.Prelude.{◌≡◌, ℕ, zero, suc, ◌≤◌, ◌<◌}
use Rattle.std.proofs.Common.{sym, ◌∙◌, arith}
use Rattle.rules.specs.Sizes.{Sizes}
use Rattle.rules.specs.Cell.{Reader, producer, part, entry, tail_record, head_record, cursor_record, found_record, used, state}
use Rattle.memory.specs.Memory.{ChainShape, ChainOf, Retired, ThreadOk, row_of, Linked, Memory, chain_stays, retired_kept}
use Rattle.memory.specs.OtherThreads.{thread_kept, holdable_kept, blank_kept, trail_kept, OthersKept, every_row, outside_kept, apart_kept}

-- The words of records outside their entries stay, and so do the entries of records that are not linked.
pub record Light (σ σ' : Reader) : Type 0 where
  pub parts : (x k : ℕ) → σ' (part x k) ≡ σ (part x k)
  pub entries : (x : ℕ) → (σ (used x) ≡ 2 → ⊥) → (i k : ℕ) → σ' (entry x i k) ≡ σ (entry x i k)

module _ (z : Sizes) (σ σ' : Reader) (g : ChainShape) (m : Memory z σ g) (light : Light σ σ') where
  light_chain : ChainOf z σ' g
  light_chain = chain_stays m σ' (λ x l. light.parts x) (λ x e. sym (light.parts x 3) ∙ e)

  light_linked : (x : ℕ) → Linked σ x → Linked σ' x
  light_linked zero l = l
  light_linked (suc x) l = light.parts x 3 ∙ l

  light_unset : (x i : ℕ) → x < z.N → i < z.B → (σ' (used x) ≡ 2 → ⊥) → σ' (state x i) ≡ 1 → ⊥
  light_unset x i a b n e =
      let l : σ (used x) ≡ 2 → ⊥ = λ u. n (light.parts x 3 ∙ u) in
      m.unset x i a b l (sym (light.entries x l i 0) ∙ e)

  light_retired : (r : ℕ) → σ' (used r) ≡ 3 → Retired σ' g r
  light_retired r u = retired_kept σ σ' g r (light.parts r) (m.retired r (sym (light.parts r 3) ∙ u))

  -- what may be held and what is claimed is so still
  light_thread : (row : ℕ → ℕ) → ThreadOk z σ row → ThreadOk z σ' row
  light_thread row =
      thread_kept z σ σ' row
      (λ x e. holdable_kept σ σ' x (light.parts x))
      (λ x e b. blank_kept z.N σ σ' x (light.parts x, light.entries x (λ u. omega (arith, b.claimed_use))) b)
      (λ e. trail_kept z σ σ' (row 3) (row 4) (λ y h. (light.parts y 0, light.parts y 2, light.parts y 3)))

  -- What is left to show: where the tail record stands, the threads' words as they are then, and the consumer's records.
  module _ (tp' : ℕ) (tail-on : g.tp ≤ tp') (tail-last' : tp' ≤ g.hi)
      (tail-is' : σ' tail_record ≡ suc (g.at tp')) (head-kept : σ' head_record ≡ σ head_record)
      (threads' : (u : ℕ) → ThreadOk z σ' (row_of σ' u))
      (apart' : (u v x : ℕ) → row_of σ' u 5 ≡ suc x → row_of σ' v 5 ≡ suc x → u ≡ v)
      (cursor' : Linked σ (σ' cursor_record)) (found' : Linked σ (σ' found_record))
      (outside' : (u k : ℕ) → ((1 ≤ u) × (u ≤ z.P) → ⊥) → σ' (producer u k) ≡ 0) where
    pub light_keeps : Memory z σ' (record { lo = g.lo; tp = tp'; hi = g.hi; at = g.at; gap = g.gap })
    light_keeps =
        record {
          head_tail = omega (arith, m.head_tail);
          tail_last = tail-last';
          head_in = m.head_in;
          tail_in = λ k a. m.tail_in k (omega arith);
          chain = light_chain;
          retired =
              λ r u.
              let i = light_retired r u in
              record { has_next = i.has_next; before_tail = omega (arith, i.before_tail); not_listed = i.not_listed };
          tail_is = tail-is';
          head_is = head-kept ∙ m.head_is;
          threads = threads';
          apart = apart';
          cursor = light_linked (σ' cursor_record) cursor';
          found = light_linked (σ' found_record) found';
          unset = light_unset;
          outside = outside';
        }

  -- A producer's step: its words afterwards, which claim nothing, and where the tail record stands then.
  module _ (t tp' : ℕ) (a-producer : (1 ≤ t) × (t ≤ z.P)) (kept : OthersKept t σ σ')
      (own : ThreadOk z σ (row_of σ' t)) (claims_none : row_of σ' t 5 ≡ 0)
      (tail-on : g.tp ≤ tp') (tail-last' : tp' ≤ g.hi)
      (tail-is' : σ' tail_record ≡ suc (g.at tp')) (head-kept : σ' head_record ≡ σ head_record)
      (cursor-kept : σ' cursor_record ≡ σ cursor_record) (found_kept : σ' found_record ≡ σ found_record) where
    pub producer_keeps : Memory z σ' (record { lo = g.lo; tp = tp'; hi = g.hi; at = g.at; gap = g.gap })
    producer_keeps =
        light_keeps tp' tail-on tail-last' tail-is' head-kept
        (every_row t σ σ' kept (λ u row. ThreadOk z σ' row) (light_thread (row_of σ' t) own) (λ u n. light_thread (row_of σ u) (m.threads u)))
        (apart_kept t σ σ' kept claims_none m.apart)
        (rw cursor-kept m.cursor)
        (rw found_kept m.found)
        (outside_kept z t σ σ' a-producer kept m.outside)

  -- A step that leaves the producers' words 0 and 3 to 5, and the head record: where the cursor and found stand then.
  module _ (tail-kept : σ' tail_record ≡ σ tail_record) (head-kept : σ' head_record ≡ σ head_record)
      (cursor' : Linked σ (σ' cursor_record)) (found' : Linked σ (σ' found_record)) where
    pub rows_keep : ((u : ℕ) → (row_of σ' u 0 ≡ row_of σ u 0) × (row_of σ' u 3 ≡ row_of σ u 3) × (row_of σ' u 4 ≡ row_of σ u 4) × (row_of σ' u 5 ≡ row_of σ u 5))
        → ((u k : ℕ) → ((1 ≤ u) × (u ≤ z.P) → ⊥) → σ' (producer u k) ≡ 0) → Memory z σ' g
    rows_keep rows outside' =
        light_keeps g.tp (omega arith) m.tail_last (tail-kept ∙ m.tail_is) head-kept
        (λ u. light_thread (row_of σ' u) (as_before u))
        (λ u v x e f. m.apart u v x (sym (rows u).3 ∙ e) (sym (rows v).3 ∙ f))
        cursor'
        found'
        outside'
      where
        as_before : (u : ℕ) → ThreadOk z σ (row_of σ' u)
        as_before u =
            let w = rows u in
            let old = m.threads u in
            record {
              holding = rw w.2 old.holding;
              claiming = rw w.3 old.claiming;
              has_held = rw (w.0, w.2) old.has_held;
              has_claimed = rw (w.0, w.3) old.has_claimed;
              trail = rw (w.0, w.1, w.2) old.trail;
            }

    -- a consumer's step leaves all of them
    pub consumer_keeps : ((u k : ℕ) → row_of σ' u k ≡ row_of σ u k) → Memory z σ' g
    consumer_keeps rows = rows_keep (λ u. (rows u 0, rows u 3, rows u 4, rows u 5)) (λ u k n. rows u k ∙ m.outside u k n)
