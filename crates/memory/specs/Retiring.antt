-- Retiring a linked record keeps the records' invariant. (`RetireHead` and `Folding` are its two cases.)
use Rattle.std.specs.Prelude.{◌≡◌, ◌≢◌, Bool, false, ℕ, suc, ◌+◌, ◌*◌, ◌≤◌, ◌<◌}
use Rattle.std.proofs.Common.{ap, sym, ◌∙◌, subst, inl, inr, arith}
use Rattle.std.proofs.Math.Path.{fun_ext}
use Rattle.std.proofs.Math.Decide.{ℕ_discrete}
use Rattle.std.proofs.Math.Nat.{lt_of_mul-lt-mul_left}
use Rattle.rules.specs.Sizes.{Sizes}
use Rattle.rules.specs.Cell.{Reader, part, entry, producer, tail_record, head_record, cursor_record, found_record, place, next, prev, used, state}
use Rattle.memory.specs.Memory.{ChainShape, ListedIn, ChainOf, Holdable, Blank, Ends, TrailFrom, Retired, row_of, Linked, Memory, retired_kept}
use Rattle.memory.specs.OtherThreads.{thread_kept, blank_kept}
use Rattle.memory.specs.Trails.{trail_retires}

-- Position L is awaited: the record that it is in is in the list.
pub record Awaited (B : ℕ) (g : ChainShape) (L : ℕ) : Type 0 where
  pub at : ℕ
  pub listed : ListedIn g at
  pub before_end : L < B * at
  pub from_start : B * at ≤ L + B

-- Its place, where position L lies before the end of a place k that is not in the list.
pub awaited_below : (B : ℕ) (g : ChainShape) (L k : ℕ) (a : Awaited B g L) → L < B * k → (ListedIn g k → ⊥) → a.at < k
awaited_below B g L k a l n =
    let w : a.at < suc k = lt_of_mul-lt-mul_left B (omega (arith, a.from_start)) in
    let d : a.at ≡ k → ⊥ = λ e. n (subst (ListedIn g) e a.listed) in
    omega arith

-- What a step that retires linked record h leaves of the records and threads.
pub record Retires (z : Sizes) (σ σ' : Reader) (g : ChainShape) (h : ℕ) : Type 0 where
  pub was : σ (used h) ≡ 2
  pub gone : σ' (used h) ≡ 3
  pub before : σ (place h) < g.tp
  pub onward : σ' (next h) ≢ 0
  pub places : (x : ℕ) → σ' (place x) ≡ σ (place x)
  pub uses : (x : ℕ) → (x ≡ h → ⊥) → σ' (used x) ≡ σ (used x)
  pub others : (x : ℕ) → (σ (used x) ≡ 2 → ⊥) → (k : ℕ) → σ' (part x k) ≡ σ (part x k)
  pub entries : (x i k : ℕ) → σ' (entry x i k) ≡ σ (entry x i k)
  pub rows : (u k : ℕ) → σ' (producer u k) ≡ σ (producer u k)
  pub handled : (i : ℕ) → i < z.B → σ (state h i) ≡ 1 → ⊥

module _ (z : Sizes) (σ σ' : Reader) (g : ChainShape) (m : Memory z σ g) (h : ℕ) (s : Retires z σ σ' g h) (lo' : ℕ) (gap' : ℕ → Bool) where
  abbrev pub without : ChainShape
  without = record { lo = lo'; tp = g.tp; hi = g.hi; at = g.at; gap = gap' }

  still : (x : ℕ) → Dec (x ≡ h) → Holdable σ x → Holdable σ' x
  still x (yes e) u = inr (rw e s.gone)
  still x (no n) (inl u) = inl (s.uses x n ∙ u)
  still x (no n) (inr u) = inr (s.uses x n ∙ u)

  still_retired : ((k : ℕ) → ListedIn without k → (k ≡ σ (place h) → ⊥) × ListedIn g k) → (x : ℕ) → σ' (used x) ≡ 3 → Dec (x ≡ h) → Retired σ' without x
  still_retired fewer x u (yes e) =
      record {
        has_next = rw e s.onward;
        before_tail = rw e (rw (s.places h) s.before);
        not_listed = λ l. (fewer (σ' (place x)) l).0 (s.places x ∙ ap (λ (y : ℕ). σ (place y)) e);
      }
  still_retired fewer x u (no n) =
      let w : σ (used x) ≡ 3 = sym (s.uses x n) ∙ u in
      let i = retired_kept σ σ' g x (s.others x (λ l. omega arith)) (m.retired x w) in
      record { has_next = i.has_next; before_tail = i.before_tail; not_listed = λ l. i.not_listed (fewer (σ' (place x)) l).1 }

  still_unset : (x i : ℕ) → x < z.N → i < z.B → (σ' (used x) ≡ 2 → ⊥) → σ (state x i) ≡ 1 → Dec (x ≡ h) → ⊥
  still_unset x i a b n e (yes q) = s.handled i b (ap (λ (y : ℕ). σ (state y i)) (sym q) ∙ e)
  still_unset x i a b n e (no q) = m.unset x i a b (λ l. n (s.uses x q ∙ l)) e

  module _ (chain : ChainOf z σ' without) (fewer : (k : ℕ) → ListedIn without k → (k ≡ σ (place h) → ⊥) × ListedIn g k)
      (head_tail : lo' ≤ g.tp) (head_in : gap' lo' ≡ false) (tail_in : (k : ℕ) → g.tp ≤ k → gap' k ≡ false)
      (tail-kept : σ' tail_record ≡ σ tail_record) (head_is : σ' head_record ≡ suc (g.at lo'))
      (cursor : Linked σ' (σ' cursor_record)) (found : Linked σ' (σ' found_record))
      (on : (u : ℕ) → row_of σ u 0 ≡ 7 → row_of σ u 3 < z.B * σ (place h)
      → (b : ℕ) × (σ' (prev h) ≡ suc b) × (σ (place b) < σ (place h)) × Ends z.B σ' (row_of σ u 3) b) where
    pub retiring_keeps : Memory z σ' without
    retiring_keeps =
        record {
          head_tail = head_tail;
          tail_last = m.tail_last;
          head_in = head_in;
          tail_in = tail_in;
          chain = chain;
          retired = λ x u. still_retired fewer x u (ℕ_discrete x h);
          tail_is = tail-kept ∙ m.tail_is;
          head_is = head_is;
          threads = λ u. rw (rows_same u) (thread_kept z σ σ' (row_of σ u) (λ x e. still x (ℕ_discrete x h)) (λ x e. blank-still x) (λ e. way u e) (m.threads u));
          apart = λ u v x e f. m.apart u v x (sym (s.rows u 5) ∙ e) (sym (s.rows v 5) ∙ f);
          cursor = cursor;
          found = found;
          unset = λ x i a b n e. still_unset x i a b n (sym (s.entries x i 0) ∙ e) (ℕ_discrete x h);
          outside = λ u k n. s.rows u k ∙ m.outside u k n;
        }
      where
        rows_same : (u : ℕ) → row_of σ' u ≡ row_of σ u
        rows_same u = fun_ext (s.rows u)

        blank-still : (x : ℕ) → Blank z.N σ x → Blank z.N σ' x
        blank-still x b = blank_kept z.N σ σ' x (s.others x (λ l. omega (arith, b.claimed_use)), s.entries x) b

        way : (u : ℕ) → row_of σ u 0 ≡ 7 → TrailFrom z.B σ (row_of σ u 3) (row_of σ u 4) → TrailFrom z.B σ' (row_of σ u 3) (row_of σ u 4)
        way u e =
            trail_retires z.B σ σ' (row_of σ u 3) h s.was s.gone s.places s.uses
            (λ y r. s.others y (λ l. omega arith) 2) (on u e) (row_of σ u 4)
