-- Linking a claimed record behind the last one, or giving it back, keeps the records' invariant.
use Rattle.std.specs.Prelude.{◌≡◌, refl, ◌⊎◌, ◌≢◌, ℕ, zero, suc, ◌≤◌, ◌<◌}
use Rattle.std.proofs.Common.{ap, sym, ◌∙◌, inl, inr, ⊎_elim, arith}
use Rattle.std.proofs.Math.Decide.{ℕ_discrete}
use Rattle.rules.specs.Sizes.{Sizes}
use Rattle.rules.specs.Cell.{Reader, entry, tail_record, head_record, cursor_record, found_record, place, next, prev, used, claimed, state, held}
use Rattle.memory.specs.Chain.{with_place, with_place_other, chain_grows}
use Rattle.memory.specs.Memory.{ChainShape, ListedIn, Holdable, Blank, Retired, ThreadOk, row_of, Linked, Memory, claimed_is, chain_stays, retired_kept, last_listed}
use Rattle.memory.specs.LastRecord.{held_last}
use Rattle.memory.specs.OtherThreads.{held_kept, thread_kept, Untouched, holdable_kept, blank_kept, trail_kept, OthersKept, every_row, outside_kept, apart_kept}

-- What thread t's words are after it has let go of its claim: it holds what it held, or nothing and is idle.
pub record LetGo (σ σ' : Reader) (t : ℕ) : Type 0 where
  pub claims_none : row_of σ' t 5 ≡ 0
  pub in_phase : (row_of σ' t 0 ≡ 5) ⊎ (row_of σ' t 0 ≡ 11) → ⊥
  pub not_back : row_of σ' t 0 ≢ 7
  pub holds_on : (row_of σ' t 4 ≡ row_of σ t 4) ⊎ (row_of σ' t 4 ≡ 0) × (row_of σ' t 0 ≡ 0)

module _ (z : Sizes) (σ σ' : Reader) (g : ChainShape) (m : Memory z σ g) (t h c : ℕ)
    (a-producer : (1 ≤ t) × (t ≤ z.P)) (holds : σ (held t) ≡ suc h) (claims : σ (claimed t) ≡ suc c)
    (kept : OthersKept t σ σ') (own : LetGo σ σ' t)
    (tail-kept : σ' tail_record ≡ σ tail_record) (head-kept : σ' head_record ≡ σ head_record)
    (cursor-kept : σ' cursor_record ≡ σ cursor_record) (found_kept : σ' found_record ≡ σ found_record) where
  c_blank : Blank z.N σ c
  c_blank = claimed_is m t c claims

  -- a record that is not of use 1 is another one
  not_c : (x : ℕ) → (σ (used x) ≡ 1 → ⊥) → x ≡ c → ⊥
  not_c x n e = n (rw e c_blank.claimed_use)

  -- a record that another producer has claimed is another one
  other_claim : (u x : ℕ) → (t ≡ u → ⊥) → row_of σ u 5 ≡ suc x → x ≡ c → ⊥
  other_claim u x n e q = n (m.apart t u c claims (rw q at e))

  -- a record that may be held is not the claimed one
  held_not_c : (x : ℕ) → Holdable σ x → x ≡ c → ⊥
  held_not_c x h = not_c x (λ e. ⊎_elim (λ (u : σ (used x) ≡ 2). omega arith) (λ u. omega arith) h)

  linked_not_c : (x : ℕ) → σ (used x) ≡ 2 → x ≡ c → ⊥
  linked_not_c x l = not_c x (λ e. omega arith)

  -- t's own clause: what it holds may be held still
  own_row : ((x : ℕ) → Holdable σ x → Holdable σ' x) → ThreadOk z σ' (row_of σ' t)
  own_row still =
      record {
        holding = ⊎_elim (λ e. rw e (held_kept z σ σ' (σ (held t)) (λ x q. still x) (m.threads t).holding)) (λ e. rw e.0 tt) own.holds_on;
        claiming = rw own.claims_none tt;
        has_held = λ l e. ⊎_elim (λ q. omega arith) (λ q. omega arith) own.holds_on;
        has_claimed = λ p. absurd (own.in_phase p);
        trail = λ e. absurd (own.not_back e);
      }

  module _ (use-c : σ' (used c) ≡ 0) (entries-c : (i k : ℕ) → σ' (entry c i k) ≡ σ (entry c i k))
      (others : (x : ℕ) → (x ≡ c → ⊥) → Untouched σ σ' x) where
    give_linked : (x : ℕ) → Linked σ x → Linked σ' x
    give_linked zero l = l
    give_linked (suc x) l = (others x (linked_not_c x l)).0 3 ∙ l

    give_used : (x : ℕ) → σ' (used x) ≡ 2 → σ (used x) ≡ 2
    give_used x e = go (ℕ_discrete x c)
      where
        go : Dec (x ≡ c) → σ (used x) ≡ 2
        go (yes q) = let w : σ' (used x) ≡ σ' (used c) = ap (λ (y : ℕ). σ' (used y)) q in absurd (omega arith)
        go (no n) = sym ((others x n).0 3) ∙ e

    give_unset : (x i : ℕ) → x < z.N → i < z.B → (σ' (used x) ≡ 2 → ⊥) → σ' (state x i) ≡ 1 → Dec (x ≡ c) → ⊥
    give_unset x i a b n e (yes q) =
        let w : σ' (state x i) ≡ σ' (state c i) = ap (λ (y : ℕ). σ' (state y i)) q in
        let v : σ' (state c i) ≡ 0 = entries-c i 0 ∙ c_blank.no_entry i 0 in
        omega arith
    give_unset x i a b n e (no q) = let o = others x q in m.unset x i a b (λ l. n (o.0 3 ∙ l)) (sym (o.1 i 0) ∙ e)

    give_retired : (x : ℕ) → σ' (used x) ≡ 3 → Retired σ' g x
    give_retired x e = go (ℕ_discrete x c)
      where
        go : Dec (x ≡ c) → Retired σ' g x
        go (yes q) = let w : σ' (used x) ≡ σ' (used c) = ap (λ (y : ℕ). σ' (used y)) q in absurd (omega arith)
        go (no n) = let o = (others x n).0 in retired_kept σ σ' g x o (m.retired x (sym (o 3) ∙ e))

    pub give_back_keeps : Memory z σ' g
    give_back_keeps =
        let still : (x : ℕ) → Holdable σ x → Holdable σ' x =
        λ x h. holdable_kept σ σ' x (others x (held_not_c x h)).0 h in
        record {
          head_tail = m.head_tail;
          tail_last = m.tail_last;
          head_in = m.head_in;
          tail_in = m.tail_in;
          retired = give_retired;
          chain = chain_stays m σ' (λ x l. (others x (linked_not_c x l)).0) give_used;
          tail_is = tail-kept ∙ m.tail_is;
          head_is = head-kept ∙ m.head_is;
          threads =
              every_row t σ σ' kept (λ u row. ThreadOk z σ' row) (own_row still)
              (λ u n.
              thread_kept z σ σ' (row_of σ u)
              (λ x e. still x)
              (λ x e b. blank_kept z.N σ σ' x (others x (other_claim u x n e)) b)
              (λ e. trail_kept z σ σ' (row_of σ u 3) (row_of σ u 4) (λ y h. let o = (others y (held_not_c y h)).0 in (o 0, o 2, o 3)))
              (m.threads u));
          apart = apart_kept t σ σ' kept own.claims_none m.apart;
          cursor = rw cursor-kept (give_linked (σ cursor_record) m.cursor);
          found = rw found_kept (give_linked (σ found_record) m.found);
          unset = λ x i a b n e. give_unset x i a b n e (ℕ_discrete x c);
          outside = outside_kept z t σ σ' a-producer kept m.outside;
        }

  module _ (none : σ (next h) ≡ 0)
      (place-c : σ' (place c) ≡ suc (σ (place h))) (next-c : σ' (next c) ≡ σ (next c))
      (prev-c : σ' (prev c) ≡ suc h) (used-c : σ' (used c) ≡ 2) (next-h : σ' (next h) ≡ suc c)
      (others : (x : ℕ) → (x ≡ c → ⊥) → (σ' (place x) ≡ σ (place x)) × (σ' (prev x) ≡ σ (prev x)) × (σ' (used x) ≡ σ (used x)))
      (nexts : (x : ℕ) → (x ≡ c → ⊥) → (x ≡ h → ⊥) → σ' (next x) ≡ σ (next x))
      (entries : (x i k : ℕ) → σ' (entry x i k) ≡ σ (entry x i k)) where
    -- the chain with the claimed record behind the last one
    abbrev pub grown : ChainShape
    grown = record { lo = g.lo; tp = g.tp; hi = suc g.hi; at = with_place g.at (suc g.hi) c; gap = g.gap }

    link_linked : (x : ℕ) → Linked σ x → Linked σ' x
    link_linked zero l = l
    link_linked (suc x) l = (others x (linked_not_c x l)).2 ∙ l

    link_holdable : (x : ℕ) → Holdable σ x → Holdable σ' x
    link_holdable x (inl u) = inl ((others x (linked_not_c x u)).2 ∙ u)
    link_holdable x (inr u) = inr ((others x (held_not_c x (inr u))).2 ∙ u)

    link_retired : (x : ℕ) → σ' (used x) ≡ 3 → Retired σ' grown x
    link_retired x e = go (ℕ_discrete x c)
      where
        go : Dec (x ≡ c) → Retired σ' grown x
        go (yes q) = let w : σ' (used x) ≡ σ' (used c) = ap (λ (y : ℕ). σ' (used y)) q in absurd (omega arith)
        go (no n) =
            let o = others x n in
            let u : σ (used x) ≡ 3 = sym o.2 ∙ e in
            let i = m.retired x u in
            let l : σ (used h) ≡ 2 = (held_last m t h holds none).0 in
            let k : x ≡ h → ⊥ = λ q. let w : σ (used x) ≡ σ (used h) = ap (λ (y : ℕ). σ (used y)) q in omega arith in
            record {
              has_next = λ q. i.has_next (sym (nexts x n k) ∙ q);
              before_tail = rw o.0 i.before_tail;
              not_listed =
                  λ q.
                  let w : ListedIn g (σ' (place x)) = record { from = q.from; to = omega (arith, o.0, i.before_tail, m.tail_last); no_gap = q.no_gap } in
                  i.not_listed (rw o.0 at w);
            }

    link_blank : (x : ℕ) → (x ≡ c → ⊥) → Blank z.N σ x → Blank z.N σ' x
    link_blank x n b =
        let l : σ (used h) ≡ 2 = (held_last m t h holds none).0 in
        let k : x ≡ h → ⊥ = λ e. let w : σ (used x) ≡ σ (used h) = ap (λ (y : ℕ). σ (used y)) e in omega (arith, b.claimed_use) in
        record {
          fits = b.fits;
          claimed_use = (others x n).2 ∙ b.claimed_use;
          no_place = (others x n).0 ∙ b.no_place;
          no_next = nexts x n k ∙ b.no_next;
          no_prev = (others x n).1 ∙ b.no_prev;
          no_entry = λ i j. entries x i j ∙ b.no_entry i j;
        }

    link_unset : (x i : ℕ) → x < z.N → i < z.B → (σ' (used x) ≡ 2 → ⊥) → σ' (state x i) ≡ 1 → Dec (x ≡ c) → ⊥
    link_unset x i a b n e (yes q) = n (ap (λ (y : ℕ). σ' (used y)) q ∙ used-c)
    link_unset x i a b n e (no q) = m.unset x i a b (λ l. n ((others x q).2 ∙ l)) (sym (entries x i 0) ∙ e)

    pub link_keeps : Memory z σ' grown
    link_keeps =
        let l = held_last m t h holds none in
        record {
          head_tail = m.head_tail;
          tail_last = omega (arith, m.tail_last);
          head_in = m.head_in;
          tail_in = m.tail_in;
          retired = link_retired;
          chain =
              chain_grows (last_listed m) m.chain (λ x. σ' (place x)) (λ x. σ' (next x)) (λ x. σ' (prev x)) (λ x. σ' (used x)) c c_blank.fits
              (m.tail_in (suc g.hi) (omega (arith, m.tail_last)))
              (λ e. linked_not_c c e refl)
              (place-c ∙ ap suc l.1)
              (next-c ∙ c_blank.no_next)
              (rw l.2 prev-c)
              used-c
              (rw l.2 next-h)
              others
              (λ x n k. nexts x n (λ e. k (e ∙ sym l.2)));
          tail_is = tail-kept ∙ m.tail_is ∙ ap suc (sym (with_place_other g.at (suc g.hi) c g.tp (λ e. omega (arith, m.tail_last))));
          head_is = head-kept ∙ m.head_is ∙ ap suc (sym (with_place_other g.at (suc g.hi) c g.lo (λ e. omega arith)));
          threads =
              every_row t σ σ' kept (λ u row. ThreadOk z σ' row) (own_row link_holdable)
              (λ u n.
              thread_kept z σ σ' (row_of σ u)
              (λ x e. link_holdable x)
              (λ x e b. link_blank x (other_claim u x n e) b)
              (λ e. trail_kept z σ σ' (row_of σ u 3) (row_of σ u 4) (λ y h. others y (held_not_c y h)))
              (m.threads u));
          apart = apart_kept t σ σ' kept own.claims_none m.apart;
          cursor = rw cursor-kept (link_linked (σ cursor_record) m.cursor);
          found = rw found_kept (link_linked (σ found_record) m.found);
          unset = λ x i a b n e. link_unset x i a b n e (ℕ_discrete x c);
          outside = outside_kept z t σ σ' a-producer kept m.outside;
        }
