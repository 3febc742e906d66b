-- Going over the second recording.
use mathlib.Core.Path.{◌≡◌, sym, ap, subst, ◌∙◌}
use mathlib.Core.Logic.{◌≢◌}
use mathlib.Core.Bool.{Bool, true, false, false≢true}
use mathlib.Core.List.{List, ◌∷◌}
use Prim.Native.Nat.{ℕ, suc, ◌+◌, ◌≤◌, ◌<◌}
use native.Mathlib.Numerals.{add-one}
use native.Mathlib.Omega.{arith}
use native.Mathlib.Decide.{ℕ_discrete}
use lib.ListN.{length, set, get_or}
use lib.Seq.{get_or-set_same, get_or-set_other}
use Rattle.history.specs.Event.{most_producers}
use Rattle.history.specs.Form.{most_events}
use Rattle.equivalence.specs.Tests.{same_words}
use Rattle.equivalence.specs.Same.{same_words_lem, words_same}
use Rattle.matching.specs.Rows.{events_in, thread_in, row_at, rows_of, Threaded}
use Rattle.matching.specs.Match.{Next, Linked, Placed, Differ, Matches}
use Rattle.matching.specs.Walk.{Reached, Meets, Met, MetAll}
use Rattle.matching.specs.RowLaws.{rows_more, rows_skip, next_differs, one_too_many}

-- No event has been met.
pub none_met : (xs ys links heads places : List ℕ) → Linked xs links heads 0 → Meets xs ys heads places 0
none_met xs ys links heads places l =
    record {
      reached = λ t a. let n = l.heads_are t a in record { within = n.within; rows = n.skips; is_its = n.is_its };
      placed = λ i k. absurd (omega arith);
    }

-- Some thread's events differ.
pub differs : {xs ys heads places : List ℕ} → Differ xs ys → Met xs ys heads places false
differs d = record { all = λ e. absurd (false≢true e); differ = λ e. d }

-- Event k of ys is thread t's, whose next event in xs is p, if any.
module _ {xs ys links heads₀ heads places : List ℕ} {k : ℕ} (few : Threaded xs) (ok : Threaded ys) (linked : Linked xs links heads₀ 0)
    (sized : length heads ≡ suc most_producers) (room : length places ≡ most_events) (m : Meets xs ys heads places k) (more : k < events_in ys)
    (t p : ℕ) (is_thread : t ≡ thread_in ys k) (low : t ≤ most_producers) (is-head : p ≡ get_or heads t 0)
  where
    pub at_head : Reached xs ys k t p
    at_head = rw is-head (m.reached t low)

    -- the thread has no other event in xs
    pub none_there : p ≡ events_in xs → Met xs ys heads places false
    none_there e =
        differs
        (record {
          thread = t;
          is_thread = low;
          other_rows = one_too_many t ys (events_in ys) k (rows_of t xs (events_in xs)) more (sym is_thread) (rw e at at_head.rows);
        })

    -- it has other words
    pub another_there : p ≢ events_in xs → same_words (row_at xs p) (row_at ys k) ≡ false → Met xs ys heads places false
    another_there n d =
        let l : p < events_in xs = omega (arith, at_head.within) in
        differs
        (record {
          thread = t;
          is_thread = low;
          other_rows =
              next_differs t xs ys (events_in xs) (events_in ys) p k l more (at_head.is_its l) (sym is_thread) at_head.rows
              (λ e. false≢true (sym d ∙ subst (λ r. same_words r (row_at ys k) ≡ true) (sym e) (same_words_lem (row_at ys k))));
        })

    -- it has the same words
    module _ (n : p ≢ events_in xs) (e : same_words (row_at xs p) (row_at ys k) ≡ true) where
      abbrev heads' : List ℕ
      heads' = set heads t (get_or links p 0)

      abbrev places' : List ℕ
      places' = set places k (p + 1)

      inside : p < events_in xs
      inside = omega (arith, at_head.within)

      next : Next xs t (suc p) (get_or links p 0)
      next = subst (λ u. Next xs u (suc p) (get_or links p 0)) (at_head.is_its inside) (linked.links_are p (omega arith) inside)

      reached_at : (u : ℕ) → u ≤ most_producers → Reached xs ys (suc k) u (get_or heads' u 0)
      reached_at u a = go (ℕ_discrete u t)
        where
          go : Dec (u ≡ t) → Reached xs ys (suc k) u (get_or heads' u 0)
          go (yes q) =
              let at-t : get_or heads' t 0 ≡ get_or links p 0 = get_or-set_same heads t (get_or links p 0) 0 (omega (arith, sized, low)) in
              rw (q, at-t)
              (record {
                within = next.within;
                rows =
                    next.skips
                    ∙ rows_more t xs p (at_head.is_its inside)
                    ∙ ap (λ r. r ∷ rows_of t xs p) (words_same (row_at xs p) (row_at ys k) e)
                    ∙ ap (λ rs. row_at ys k ∷ rs) at_head.rows
                    ∙ sym (rows_more t ys k (sym is_thread));
                is_its = next.is_its;
              })
          go (no d) =
              let was = m.reached u a in
              rw (get_or-set_other heads t u (get_or links p 0) 0 d)
              (record { within = was.within; rows = was.rows ∙ sym (rows_skip u ys k (λ q. d (sym q ∙ sym is_thread))); is_its = was.is_its })

      placed_at : (i : ℕ) → i < suc k → Placed xs ys i (get_or places' i 0)
      placed_at i a = go (ℕ_discrete i k)
        where
          go : Dec (i ≡ k) → Placed xs ys i (get_or places' i 0)
          go (yes q) =
              let at-k : get_or places' k 0 ≡ p + 1 = get_or-set_same places k (p + 1) 0 (omega (arith, room, ok.few)) in
              rw (q, at-k)
              (record {
                event = p;
                place_is = omega arith;
                within = inside;
                same_thread = at_head.is_its inside ∙ is_thread;
                same_rows = rw is_thread at at_head.rows;
              })
          go (no d) = rw (get_or-set_other places k i (p + 1) 0 d) (m.placed i (omega arith))

      pub one_met : Meets xs ys heads' places' (k + 1)
      one_met = subst (Meets xs ys heads' places') (sym (add-one k)) (record { reached = reached_at; placed = placed_at })

-- All events of ys were met: the recordings match exactly where no thread has an event left in xs.
pub nothing_left : (xs ys heads places : List ℕ) (r : Bool) → Meets xs ys heads places (events_in ys) → MetAll heads (events_in xs) r → Matches xs ys places r
nothing_left xs ys heads places r m a =
    record {
      same = λ e t l. rw (a.all e t l) at (m.reached t l).rows;
      other = λ e. left (a.left e);
      placed = λ e k l. m.placed k l;
    }
  where
    left : (t : ℕ) × (t ≤ most_producers) × (get_or heads t 0 ≢ events_in xs) → Differ xs ys
    left x =
        let t = x.0 in
        let was = m.reached t x.1 in
        let l : get_or heads t 0 < events_in xs = omega (arith, was.within, x.2) in
        record {
          thread = t;
          is_thread = x.1;
          other_rows = λ e. one_too_many t xs (events_in xs) (get_or heads t 0) (rows_of t ys (events_in ys)) l (was.is_its l) (sym was.rows) (sym e);
        }

-- Some thread's events differ.
pub not_met : (xs ys places : List ℕ) → Differ xs ys → Matches xs ys places false
not_met xs ys places d = record { same = λ e. absurd (false≢true e); other = λ e. d; placed = λ e. absurd (false≢true e) }
