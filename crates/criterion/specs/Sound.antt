-- Soundness: the order of an explained history is a linearization of it that leaves the given rest.
use Rattle.std.specs.Prelude.{◌≡◌, refl, ◌⊎◌, ◌≢◌, true, List, [], ◌∷◌, ◌++◌, map, ℕ, suc, ◌≤◌, ◌<◌}
use Rattle.std.proofs.Common.{sym, ap, subst, ◌∙◌, inl, inr, arith}
use Rattle.std.proofs.Math.Option.{some}
use Rattle.std.proofs.Math.Decide.{ℕ_discrete}
use Rattle.history.specs.Lists.{All, Pairwise, Member}
use Rattle.history.specs.Event.{History, enqueue_started, enqueue_ended, dequeue_started, gave_item, gave_empty}
use Rattle.history.specs.Calls.{Answer, nothing, item, empty, Enqueue, Dequeue, Call, enq, deq, start_of, end_of, calls}
use Rattle.history.specs.Form.{well_formed}
use Rattle.history.specs.Linearization.{Item, Queue, Linearization}
use Rattle.criterion.specs.Explained.{Started, Taken, EndedBefore, Explained, Rest}
use Rattle.criterion.specs.Parts.{item_of, dequeues_of, look}
use Rattle.criterion.specs.Members.{all_at, all_of, all_map, in_left, in_right, in_either, in_map, from_map, from_gather, pairwise_both, pairwise_with, pairwise_unmap}
use Rattle.criterion.specs.Entering.{same_enq, enq_not_deq}
use Rattle.criterion.specs.Times.{started_when, when_started, taken_when, when_taken, when_ended}
use Rattle.criterion.specs.Tidy.{enqueue_tells, dequeue_tells, enqueue_of_start, dequeue_of_end, Gave}
use Rattle.criterion.specs.Apart.{starts_rise, same_start, same_number, one_at_a_time, precedes_ends}
use Rattle.criterion.specs.Fair.{TakenBefore, FairItem, Fair, Orderly}
use Rattle.criterion.specs.Orderly.{answered_ended, item_not_nothing, gave_when, explained_is_orderly}
use Rattle.criterion.specs.Order.{look_answer, taken, left, place, order}
use Rattle.criterion.specs.Fits.{Fits, Among, Timely, Next, Sorted, fits_runs, fits_among, fits_enqueue, fits_dequeue, fits_timely}
use Rattle.criterion.specs.Serve.{Lasts, Serve, Serves, InLine, place_fits}
use Rattle.criterion.specs.Found.{of_calls, answered_in, pairwise_dequeues, look_finds, look_is, TakenBy, taken_by, taken_has}

-- whether an item has been taken
decide_taken : (n : ℕ) (h : History) → Dec (Taken n h)
decide_taken n [] = no (λ t. t)
decide_taken n (enqueue_started t m w ∷ h) = decide_taken n h
decide_taken n (enqueue_ended t m w ∷ h) = decide_taken n h
decide_taken n (dequeue_started ∷ h) = decide_taken n h
decide_taken n (gave_item m w ∷ h) = go (ℕ_discrete n m) (decide_taken n h)
  where
    go : Dec (n ≡ m) → Dec (Taken n h) → Dec ((n ≡ m) ⊎ Taken n h)
    go (yes e) t = yes (inl e)
    go (no f) (yes t) = yes (inr t)
    go (no f) (no g) = no (λ s. elim s [ inl e ↦ f e | inr t ↦ g t ])
decide_taken n (gave_empty ∷ h) = decide_taken n h

module _ (h : History) (w : well_formed h ≡ true) where
  looks : (x : Enqueue) → Member (enq x) (calls h) → (n : ℕ) → x.number ≡ n → look n (calls h) ≡ x ∷ []
  looks x m n e = look_finds n x (calls h) m e (λ y k q. same_number h w y x k m (q ∙ sym e))

  numbers_apart : (x y : Enqueue) → Member (enq x) (calls h) → Member (enq y) (calls h) → x.number ≢ y.number → x.start ≢ y.start
  numbers_apart x y m n f e = f (ap (λ (z : Enqueue). z.number) (same_enq (same_start h w (enq x) (enq y) m n e)))

  taken_of : (m k : ℕ) → TakenBefore m k (calls h) → Taken m h
  taken_of m k t = when_taken _ m t.value h (gave_when h w t.by t.member (item m t.value) t.gives item_not_nothing)

  module _ (rest : Queue) (k : Rest h rest) where
    abbrev rests : List Enqueue
    rests = left (calls h) rest

    -- The enqueues of the items left.
    left_items : (q : Queue) → All (λ i. Started i.number i.value h) q → map item_of (left (calls h) q) ≡ q
    left_items [] s = refl
    left_items (i ∷ q) s =
        let a = started_when i.number i.value h s.0 in
        let x = enqueue_of_start a.time a.which i.number i.value h a.there in
        rw (looks _ x.1 i.number refl) (ap (λ z. i ∷ z) (left_items q s.1))

    left_from : (q : Queue) (y : Enqueue) → Member y (left (calls h) q) → Member (enq y) (calls h)
    left_from q y m = let r = from_gather (λ i. look i.number (calls h)) y q m in (look_is r.0.number y (calls h) r.2).0

    is_rest : map item_of rests ≡ rest
    is_rest = left_items rest (all_map _ _ rest (λ i s. s.0) k.untaken)

    left_untaken : (y : Enqueue) → Member y rests → Taken y.number h → ⊥
    left_untaken y m =
        (all_at (λ i. Started i.number i.value h × (Taken i.number h → ⊥)) rest k.untaken (item_of y)
        (subst (Member (item_of y)) is_rest (in_map item_of y rests m))).1

    left_timely : Pairwise (λ x y. Timely (enq x) (enq y)) rests
    left_timely =
        pairwise_with (λ x y. (x.number ≢ y.number) × (EndedBefore y.number x.number h → ⊥)) (λ x y. Timely (enq x) (enq y)) rests
        (pairwise_both _ _ rests
        (pairwise_unmap (λ x y. x.number ≢ y.number) item_of rests
        (subst (Pairwise (λ x y. x.number ≢ y.number)) (sym is_rest) k.distinct))
        (pairwise_unmap (λ x y. EndedBefore y.number x.number h → ⊥) item_of rests
        (subst (Pairwise (λ x y. EndedBefore y.number x.number h → ⊥)) (sym is_rest) k.in_order)))
        (λ x y m n r.
        let a = left_from rest x m in
        let b = left_from rest y n in
        (λ p. r.1 (precedes_ends h w y x b a p), numbers_apart x y a b r.0))

    module _ (o : Orderly (calls h)) where
      from_line : (ds : List Dequeue) (y : Enqueue) → Member y (taken (calls h) ds ++ rests) → Member (enq y) (calls h)
      from_line ds y m =
          elim (in_either y (taken (calls h) ds) rests m) [
            | inl l ↦ (taken_by (calls h) ds y l).member
            | inr l ↦ left_from rest y l
          ]

      -- answered dequeues of the history, one after the other
      abbrev InTurn : List Dequeue → Type 0
      InTurn ds = All (λ d. Member (deq d) (calls h) × (d.answer ≢ nothing)) ds × Pairwise Next ds

      sooner : (m i j : ℕ) → i ≤ j → TakenBefore m i (calls h) → TakenBefore m j (calls h)
      sooner m i j l b =
          record { by = b.by; value = b.value; member = b.member; gives = b.gives; before = let r = b.before in omega arith }

      -- what is taken after dequeue d, or left, has not been taken up to then
      untaken_yet :
          (d : Dequeue) (ds : List Dequeue) → InTurn (d ∷ ds) → (y : Enqueue) → Member y (taken (calls h) ds ++ rests)
          → TakenBefore y.number (suc d.end) (calls h) → ⊥
      untaken_yet d ds t y m b =
          elim (in_either y (taken (calls h) ds) rests m)
          [ inl l ↦ later (taken_by (calls h) ds y l) | inr l ↦ left_untaken y l (taken_of _ _ b) ]
        where
          later : TakenBy (calls h) ds y → ⊥
          later r =
              let e = r.by in
              let i = all_at _ ds t.0.1 e r.among in
              let f : FairItem y.number r.value e.end (calls h) = subst (λ a. Fair a e.start e.end (calls h))
              r.gives (o e i.0) in
              let n = all_at (Next d) ds t.1.0 e r.among in
              let g = (dequeue_tells h w e i.0).forward (answered_ended h w e i.0 i.1) in
              f.untaken (sooner _ _ _ (omega arith) b)

      -- the dequeues serve the items that they give, then the rest
      serves : (ds : List Dequeue) → InTurn ds → Serves ds (taken (calls h) ds ++ rests) rests
      serves [] t = refl
      serves (d ∷ ds) t = go d.answer refl (o d t.0.0.0) (serves ds (t.0.1, t.1.1))
        where
          go :
              (a : Answer) → d.answer ≡ a → Fair a d.start d.end (calls h)
              → Serves ds (taken (calls h) ds ++ rests) rests
              → Serve a d.start d.end ((look_answer (calls h) a ++ taken (calls h) ds) ++ rests) (λ z. Serves ds z rests)
          go nothing e f s = absurd (t.0.0.1 e)
          go (item n v) e f s = rw (looks f.given f.member n f.number_is) (f.number_is, f.value_is, f.started, s)
          go empty e f s = (
            all_of (Lasts d.start) (taken (calls h) ds ++ rests)
                (λ y m z l. untaken_yet d ds t y m (sooner _ _ _ (omega arith) (f y (from_line ds y m) z l))),
            s,
          )

      -- the enqueues in that order keep to their times
      timely_line : (ds : List Dequeue) → InTurn ds → Pairwise (λ x y. Timely (enq x) (enq y)) (taken (calls h) ds ++ rests)
      timely_line [] t = left_timely
      timely_line (d ∷ ds) t = go d.answer refl (o d t.0.0.0) (timely_line ds (t.0.1, t.1.1))
        where
          go :
              (a : Answer) → d.answer ≡ a → Fair a d.start d.end (calls h)
              → Pairwise (λ x y. Timely (enq x) (enq y)) (taken (calls h) ds ++ rests)
              → Pairwise (λ x y. Timely (enq x) (enq y)) ((look_answer (calls h) a ++ taken (calls h) ds) ++ rests)
          go nothing e f p = p
          go (item n v) e f p =
              rw (looks f.given f.member n f.number_is) (
                all_of _ (taken (calls h) ds ++ rests)
                    (λ y m.
                    let b = from_line ds y m in (
                      λ q. untaken_yet d ds t y m (sooner _ _ _ (omega arith) (f.first y b q)),
                      numbers_apart f.given y f.member b
                          (λ q.
                          untaken_yet d ds t y m
                          (record {
                            by = d;
                            value = v;
                            member = t.0.0.0;
                            gives = e ∙ ap (λ k. item k v)
                                (sym f.number_is ∙ q);
                            before = omega arith;
                          })),
                    )),
                p,
              )
          go empty e f p = p

      abbrev dequeued : List Dequeue
      dequeued = dequeues_of (calls h)

      abbrev line : List Enqueue
      line = taken (calls h) dequeued ++ rests

      in_turn : InTurn dequeued
      in_turn = (
        all_of _ dequeued (of_calls (calls h)),
        pairwise_with (λ d b. d.start < b.start) Next dequeued
            (pairwise_dequeues (λ a b. start_of a < start_of b) (calls h) (starts_rise h w))
            (λ d b m n l. (one_at_a_time h w d b (of_calls (calls h) d m).0 (of_calls (calls h) b n).0 l).1),
      )

      in-line : InLine line
      in-line = (timely_line dequeued in_turn, all_of _ line (λ x m. (enqueue_tells h w x (from_line dequeued x m)).forward))

      has_ended : All (λ d. (d.end ≢ 0) × (d.start < d.end)) dequeued
      has_ended =
          all_of _ dequeued
          (λ d m.
          let r = of_calls (calls h) d m in
          let z = answered_ended h w d r.0 r.1 in
          (z, (dequeue_tells h w d r.0).forward z))

      fits : Fits dequeued [] line rests (place dequeued [] line)
      fits = place_fits 0 dequeued [] line rests in_turn.1 has_ended (all_of _ dequeued (λ d m. omega arith)) tt in-line (serves dequeued in_turn)

      sorted : Sorted dequeued line
      sorted =
          record {
            enqueues_in_order = in-line.0;
            dequeues_in_order = in_turn.1;
            forward = has_ended;
            apart =
                all_of _ line
                (λ x m. all_of _ dequeued
                (λ d n e. enq_not_deq (same_start h w (enq x) (deq d) (from_line dequeued x m) (of_calls (calls h) d n).0 e)));
          }

      -- every ended call is there
      ended_there : (c : Call) → Member c (calls h) → end_of c ≢ 0 → Member c (place dequeued [] line)
      ended_there (enq x) m z = fits_enqueue fits x (go (decide_taken x.number h))
        where
          go : Dec (Taken x.number h) → Member x line
          go (yes t) =
              let r = taken_when x.number h t in
              let d = dequeue_of_end r.time (item x.number r.which) h w r.there in
              in_left x (taken (calls h) dequeued) rests
              (taken_has (calls h) dequeued d.0 x.number r.which x
              (answered_in (calls h) d.0 d.1 (λ e. item_not_nothing (sym d.3 ∙ e))) d.3 (looks x m x.number refl))
          go (no f) =
              let e = enqueue_tells h w x m in
              let l = k.complete x.number x.value (when_started _ _ _ _ h e.started) (when_ended _ _ _ _ h (e.ended z)) f in
              let r = from_map item_of (item_of x) rests (subst (Member (item_of x)) (sym is_rest) l) in
              in_right x (taken (calls h) dequeued) rests
              (subst (λ y. Member y rests) (same_number h w r.0 x (left_from rest r.0 r.1) m
              (ap (λ (i : Item). i.number) (sym r.2))) r.1)
      ended_there (deq d) m z =
          fits_dequeue fits d
          (answered_in (calls h) d m (λ e. subst (λ a. Gave a d.end h) e ((dequeue_tells h w d m).ended z)))

      they_are_calls : (c : Call) → Among dequeued line c → Member c (calls h)
      they_are_calls (enq x) m = from_line dequeued x m
      they_are_calls (deq d) m = (of_calls (calls h) d m).0

-- The order that the history and the rest give.
pub sound : (h : History) → well_formed h ≡ true → Explained h → (rest : Queue) → Rest h rest → Linearization h (order h rest) rest
unfolding order
sound h w x rest k =
    let o = explained_is_orderly h w x in
    let f = fits h w rest k o in
    let t = fits_timely f (sorted h w rest k o) in
    record {
      theirs = all_of _ (order h rest) (λ c m. they_are_calls h w rest k o c (fits_among f c m));
      once = pairwise_with Timely _ (order h rest) t (λ a b m n r. r.1);
      whole = all_of _ (calls h) (ended_there h w rest k o);
      timely = pairwise_with Timely _ (order h rest) t (λ a b m n r. r.0);
      runs = fits_runs f ∙ ap some (is_rest h w rest k);
    }
