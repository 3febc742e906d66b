-- The walk over the order, number by number: what a number that passes, or fails, does to what holds so far.
use mathlib.Core.Path.{◌≡◌, refl, sym, ap, subst, ◌∙◌}
use mathlib.Core.Logic.{◌⊎◌, inl, inr, ◌≢◌}
use mathlib.Core.Bool.{Bool, true, false, ◌&&◌, ◌||◌, not, cond}
use mathlib.Core.Bool as bool
use mathlib.Core.List.{List, [], ◌∷◌, ◌++◌, append-nil}
use mathlib.Core.Option.{some}
use Rattle.std.specs.Prelude.{Option, None}
use Prim.Native.Nat.{ℕ, zero, suc, ◌+◌, ◌-◌, ◌≤◌, ◌<◌, max}
use native.Mathlib.Omega.{arith}
use native.Mathlib.Numerals.{add-one}
use lib.Dec.{leb, ltb, eqb}
use lib.ListN.{length, get_or, take, drop, set, length-set, drop_of_length-le}
use lib.Seq.{take-suc, drop-cons, length-take-le, get_or-take, drop-append-le, get_or-set_same, get_or-set_other}
use borrow.Author.Tests.{leb-true, eq-eqb, ne_eqb, ltb-true, ltb-false}
use Rattle.history.specs.Calls.{Answer, Call, start_of, end_of}
use Rattle.history.specs.Linearization.{Queue, dequeue, perform, run}
use Rattle.history.specs.Shows.{no_call, numbered, listed}
use Rattle.reading.specs.Table.{start_at, end_at, answer_at, thread_at, value_at, answer_of, call_at, calls_in}
use Rattle.reading.proofs.Builds.{length_build, get_d_build}
use Rattle.reading.proofs.Logic.{same_or_not}
use Rattle.order_check.specs.declared.Progress.{Progress}
use Rattle.order_check.specs.Check.{every, is_some, has, is_number, orderly}
use Rattle.order_check.specs.Tests.{both, is_number_lem}
use Rattle.order_check.specs.Decides.{orderly_parts}
use Rattle.order_check.specs.Walk.{InRange, admits_at, FrontAt, item_of, answers_at, items, Seen, Walked, Places, Walks}
use Rattle.order_check.proofs.Performing.{start_is, end_is, enqueue_items, enqueue_performs, dequeue_items, dequeue_performs, run_one, front_decides, leaves_rest}
use Rattle.order_check.proofs.Prefixes.{every_last, every_at, listed_append, items_append, has_last, run_then, orderly_last, max_below, beginning_fails}

module _ (m ns : List ℕ) (c : ℕ) where
  abbrev cs : List Call
  cs = calls_in m c

  numbered_is : (n : ℕ) → 1 ≤ n → n ≤ c → numbered cs n ≡ call_at m (n - 1)
  numbered_is n l h = get_d_build (call_at m) c (n - 1) no_call (omega arith)

  module _ (seen : List Bool) (reached : Progress) (k : ℕ) (w : Walked m ns seen c reached k) (few : c ≤ 4096) where
    abbrev p : List ℕ
    p = take k ns

    length_p : length p ≡ k
    length_p = length-take-le k ns w.within

    number_at_lem : (i : ℕ) → i < k → (1 ≤ get_or ns i 0) × (get_or ns i 0 ≤ c)
    number_at_lem i l =
        let e = every_at (is_number cs) p 0 (orderly_parts cs p w.so_far).numbers i (omega (arith, length_p)) in
        let r = is_number_lem cs (get_or p i 0) e in
        let g = get_or-take k ns i 0 l in
        let s = length_build (call_at m) c in
        omega (arith, r, g, s)

    pub numbers_in_range : InRange ns k
    numbers_in_range i l = let r = number_at_lem i l in omega (arith, r)

    -- the queue from place f on
    rest_from : (f : ℕ) → f < k → items (listed cs (drop f p)) ≡ items (call_at m (get_or ns f 0 - 1) ∷ listed cs (drop (suc f) p))
    rest_from f l =
        let r = number_at_lem f l in
        let g = get_or-take k ns f 0 l in
        let d = drop-cons p f 0 (omega (arith, length_p)) in
        ap (λ x. items (listed cs x)) (d ∙ ap (λ x. x ∷ drop (suc f) p) g)
        ∙ ap (λ x. items (x ∷ listed cs (drop (suc f) p))) (numbered_is (get_or ns f 0) r.0 r.1)

    skip :
        (d from f : ℕ) → from + d ≡ f → f ≤ k → ((i : ℕ) → i < f → from ≤ i → thread_at m (get_or ns i 0 - 1) ≡ 0)
        → items (listed cs (drop from p)) ≡ items (listed cs (drop f p))
    skip zero from f e l h = let z : from ≡ f = omega arith in ap (λ x. items (listed cs (drop x p))) z
    skip (suc d) from f e l h =
        rest_from from (omega arith)
        ∙ dequeue_items _ _ _ _ _ (thread_at m (get_or ns from 0 - 1)) (listed cs (drop (suc from) p)) (h from (omega arith) (omega arith))
        ∙ skip d (suc from) f (omega arith) l (λ i a b. h i a (omega arith))

    -- the queue, by its front
    module _ (f : ℕ) (is_front : FrontAt m ns reached.front k f) where
      -- what stands behind it
      abbrev rest : Queue
      rest = items (listed cs (drop (suc f) p))

      queue_by_front : items (listed cs (drop reached.front p)) ≡ cond (ltb f k) (item_of m (get_or ns f 0) ∷ rest) []
      queue_by_front =
          skip (f - reached.front) reached.front f (omega (arith, is_front.not_before)) is_front.within is_front.are_dequeues ∙ go (ltb f k) refl
        where
          go : (b : Bool) → ltb f k ≡ b → items (listed cs (drop f p)) ≡ cond b (item_of m (get_or ns f 0) ∷ rest) []
          go true e =
              let l = ltb-true f k e in
              rest_from f l ∙ enqueue_items _ _ _ _ _ (thread_at m (get_or ns f 0 - 1)) (listed cs (drop (suc f) p)) (is_front.is_enqueue l)
          go false e =
              let l : length p ≤ f = omega (arith, length_p, ltb-false f k e) in
              ap (λ x. items (listed cs x)) (drop_of_length-le p l)

    -- the number at place k
    module _ (more : k < length ns) where
      abbrev n : ℕ
      n = get_or ns k 0

      -- its call
      abbrev call : Call
      call = numbered cs n

      one_more : take (suc k) ns ≡ p ++ (n ∷ [])
      one_more = take-suc ns k 0 more

      listed_more : listed cs (take (suc k) ns) ≡ listed cs p ++ (call ∷ [])
      listed_more = ap (listed cs) one_more ∙ listed_append cs p (n ∷ [])

      drop_more : (i : ℕ) → i ≤ k → listed cs (drop i (take (suc k) ns)) ≡ listed cs (drop i p) ++ (call ∷ [])
      drop_more i l =
          ap (λ x. listed cs (drop i x)) one_more
          ∙ ap (listed cs) (drop-append-le i p (n ∷ []) (omega (arith, length_p)))
          ∙ listed_append cs (drop i p) (n ∷ [])

      runs_more : run [] (listed cs (take (suc k) ns)) ≡ run (items (listed cs (drop reached.front p))) (call ∷ [])
      runs_more = ap (run []) listed_more ∙ run_then [] _ (listed cs p) (call ∷ []) w.queue_is

      -- the tests on the number alone
      abbrev fits : Bool
      fits = is_number cs n && not (has n p) && (eqb (end_of call) 0 || every (λ a. leb (start_of a) (end_of call)) (listed cs p))

      tests_left : orderly cs (take (suc k) ns) ≡ (fits && is_some (run [] (listed cs (take (suc k) ns))))
      tests_left =
          ap (orderly cs) one_more ∙ orderly_last cs p n w.so_far ∙ ap (λ l. fits && is_some (run [] l)) (sym listed_more)

      admits_is : admits_at m seen c n reached.latest ≡ fits
      admits_is = go (leb 1 n && leb n c) refl
        where
          go : (b : Bool) → (leb 1 n && leb n c) ≡ b → admits_at m seen c n reached.latest ≡ fits
          go false e = let s = length_build (call_at m) c in rw (e, s, e)
          go true e =
              let t = both (leb 1 n) (leb n c) e in
              let low = leb-true 1 n t.0 in
              let high = leb-true n c t.1 in
              let s = length_build (call_at m) c in
              let j : suc (n - 1) ≡ n = omega arith in
              let was : has n p ≡ get_or seen (n - 1) false = subst (λ x. has x p ≡ get_or seen (n - 1) false) j (w.seen_are.flagged (n - 1) (omega arith)) in
              let end : end_of call ≡ end_at m (n - 1) = ap end_of (numbered_is n low high) ∙ end_is _ _ _ _ _ (thread_at m (n - 1)) in
              rw (e, s, e, was, end, w.latest_is (end_at m (n - 1)))

      pub not_admitted : admits_at m seen c n reached.latest ≡ false → orderly cs (take (k + 1) ns) ≡ false
      not_admitted e = rw (add-one k) (tests_left ∙ ap (λ b. b && is_some (run [] (listed cs (take (suc k) ns)))) (sym admits_is ∙ e))

      module _ (admitted : admits_at m seen c n reached.latest ≡ true) where
        run_decides : orderly cs (take (suc k) ns) ≡ is_some (run [] (listed cs (take (suc k) ns)))
        run_decides = tests_left ∙ ap (λ b. b && is_some (run [] (listed cs (take (suc k) ns)))) (sym admits_is ∙ admitted)

        pub is_number_then : (1 ≤ n) × (n ≤ c)
        is_number_then =
            let b = both (leb 1 n && leb n c) _ admitted in
            let t = both (leb 1 n) (leb n c) b.0 in
            (leb-true 1 n t.0, leb-true n c t.1)

        call_is : call ≡ call_at m (n - 1)
        call_is = numbered_is n is_number_then.0 is_number_then.1

        performs_more : run [] (listed cs (take (suc k) ns)) ≡ perform (call_at m (n - 1)) (items (listed cs (drop reached.front p)))
        performs_more = runs_more ∙ run_one call _ ∙ ap (λ x. perform x (items (listed cs (drop reached.front p)))) call_is

        flagged_then : Seen c (set seen (n - 1) true) (take (suc k) ns)
        flagged_then = record {
          size = length-set seen (n - 1) true ∙ w.seen_are.size;
          flagged = λ j l. ap (has (suc j)) one_more ∙ has_last (suc j) p n ∙ go j l (same_or_not j (n - 1));
        }
          where
            go : (j : ℕ) → j < c → (j ≡ n - 1) ⊎ (j ≢ n - 1) → (has (suc j) p || eqb n (suc j)) ≡ get_or (set seen (n - 1) true) j false
            go j l (inl e) =
                let r = is_number_then in
                let a = eq-eqb n (suc j) (omega (arith, r)) in
                let b = get_or-set_same seen (n - 1) true false (omega (arith, w.seen_are.size, r)) in
                rw (a, e, b) (bool.or-true (has (suc (n - 1)) p))
            go j l (inr d) =
                let r = is_number_then in
                let a = ne_eqb n (suc j) (λ z. d (omega arith)) in
                let b = get_or-set_other seen (n - 1) j true false d in
                rw (a, b) (bool.or-false (has (suc j) p) ∙ w.seen_are.flagged j l)

        latest_then :
            (late : ℕ) → late ≡ max reached.latest (start_at m (n - 1)) → (e : ℕ) → every (λ a. leb (start_of a) e) (listed cs (take (suc k) ns)) ≡ leb late e
        latest_then late i e =
            ap (every (λ a. leb (start_of a) e)) listed_more
            ∙ every_last (λ a. leb (start_of a) e) (listed cs p) call
            ∙ ap (λ b. b && leb (start_of call) e) (w.latest_is e)
            ∙ ap (λ s. leb reached.latest e && leb s e) (ap start_of call_is ∙ start_is _ _ _ _ _ (thread_at m (n - 1)))
            ∙ max_below reached.latest (start_at m (n - 1)) e
            ∙ ap (λ x. leb x e) (sym i)

        goes_on_lem :
            (late then : ℕ) → late ≡ max reached.latest (start_at m (n - 1)) → then ≤ suc k
            → run [] (listed cs (take (suc k) ns)) ≡ some (items (listed cs (drop then (take (suc k) ns))))
            → Walked m ns (set seen (n - 1) true) c (record { latest = late; front = then }) (k + 1)
        goes_on_lem late then i l q =
            rw (add-one k)
            (record {
              within = more;
              so_far = run_decides ∙ ap is_some q;
              seen_are = flagged_then;
              latest_is = latest_then late i;
              front_within = l;
              queue_is = q;
            })

        pub enqueue_goes_on :
            (late : ℕ) → late ≡ max reached.latest (start_at m (n - 1)) → thread_at m (n - 1) ≢ 0 → Walked m ns (set seen (n - 1) true) c (record { latest = late; front = reached.front }) (k + 1)
        enqueue_goes_on late i d = goes_on_lem late reached.front i (omega (arith, w.front_within)) (is_some_lem ∙ ap some (sym is-queue))
          where
            is_some_lem : run [] (listed cs (take (suc k) ns)) ≡ some (items (listed cs (drop reached.front p)) ++ (item_of m n ∷ []))
            is_some_lem =
                performs_more ∙ enqueue_performs _ _ _ _ _ (thread_at m (n - 1)) _ d

            is-queue : items (listed cs (drop reached.front (take (suc k) ns))) ≡ items (listed cs (drop reached.front p)) ++ (item_of m n ∷ [])
            is-queue =
                ap items (drop_more reached.front w.front_within)
                ∙ items_append (listed cs (drop reached.front p)) (call ∷ [])
                ∙ ap (λ x. items (listed cs (drop reached.front p)) ++ x)
                (ap (λ x. items (x ∷ [])) call_is ∙ enqueue_items _ _ _ _ _ (thread_at m (n - 1)) [] d)

        -- a dequeue, with the front of the queue at place f
        module _ (dequeues : thread_at m (n - 1) ≡ 0) (f : ℕ) (is_front : FrontAt m ns reached.front k f) where
          abbrev answer : Answer
          answer = answer_of (end_at m (n - 1)) (answer_at m (n - 1)) (value_at m (n - 1))

          answers_more : run [] (listed cs (take (suc k) ns)) ≡ dequeue answer (cond (ltb f k) (item_of m (get_or ns f 0) ∷ rest f is_front) [])
          answers_more =
              performs_more ∙ dequeue_performs _ _ _ _ _ (thread_at m (n - 1)) _ dequeues ∙ ap (dequeue answer) (queue_by_front f is_front)

          by_front : is_some (run [] (listed cs (take (suc k) ns))) ≡ answers_at m ns f k (n - 1)
          by_front = ap is_some answers_more ∙ sym (front_decides answer (ltb f k) (item_of m (get_or ns f 0)) (rest f is_front))

          pub answers_wrong : answers_at m ns f k (n - 1) ≡ false → orderly cs (take (k + 1) ns) ≡ false
          answers_wrong e = rw (add-one k) (run_decides ∙ by_front ∙ e)

          pub dequeue_goes_on :
              (late : ℕ) → late ≡ max reached.latest (start_at m (n - 1)) → answers_at m ns f k (n - 1) ≡ true
              → Walked m ns (set seen (n - 1) true) c (record { latest = late; front = f + 1 }) (k + 1)
          dequeue_goes_on late i e =
              rw (add-one f)
              (goes_on_lem late (suc f) i (omega (arith, is_front.within))
              (answers_more
              ∙ leaves_rest answer (ltb f k) (item_of m (get_or ns f 0)) (rest f is_front) (ap is_some (sym answers_more) ∙ by_front ∙ e)
              ∙ ap some (sym (is_rest (ltb f k) refl))))
            where
              is_rest : (b : Bool) → ltb f k ≡ b → items (listed cs (drop (suc f) (take (suc k) ns))) ≡ cond b (rest f is_front) []
              is_rest true l =
                  ap items (drop_more (suc f) (ltb-true f k l))
                  ∙ items_append (listed cs (drop (suc f) p)) (call ∷ [])
                  ∙ ap (λ x. rest f is_front ++ x) (ap (λ x. items (x ∷ [])) call_is ∙ dequeue_items _ _ _ _ _ (thread_at m (n - 1)) [] dequeues)
                  ∙ append-nil (rest f is_front)
              is_rest false l =
                  let z : length (take (suc k) ns) ≤ suc f = omega (arith, length-take-le (suc k) ns more, ltb-false f k l) in
                  ap (λ x. items (listed cs x)) (drop_of_length-le (take (suc k) ns) z)

-- The same for the code: the number's call stands at j, and what the tests replied.
module _ (m ns : List ℕ) (seen : List Bool) (c : ℕ) (reached : Progress) (k : ℕ) (w : Walked m ns seen c reached k) (few : c ≤ 4096) (more : k < length ns) (r : Bool)
    (admits : r ≡ admits_at m seen c (get_or ns k 0) reached.latest) where
  pub wrong_number : r ≡ false → orderly (calls_in m c) (take (k + 1) ns) ≡ false
  wrong_number t = not_admitted m ns c seen reached k w few more (sym admits ∙ t)

  module _ (t : r ≡ true) where
    admitted : admits_at m seen c (get_or ns k 0) reached.latest ≡ true
    admitted = sym admits ∙ t

    module _ (j : ℕ) (at : j ≡ get_or ns k 0 - 1) (late : ℕ) (is-late : late ≡ max reached.latest (start_at m j)) where
      pub enqueue_placed : thread_at m j ≢ 0 → Walked m ns (set seen j true) c (record { latest = late; front = reached.front }) (k + 1)
      enqueue_placed d =
          rw at
          (enqueue_goes_on m ns c seen reached k w few more admitted late (is-late ∙ ap (λ x. max reached.latest (start_at m x)) at)
          (λ z. d (ap (thread_at m) at ∙ z)))

      module _ (z : thread_at m j ≡ 0) (f : ℕ) (is_front : FrontAt m ns reached.front k f) (a : Bool) (answers : a ≡ answers_at m ns f k j) where
        abbrev is_dequeue : thread_at m (get_or ns k 0 - 1) ≡ 0
        is_dequeue = sym (ap (thread_at m) at) ∙ z

        pub wrong_answer : a ≡ false → orderly (calls_in m c) (take (k + 1) ns) ≡ false
        wrong_answer e =
            answers_wrong m ns c seen reached k w few more admitted is_dequeue f is_front
            (sym (ap (answers_at m ns f k) at) ∙ sym answers ∙ e)

        pub dequeue_placed : a ≡ true → Walked m ns (set seen j true) c (record { latest = late; front = f + 1 }) (k + 1)
        dequeue_placed e =
            rw at
            (dequeue_goes_on m ns c seen reached k w few more admitted is_dequeue f is_front late (is-late ∙ ap (λ x. max reached.latest (start_at m x)) at)
            (sym (ap (answers_at m ns f k) at) ∙ sym answers ∙ e))

-- The whole walk.
module _ (m ns : List ℕ) (seen : List Bool) (c k : ℕ) (r : Option Progress) (places : Places m ns seen c k r) where
  pub walk_fails : r ≡ None → Walks m ns seen c false
  walk_fails e = record {
    decides = sym (beginning_fails (calls_in m c) ns k (subst (Places m ns seen c k) e places));
    seen_are = λ z. absurd (bool.false≢true z);
  }
