-- The verdict's pass, call by call.
use mathlib.Core.Path.{◌≡◌, refl, ap, sym, subst, ◌∙◌}
use mathlib.Core.Logic.{◌⊎◌, inl, inr, ◌≢◌}
use mathlib.Core.Bool.{Bool, true, false, ◌&&◌, not, cond}
use mathlib.Core.List.{List, [], ◌∷◌}
use mathlib.Core.Option.{Option, none, some}
use Rattle.std.specs.Prelude as rust
use Rattle.std.proofs.Common.{zero-le}
use Rattle.std.specs.Prelude.{None, Some}
use Prim.Native.Nat.{ℕ, zero, suc, ◌+◌, ◌≤◌, ◌<◌, max, suc-le-suc}
use native.Mathlib.Numerals.{add-one}
use native.Mathlib.Omega.{arith}
use lib.Dec.{eqb, leb}
use lib.ListN.{length, get_or, set, length-set, drop}
use lib.Seq.{get_or-set_same, get_or-set_other}
use borrow.Author.Tests.{eq-eqb, ne_eqb}
use Rattle.history.specs.Calls.{Answer, nothing, item, empty, Enqueue, Call, enq, deq}
use Rattle.history.specs.Form.{has_number}
use Rattle.criterion.specs.Parts.{look}
use Rattle.criterion.specs.Pass.{has, past, giving, answering, passes}
use Rattle.marking.specs.declared.Progress.{Progress}
use Rattle.reading.specs.Build.{build}
use Rattle.reading.specs.Table.{start_at, end_at, answer_at, thread_at, number_at, value_at, call_of, call_at, calls_in}
use Rattle.marking.specs.Pass.{State, give_item, answer, pass_call, onward, pass_calls, passed, last_test}
use Rattle.marking.specs.Marks.{Numbered, Found, Given, Flagged, Located, enqueue_at, hint_of, moved_to, state_after, Moves, marked, Marks}
use Rattle.reading.specs.Steps.{First}
use Rattle.reading.proofs.Logic.{at_most_or_above, same_or_not, before_or_last}
use Rattle.reading.proofs.Builds.{drop_build, drop_built}
use Rattle.reading.proofs.Words

-- Looking for a number among the first values of a function.
look_skip : (n : ℕ) (c : Call) (cs : List Call) → has_number n c ≡ false → look n (c ∷ cs) ≡ look n cs
look_skip n (enq x) cs e = rw e
look_skip n (deq d) cs e = refl

look_here : (n : ℕ) (c : Call) (x : Enqueue) (cs : List Call) → c ≡ enq x → eqb x.number n ≡ true → look n (c ∷ cs) ≡ x ∷ []
look_here n c x cs e q = rw (e, q)

look_none : (n : ℕ) (f : ℕ → Call) (c : ℕ) → ((j : ℕ) → j < c → has_number n (f j) ≡ false) → look n (build f c) ≡ []
look_none n f zero h = refl
look_none n f (suc c) h =
    look_skip n (f 0) (build (λ j. f (suc j)) c) (h 0 (omega arith))
    ∙ look_none n (λ j. f (suc j)) c (λ j l. h (suc j) (suc-le-suc l))

look_one :
    (n : ℕ) (f : ℕ → Call) (c i : ℕ) (x : Enqueue) → i < c → f i ≡ enq x → eqb x.number n ≡ true
    → ((j : ℕ) → j < i → has_number n (f j) ≡ false) → look n (build f c) ≡ x ∷ []
look_one n f zero i x l e q h = absurd (omega arith)
look_one n f (suc c) zero x l e q h = look_here n (f 0) x (build (λ j. f (suc j)) c) e q
look_one n f (suc c) (suc i) x l e q h =
    look_skip n (f 0) (build (λ j. f (suc j)) c) (h 0 (omega arith))
    ∙ look_one n (λ j. f (suc j)) c i x (omega arith) e q (λ j o. h (suc j) (suc-le-suc o))

-- A number that is not among those from the hint on is looked for before it.
pub found_before :
    (m : List ℕ) (hint c number : ℕ) (o : rust.Option ℕ) → hint ≤ c → First m hint c number None → First m 0 hint number o → Found m c number o
found_before m hint c number None l late early =
    λ j o. elim (at_most_or_above hint j) [ inl a ↦ late j a o | inr b ↦ early j zero-le b ]
found_before m hint c number (Some i) l late early = let w = early.1 in (omega arith, early.2)

-- What a call does to the pass, by its words.
module _ (cs : List Call) (n v b e a : ℕ) (s : State) where
  enqueue_passes : (t : ℕ) → t ≢ 0 → pass_call cs (call_of t n v b e a) s ≡ some s
  enqueue_passes zero d = absurd (d refl)
  enqueue_passes (suc t) d = refl

  under_way_passes : (t : ℕ) → t ≡ 0 → e ≡ 0 → pass_call cs (call_of t n v b e a) s ≡ some s
  under_way_passes t p q = rw (p, q)

empty_passes :
    (cs : List Call) (n v b e a : ℕ) (s : State) (t : ℕ) → t ≡ 0 → e ≢ 0 → a ≡ 0
    → pass_call cs (call_of t n v b e a) s ≡ some (record { mark = max s.mark b; given = s.given })
empty_passes cs n v b zero a s t p d q = absurd (d refl)
empty_passes cs n v b (suc e) a s t p d q = rw (p, q)

item_passes :
    (cs : List Call) (n v b e a : ℕ) (s : State) (t : ℕ) → t ≡ 0 → e ≢ 0 → a ≢ 0
    → pass_call cs (call_of t n v b e a) s ≡ give_item a v e s (look a cs)
item_passes cs n v b zero a s t p d q = absurd (d refl)
item_passes cs n v b (suc e) zero s t p d q = absurd (q refl)
item_passes cs n v b (suc e) (suc a) s t p d q = rw p

pub an_enqueue : (t n v b e a : ℕ) → t ≢ 0 → call_of t n v b e a ≡ enq (record { thread = t; number = n; value = v; start = b; end = e })
an_enqueue zero n v b e a d = absurd (d refl)
an_enqueue (suc t) n v b e a d = refl

module _ (m : List ℕ) (c : ℕ) where
  -- One call more: it gave no item, or its item was noted.
  also_at :
      {j : ℕ} (items : List ℕ) → Located m items c j → (thread_at m j ≡ 0 → end_at m j ≢ 0 → answer_at m j ≢ 0 → ⊥) → Located m items c (suc j)
  also_at {j} items old idle h l t e a = elim (before_or_last h j l) [
    | inl o ↦ old h o t e a
    | inr q ↦ absurd (idle (rw q at t) (rw q at e) (rw q at a))
  ]

  noted_at :
      (j i : ℕ) (items : List ℕ) → j < length items → i < c → number_at m i ≡ answer_at m j → Located m items c j
      → Located m (set items j i) c (suc j)
  noted_at j i items room within is old h l t e a = elim (before_or_last h j l) [
    | inl o ↦ (let k = get_or-set_other items j h i 0 (omega arith) in rw k (old h o t e a))
    | inr q ↦ (let k = get_or-set_same items j i 0 room in rw (q, k) (within, is))
  ]

  -- Ways on that change nothing but the mark.
  on_with :
      (j mark mark' hint : ℕ) (flags : List Bool) (items : List ℕ) → hint ≤ c
      → ((given : List ℕ) → state_after m c j mark given ≡ some (record { mark = mark'; given = given }))
      → (thread_at m j ≡ 0 → end_at m j ≢ 0 → answer_at m j ≢ 0 → ⊥) → Moves m c j mark flags flags items items (Some (record { mark = mark'; hint = hint }))
  on_with j mark mark' hint flags items h e idle = record {
    hint_within = h;
    replies = λ given g. sym (ap (moved_to hint) (e given));
    flags_then = λ given g. rw (e given) g;
    size_stays = refl;
    located = λ p r old. also_at items old idle;
  }

  pub on_enqueue :
      (j mark hint : ℕ) (flags : List Bool) (items : List ℕ) → hint ≤ c → thread_at m j ≢ 0 → Moves m c j mark flags flags items items (Some (record { mark = mark; hint = hint }))
  on_enqueue j mark hint flags items h d =
      on_with j mark mark hint flags items h
      (λ given. enqueue_passes (calls_in m c) (number_at m j) (value_at m j) (start_at m j) (end_at m j) (answer_at m j) _ (thread_at m j) d)
      (λ t e a. d t)

  pub on_under_way :
      (j mark hint : ℕ) (flags : List Bool) (items : List ℕ) → hint ≤ c → thread_at m j ≡ 0 → end_at m j ≡ 0
      → Moves m c j mark flags flags items items (Some (record { mark = mark; hint = hint }))
  on_under_way j mark hint flags items h p q =
      on_with j mark mark hint flags items h
      (λ given. under_way_passes (calls_in m c) (number_at m j) (value_at m j) (start_at m j) (end_at m j) (answer_at m j) _ (thread_at m j) p q)
      (λ t e a. e q)

  pub on_empty :
      (j mark mark' hint : ℕ) (flags : List Bool) (items : List ℕ) → hint ≤ c → thread_at m j ≡ 0 → end_at m j ≢ 0 → answer_at m j ≡ 0
      → mark' ≡ max mark (start_at m j) → Moves m c j mark flags flags items items (Some (record { mark = mark'; hint = hint }))
  on_empty j mark mark' hint flags items h p d q e =
      on_with j mark mark' hint flags items h
      (λ given.
      empty_passes (calls_in m c) (number_at m j) (value_at m j) (start_at m j) (end_at m j) (answer_at m j) _ (thread_at m j) p d q
      ∙ ap (λ i. some (record { mark = i; given = given })) (sym e))
      (λ t f a. a q)

  -- An item.
  module _ (numbered : Numbered m c) (j mark : ℕ) (p : thread_at m j ≡ 0) (d : end_at m j ≢ 0) (q : answer_at m j ≢ 0) where
    abbrev n : ℕ
    n = answer_at m j

    item_is :
        (given : List ℕ)
        → state_after m c j mark given ≡ give_item n (value_at m j) (end_at m j) (record { mark = mark; given = given }) (look n (calls_in m c))
    item_is given = item_passes (calls_in m c) (number_at m j) (value_at m j) (start_at m j) (end_at m j) n _ (thread_at m j) p d q

    stuck_at :
        (flags : List Bool) (items : List ℕ) → ((given : List ℕ) → Given m c flags given → state_after m c j mark given ≡ none)
        → Moves m c j mark flags flags items items None
    stuck_at flags items f = record {
      hint_within = omega arith;
      replies = λ given g. sym (ap (moved_to 0) (f given g));
      flags_then = λ given g. rw (f given g) tt;
      size_stays = refl;
      located = λ p r. absurd (cc);
    }

    pub not_found : (flags : List Bool) (items : List ℕ) → Found m c n None → Moves m c j mark flags flags items items None
    not_found flags items f =
        let none =
        look_none n (call_at m) c
        (λ h o. Words.not_number (number_at m h) (value_at m h) (start_at m h) (end_at m h) (answer_at m h) (thread_at m h) n (f h o)) in
        stuck_at flags items (λ given g. item_is given ∙ ap (give_item n (value_at m j) (end_at m j) _) none)

    -- enqueue i is the one with the item's number
    module _ (i : ℕ) (within : i < c) (is : number_at m i ≡ n) where
      pub looked : look n (calls_in m c) ≡ enqueue_at m i ∷ []
      looked =
          look_one n (call_at m) c i (enqueue_at m i) within
          (an_enqueue (thread_at m i) (number_at m i) (value_at m i) (start_at m i) (end_at m i) (answer_at m i)
          (λ z. q (sym is ∙ numbered.plain i within z)))
          (eq-eqb (number_at m i) n is)
          (λ h o.
          Words.not_number (number_at m h) (value_at m h) (start_at m h) (end_at m h) (answer_at m h) (thread_at m h) n
          (λ e. let z = numbered.distinct h i (omega arith) within (e ∙ sym is) (λ w. q (sym e ∙ w)) in omega arith))

      abbrev test : Bool → Bool
      test was = eqb (value_at m i) (value_at m j) && not was && leb (start_at m i) (end_at m j) && past mark (enqueue_at m i)

      -- the state with the item given
      abbrev then : List ℕ → State
      then given = record { mark = max mark (start_at m i); given = n ∷ given }

      tested :
          (flags : List Bool) (given : List ℕ) → Given m c flags given
          → state_after m c j mark given ≡ cond (test (get_or flags i false)) (some (then given)) none
      tested flags given g =
          let e = subst (λ x. has x given ≡ get_or flags i false) is (g.flagged i within) in
          item_is given ∙ ap (give_item n (value_at m j) (end_at m j) _) looked ∙ ap (λ b. cond (test b) (some (then given)) none) e

      pub unfair :
          (flags : List Bool) (items : List ℕ) (r : Bool) → r ≡ test (get_or flags i false) → r ≡ false
          → Moves m c j mark flags flags items items None
      unfair flags items r e f =
          stuck_at flags items (λ given g. tested flags given g ∙ ap (λ b. cond b (some (then given)) none) (sym e ∙ f))

      flag_on : (flags : List Bool) (given : List ℕ) → c ≤ 4096 → Given m c flags given → Given m c (set flags i true) (n ∷ given)
      flag_on flags given room g = record {
        size = length-set flags i true ∙ g.size;
        flagged = λ h l. go h l (same_or_not h i);
      }
        where
          go : (h : ℕ) → h < c → (h ≡ i) ⊎ (h ≢ i) → has (number_at m h) (n ∷ given) ≡ get_or (set flags i true) h false
          go h l (inl e) =
              let a = eq-eqb n (number_at m i) (sym is) in
              let b = get_or-set_same flags i true false (omega (arith, g.size)) in
              rw (e, a, b)
          go h l (inr o) =
              let a = ne_eqb n (number_at m h) (λ z. o (numbered.distinct h i l within (sym z ∙ sym is) (λ w. q (z ∙ w)))) in
              let b = get_or-set_other flags i h true false o in
              rw (a, b) (g.flagged h l)

      pub is_fair :
          (flags : List Bool) (items : List ℕ) (r : Bool) (mark' hint : ℕ) → c ≤ 4096 → j < length items → r ≡ test (get_or flags i false) → r ≡ true
          → mark' ≡ max mark (start_at m i) → hint ≤ c → Moves m c j mark flags (set flags i true) items (set items j i) (Some (record { mark = mark'; hint = hint }))
      is_fair flags items r mark' hint room noted e f top few = record {
        hint_within = few;
        replies = λ given g. rw (goes given g, top);
        flags_then = λ given g. rw (goes given g) (flag_on flags given room g);
        size_stays = length-set items j i;
        located = λ x z old. noted_at j i items noted within is old;
      }
        where
          goes : (given : List ℕ) → Given m c flags given → state_after m c j mark given ≡ some (then given)
          goes given g = tested flags given g ∙ ap (λ b. cond b (some (then given)) none) (sym e ∙ f)

-- The pass after j calls.
pub record Passed (m : List ℕ) (c : ℕ) (flags : List Bool) (items : List ℕ) (mark j : ℕ) : Type 0 where
  pub given : List ℕ
  pub are_given : Given m c flags given
  pub located : Located m items c j
  pub is_same : passed (calls_in m c) ≡ pass_calls (calls_in m c) (drop j (calls_in m c)) (record { mark = mark; given = given })

pub none_passed : (m : List ℕ) (c : ℕ) (flags : List Bool) (items : List ℕ) → Given m c flags [] → Passed m c flags items 0 0
none_passed m c flags items g = record { given = []; are_given = g; located = λ h l. absurd (omega arith); is_same = refl }

module _ (m : List ℕ) (c : ℕ) (flags : List Bool) (items : List ℕ) (mark j : ℕ) (p : Passed m c flags items mark j) (more : j < c) (flags' : List Bool) (items' : List ℕ)
    (r : rust.Option Progress) (moves : Moves m c j mark flags flags' items items' r) where
  abbrev after : Option State
  after = state_after m c j mark p.given

  next : (o : Option State) → after ≡ o → passed (calls_in m c) ≡ onward o (pass_calls (calls_in m c) (drop (suc j) (calls_in m c)))
  next o e =
      p.is_same
      ∙ ap (λ l. pass_calls (calls_in m c) l (record { mark = mark; given = p.given })) (drop_build (call_at m) c j more)
      ∙ ap (λ x. onward x (pass_calls (calls_in m c) (drop (suc j) (calls_in m c)))) e

  pub call_passed : (to : Progress) → r ≡ Some to → (to.hint ≤ c) × Passed m c flags' items' to.mark (j + 1)
  call_passed to e =
      let w = moves.hint_within in
      let h : hint_of r ≡ to.hint = ap hint_of e in
      (omega arith, go after refl (moves.replies p.given p.are_given) (moves.flags_then p.given p.are_given))
    where
      go : (o : Option State) → after ≡ o → r ≡ moved_to (hint_of r) o → Flagged m c flags' o → Passed m c flags' items' to.mark (j + 1)
      go none f a g = absurd (cc)
      go (some s) f a g =
          let y : Some (record { mark = s.mark; hint = hint_of r }) ≡ Some to = cc in
          let z : s.mark ≡ to.mark = ap (λ o. elim o [ None ↦ 0 | Some x ↦ x.mark ]) y in
          record {
            given = s.given;
            are_given = g;
            located = rw (add-one j) (moves.located to e p.located);
            is_same = rw (add-one j, ← z) (next (some s) f);
          }

  pub call_stuck : r ≡ None → passed (calls_in m c) ≡ none
  call_stuck e = go after refl (moves.replies p.given p.are_given)
    where
      go : (o : Option State) → after ≡ o → r ≡ moved_to (hint_of r) o → passed (calls_in m c) ≡ none
      go none f a = next none f
      go (some s) f a = absurd (cc)

pub pass_fails : (m : List ℕ) (c : ℕ) (flags : List Bool) (items : List ℕ) → passed (calls_in m c) ≡ none → Marks m c flags items None
pass_fails m c flags items e = record {
  replies = sym (ap marked e);
  flags_then = rw e tt;
  located = λ x r. absurd (cc);
}

pub all_passed :
    (m : List ℕ) (c : ℕ) (flags : List Bool) (items : List ℕ) (mark j : ℕ) → Passed m c flags items mark j → j ≡ c → Marks m c flags items (Some mark)
all_passed m c flags items mark j p e =
    let s : State = record { mark = mark; given = p.given } in
    let z : passed (calls_in m c) ≡ some s =
    p.is_same ∙ ap (λ l. pass_calls (calls_in m c) l s) (ap (λ i. drop i (calls_in m c)) e ∙ drop_built (call_at m) c) in
    record { replies = sym (ap marked z); flags_then = rw z p.are_given; located = λ x r. rw e at p.located }

-- The pass with the last test is the verdict's.
give_and : (cs l : List Call) (t : State) (b : Bool) → passes cs l t.mark t.given ≡ last_test cs (pass_calls cs l t)
    → (b && passes cs l t.mark t.given) ≡ last_test cs (onward (cond b (some t) none) (pass_calls cs l))
give_and cs l t true e = e
give_and cs l t false e = refl

pub passes_is : (cs l : List Call) (s : State) → passes cs l s.mark s.given ≡ last_test cs (pass_calls cs l s)
passes_is cs [] s = refl
passes_is cs (enq x ∷ l) s = passes_is cs l s
passes_is cs (deq d ∷ l) s = by_answer d.answer (passes_is cs l)
  where
    given-item : (n v : ℕ) (xs : List Enqueue) → ((t : State) → passes cs l t.mark t.given ≡ last_test cs (pass_calls cs l t))
        → giving n v d.end s.mark s.given (passes cs l) xs ≡ last_test cs (onward (give_item n v d.end s xs) (pass_calls cs l))
    given-item n v [] h = refl
    given-item n v (x ∷ xs) h =
        give_and cs l (record { mark = max s.mark x.start; given = n ∷ s.given })
        (eqb x.value v && not (has n s.given) && leb x.start d.end && past s.mark x) (h _)

    by_answer : (a : Answer) → ((t : State) → passes cs l t.mark t.given ≡ last_test cs (pass_calls cs l t))
        → answering cs a d.start d.end s.mark s.given (passes cs l) ≡ last_test cs (onward (answer cs a d.start d.end s) (pass_calls cs l))
    by_answer nothing h = h s
    by_answer (item n v) h = given-item n v (look n cs) h
    by_answer empty h = h (record { mark = max s.mark d.start; given = s.given })
