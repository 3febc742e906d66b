-- The calls from the last one back: what stands in the buffer with the first n calls still to be laid, p enqueues of the line among
-- them, t of those of items given, and e dequeues.
use mathlib.Core.Path.{◌≡◌, refl, sym, ap, subst, ◌∙◌}
use mathlib.Core.Logic.{◌⊎◌, inl, inr, ◌≢◌}
use mathlib.Core.Bool.{Bool, true, false, not, cond}
use mathlib.Core.List.{List, [], ◌∷◌, ◌++◌, map, append_assoc}
use Prim.Native.Nat.{ℕ, zero, suc, ◌+◌, ◌-◌, ◌≤◌, ◌<◌}
use native.Mathlib.Omega.{arith}
use lib.Dec.{eqb, ltb}
use lib.ListN.{length, length-map, get_or, take, drop, get_or-map, drop_of_length-le}
use lib.Seq.{slice, slice_empty, length-take-le, get_or-take}
use borrow.Author.Tests.{ltb-true}
use Rattle.history.specs.Calls.{Enqueue, Dequeue, Call, enq, deq}
use Rattle.criterion.specs.Parts.{dequeue_of, dequeues_of}
use Rattle.criterion.specs.Order.{is_item, ended_before, any_ended, place, starting_number}
use Rattle.reading.specs.Table.{start_at, end_at, answer_at, thread_at, number_at, value_at, call_at, calls_in}
use Rattle.reading.proofs.Logic.{same_or_not, both}
use Rattle.reading.proofs.Builds.{drop_build, drop_built}
use Rattle.marking.specs.Marks.{enqueue_at}
use Rattle.marking.proofs.Passing.{an_enqueue}
use Rattle.laying.specs.Line.{count_to, answers_at, gives_at, Lined, Backs, LaysBack, LaysDequeue, enqueues_in, line_numbers}
use Rattle.laying.specs.declared.Rest.{Rest}
use Rattle.laying.proofs.Placing.{slice_snoc, none_earlier, Ready, back, none_between, dequeue_back, ready_for}
use Rattle.laying.proofs.Lining.{map_append, starting_number_lem}
use Rattle.laying.proofs.Dequeues.{Answered, Idle, either_kind}

pub count_grows : (f : ℕ → Bool) (n c : ℕ) → n ≤ c → count_to f n ≤ count_to f c
count_grows f n zero l = let z : n ≡ 0 = omega arith in rw z (omega arith)
count_grows f n (suc c) l = go (same_or_not n (suc c)) (count_grows f n c)
  where
    go : (n ≡ suc c) ⊎ (n ≢ suc c) → (n ≤ c → count_to f n ≤ count_to f c) → count_to f n ≤ count_to f (suc c)
    go (inl e) h = rw e (omega arith)
    go (inr d) h = let r = h (omega arith) in omega arith

-- the last number counts as well
pub last_counts : (f : ℕ → Bool) (n : ℕ) → 0 < n → cond (f (n - 1)) 1 0 ≤ count_to f n
last_counts f zero l = absurd (omega arith)
last_counts f (suc n) l = let z : suc n - 1 ≡ n = omega arith in rw z (omega arith)

fewer_lined : (m line : List ℕ) (c p n : ℕ) → Lined m line c n → c ≤ 4096 → p ≤ n → Lined m line 4096 p
fewer_lined m line c p n g a b = record {
  few = let f = g.few in omega arith;
  within = λ k l. let w = g.within k (omega arith) in omega arith;
  enqueues = λ k l. g.enqueues k (omega arith);
}

module _ (m line : List ℕ) (c p₀ : ℕ) where
  abbrev cs : List Call
  cs = calls_in m c

  abbrev queue : List Enqueue
  queue = enqueues_in m line p₀

  abbrev later : ℕ → List Dequeue
  later n = dequeues_of (drop n cs)

  abbrev numbers : List Call → List ℕ
  numbers o = map (starting_number cs) o

  abbrev placed : (n t p : ℕ) → List Call
  placed n t p = place (later n) (slice t p queue) (drop p queue)

  pub record Standing (e₀ : ℕ) (before order : List ℕ) (n p t e : ℕ) : Type 0 where
    pub within : n ≤ c
    pub most : p ≤ p₀
    pub items : t ≡ count_to (gives_at m) n
    pub least : t ≤ p
    pub dequeues : e ≡ count_to (answers_at m) n
    pub size : length order ≡ length before
    pub ready : Ready queue (enqueue_at m 0) (later n) t p
    pub clear : (j : ℕ) → j < n → any_ended (start_at m j) (drop p queue) ≡ false
    pub words : drop (p + e) order ≡ numbers (placed n t p) ++ drop (p₀ + e₀) before

  module _ (lined : Lined m line c p₀) (few : c ≤ 4096) (rising : (i j : ℕ) → i < j → j < c → start_at m i < start_at m j) where
    length_queue : length queue ≡ p₀
    length_queue = length-map (take p₀ line) (enqueue_at m) ∙ length-take-le p₀ line lined.few

    queue_at : (k : ℕ) → k < p₀ → get_or queue k (enqueue_at m 0) ≡ enqueue_at m (get_or line k 0)
    queue_at k l = get_or-map (enqueue_at m) (take p₀ line) k 0 ∙ ap (enqueue_at m) (get_or-take p₀ line k 0 l)

    -- the starting numbers of a part of the line
    number_at_lem : (k : ℕ) → k < p₀ → starting_number cs (enq (get_or queue k (enqueue_at m 0))) ≡ suc (get_or line k 0)
    number_at_lem k l =
        let i = get_or line k 0 in
        let z : call_at m i ≡ enq (enqueue_at m i) =
        an_enqueue (thread_at m i) (number_at m i) (value_at m i) (start_at m i) (end_at m i) (answer_at m i) (lined.enqueues k l) in
        ap (λ x. starting_number cs (enq x)) (queue_at k l) ∙ ap (starting_number cs) (sym z) ∙ starting_number_lem m c i rising (lined.within k l)

    part_numbers : (r p : ℕ) → r ≤ p → p ≤ p₀ → numbers (map enq (slice r p queue)) ≡ map suc (slice r p line)
    part_numbers r zero a b = let z : r ≡ 0 = omega arith in rw z
    part_numbers r (suc u) a b = go (same_or_not r (suc u)) (part_numbers r u)
      where
        go :
            (r ≡ suc u) ⊎ (r ≢ suc u) → (r ≤ u → u ≤ p₀ → numbers (map enq (slice r u queue)) ≡ map suc (slice r u line))
            → numbers (map enq (slice r (suc u) queue)) ≡ map suc (slice r (suc u) line)
        go (inl e) h = rw (e, slice_empty (suc u) queue, slice_empty (suc u) line)
        go (inr d) h =
            let y = lined.few in
            let w = length_queue in
            ap (λ x. numbers (map enq x)) (slice_snoc r u queue (enqueue_at m 0) (omega arith) (omega arith))
            ∙ ap numbers (map_append enq (slice r u queue) (get_or queue u (enqueue_at m 0) ∷ []))
            ∙ map_append (starting_number cs) (map enq (slice r u queue)) (enq (get_or queue u (enqueue_at m 0)) ∷ [])
            ∙ (let i = h (omega arith) (omega arith) in let o = number_at_lem u b in cc)
            ∙ sym (map_append suc (slice r u line) (get_or line u 0 ∷ []))
            ∙ ap (map suc) (sym (slice_snoc r u line 0 (omega arith) (omega arith)))

    -- back along the line, and what was laid there
    module _ (n s t p r : ℕ) (b : Backs m line s t p r) (most : p ≤ p₀) where
      came_back :
          Ready queue (enqueue_at m 0) (later n) t p
          → (numbers (placed n t r) ≡ map suc (slice r p line) ++ numbers (placed n t p)) × Ready queue (enqueue_at m 0) (later n) t r
      came_back h =
          let w = length_queue in
          let k = back queue (enqueue_at m 0) (later n) t p r b.least b.most (omega arith) h in (
            ap numbers k.places
                ∙ map_append (starting_number cs) (map enq (slice r p queue)) (placed n t p)
                ∙ ap (λ x. x ++ numbers (placed n t p)) (part_numbers r p b.most most),
            k.ready,
          )

      clear_back : any_ended s (drop p queue) ≡ false → any_ended s (drop r queue) ≡ false
      clear_back e =
          let w = length_queue in
          none_between queue (enqueue_at m 0) s p r b.most (omega arith) e
          (λ k i o. ap (ended_before s) (queue_at k (omega arith)) ∙ b.late k i o)

    module _ (e₀ : ℕ) (before : List ℕ) where
      pub standing_first :
          (t e : ℕ) → t ≡ count_to (gives_at m) c → t ≤ p₀ → e ≡ count_to (answers_at m) c → e ≡ e₀ → Standing e₀ before before c p₀ t e
      standing_first t e i l d q =
          let all : length queue ≤ p₀ = let w = length_queue in omega arith in
          let none : drop p₀ queue ≡ [] = drop_of_length-le queue all in
          let over : drop c cs ≡ [] = drop_built (call_at m) c in
          record {
            within = omega arith;
            most = omega arith;
            items = i;
            least = l;
            dequeues = d;
            size = refl;
            ready = rw over tt;
            clear = λ j o. ap (any_ended (start_at m j)) none;
            words = rw (over, none, q);
          }

      module _ (order : List ℕ) (j : ℕ) (rest : Rest) (s : Standing e₀ before order (suc j) rest.enqueues rest.given rest.dequeues)
          (order' : List ℕ) (then : Rest) (lays : LaysDequeue m line j rest order order' then) where
        abbrev p : ℕ
        p = rest.enqueues

        abbrev t : ℕ
        t = rest.given

        abbrev e : ℕ
        e = rest.dequeues

        abbrev r : ℕ
        r = then.enqueues

        abbrev u : ℕ
        u = then.given

        abbrev v : ℕ
        v = then.dequeues

        now_later : later j ≡ dequeue_of (call_at m j) ++ later (suc j)
        now_later = ap dequeues_of (drop_build (call_at m) c j s.within)

        on_idle : Idle m j → Standing e₀ before order' j r u v
        on_idle i =
            let k = lays.idle i.answers in
            let q : later j ≡ later (suc j) = now_later ∙ ap (λ z. z ++ later (suc j)) i.none in
            let a : ◌≡◌ {A = ℕ} (cond (answers_at m j) 1 0) 0 = rw i.answers in
            let g : ◌≡◌ {A = ℕ} (cond (gives_at m j) 1 0) 0 = rw i.gives in
            let x = s.items in
            let y = s.dequeues in
            subst (λ (z : Rest). Standing e₀ before order' j z.enqueues z.given z.dequeues) (sym k.0)
            (subst (λ z. Standing e₀ before z j p t e) (sym k.1)
            (record {
              within = let l = s.within in omega arith;
              most = s.most;
              items = omega arith;
              least = s.least;
              dequeues = omega arith;
              size = s.size;
              ready = rw q s.ready;
              clear = λ h l. s.clear h (omega arith);
              words = rw q s.words;
            }))

        on_answered : (a : Answered m j) → t ≡ u + cond (gives_at m j) 1 0 → e ≡ suc v → Standing e₀ before order' j r u v
        on_answered a f g =
            let d = a.dequeue in
            let x = enqueue_at m 0 in
            let b = lays.backs a.answers in
            let l = b.least in
            let o = b.most in
            let most = s.most in
            let w = length_queue in
            let q : later j ≡ d ∷ later (suc j) = now_later ∙ ap (λ z. z ++ later (suc j)) a.alone in
            let counts : t ≡ cond (is_item d.answer) (suc u) u = f ∙ ap (λ b. u + cond b 1 0) a.gives_is ∙ one_more (is_item d.answer) u in
            let z = clear_back (suc j) (start_at m j) t p r b most (s.clear j (omega arith)) in
            let k = came_back (suc j) (start_at m j) t p r b most s.ready in
            let n : starting_number cs (deq d) ≡ suc j = ap (starting_number cs) (sym a.is_call) ∙ starting_number_lem m c j rising s.within in
            let more =
            dequeue_back queue x d (later (suc j)) u t r counts l (omega arith)
            (ap (λ i. any_ended i (drop r queue)) a.start_is ∙ z) in
            let i = s.items in
            let y = s.dequeues in
            let h : ◌≡◌ {A = ℕ} (cond (answers_at m j) 1 0) 1 = rw a.answers in
            record {
              within = let c = s.within in omega arith;
              most = omega arith;
              items = omega arith;
              least = omega arith;
              dequeues = omega arith;
              size = lays.size ∙ s.size;
              ready =
                  rw q
                  (ready_for queue x d (later (suc j)) u t r counts l (omega arith)
                  (λ k i o. ap (λ i. ended_before i (get_or queue k x)) a.start_is ∙ ap (ended_before (start_at m j)) (queue_at k (omega arith)) ∙ b.stops k i o));
              clear = λ h o. none_earlier (start_at m h) (start_at m j) (drop r queue) (let c = rising h j o s.within in omega arith) z;
              words =
                  lays.words a.answers
                  ∙ ap (λ y. suc j ∷ (map suc (slice r p line) ++ y)) s.words
                  ∙ ap (λ y. suc j ∷ y) (sym (append_assoc (map suc (slice r p line)) (numbers (placed (suc j) t p)) (drop (p₀ + e₀) before)))
                  ∙ ap (λ y. suc j ∷ (y ++ drop (p₀ + e₀) before)) (sym k.0)
                  ∙ ap (λ y. y ∷ (numbers (placed (suc j) t r) ++ drop (p₀ + e₀) before)) (sym n)
                  ∙ ap (λ y. numbers y ++ drop (p₀ + e₀) before) (sym more)
                  ∙ ap (λ y. numbers (place y (slice u r queue) (drop r queue)) ++ drop (p₀ + e₀) before) (sym q);
            }
          where
            one_more : (b : Bool) (u : ℕ) → u + cond b 1 0 ≡ cond b (suc u) u
            one_more true u = omega arith
            one_more false u = omega arith

        pub standing_on : Standing e₀ before order' j r u v
        standing_on = elim (either_kind m j) [
          | inl i ↦ on_idle i
          | inr a ↦
              let i = s.items in
              let y = s.dequeues in
              let h : ◌≡◌ {A = ℕ} (cond (answers_at m j) 1 0) 1 = rw a.answers in
              let k = lays.given a.answers in
              let l = lays.dequeues a.answers in
              on_answered a (omega arith) (omega arith)
        ]

      -- by the number of calls that are left
      pub standing_back :
          (order : List ℕ) (n : ℕ) (rest : Rest) → Standing e₀ before order n rest.enqueues rest.given rest.dequeues → 0 < n
          → (order' : List ℕ) (then : Rest) → LaysDequeue m line (n - 1) rest order order' then
          → Standing e₀ before order' (n - 1) then.enqueues then.given then.dequeues
      standing_back order n rest s l order' then lays =
          let z : n ≡ suc (n - 1) = omega arith in
          standing_on order (n - 1) rest (subst (λ k. Standing e₀ before order k rest.enqueues rest.given rest.dequeues) z s) order' then lays

      -- there is room
      pub room_left :
          (order : List ℕ) (n p t e : ℕ) → Standing e₀ before order n p t e → e₀ ≡ count_to (answers_at m) c → p₀ + e₀ ≤ length before
          → Lined m line 4096 p × (p + e ≤ length order)
      room_left order n p t e s q f = (
        fewer_lined m line c p p₀ lined few s.most,
        let a = s.most in let b = s.dequeues in let d = count_grows (answers_at m) n c s.within in let z = s.size in omega arith,
      )

      -- and the enqueues before all dequeues
      pub standing_last :
          (order : List ℕ) (n p t e : ℕ) → n ≡ 0 → Standing e₀ before order n p t e → (order' : List ℕ) (r : ℕ)
          → LaysBack m line 0 t p e order order' r → order' ≡ line_numbers m line c p₀ ++ drop (p₀ + e₀) before
      unfolding line_numbers
      standing_last order n p t e over was order' r laid =
          let s = subst (λ k. Standing e₀ before order k p t e) over was in
          let i = s.items in
          let y = s.dequeues in
          let no : t ≡ 0 = omega arith in
          let none : e ≡ 0 = omega arith in
          let lays = rw (no, none) at laid in
          let z : r ≡ 0 = all_back lays.backs r refl in
          let k = came_back 0 0 0 p r lays.backs s.most (rw no at s.ready) in
          ap (λ x. drop (x + 0) order') (sym z)
          ∙ lays.words
          ∙ ap (λ x. map suc (slice r p line) ++ x) (rw (no, none) at s.words)
          ∙ sym (append_assoc (map suc (slice r p line)) (numbers (placed 0 0 p)) (drop (p₀ + e₀) before))
          ∙ ap (λ x. x ++ drop (p₀ + e₀) before) (sym k.0)
          ∙ ap (λ x. numbers (placed 0 0 x) ++ drop (p₀ + e₀) before) z
        where
          never : (x : Enqueue) → ended_before 0 x ≡ true → ⊥
          never x q = let l = ltb-true x.end 0 (both (not (eqb x.end 0)) (ltb x.end 0) q).1 in omega arith

          all_back : Backs m line 0 0 p r → (k : ℕ) → r ≡ k → r ≡ 0
          all_back b zero q = q
          all_back b (suc k) q = absurd (never (enqueue_at m (get_or line k 0)) (b.stops k q (omega arith)))
