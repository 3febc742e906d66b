-- Completeness: the calls of a linearizable history are orderly. What a dequeue finds tells which items have been removed, and
-- they were removed by dequeues that had ended before, since there is one consumer.
use Rattle.std.specs.Prelude.{◌≡◌, refl, ◌⊎◌, ◌≢◌, true, List, [], ◌∷◌, ◌++◌, map, ℕ, ◌<◌}
use Rattle.std.proofs.Common.{sym, ap, subst, subst₂, ◌∙◌, inl, inr, append-nil, arith}
use Rattle.std.proofs.Math.Option.{some}
use Rattle.std.proofs.Math.Decide.{dec_lt}
use Rattle.history.specs.Lists.{Pairwise, Member}
use Rattle.history.specs.Event.{History}
use Rattle.history.specs.Calls.{Answer, nothing, item, empty, Enqueue, Dequeue, Call, enq, deq, start_of, end_of, calls}
use Rattle.history.specs.Form.{well_formed}
use Rattle.history.specs.Linearization.{Item, Queue, Precedes, dequeue, run, Linearization, Linearizable}
use Rattle.criterion.specs.Explained.{Explained}
use Rattle.criterion.specs.Parts.{item_of, enqueue_of, enqueues_of}
use Rattle.criterion.specs.Members.{all_at, in_left, in_right, in_either, in_map, from_map, split_at, split_map, pairwise_across, pairwise_left, pairwise_right, in_gather, from_gather, pairwise_gather}
use Rattle.criterion.specs.Entering.{enq_not_deq}
use Rattle.criterion.specs.Tidy.{enqueue_tells, dequeue_tells, Gave}
use Rattle.criterion.specs.Apart.{same_number, one_at_a_time}
use Rattle.criterion.specs.Fair.{TakenBefore, FairItem, FairEmpty, Fair, Orderly}
use Rattle.criterion.specs.Orderly.{answered_ended, item_not_nothing, empty_not_nothing, orderly_is_explained}
use Rattle.criterion.specs.Fifo.{run_parts, run_first, gives_its_item, finds_nothing, RemovedBy, Gone, fifo}

-- an enqueue among some calls
is_enqueue : (c : Call) (x : Enqueue) → Member x (enqueue_of c) → c ≡ enq x
is_enqueue (enq y) x (inl e) = ap enq (sym e)
is_enqueue (enq y) x (inr m) = elim m [ ]
is_enqueue (deq _) x m = elim m [ ]

enqueue_in : (cs : List Call) (x : Enqueue) → Member (enq x) cs → Member x (enqueues_of cs)
enqueue_in cs x m = in_gather enqueue_of (enq x) x cs m (inl refl)

in-calls : (cs : List Call) (x : Enqueue) → Member x (enqueues_of cs) → Member (enq x) cs
in-calls cs x m = let r = from_gather enqueue_of x cs m in subst (λ c. Member c cs) (is_enqueue r.0 x r.2) r.1

pairwise_enqueues : (R : Call → Call → Type 0) (cs : List Call) → Pairwise R cs → Pairwise (λ x y. R (enq x) (enq y)) (enqueues_of cs)
pairwise_enqueues R cs p =
    pairwise_gather R (λ x y. R (enq x) (enq y)) enqueue_of cs p alone
    (λ a c b d r m n. subst₂ R (is_enqueue a b m) (is_enqueue c d n) r)
  where
    alone : (c : Call) → Pairwise (λ x y. R (enq x) (enq y)) (enqueue_of c)
    alone (enq x) = (tt, tt)
    alone (deq d) = tt

-- A linearization, split where dequeue d stands.
module _ (h : History) (w : well_formed h ≡ true) (ord : List Call) (left : Queue) (lin : Linearization h ord left)
    (d : Dequeue) (b c : List Call) (split : ord ≡ b ++ (deq d ∷ c)) (ended : d.end ≢ 0) where
  theirs : (a : Call) → Member a (b ++ (deq d ∷ c)) → Member a (calls h)
  theirs a m = all_at (λ a. Member a (calls h)) ord lin.theirs a (subst (Member a) (sym split) m)

  before : (a : Call) → Member a b → Member a (calls h)
  before a m = theirs a (in_left a b (deq d ∷ c) m)

  own : Member (deq d) (calls h)
  own = theirs (deq d) (in_right (deq d) b (deq d ∷ c) (inl refl))

  once : Pairwise (λ a b. start_of a ≢ start_of b) (b ++ (deq d ∷ c))
  once = subst (Pairwise (λ a b. start_of a ≢ start_of b)) split lin.once

  timely : Pairwise (λ a b. Precedes b a → ⊥) (b ++ (deq d ∷ c))
  timely = subst (Pairwise (λ a b. Precedes b a → ⊥)) split lin.timely

  kept : (a : Call) → Member a (calls h) → end_of a ≢ 0 → Member a b ⊎ Member a (deq d ∷ c)
  kept a m z = in_either a b (deq d ∷ c) (subst (Member a) split (all_at (λ a. end_of a ≢ 0 → Member a ord) (calls h) lin.whole a m z))

  -- a dequeue that stands before it ended before it started
  ended_first : (e : Dequeue) → Member (deq e) b → (e.end ≢ 0) × (e.end < d.start)
  ended_first e m = go (dec_lt d.start e.start)
    where
      go : Dec (d.start < e.start) → (e.end ≢ 0) × (e.end < d.start)
      go (yes l) =
          absurd
          (pairwise_across _ b (deq d ∷ c) timely (deq e) (deq d) m (inl refl) (one_at_a_time h w d e own (before (deq e) m) l))
      go (no l) =
          let n = pairwise_across _ b (deq d ∷ c) once (deq e) (deq d) m (inl refl) in
          one_at_a_time h w e d (before (deq e) m) own (omega arith)

  -- what the dequeues before it removed has been taken
  removed_taken : (g : Item) → RemovedBy b g → TakenBefore g.number d.end (calls h)
  removed_taken g r =
      let f = ended_first r.by r.member in
      let t = (dequeue_tells h w d own).forward ended in
      let a : r.by.answer ≡ item g.number g.value = elim
      r.removes [
        | inl e ↦ e
        | inr e ↦ absurd
            (subst (λ a. Gave a r.by.end h) e ((dequeue_tells h w r.by (before (deq r.by) r.member)).ended f.0))
      ] in
      record { by = r.by; value = g.value; member = before (deq r.by) r.member; gives = a; before = omega arith }

  -- an enqueue that stands after it did not end before it started
  not_behind : (y : Enqueue) → Precedes (enq y) (deq d) → Member (enq y) (deq d ∷ c) → ⊥
  not_behind y p (inl e) = enq_not_deq e
  not_behind y p (inr m) = all_at (λ a. Precedes a (deq d) → ⊥) c (pairwise_right _ b (deq d ∷ c) timely).0 (enq y) m p

  -- a dequeue that ended before it stands before it
  stands_first : (e : Dequeue) → Member (deq e) (calls h) → e.end ≢ 0 → e.end < d.end → Member (deq e) b
  stands_first e m z l =
      elim (kept (deq e) m z) [
        | inl k ↦ k
        | inr (inl q) ↦ absurd (let s = ap end_of q in omega arith)
        | inr (inr k) ↦ absurd (behind k (dec_lt d.start e.start))
      ]
    where
      behind : Member (deq e) c → Dec (d.start < e.start) → ⊥
      behind k (yes s) = let o = one_at_a_time h w d e own m s in let f = (dequeue_tells h w e m).forward z in omega arith
      behind k (no s) =
          let n = all_at (λ a. d.start ≢ start_of a) c (pairwise_right _ b (deq d ∷ c) once).0 (deq e) k in
          all_at (λ a. Precedes a (deq d) → ⊥) c (pairwise_right _ b (deq d ∷ c) timely).0 (deq e) k
          (one_at_a_time h w e d m own (omega arith))

  -- The run up to it, where q is what it finds.
  module _ (q : Queue) (turn : Gone [] b q) where
    gone_taken : (g : Item) → Member g turn.gone → TakenBefore g.number d.end (calls h)
    gone_taken g m = removed_taken g (all_at (RemovedBy b) turn.gone turn.removed_by g m)

    -- It gives the item of enqueue x; xs are the enqueues before that one, and their items are gone.
    module _ (n v : ℕ) (xs : List Enqueue) (x : Enqueue) (ys : List Enqueue) (parts : enqueues_of b ≡ xs ++ (x ∷ ys))
        (firsts : map item_of xs ≡ turn.gone) (is : item_of x ≡ record { number = n; value = v }) where
      stands : (y : Enqueue) → Member y (xs ++ (x ∷ ys)) → Member (enq y) b
      stands y m = in-calls b y (subst (Member y) (sym parts) m)

      there : Member (enq x) b
      there = stands x (in_right x xs (x ∷ ys) (inl refl))

      in_order : (R : Call → Call → Type 0) → Pairwise R (b ++ (deq d ∷ c)) → Pairwise (λ x y. R (enq x) (enq y)) (xs ++ (x ∷ ys))
      in_order R p = subst (Pairwise (λ x y. R (enq x) (enq y))) parts (pairwise_enqueues R b (pairwise_left R b (deq d ∷ c) p))

      not_twice : TakenBefore n d.end (calls h) → ⊥
      not_twice t =
          let e = t.by in
          let m = stands_first e t.member (answered_ended h w e t.member (λ q. item_not_nothing (sym t.gives ∙ q))) t.before in
          let r = from_map item_of _ xs (subst (Member _) (sym firsts) (turn.given e n t.value m t.gives)) in
          let k : Member r.0 (xs ++ (x ∷ ys)) = in_left r.0 xs (x ∷ ys) r.1 in
          let same = same_number h w r.0 x (before _ (stands r.0 k)) (before _ there)
          (ap (λ (i : Item). i.number) (sym r.2) ∙ ap (λ (i : Item). i.number) (sym is)) in
          pairwise_across _ xs (x ∷ ys) (in_order (λ a b. start_of a ≢ start_of b) once) r.0 x r.1 (inl refl)
          (ap (λ (y : Enqueue). y.start) same)

      firsts_taken : (y : Enqueue) → Member (enq y) (calls h) → Precedes (enq y) (enq x) → TakenBefore y.number d.end (calls h)
      firsts_taken y m p =
          elim (kept (enq y) m p.0) [
            | inl k ↦ within (in_either y xs (x ∷ ys) (subst (Member y) parts (enqueue_in b y k)))
            | inr k ↦ absurd (pairwise_across _ b (deq d ∷ c) timely (enq x) (enq y) there k p)
          ]
        where
          within : Member y xs ⊎ Member y (x ∷ ys) → TakenBefore y.number d.end (calls h)
          within (inl k) = gone_taken (item_of y) (subst (Member (item_of y)) firsts (in_map item_of y xs k))
          within (inr (inl e)) =
              absurd
              (let f = (enqueue_tells h w y m).forward p.0 in let s = ap (λ (z : Enqueue). z.start) e in let l = p.1 in omega arith)
          within (inr (inr k)) =
              absurd
              (all_at (λ z. Precedes (enq z) (enq x) → ⊥) ys
              (pairwise_right _ xs (x ∷ ys) (in_order (λ a b. Precedes b a → ⊥) timely)).0 y k p)

      gives_fairly : FairItem n v d.end (calls h)
      gives_fairly =
          let late = pairwise_across _ b (deq d ∷ c) timely (enq x) (deq d) there (inl refl) in
          let not_late : d.end < x.start → ⊥ = λ l. late (ended, l) in
          record {
            given = x;
            member = before (enq x) there;
            number_is = ap (λ (i : Item). i.number) is;
            value_is = ap (λ (i : Item). i.value) is;
            started = omega arith;
            untaken = not_twice;
            first = firsts_taken;
          }

    finds_none_fairly : q ≡ [] → FairEmpty d.start d.end (calls h)
    finds_none_fairly e y m z l =
        elim (kept (enq y) m z) [
          | inl k ↦ gone_taken (item_of y)
              (subst (Member (item_of y)) (turn.in_turn ∙ ap (λ r. turn.gone ++ r) e ∙ append-nil turn.gone)
              (in_map item_of y (enqueues_of b) (enqueue_in b y k)))
          | inr k ↦ absurd (not_behind y (z, l) k)
        ]

  fair : Fair d.answer d.start d.end (calls h)
  fair =
      let p = run_parts b (deq d ∷ c) [] left (subst (λ o. run [] o ≡ some left) split lin.runs) in
      let s = run_first (deq d) c p.0 left p.2 in
      go p.0 (fifo b [] p.0 p.1) s.0 d.answer s.1
    where
      go : (q : Queue) → Gone [] b q → (r : Queue) (a : Answer) → dequeue a q ≡ some r → Fair a d.start d.end (calls h)
      go q t r nothing e = tt
      go q t r (item n v) e =
          let s = split_map item_of (enqueues_of b) t.gone _ r (t.in_turn ∙ ap (λ z. t.gone ++ z) (gives_its_item n v q r e)) in
          gives_fairly q t n v s.0 s.1 s.2 s.3 s.4 s.5
      go q t r empty e = finds_none_fairly q t (finds_nothing q r e)

pub linearizable_is_orderly : (h : History) → well_formed h ≡ true → Linearizable h → Orderly (calls h)
linearizable_is_orderly h w l d m = go d.answer refl
  where
    lin : Linearization h l.0 l.1
    lin = l.2

    is_fair : d.answer ≢ nothing → Fair d.answer d.start d.end (calls h)
    is_fair f =
        let z = answered_ended h w d m f in
        let s = split_at (deq d) l.0 (all_at (λ a. end_of a ≢ 0 → Member a l.0) (calls h) lin.whole (deq d) m z) in
        fair h w l.0 l.1 lin d s.0 s.1 s.2 z

    go : (a : Answer) → d.answer ≡ a → Fair d.answer d.start d.end (calls h)
    go nothing e = subst (λ a. Fair a d.start d.end (calls h)) (sym e) tt
    go (item n v) e = is_fair (λ q. item_not_nothing (sym e ∙ q))
    go empty e = is_fair (λ q. empty_not_nothing (sym e ∙ q))

pub complete : (h : History) → well_formed h ≡ true → Linearizable h → Explained h
complete h w l = orderly_is_explained h w (linearizable_is_orderly h w l)
