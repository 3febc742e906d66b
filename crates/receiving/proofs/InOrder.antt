-- The answered dequeues of a linearization are those of the history, in the same order: of two dequeues the one that started earlier had
-- ended before the other started, so every linearization has them by rising start.
use Rattle.std.specs.Prelude.{◌≡◌, refl, ◌≢◌, true, List, [], ◌∷◌, ◌++◌, ◌<◌}
use Rattle.std.proofs.Common.{sym, ap, ap₂, ◌∙◌, inl, inr, arith}
use Rattle.std.proofs.Math.Decide.{dec_lt}
use Rattle.history.specs.Lists.{Pairwise, Member}
use Rattle.history.specs.Event.{History}
use Rattle.history.specs.Calls.{Answer, nothing, item, empty, Dequeue, Call, enq, deq, start_of, end_of, calls}
use Rattle.history.specs.Form.{well_formed}
use Rattle.history.specs.Linearization.{Item, Queue, Precedes, Linearization}
use Rattle.criterion.specs.Parts.{gather, if_answered, dequeues_of}
use Rattle.criterion.specs.Members.{all_at, pairwise_both, pairwise_with}
use Rattle.criterion.specs.Found.{of_calls, answered_in, pairwise_dequeues}
use Rattle.criterion.specs.Orderly.{answered_ended}
use Rattle.criterion.specs.Apart.{starts_rise, one_at_a_time}
use Rattle.receiving.specs.Statement.{answered, items_answered, GivenInOrder}
use Rattle.receiving.proofs.Answers.{answers_of_calls}

-- Two lists of dequeues by rising start that have the same members are the same.
abbrev Rising : List Dequeue → Type 0
Rising = Pairwise (λ d b. d.start < b.start)

abbrev Among : (ds bs : List Dequeue) → Type 0
Among ds bs = (d : Dequeue) → Member d ds → Member d bs

-- the members behind the first of both
among_rest : (d b : Dequeue) (ds bs : List Dequeue) → d ≡ b → Rising (d ∷ ds) → Among (d ∷ ds) (b ∷ bs) → Among ds bs
among_rest d b ds bs e p f a m =
    elim (f a (inr m)) [
      | inl q ↦ absurd (let l = all_at (λ a. d.start < a.start) ds p.0 a m in let s = ap (λ (z : Dequeue). z.start) (q ∙ sym e) in omega arith)
      | inr n ↦ n
    ]

same_first : (d b : Dequeue) (ds bs : List Dequeue) → Rising (d ∷ ds) → Rising (b ∷ bs) → Member d (b ∷ bs) → Member b (d ∷ ds) → d ≡ b
same_first d b ds bs p q (inl e) n = e
same_first d b ds bs p q (inr m) (inl e) = sym e
same_first d b ds bs p q (inr m) (inr n) =
    let k = all_at (λ a. b.start < a.start) bs q.0 d m in
    let l = all_at (λ a. d.start < a.start) ds p.0 b n in
    absurd (omega arith)

same_list : (ds bs : List Dequeue) → Rising ds → Rising bs → Among ds bs → Among bs ds → ds ≡ bs
same_list [] [] p q f g = refl
same_list [] (b ∷ bs) p q f g = absurd (g b (inl refl))
same_list (d ∷ ds) [] p q f g = absurd (f d (inl refl))
same_list (d ∷ ds) (b ∷ bs) p q f g =
    let e : d ≡ b = same_first d b ds bs p q (f d (inl refl)) (g b (inl refl)) in
    ap₂ (λ (x : Dequeue) (xs : List Dequeue). x ∷ xs) e (same_list ds bs p.1 q.1 (among_rest d b ds bs e p f) (among_rest b d bs ds (sym e) q g))

-- the answers by the answered dequeues
abbrev answers_of : List Dequeue → List Item
answers_of ds = gather (λ d. answered d.answer) ds

answers_are : (cs : List Call) → items_answered cs ≡ answers_of (dequeues_of cs)
answers_are [] = refl
answers_are (enq x ∷ cs) = answers_are cs
answers_are (deq d ∷ cs) = go d.answer refl (answers_are cs)
  where
    go : (a : Answer) → d.answer ≡ a → items_answered cs ≡ answers_of (dequeues_of cs) → answered a ++ items_answered cs ≡ answers_of (if_answered a d ++ dequeues_of cs)
    go nothing e ih = ih
    go (item n v) e ih = rw (e, ih)
    go empty e ih = rw (e, ih)

module _ (h : History) (w : well_formed h ≡ true) (order : List Call) (left : Queue) (lin : Linearization h order left) where
  own : (d : Dequeue) → Member (deq d) order → Member (deq d) (calls h)
  own d = all_at (λ c. Member c (calls h)) order lin.theirs (deq d)

  -- of two dequeues of the order the earlier one started first
  abbrev Apart : Call → Call → Type 0
  Apart a b = (start_of a ≢ start_of b) × (Precedes b a → ⊥)

  order_rises : Rising (dequeues_of order)
  order_rises =
      pairwise_with (λ d b. Apart (deq d) (deq b)) (λ d b. d.start < b.start) (dequeues_of order)
      (pairwise_dequeues Apart order (pairwise_both (λ a b. start_of a ≢ start_of b) (λ a b. Precedes b a → ⊥) order lin.once lin.timely))
      (λ d b m n r. go d b (own d (of_calls order d m).0) (own b (of_calls order b n).0) r (dec_lt b.start d.start))
    where
      go : (d b : Dequeue) → Member (deq d) (calls h) → Member (deq b) (calls h) → Apart (deq d) (deq b) → Dec (b.start < d.start) → d.start < b.start
      go d b m n r (yes l) = absurd (r.1 (one_at_a_time h w b d n m l))
      go d b m n r (no l) = let e : d.start ≢ b.start = r.0 in omega arith

  same_dequeues : dequeues_of order ≡ dequeues_of (calls h)
  same_dequeues =
      same_list (dequeues_of order) (dequeues_of (calls h)) order_rises (pairwise_dequeues (λ a b. start_of a < start_of b) (calls h) (starts_rise h w))
      (λ d m. let r = of_calls order d m in answered_in (calls h) d (own d r.0) r.1)
      (λ d m.
      let r = of_calls (calls h) d m in
      answered_in order d (all_at (λ c. end_of c ≢ 0 → Member c order) (calls h) lin.whole (deq d) r.0 (answered_ended h w d r.0 r.1)) r.1)

pub given_in_order : GivenInOrder
given_in_order h order left w lin =
    answers_are order
    ∙ ap answers_of (same_dequeues h w order left lin)
    ∙ sym (answers_are (calls h))
    ∙ answers_of_calls h w
