-- The verdict of the pass is the criterion: `explains h` is true exactly when h is explained.
use Rattle.std.specs.Prelude.{◌≡◌, refl, ◌≢◌, ◌↔◌, true, List, [], ◌∷◌, ◌++◌, ℕ, ◌<◌}
use Rattle.std.proofs.Common.{sym, ap, subst, ◌∙◌, inl, inr, append_assoc, arith}
use Rattle.history.specs.Lists.{Pairwise, Member}
use Rattle.history.specs.Event.{History}
use Rattle.history.specs.Calls.{Answer, nothing, item, empty, Enqueue, Dequeue, Call, enq, deq, start_of, end_of, calls}
use Rattle.history.specs.Form.{well_formed}
use Rattle.history.specs.Linearization.{Precedes}
use Rattle.criterion.specs.Explained.{Explained}
use Rattle.criterion.specs.Members.{all_at, in_left, in_right, in_either, in_snoc, pairwise_across, pairwise_right}
use Rattle.criterion.specs.Entering.{same_deq, enq_not_deq}
use Rattle.criterion.specs.Tidy.{enqueue_tells, dequeue_tells}
use Rattle.criterion.specs.Apart.{starts_rise, same_number, one_at_a_time}
use Rattle.criterion.specs.Fair.{TakenBefore, Fair, Orderly}
use Rattle.criterion.specs.Orderly.{answered_ended, item_not_nothing, item_not_empty, empty_not_nothing, explained_is_orderly, orderly_is_explained}
use Rattle.criterion.specs.Found.{look_finds}
use Rattle.criterion.specs.Pass.{answering, passes, explains}
use Rattle.criterion.specs.Marks.{Short, Marks, leaves_is, is_leaves, marks_both, giving_is, is_giving}

-- a dequeue among some calls gave item n
record Given (n : ℕ) (b : List Call) : Type 0 where
  by : Dequeue
  value : ℕ
  member : Member (deq by) b
  gives : by.answer ≡ item n value

-- the numbers given by the calls b
abbrev Known : List ℕ → List Call → Type 0
Known given b = (n : ℕ) → (Member n given → Given n b) × (Given n b → Member n given)

given_on : {n : ℕ} {b : List Call} (c : Call) → Given n b → Given n (b ++ (c ∷ []))
given_on {b = b} c g = record { by = g.by; value = g.value; member = in_left _ b (c ∷ []) g.member; gives = g.gives }

gives_no_item :
    (d : Dequeue) (a : Answer) → d.answer ≡ a → ((n v : ℕ) → a ≡ item n v → ⊥) → (b : Dequeue) (n v : ℕ) → deq b ≡ deq d
    → b.answer ≡ item n v → ⊥
gives_no_item d a q f b n v e p = f n v (sym q ∙ ap (λ (z : Dequeue). z.answer) (sym (same_deq e)) ∙ p)

known_more :
    (given : List ℕ) (b : List Call) (c : Call) → ((d : Dequeue) (n v : ℕ) → deq d ≡ c → d.answer ≡ item n v → ⊥)
    → Known given b → Known given (b ++ (c ∷ []))
known_more given b c f k n = (
  λ m. given_on c ((k n).0 m),
  λ g. elim (in_snoc (deq g.by) b c g.member) [
    | inl m ↦ (k n).1 (record { by = g.by; value = g.value; member = m; gives = g.gives })
    | inr e ↦ absurd
        (f g.by n g.value e g.gives)
  ],
)

same_number_given : (n v m w : ℕ) → item n v ≡ item m w → n ≡ m
same_number_given n v m w e = cc

known_given :
    (given : List ℕ) (b : List Call) (d : Dequeue) (n v : ℕ) → d.answer ≡ item n v → Known given b
    → Known (n ∷ given) (b ++ (deq d ∷ []))
known_given given b d n v a k i = (
  λ m. elim m [
    | inl e ↦ record { by = d; value = v; member = in_right _ b (deq d ∷ []) (inl refl); gives = a ∙ ap (λ j. item j v) (sym e) }
    | inr l ↦ given_on (deq d) ((k i).0 l)
  ],
  λ g. elim (in_snoc (deq g.by) b (deq d) g.member) [
    | inl m ↦ inr ((k i).1 (record { by = g.by; value = g.value; member = m; gives = g.gives }))
    | inr e ↦ inl (same_number_given _ _ _ _ (sym g.gives ∙ ap (λ (z : Dequeue). z.answer) (same_deq e) ∙ a))
  ],
)

module _ (h : History) (w : well_formed h ≡ true) where
  -- Where dequeue d stands, the calls before it are those that ended before it did.
  module _ (b l : List Call) (d : Dequeue) (split : calls h ≡ b ++ (deq d ∷ l)) (ended : d.end ≢ 0) where
    own : Member (deq d) (calls h)
    own = subst (Member (deq d)) (sym split) (in_right (deq d) b (deq d ∷ l) (inl refl))

    rising : Pairwise (λ a c. start_of a < start_of c) (b ++ (deq d ∷ l))
    rising = subst (Pairwise (λ a c. start_of a < start_of c)) split (starts_rise h w)

    given_taken : (n : ℕ) → Given n b → TakenBefore n d.end (calls h)
    given_taken n g =
        let m = subst (Member (deq g.by)) (sym split) (in_left (deq g.by) b (deq d ∷ l) g.member) in
        let s = pairwise_across _ b (deq d ∷ l) rising (deq g.by) (deq d) g.member (inl refl) in
        let e = one_at_a_time h w g.by d m own s in
        let f = (dequeue_tells h w d own).forward ended in
        record { by = g.by; value = g.value; member = m; gives = g.gives; before = omega arith }

    taken_given : (n : ℕ) → TakenBefore n d.end (calls h) → Given n b
    taken_given n t =
        elim (in_either (deq t.by) b (deq d ∷ l) (subst (Member (deq t.by)) split t.member)) [
          | inl m ↦ record { by = t.by; value = t.value; member = m; gives = t.gives }
          | inr m ↦ absurd (late m)
        ]
      where
        late : Member (deq t.by) (deq d ∷ l) → ⊥
        late (inl e) = let s = ap end_of e in let f = t.before in omega arith
        late (inr m) =
            let s = all_at (λ a. d.start < start_of a) l (pairwise_right _ b (deq d ∷ l) rising).0 (deq t.by) m in
            let e = one_at_a_time h w d t.by own t.member s in
            let z = answered_ended h w t.by t.member (λ q. item_not_nothing (sym t.gives ∙ q)) in
            let f = (dequeue_tells h w t.by t.member).forward z in
            let k = t.before in
            omega arith

  -- A pass that succeeds has given whatever ended before the mark.
  marked : (l : List Call) (mark : ℕ) (given : List ℕ) → passes (calls h) l mark given ≡ true → Marks (calls h) mark given
  marked [] mark given e = leaves_is mark given (calls h) e
  marked (enq x ∷ l) mark given e = marked l mark given e
  marked (deq d ∷ l) mark given e = λ y m s. go y m s d.answer e (marked l)
    where
      go :
          (y : Enqueue) → Member (enq y) (calls h) → Short mark y → (a : Answer)
          → answering (calls h) a d.start d.end mark given (passes (calls h) l) ≡ true
          → ((i : ℕ) (g : List ℕ) → passes (calls h) l i g ≡ true → Marks (calls h) i g) → Member y.number given
      go y m s nothing e ih = ih mark given e y m s
      go y m s (item n v) e ih =
          let r = giving_is (calls h) n v d.end mark given (passes (calls h) l) e in
          elim (ih _ _ r.2 y m (s.0, let q = s.1 in omega arith)) [
            | inl q ↦ absurd (r.1.not_short
                (subst (Short mark) (same_number h w y r.0 m r.1.member (q ∙ sym r.1.number_is)) s))
            | inr k ↦ k
          ]
      go y m s empty e ih = ih _ _ e y m (s.0, let q = s.1 in omega arith)

  not_itself : (x y : Enqueue) → Member (enq x) (calls h) → Member (enq y) (calls h) → x.number ≡ y.number → Precedes (enq x) (enq y) → ⊥
  not_itself x y m n e p =
      let f = (enqueue_tells h w x m).forward p.0 in
      let s = ap (λ (z : Enqueue). z.start) (same_number h w x y m n e) in
      let l = p.1 in
      omega arith

  -- One answer: it is fair, and the pass goes on with what is then known.
  abbrev FairOn : (b l : List Call) → Dequeue → Answer → Type 0
  FairOn b l d a =
      Fair a d.start d.end (calls h) ×
      ((i : ℕ) × (g : List ℕ) × Known g (b ++ (deq d ∷ [])) × (passes (calls h) l i g ≡ true))

  answers_fairly :
      (b l : List Call) (d : Dequeue) → calls h ≡ b ++ (deq d ∷ l) → (mark : ℕ) (given : List ℕ) → Known given b
      → answering (calls h) d.answer d.start d.end mark given (passes (calls h) l) ≡ true → FairOn b l d d.answer
  answers_fairly b l d split mark given k e = go d.answer refl e
    where
      ended : (a : Answer) → d.answer ≡ a → a ≢ nothing → d.end ≢ 0
      ended a q f =
          answered_ended h w d (subst (Member (deq d)) (sym split) (in_right (deq d) b (deq d ∷ l) (inl refl)))
          (λ p. f (sym q ∙ p))

      go : (a : Answer) → d.answer ≡ a → answering (calls h) a d.start d.end mark given (passes (calls h) l) ≡ true → FairOn b l d a
      go nothing q e = (tt, (mark, given, known_more given b (deq d) (gives_no_item d nothing q (λ n v p. item_not_nothing (sym p))) k, e))
      go (item n v) q e =
          let z = ended (item n v) q item_not_nothing in
          let r = giving_is (calls h) n v d.end mark given (passes (calls h) l) e in
          let g = r.1 in (
            record {
              given = r.0;
              member = g.member;
              number_is = g.number_is;
              value_is = g.value_is;
              started = g.started;
              untaken = λ t. g.new ((k n).1 (taken_given b l d split z n t));
              first =
                  λ y m p.
                  given_taken b l d split z y.number
                  (elim (marked l _ _ r.2 y m (p.0, let s = p.1 in omega arith))
                  [ inl s ↦ absurd (not_itself y r.0 m g.member (s ∙ sym g.number_is) p) | inr s ↦ (k y.number).0 s ]);
            },
            (_, _, known_given given b d n v q k, r.2),
          )
      go empty q e =
          let z = ended empty q empty_not_nothing in (
            λ y m f s. given_taken b l d split z y.number ((k y.number).0 (marked l _ _ e y m (f, omega arith))),
            (_, _, known_more given b (deq d) (gives_no_item d empty q (λ n v p. item_not_empty (sym p))) k, e),
          )

  fair_on :
      (b l : List Call) → calls h ≡ b ++ l → (mark : ℕ) (given : List ℕ) → Known given b → passes (calls h) l mark given ≡ true
      → (d : Dequeue) → Member (deq d) l → Fair d.answer d.start d.end (calls h)
  fair_on b (enq x ∷ l) split mark given k e d (inl q) = absurd (enq_not_deq (sym q))
  fair_on b (enq x ∷ l) split mark given k e d (inr m) =
      fair_on (b ++ (enq x ∷ [])) l (rw append_assoc split) mark given
      (known_more given b (enq x) (λ d n v q p. enq_not_deq (sym q)) k) e d m
  fair_on b (deq c ∷ l) split mark given k e d (inl q) =
      subst (λ z. Fair z.answer z.start z.end (calls h)) (sym (same_deq q)) (answers_fairly b l c split mark given k e).0
  fair_on b (deq c ∷ l) split mark given k e d (inr m) =
      let r = (answers_fairly b l c split mark given k e).1 in
      fair_on (b ++ (deq c ∷ [])) l (rw append_assoc split) r.0 r.1 r.2 r.3 d m
  fair_on b [] split mark given k e d m = elim m [ ]

  -- The other way round: where every dequeue is fair, the pass succeeds.
  pass_on_lem :
      Orderly (calls h) → (b l : List Call) → calls h ≡ b ++ l → (mark : ℕ) (given : List ℕ) → Known given b
      → Marks (calls h) mark given → passes (calls h) l mark given ≡ true
  pass_on_lem o b [] split mark given k t = is_leaves mark given (calls h) t
  pass_on_lem o b (enq x ∷ l) split mark given k t =
      pass_on_lem o (b ++ (enq x ∷ [])) l (rw append_assoc split) mark given (known_more given b (enq x) (λ d n v q p. enq_not_deq (sym q)) k) t
  pass_on_lem o b (deq d ∷ l) split mark given k t =
      go d.answer refl (o d own-member) (pass_on_lem o (b ++ (deq d ∷ [])) l (rw append_assoc split))
    where
      own-member : Member (deq d) (calls h)
      own-member = subst (Member (deq d)) (sym split) (in_right (deq d) b (deq d ∷ l) (inl refl))

      known : (a : Answer) → d.answer ≡ a → a ≢ nothing → (n : ℕ) → TakenBefore n d.end (calls h) → Member n given
      known a q f n r = (k n).1 (taken_given b l d split (answered_ended h w d own-member (λ p. f (sym q ∙ p))) n r)

      go :
          (a : Answer) → d.answer ≡ a → Fair a d.start d.end (calls h)
          → ((i : ℕ) (g : List ℕ) → Known g (b ++ (deq d ∷ [])) → Marks (calls h) i g → passes (calls h) l i g ≡ true)
          → answering (calls h) a d.start d.end mark given (passes (calls h) l) ≡ true
      go nothing q f ih = ih mark given (known_more given b (deq d) (gives_no_item d nothing q (λ n v p. item_not_nothing (sym p))) k) t
      go (item n v) q f ih =
          let z = answered_ended h w d own-member (λ p. item_not_nothing (sym q ∙ p)) in
          let new : Member n given → ⊥ = λ m. f.untaken (given_taken b l d split z n ((k n).0 m)) in
          is_giving (calls h) n v d.end mark given (passes (calls h) l) f.given
          (look_finds n f.given (calls h) f.member f.number_is
          (λ y m e. same_number h w y f.given m f.member (e ∙ sym f.number_is)))
          (record {
            member = f.member;
            number_is = f.number_is;
            value_is = f.value_is;
            new = new;
            started = f.started;
            not_short = λ s. new (subst (λ i. Member i given) f.number_is (t f.given f.member s));
          })
          (ih _ _ (known_given given b d n v q k)
          (marks_both (calls h) mark f.given.start (n ∷ given) (λ y m s. inr (t y m s))
          (λ y m s. inr (known (item n v) q item_not_nothing y.number (f.first y m s)))))
      go empty q f ih = ih _ _ (known_more given b (deq d) (gives_no_item d empty q (λ n v p. item_not_empty (sym p))) k)
          (marks_both (calls h) mark d.start given t (λ y m s. known empty q empty_not_nothing y.number (f y m s.0 s.1)))

-- Nothing is known before the first call, and no enqueue ended before event 0.
nothing_known : Known [] []
nothing_known n = (λ m. absurd m, λ g. absurd g.member)

nothing_marked : (cs : List Call) → Marks cs 0 []
nothing_marked cs y m s = absurd (let l = s.1 in omega arith)

pub explains_is : (h : History) → well_formed h ≡ true → (explains h ≡ true) ↔ Explained h
unfolding explains
explains_is h w = (
  λ e. orderly_is_explained h w (fair_on h w [] (calls h) refl 0 [] nothing_known e),
  λ x. pass_on_lem h w (explained_is_orderly h w x) [] (calls h) refl 0 [] nothing_known (nothing_marked (calls h)),
)
