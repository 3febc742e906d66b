-- One order in which items may be left: those of the enqueues that have ended and were not taken, in the order of their starts.
use Rattle.std.specs.Prelude.{◌≡◌, refl, ◌≢◌, Bool, true, false, ◌||◌, cond, List, [], ◌∷◌, map, ℕ, ◌<◌, eqb}
use Rattle.std.proofs.Common.{sym, subst₂, ◌∙◌, inl, inr, true≢false, arith, eqb-true, eq-eqb, ne_eqb}
use Rattle.std.proofs.Math.Path.{ap, subst}
use Rattle.std.proofs.lemmas.Bool.{false≢true, eqb-false}
use Rattle.history.specs.Lists.{Pairwise, Member}
use Rattle.history.specs.Event.{History}
use Rattle.history.specs.Calls.{Answer, nothing, item, empty, Enqueue, Call, enq, deq, start_of, calls}
use Rattle.history.specs.Form.{any, well_formed}
use Rattle.criterion.specs.Explained.{Started, Ended, Taken, EndedBefore, Rest}
use Rattle.criterion.specs.Parts.{item_of, is_number, gives}
use Rattle.criterion.specs.Members.{all_of, in_map, from_map, pairwise_map, pairwise_with, in_gather, from_gather, pairwise_gather}
use Rattle.criterion.specs.Following.{any_of, any_at}
use Rattle.criterion.specs.Times.{at_most, started_when, when_started, ended_when, taken_when, when_taken}
use Rattle.criterion.specs.Tidy.{enqueue_tells, enqueue_of_start, enqueue_of_end, dequeue_of_end}
use Rattle.criterion.specs.Apart.{starts_rise, same_number, ends_precedes}
use Rattle.criterion.specs.Order.{if_left, remain, remaining}
use Rattle.criterion.specs.Orderly.{gave_when, item_not_nothing}

is_number_lem : (n : ℕ) (a : Answer) → is_number n a ≡ true → (v : ℕ) × (a ≡ item n v)
is_number_lem n nothing e = absurd (false≢true e)
is_number_lem n (item m v) e = (v, ap (λ k. item k v) (eqb-true m n e))
is_number_lem n empty e = absurd (false≢true e)

module _ (h : History) (w : well_formed h ≡ true) where
  pub taken_given : (n : ℕ) → Taken n h → any (gives n) (calls h) ≡ true
  taken_given n t =
      let r = taken_when n h t in
      let d = dequeue_of_end r.time (item n r.which) h w r.there in
      any_of (gives n) (calls h) (deq d.0) d.1 (rw d.3 (eq-eqb n n refl))

  pub given_taken : (n : ℕ) → any (gives n) (calls h) ≡ true → Taken n h
  given_taken n e = let r = any_at (gives n) (calls h) e in at r.0 r.1 r.2
    where
      at : (c : Call) → Member c (calls h) → gives n c ≡ true → Taken n h
      at (enq x) m g = absurd (false≢true g)
      at (deq d) m g =
          let r = is_number_lem n d.answer g in
          when_taken _ n r.0 h (gave_when h w d m (item n r.0) r.1 item_not_nothing)

-- an enqueue left
abbrev IsLeft : List Call → Call → Enqueue → Type 0
IsLeft cs c x = (c ≡ enq x) × (x.end ≢ 0) × (any (gives x.number) cs ≡ false)

is_left : (cs : List Call) (c : Call) (x : Enqueue) → Member x (if_left cs c) → IsLeft cs c x
is_left cs (enq y) x m = go (eqb y.end 0) (any (gives y.number) cs) refl refl m
  where
    go : (a b : Bool) → eqb y.end 0 ≡ a → any (gives y.number) cs ≡ b → Member x (cond (a || b) [] (y ∷ [])) → IsLeft cs (enq y) x
    go true b p q k = absurd k
    go false true p q k = absurd k
    go false false p q (inl e) = (
      ap enq (sym e),
      λ z. eqb-false _ _ p (ap (λ (z : Enqueue). z.end) (sym e) ∙ z),
      subst (λ z. any (gives z.number) cs ≡ false) (sym e) q,
    )
    go false false p q (inr m) = elim m [ ]
is_left cs (deq _) x m = elim m [ ]

is_one : (cs : List Call) (R : Enqueue → Enqueue → Type 0) (c : Call) → Pairwise R (if_left cs c)
is_one cs R (enq x) = go (eqb x.end 0 || any (gives x.number) cs)
  where
    go : (b : Bool) → Pairwise R (cond b [] (x ∷ []))
    go true = tt
    go false = (tt, tt)
is_one cs R (deq d) = tt

module _ (h : History) (w : well_formed h ≡ true) where
  abbrev lefts : List Enqueue
  lefts = remain (calls h)

  lefts_from : (x : Enqueue) → Member x lefts → Member (enq x) (calls h) × (x.end ≢ 0) × (Taken x.number h → ⊥)
  lefts_from x m =
      let r = from_gather (if_left (calls h)) x (calls h) m in
      let e = is_left (calls h) r.0 x r.2 in
      (subst (λ c. Member c (calls h)) e.0 r.1, e.1, λ t. true≢false (sym (taken_given h w x.number t) ∙ e.2))

  pub remain_from : (x : Enqueue) → Member x lefts → Member (enq x) (calls h)
  remain_from x m = (lefts_from x m).0

  in-lefts : (x : Enqueue) → Member (enq x) (calls h) → x.end ≢ 0 → (Taken x.number h → ⊥) → Member x lefts
  in-lefts x m z f = in_gather (if_left (calls h)) (enq x) x (calls h) m (go (any (gives x.number) (calls h)) refl)
    where
      go : (b : Bool) → any (gives x.number) (calls h) ≡ b → Member x (if_left (calls h) (enq x))
      go true e = absurd (f (given_taken h w x.number e))
      go false e = rw (ne_eqb x.end 0 z, e) (inl refl)

  by_start : Pairwise (λ x y. x.start < y.start) lefts
  by_start =
      pairwise_gather (λ a b. start_of a < start_of b) (λ x y. x.start < y.start) (if_left (calls h)) (calls h)
      (starts_rise h w) (is_one (calls h) (λ x y. x.start < y.start))
      (λ a c x y l m n. subst₂ (λ a c. start_of a < start_of c) (is_left (calls h) a x m).0 (is_left (calls h) c y n).0 l)

  -- every ended one that was not taken is there
  has_all : (n v : ℕ) → Started n v h → Ended n h → (Taken n h → ⊥) → Member (record { number = n; value = v }) (map item_of lefts)
  has_all n v s e f =
      let a = started_when n v h s in
      let x = enqueue_of_start a.time a.which n v h a.there in
      let b = ended_when n h e in
      let c = at_most _ _ h b.there in
      let y = enqueue_of_end b.time _ n _ h w b.there in
      let ends = y.2 in
      let same = same_number h w y.0 _ y.1 x.1 y.3 in
      let m : Member y.0 lefts = in-lefts y.0 y.1 (λ z. omega arith) (λ t. f (subst (λ k. Taken k h) y.3 t)) in
      in_map item_of _ lefts (subst (λ z. Member z lefts) same m)

  pub some_rest : Rest h (remaining h)
  unfolding remaining
  some_rest =
      record {
        untaken =
            all_of _ (map item_of lefts)
            (λ i m.
            let r = from_map item_of i lefts m in
            let l = lefts_from r.0 r.1 in
            subst (λ j. Started j.number j.value h × (Taken j.number h → ⊥)) (sym r.2)
            (when_started _ _ _ _ h (enqueue_tells h w r.0 l.0).started, l.2));
        complete = has_all;
        distinct =
            pairwise_map (λ i j. i.number ≢ j.number) (λ x y. x.number ≢ y.number) item_of lefts (λ x y f. f)
            (pairwise_with (λ x y. x.start < y.start) _ lefts by_start
            (λ x y m n l e. let same = ap (λ (z : Enqueue). z.start)
            (same_number h w x y (lefts_from x m).0 (lefts_from y n).0 e) in omega arith));
        in_order =
            pairwise_map (λ i j. EndedBefore j.number i.number h → ⊥)
            (λ x y. EndedBefore y.number x.number h → ⊥) item_of lefts (λ x y f. f)
            (pairwise_with (λ x y. x.start < y.start) _ lefts by_start
            (λ x y m n l e.
            let a = lefts_from y n in
            let p = ends_precedes h w y x a.0 (lefts_from x m).0 e in
            let f = (enqueue_tells h w y a.0).forward a.1 in
            omega arith));
      }
