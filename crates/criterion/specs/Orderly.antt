-- A well-formed history is explained exactly when its calls are orderly: the facts of each moment of the history, and the calls
-- of the whole.
use Rattle.std.specs.Prelude.{◌≡◌, refl, ◌≢◌, true, [], ◌∷◌, ℕ, suc, ◌≤◌, ◌<◌, length}
use Rattle.std.proofs.Common.{sym, ap, subst, subst₂, ◌∙◌, inl, inr, arith}
use Rattle.history.specs.Lists.{Member}
use Rattle.history.specs.Event.{Event, History, enqueue_started, enqueue_ended, dequeue_started, gave_item, gave_empty}
use Rattle.history.specs.Calls.{Answer, nothing, item, empty, Enqueue, Dequeue, deq, calls}
use Rattle.history.specs.Form.{well_formed}
use Rattle.criterion.specs.Explained.{Started, Taken, MayGive, MayBeEmpty, Explained}
use Rattle.criterion.specs.Fair.{TakenBefore, FairItem, FairEmpty, Fair, Orderly}
use Rattle.criterion.specs.Times.{At, at_most, at_same, ◌⊑◌, now, later, earlier, at_later, at_earlier, EndBefore, started_when, when_started, taken_when, when_taken, start_of_number, before_when, when_before, asked_at, before_dequeue_when, when_before_dequeue}
use Rattle.criterion.specs.Tidy.{Gave, enqueue_tells, dequeue_tells, enqueue_of_start, enqueue_of_end, dequeue_of_start, dequeue_of_end}
use Rattle.criterion.specs.Apart.{same_number, none_meanwhile}

-- an answered dequeue has ended
pub answered_ended : (h : History) → well_formed h ≡ true → (d : Dequeue) → Member (deq d) (calls h) → d.answer ≢ nothing → d.end ≢ 0
answered_ended h w d m f z = f ((dequeue_tells h w d m).unanswered z)

pub item_not_nothing : {n v : ℕ} → item n v ≡ nothing → ⊥
item_not_nothing e = let z : ◌≡◌ {A = ℕ} 0 1 = cc in omega arith

pub item_not_empty : {n v : ℕ} → item n v ≡ empty → ⊥
item_not_empty e = let z : ◌≡◌ {A = ℕ} 0 1 = cc in omega arith

pub empty_not_nothing : empty ≡ nothing → ⊥
empty_not_nothing e = let z : ◌≡◌ {A = ℕ} 0 1 = cc in omega arith

pub gave_when :
    (h : History) → well_formed h ≡ true → (d : Dequeue) → Member (deq d) (calls h) → (a : Answer) → d.answer ≡ a → a ≢ nothing
    → Gave a d.end h
gave_when h w d m a e f = subst (λ b. Gave b d.end h) e ((dequeue_tells h w d m).ended (answered_ended h w d m (λ q. f (sym e ∙ q))))

start_no_gift : (k t n v m w : ℕ) (h : History) → At k (enqueue_started t n v) h → At k (gave_item m w) h → ⊥
start_no_gift k t n v m w h a b = let e = at_same k _ _ h a b in let z : ◌≡◌ {A = ℕ} 0 1 = cc in omega arith

-- The facts of an earlier moment g, told by the calls of the whole history.
module _ (h : History) (w : well_formed h ≡ true) (g : History) (s : g ⊑ h) where
  taken_before : (m : ℕ) → Taken m g → TakenBefore m (suc (length g)) (calls h)
  taken_before m t =
      let r = taken_when m g t in
      let d = dequeue_of_end r.time (item m r.which) h w (at_later s _ _ r.there) in
      let b = at_most _ _ g r.there in
      let e = d.2 in
      record { by = d.0; value = r.which; member = d.1; gives = d.3; before = omega arith }

  before_taken : (m : ℕ) → TakenBefore m (suc (length g)) (calls h) → Taken m g
  before_taken m t =
      when_taken _ m t.value g
      (at_earlier s _ _ (gave_when h w t.by t.member (item m t.value) t.gives item_not_nothing)
      (let l = t.before in omega arith))

  -- an item given fairly
  gives_fairly : (n v : ℕ) → MayGive n v g → FairItem n v (suc (length g)) (calls h)
  gives_fairly n v r =
      let a = started_when n v g r.is_started in
      let b = at_most _ _ g a.there in
      let x = enqueue_of_start a.time a.which n v h (at_later s _ _ a.there) in
      record {
        given = _;
        member = x.1;
        number_is = refl;
        value_is = refl;
        started = omega arith;
        untaken = λ t. r.is_untaken (before_taken n t);
        first =
            λ y m p.
            taken_before y.number
            (r.is_first y.number
            (when_before y.end _ _ _ a.time _ _ _ g (at_earlier s _ _ ((enqueue_tells h w y m).ended p.0) (let q =
            p.1 in omega arith)) a.there p.1));
      }

  may_give : (n v : ℕ) → At (suc (length g)) (gave_item n v) h → FairItem n v (suc (length g)) (calls h) → MayGive n v g
  may_give n v e r =
      let x = enqueue_tells h w r.given r.member in
      let apart : r.given.start ≢ suc (length g) = λ q. start_no_gift _ _ _ _ _ _ h x.started
      (subst (λ k. At k (gave_item n v) h) (sym q) e) in
      let l = r.started in
      record {
        is_started =
            subst (λ k. Started k v g) r.number_is
            (subst (λ k. Started r.given.number k g) r.value_is
            (when_started _ _ _ _ g (at_earlier s _ _ x.started (omega arith))));
        is_untaken = λ t. r.untaken (taken_before n t);
        is_first = λ m q. first m (before_when m n g q);
      }
    where
      first : (m : ℕ) → EndBefore m (start_of_number n) g → Taken m g
      first m q =
          let y = enqueue_of_end q.first.time _ m _ h w (at_later s _ _ q.first.there) in
          let z = enqueue_of_start q.second.time _ n _ h (at_later s _ _ q.second.there) in
          let same = same_number h w _ r.given z.1 r.member (sym r.number_is) in
          let began : q.second.time ≡ r.given.start = ap (λ (x : Enqueue). x.start) same in
          let b = at_most _ _ g q.first.there in
          let l = q.in_order in
          let ends = y.2 in
          before_taken m (subst (λ k. TakenBefore k (suc (length g)) (calls h)) y.3
          (r.first y.0 y.1 (λ o. omega arith, omega arith)))

  -- a dequeue that found nothing, fairly, with its record
  module _ (d : Dequeue) (member : Member (deq d) (calls h)) (ends : d.end ≡ suc (length g)) where
    is_empty_fairly : MayBeEmpty g → FairEmpty d.start (suc (length g)) (calls h)
    is_empty_fairly r y m z l =
        let b = dequeue_tells h w d member in
        let f : d.start < d.end = b.forward (λ o. omega arith) in
        taken_before y.number
        (r y.number
        (when_before_dequeue y.end _ _ _ d.start g (at_earlier s _ _ ((enqueue_tells h w y m).ended z) (omega arith))
        (at_earlier s _ _ b.started (omega arith)) l))

    may_be_empty : FairEmpty d.start (suc (length g)) (calls h) → MayBeEmpty g
    may_be_empty r m q = at (before_dequeue_when m g q)
      where
        at : EndBefore m asked_at g → Taken m g
        at p =
            let y = enqueue_of_end p.first.time _ m _ h w (at_later s _ _ p.first.there) in
            let b = dequeue_of_start p.second.time h (at_later s _ _ p.second.there) in
            let c = at_most _ _ g p.first.there in
            let c' = at_most _ _ g p.second.there in
            let l = p.in_order in
            let e = y.2 in
            let f = b.2 in
            let near : b.0.start ≤ d.start = none_meanwhile h w d b.0 member b.1 (omega arith) in
            before_taken m (subst (λ k. TakenBefore k (suc (length g)) (calls h)) y.3 (r y.0 y.1 (λ o. omega arith) (omega arith)))

-- what a history says of each answer
explained_before : (f : Event) (h : History) → Explained (f ∷ h) → Explained h
explained_before (enqueue_started t n v) h x = x
explained_before (enqueue_ended t n v) h x = x
explained_before dequeue_started h x = x
explained_before (gave_item n v) h x = x.1
explained_before gave_empty h x = x.1

explained_item :
    (k n v : ℕ) (h : History) → Explained h → At k (gave_item n v) h
    → (g : History) × (g ⊑ h) × (k ≡ suc (length g)) × MayGive n v g
explained_item k n v (f ∷ h) x (inl p) = (h, later now, p.0, (subst (λ e. Explained (e ∷ h) → MayGive n v h) p.1 (λ y. y.0)) x)
explained_item k n v (f ∷ h) x (inr a) = let r = explained_item k n v h (explained_before f h x) a in (r.0, later r.1, r.2, r.3)
explained_item k n v [] x m = elim m [ ]

explained_empty : (k : ℕ) (h : History) → Explained h → At k gave_empty h → (g : History) × (g ⊑ h) × (k ≡ suc (length g)) × MayBeEmpty g
explained_empty k (f ∷ h) x (inl p) = (h, later now, p.0, (subst (λ e. Explained (e ∷ h) → MayBeEmpty h) p.1 (λ y. y.0)) x)
explained_empty k (f ∷ h) x (inr a) = let r = explained_empty k h (explained_before f h x) a in (r.0, later r.1, r.2, r.3)
explained_empty k [] x m = elim m [ ]

module _ (h : History) (w : well_formed h ≡ true) where
  pub explained_is_orderly : Explained h → Orderly (calls h)
  explained_is_orderly x d m = go d.answer refl
    where
      go : (a : Answer) → d.answer ≡ a → Fair a d.start d.end (calls h)
      go nothing e = tt
      go (item n v) e =
          let r = explained_item d.end n v h x (gave_when h w d m (item n v) e item_not_nothing) in
          rw r.2 (gives_fairly h w r.0 r.1 n v r.3)
      go empty e =
          let r = explained_empty d.end h x (gave_when h w d m empty e empty_not_nothing) in
          rw r.2 (is_empty_fairly h w r.0 r.1 d m r.2 r.3)

  explained_up_to : Orderly (calls h) → (g : History) → g ⊑ h → Explained g
  explained_up_to o [] s = tt
  explained_up_to o (enqueue_started t n v ∷ g) s = explained_up_to o g (earlier s)
  explained_up_to o (enqueue_ended t n v ∷ g) s = explained_up_to o g (earlier s)
  explained_up_to o (dequeue_started ∷ g) s = explained_up_to o g (earlier s)
  explained_up_to o (gave_item n v ∷ g) s =
      let e = at_later s (suc (length g)) (gave_item n v) (inl (refl, refl)) in
      let d = dequeue_of_end _ (item n v) h w e in (
        may_give h w g (earlier s) n v e
            (subst₂ (λ a k. Fair a d.0.start k (calls h)) d.3 d.2 (o d.0 d.1)),
        explained_up_to o g (earlier s),
      )
  explained_up_to o (gave_empty ∷ g) s =
      let e = at_later s (suc (length g)) gave_empty (inl (refl, refl)) in
      let d = dequeue_of_end _ empty h w e in (
        may_be_empty h w g (earlier s) d.0 d.1 d.2
            (subst₂ (λ a k. Fair a d.0.start k (calls h)) d.3 d.2 (o d.0 d.1)),
        explained_up_to o g (earlier s),
      )

  pub orderly_is_explained : Orderly (calls h) → Explained h
  orderly_is_explained o = explained_up_to o h now
