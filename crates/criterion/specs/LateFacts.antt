-- An item's end that is told late, fact by fact: of every enqueue the two histories say the same once the item's end is there, and
-- the told one stays well-formed and explained. By induction on the enqueue events since the mark.
use Rattle.std.specs.Prelude.{◌≡◌, refl, ◌⊎◌, true, cond, [], ◌∷◌, ◌++◌, ℕ, eqb}
use Rattle.std.proofs.Common.{sym, ap, ap₂, subst, ◌∙◌, inl, inr}
use Rattle.std.proofs.Math.Path.{transport⁻¹}
use Rattle.std.proofs.Math.Option.{none, some}
use Rattle.history.specs.Lists.{All}
use Rattle.history.specs.Event.{History, enqueue_started, enqueue_ended, dequeue_started, gave_item, gave_empty, withdrawn}
use Rattle.history.specs.Form.{well_formed}
use Rattle.criterion.specs.Explained.{Started, Begun, Taken, EndedBefore, MayGive, Explained, dequeuing}
use Rattle.criterion.specs.Following.{tail_formed}
use Rattle.criterion.specs.Growth.{number_is_begun, enqueue_may_start, enqueue_may_end}
use Rattle.criterion.specs.Times.{started_when}
use Rattle.criterion.specs.Tidy.{enqueue_of_start}
use Rattle.criterion.specs.UnderWay.{start_was_idle, start_is_new, end_was_current, item_was_asked}
use Rattle.criterion.specs.Late.{Late, marked, then_started, then_ended, OfEnqueue, SameEnqueues}

-- Enqueue events are added to what is kept and to what was told.
pub withdrawn_adds : (es : History) → All OfEnqueue es → (g : History) → withdrawn (es ++ g) ≡ es ++ withdrawn g
withdrawn_adds [] a g = refl
withdrawn_adds (enqueue_started t m w ∷ es) a g = ap (λ (k : History). enqueue_started t m w ∷ k) (withdrawn_adds es a.1 g)
withdrawn_adds (enqueue_ended t m w ∷ es) a g = ap (λ (k : History). enqueue_ended t m w ∷ k) (withdrawn_adds es a.1 g)
withdrawn_adds (dequeue_started ∷ es) a g = absurd a.0
withdrawn_adds (gave_item m w ∷ es) a g = absurd a.0
withdrawn_adds (gave_empty ∷ es) a g = absurd a.0

module _ {n v : ℕ} where
  pub late_adds : (es : History) → All OfEnqueue es → {g h : History} → Late n v g h → Late n v (es ++ g) (es ++ h)
  late_adds [] a l = l
  late_adds (enqueue_started t m w ∷ es) a l = then_started (late_adds es a.1 l)
  late_adds (enqueue_ended t m w ∷ es) a l = then_ended (late_adds es a.1 l)
  late_adds (dequeue_started ∷ es) a l = absurd a.0
  late_adds (gave_item m w ∷ es) a l = absurd a.0
  late_adds (gave_empty ∷ es) a l = absurd a.0

  pub late_same : {g h : History} → Late n v g h → SameEnqueues g (gave_item n v ∷ h)
  late_same marked =
      record {
        same_started = λ a b. refl;
        same_begun = λ a. refl;
        same_ended = λ a. refl;
        same_taken = λ a. refl;
        same_before = λ a b. refl;
        same_current = λ t. refl;
      }
  late_same (then_started {t} {m} {w} l) =
      let s = late_same l in
      record {
        same_started = λ a b. ap (λ (X : Type 0). ((a ≡ m) × (b ≡ w)) ⊎ X) (s.same_started a b);
        same_begun = λ a. ap (λ (X : Type 0). (a ≡ m) ⊎ X) (s.same_begun a);
        same_ended = s.same_ended;
        same_taken = s.same_taken;
        same_before = λ a b. ap₂ (λ (X Y : Type 0). ((b ≡ m) × X) ⊎ Y) (s.same_ended a) (s.same_before a b);
        same_current = λ u. ap (cond (eqb t u) (some (record { number = m; value = w }))) (s.same_current u);
      }
  late_same (then_ended {t} {m} {w} l) =
      let s = late_same l in
      record {
        same_started = s.same_started;
        same_begun = s.same_begun;
        same_ended = λ a. ap (λ (X : Type 0). (a ≡ m) ⊎ X) (s.same_ended a);
        same_taken = s.same_taken;
        same_before = s.same_before;
        same_current = λ u. ap (cond (eqb t u) none) (s.same_current u);
      }

  -- Until its end is told the dequeue is under way.
  pub late_dequeuing : {g h : History} → Late n v g h → well_formed g ≡ true → dequeuing h ≡ true
  late_dequeuing (marked {h}) f = item_was_asked n v h (tail_formed dequeue_started (gave_item n v ∷ h) f)
  late_dequeuing (then_started {t} {m} {w} {g} l) f = late_dequeuing l (tail_formed (enqueue_started t m w) g f)
  late_dequeuing (then_ended {t} {m} {w} {g} l) f = late_dequeuing l (tail_formed (enqueue_ended t m w) g f)

  pub late_formed : {g h : History} → Late n v g h → well_formed g ≡ true → well_formed h ≡ true
  late_formed (marked {h}) f = tail_formed (gave_item n v) h (tail_formed dequeue_started (gave_item n v ∷ h) f)
  late_formed (then_started {t} {m} {w} {g} {h} l) f =
      let s = late_same l in
      enqueue_may_start h (late_formed l (tail_formed (enqueue_started t m w) g f)) t m w
      (sym (s.same_current t) ∙ start_was_idle t m w g f)
      (λ b. start_is_new t m w g f (transport⁻¹ (s.same_begun m) b))
  late_formed (then_ended {t} {m} {w} {g} {h} l) f =
      enqueue_may_end h (late_formed l (tail_formed (enqueue_ended t m w) g f)) t m w
      (sym ((late_same l).same_current t) ∙ end_was_current t m w g f)

  pub late_explained : {g h : History} → Late n v g h → Explained g → Explained h
  late_explained marked e = e.1
  late_explained (then_started l) e = late_explained l e
  late_explained (then_ended l) e = late_explained l e

  -- Which enqueues ended before n started is fixed once n has started, so the item may be given at any later moment.
  pub late_may_give : {g h : History} → Late n v g h → well_formed g ≡ true → Explained g → MayGive n v h
  late_may_give marked f e = e.0
  late_may_give (then_started {t} {m} {w} {g} {h} l) f e =
      let may = late_may_give l (tail_formed (enqueue_started t m w) g f) e in
      record { is_started = inr may.is_started; is_untaken = may.is_untaken; is_first = first may }
    where
      begun : Started n v h → Begun n h
      begun s = let r = started_when n v h s in number_is_begun h _ (enqueue_of_start _ _ n v h r.there).1

      first : MayGive n v h → (k : ℕ) → EndedBefore k n (enqueue_started t m w ∷ h) → Taken k h
      first may k (inl p) =
          absurd (start_is_new t m w g f
          (transport⁻¹ ((late_same l).same_begun m) (subst (λ (a : ℕ). Begun a h) p.0 (begun may.is_started))))
      first may k (inr d) = may.is_first k d
  late_may_give (then_ended {t} {m} {w} {g} l) f e =
      let may = late_may_give l (tail_formed (enqueue_ended t m w) g f) e in
      record { is_started = may.is_started; is_untaken = may.is_untaken; is_first = may.is_first }
