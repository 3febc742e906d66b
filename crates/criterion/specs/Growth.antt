-- When one more event keeps a history well-formed, for each kind of event, from what is under way: `current`, `dequeuing` and
-- `Begun` tell of the calls of a well-formed history what `follows` asks of them.
use Rattle.std.specs.Prelude.{◌≡◌, refl, ◌≢◌, true, false, cond, List, [], ◌∷◌, map, ℕ, suc, eqb, length}
use Rattle.std.proofs.Common.{sym, ap, subst, ◌∙◌, inl, inr, true≢false, arith, eq-eqb, ne_eqb}
use Rattle.std.proofs.lemmas.Bool.{false≢true}
use Rattle.std.proofs.Math.Option.{Option, none, some, none-ne-some, some-injective}
use Rattle.std.proofs.Math.Decide.{ℕ_discrete}
use Rattle.history.specs.Lists.{Member}
use Rattle.history.specs.Event.{History, enqueue_started, enqueue_ended, dequeue_started, gave_item, gave_empty}
use Rattle.history.specs.Calls.{Answer, item, empty, Enqueue, Dequeue, Call, enq, deq, end_enqueue, end_dequeue, calls}
use Rattle.history.specs.Form.{well_formed}
use Rattle.history.specs.Linearization.{Item}
use Rattle.criterion.specs.Explained.{Begun, current, dequeuing}
use Rattle.criterion.specs.Parts.{item_of}
use Rattle.criterion.specs.Members.{in_left, in_right, in_snoc, in_map}
use Rattle.criterion.specs.Following.{head_follows, tail_formed, grows, thread_is_free, may_start, may_end, may_dequeue, may_answer}
use Rattle.criterion.specs.Entering.{opened, asked, same_enq, enq_not_deq, enqueue_in_ended, dequeue_in_ended, dequeue_in_answered, enqueue_in_answered, enqueue_stays}

-- an event of another thread leaves the current enqueue as it is
current_other : (t u : ℕ) (i j : Option Item) → (t ≡ u → ⊥) → cond (eqb t u) i j ≡ j
current_other t u i j f = rw (ne_eqb t u f)

-- no dequeue is under way after an answer
none_open : (a : Answer) (h : History) (d : Dequeue) → Member (deq d) (map (end_dequeue (suc (length h)) a) (calls h)) → d.end ≢ 0
none_open a h d m z =
    elim (dequeue_in_answered _ a (calls h) d m) [
      | inl l ↦ l.1 z
      | inr r ↦ let e : suc (length h) ≡ 0 = cc r.3 in omega arith
    ]

-- An enqueue under way is the current one of its thread, and the other way round.
pub open_is_current :
    (h : History) → well_formed h ≡ true → (x : Enqueue) → Member (enq x) (calls h) → x.end ≡ 0
    → current x.thread h ≡ some (item_of x)
open_is_current (enqueue_started t n v ∷ h) w x m z =
    elim (in_snoc (enq x) (calls h) _ m) [
      | inl l ↦ current_other t x.thread _ _
          (λ e. thread_is_free t n v (calls h) (head_follows (enqueue_started t n v) h w) x l (sym e) z) ∙ open_is_current h
          (tail_formed (enqueue_started t n v) h w) x l z
      | inr e ↦ rw (same_enq e, eq-eqb t t refl)
    ]
open_is_current (enqueue_ended t n v ∷ h) w x m z =
    elim (enqueue_in_ended t _ (calls h) x m) [
      | inl l ↦ current_other t x.thread _ _ (λ e. l.1 (sym e) z) ∙ open_is_current h (tail_formed (enqueue_ended t n v) h w) x l.0 z
      | inr r ↦ absurd (let e : suc (length h) ≡ 0 = cc r.4 in omega arith)
    ]
open_is_current (dequeue_started ∷ h) w x m z =
    elim (in_snoc (enq x) (calls h) _ m) [
      | inl l ↦ open_is_current h (tail_formed dequeue_started h w) x l z
      | inr e ↦ absurd (enq_not_deq e)
    ]
open_is_current (gave_item n v ∷ h) w x m z =
    open_is_current h (tail_formed (gave_item n v) h w) x (enqueue_in_answered _ (item n v) (calls h) x m) z
open_is_current (gave_empty ∷ h) w x m z = open_is_current h (tail_formed gave_empty h w) x (enqueue_in_answered _ empty (calls h) x m) z
open_is_current [] w x m z = elim m [ ]

abbrev IsOpen : ℕ → Item → List Call → Type 0
IsOpen t i cs = (x : Enqueue) × Member (enq x) cs × (x.thread ≡ t) × (x.end ≡ 0) × (item_of x ≡ i)

pub current_is_open : (h : History) (t : ℕ) (i : Item) → current t h ≡ some i → IsOpen t i (calls h)
current_is_open [] t i e = absurd (none-ne-some i e)
current_is_open (enqueue_started u n v ∷ h) t i e = go (ℕ_discrete u t) (current_is_open h t i)
  where
    go : Dec (u ≡ t) → (current t h ≡ some i → IsOpen t i (calls h)) → IsOpen t i (calls (enqueue_started u n v ∷ h))
    go (yes p) ih =
        (opened u n v (suc (length h)), in_right _ (calls h) _ (inl refl), p, refl, some-injective _ _ (rw (eq-eqb u t p) at e))
    go (no p) ih = let r = ih (sym (current_other u t _ _ p) ∙ e) in (r.0, in_left _ (calls h) _ r.1, r.2, r.3, r.4)
current_is_open (enqueue_ended u n v ∷ h) t i e = go (ℕ_discrete u t) (current_is_open h t i)
  where
    go : Dec (u ≡ t) → (current t h ≡ some i → IsOpen t i (calls h)) → IsOpen t i (calls (enqueue_ended u n v ∷ h))
    go (yes p) ih = absurd (none-ne-some i (rw (eq-eqb u t p) at e))
    go (no p) ih =
        let r = ih (sym (current_other u t _ _ p) ∙ e) in
        (r.0, enqueue_stays u _ (calls h) r.0 r.1 (λ q. absurd (p (cc))), r.2, r.3, r.4)
current_is_open (dequeue_started ∷ h) t i e = let r = current_is_open h t i e in (r.0, in_left _ (calls h) _ r.1, r.2, r.3, r.4)
current_is_open (gave_item n v ∷ h) t i e =
    let r = current_is_open h t i e in
    (r.0, in_map (end_dequeue _ (item n v)) _ (calls h) r.1, r.2, r.3, r.4)
current_is_open (gave_empty ∷ h) t i e =
    let r = current_is_open h t i e in
    (r.0, in_map (end_dequeue _ empty) _ (calls h) r.1, r.2, r.3, r.4)

-- A dequeue is under way exactly when the history is dequeuing.
pub open_is_dequeuing : (h : History) → well_formed h ≡ true → (d : Dequeue) → Member (deq d) (calls h) → d.end ≡ 0 → dequeuing h ≡ true
open_is_dequeuing (enqueue_started t n v ∷ h) w d m z =
    elim (in_snoc (deq d) (calls h) _ m) [
      | inl l ↦ open_is_dequeuing h (tail_formed (enqueue_started t n v) h w) d l z
      | inr e ↦ absurd (enq_not_deq (sym e))
    ]
open_is_dequeuing (enqueue_ended t n v ∷ h) w d m z =
    open_is_dequeuing h (tail_formed (enqueue_ended t n v) h w) d (dequeue_in_ended t _ (calls h) d m) z
open_is_dequeuing (dequeue_started ∷ h) w d m z = refl
open_is_dequeuing (gave_item n v ∷ h) w d m z = absurd (none_open (item n v) h d m z)
open_is_dequeuing (gave_empty ∷ h) w d m z = absurd (none_open empty h d m z)
open_is_dequeuing [] w d m z = elim m [ ]

pub dequeuing_is_open : (h : History) → dequeuing h ≡ true → (d : Dequeue) × Member (deq d) (calls h) × (d.end ≡ 0)
dequeuing_is_open [] e = absurd (false≢true e)
dequeuing_is_open (enqueue_started t n v ∷ h) e = let r = dequeuing_is_open h e in (r.0, in_left _ (calls h) _ r.1, r.2)
dequeuing_is_open (enqueue_ended t n v ∷ h) e = let r = dequeuing_is_open h e in (r.0, in_map (end_enqueue t _) _ (calls h) r.1, r.2)
dequeuing_is_open (dequeue_started ∷ h) e = (asked (suc (length h)), in_right _ (calls h) _ (inl refl), refl)
dequeuing_is_open (gave_item n v ∷ h) e = absurd (false≢true e)
dequeuing_is_open (gave_empty ∷ h) e = absurd (false≢true e)

-- An enqueue's number has begun.
pub number_is_begun : (h : History) (x : Enqueue) → Member (enq x) (calls h) → Begun x.number h
number_is_begun (enqueue_started t n v ∷ h) x m =
    elim (in_snoc (enq x) (calls h) _ m) [
      | inl l ↦ inr (number_is_begun h x l)
      | inr e ↦ inl (ap (λ (y : Enqueue). y.number) (same_enq e))
    ]
number_is_begun (enqueue_ended t n v ∷ h) x m =
    elim (enqueue_in_ended t _ (calls h) x m) [
      | inl l ↦ number_is_begun h x l.0
      | inr r ↦ subst (λ k. Begun k h) (cc r.4) (number_is_begun h r.0 r.1)
    ]
number_is_begun (dequeue_started ∷ h) x m =
    elim (in_snoc (enq x) (calls h) _ m) [ inl l ↦ number_is_begun h x l | inr e ↦ absurd (enq_not_deq e) ]
number_is_begun (gave_item n v ∷ h) x m = number_is_begun h x (enqueue_in_answered _ (item n v) (calls h) x m)
number_is_begun (gave_empty ∷ h) x m = number_is_begun h x (enqueue_in_answered _ empty (calls h) x m)
number_is_begun [] x m = elim m [ ]

-- The engine's side: each kind of event may come next.
module _ (h : History) (w : well_formed h ≡ true) where
  pub enqueue_may_start : (t n v : ℕ) → current t h ≡ none → (Begun n h → ⊥) → well_formed (enqueue_started t n v ∷ h) ≡ true
  enqueue_may_start t n v c b =
      grows (enqueue_started t n v) h
      (may_start t n v (calls h)
      (λ x m p q. none-ne-some _ (sym c ∙ subst (λ u. current u h ≡ some (item_of x)) p (open_is_current h w x m q)))
      (λ x m p. b (subst (λ k. Begun k h) p (number_is_begun h x m))))
      w

  pub enqueue_may_end : (t n v : ℕ) → current t h ≡ some (record { number = n; value = v }) → well_formed (enqueue_ended t n v ∷ h) ≡ true
  enqueue_may_end t n v c =
      let r = current_is_open h t _ c in
      grows (enqueue_ended t n v) h (may_end t n v (calls h) r.0 r.1 r.2 r.3 (ap (λ (i : Item). i.number) r.4)
      (ap (λ (i : Item). i.value) r.4)) w

  pub dequeue_may_start : dequeuing h ≡ false → well_formed (dequeue_started ∷ h) ≡ true
  dequeue_may_start e = grows dequeue_started h (may_dequeue (calls h) (λ d m z. true≢false (sym (open_is_dequeuing h w d m z) ∙ e))) w

  pub dequeue_may_give : (n v : ℕ) → dequeuing h ≡ true → well_formed (gave_item n v ∷ h) ≡ true
  dequeue_may_give n v e = let r = dequeuing_is_open h e in grows (gave_item n v) h (may_answer (calls h) r.0 r.1 r.2) w

  pub dequeue_may_be_empty : dequeuing h ≡ true → well_formed (gave_empty ∷ h) ≡ true
  dequeue_may_be_empty e = let r = dequeuing_is_open h e in grows gave_empty h (may_answer (calls h) r.0 r.1 r.2) w
