-- What was under way when the newest event of a well-formed history happened: `follows`, read by `current`, `Begun` and `dequeuing`.
use Rattle.std.specs.Prelude.{◌≡◌, refl, true, ◌∷◌, ℕ, suc, length, []}
use Rattle.std.proofs.Common.{ap, sym, ◌∙◌, inl, inr, arith, eq-eqb, ne_eqb}
use Rattle.std.proofs.Math.Option.{Option, none, some}
use Rattle.history.specs.Lists.{Member}
use Rattle.history.specs.Event.{Event, History, enqueue_started, enqueue_ended, dequeue_started, gave_item, gave_empty}
use Rattle.history.specs.Calls.{Enqueue, enq, calls}
use Rattle.history.specs.Form.{well_formed}
use Rattle.history.specs.Linearization.{Item}
use Rattle.criterion.specs.Explained.{Begun, Ended, current, dequeuing}
use Rattle.criterion.specs.Members.{in_right}
use Rattle.criterion.specs.Following.{head_follows, tail_formed, thread_is_free, number_is_new, has_its_start, has_its_dequeue}
use Rattle.criterion.specs.Entering.{opened, enqueue_goes_on}
use Rattle.criterion.specs.Growth.{open_is_current, current_is_open, open_is_dequeuing}

-- a number that has begun is an enqueue's
abbrev Numbered : ℕ → History → Type 0
Numbered n h = (x : Enqueue) × Member (enq x) (calls h) × (x.number ≡ n)

numbered_on : (e : Event) (n : ℕ) (h : History) → Numbered n h → Numbered n (e ∷ h)
numbered_on e n h r = (_, (enqueue_goes_on e h r.0 r.1).1, r.2)

begun_is_numbered : (n : ℕ) (h : History) → Begun n h → Numbered n h
begun_is_numbered n (enqueue_started t m w ∷ h) (inl e) = (opened t m w (suc (length h)), in_right _ (calls h) _ (inl refl), sym e)
begun_is_numbered n (enqueue_started t m w ∷ h) (inr b) = numbered_on (enqueue_started t m w) n h (begun_is_numbered n h b)
begun_is_numbered n (enqueue_ended t m w ∷ h) b = numbered_on (enqueue_ended t m w) n h (begun_is_numbered n h b)
begun_is_numbered n (dequeue_started ∷ h) b = numbered_on dequeue_started n h (begun_is_numbered n h b)
begun_is_numbered n (gave_item m w ∷ h) b = numbered_on (gave_item m w) n h (begun_is_numbered n h b)
begun_is_numbered n (gave_empty ∷ h) b = numbered_on gave_empty n h (begun_is_numbered n h b)
begun_is_numbered n [] b = elim b [ ]

module _ (t n v : ℕ) (h : History) where
  -- an enqueue starts on an idle thread, with a new number
  module _ (w : well_formed (enqueue_started t n v ∷ h) ≡ true) where
    pub start_was_idle : current t h ≡ none
    start_was_idle = go (current t h) refl
      where
        go : (i : Option Item) → current t h ≡ i → i ≡ none
        go none e = refl
        go (some i) e =
            let r = current_is_open h t i e in
            absurd (thread_is_free t n v (calls h) (head_follows (enqueue_started t n v) h w) r.0 r.1 r.2 r.3)

    pub start_is_new : Begun n h → ⊥
    start_is_new b =
        let r = begun_is_numbered n h b in
        number_is_new t n v (calls h) (head_follows (enqueue_started t n v) h w) r.0 r.1 r.2

  -- the enqueue that ends is the one under way
  pub end_was_current : well_formed (enqueue_ended t n v ∷ h) ≡ true → current t h ≡ some (record { number = n; value = v })
  end_was_current w =
      let r = has_its_start t n v (calls h) (head_follows (enqueue_ended t n v) h w) in
      let e = open_is_current h (tail_formed (enqueue_ended t n v) h w) r.0 r.1 r.3 in
      cc (e, r.2, r.4, r.5)

-- an item is given by a dequeue under way
pub item_was_asked : (n v : ℕ) (h : History) → well_formed (gave_item n v ∷ h) ≡ true → dequeuing h ≡ true
item_was_asked n v h w =
    let r = has_its_dequeue (calls h) (head_follows (gave_item n v) h w) in
    open_is_dequeuing h (tail_formed (gave_item n v) h w) r.0 r.1 r.2

some_not_none : {i : Item} → some i ≡ none → ⊥
some_not_none e = let z : ◌≡◌ {A = ℕ} 0 1 = cc in omega arith

pub same_number : {i j : Item} → some i ≡ some j → i.number ≡ j.number
same_number e = cc

-- An enqueue that has begun and not ended is under way on some thread.
abbrev OnThread : ℕ → History → Type 0
OnThread n h = (t : ℕ) × (v : ℕ) × (current t h ≡ some (record { number = n; value = v }))

pub begun_is_current : (n : ℕ) (h : History) → well_formed h ≡ true → Begun n h → (Ended n h → ⊥) → OnThread n h
begun_is_current n (enqueue_started t m w ∷ h) f (inl e) open-still = (t, w, rw (eq-eqb t t refl, e) refl)
begun_is_current n (enqueue_started t m w ∷ h) f (inr b) open-still =
    go (begun_is_current n h (tail_formed (enqueue_started t m w) h f) b open-still)
  where
    go : OnThread n h → OnThread n (enqueue_started t m w ∷ h)
    go (u, v, c) = (u, v, rw (ne_eqb t u (λ e. some_not_none (sym c ∙ ap (λ (x : ℕ). current x h) (sym e) ∙ start_was_idle t m w h f))) c)
begun_is_current n (enqueue_ended t m w ∷ h) f b open-still =
    go (begun_is_current n h (tail_formed (enqueue_ended t m w) h f) b (λ e. open-still (inr e)))
  where
    go : OnThread n h → OnThread n (enqueue_ended t m w ∷ h)
    go (u, v, c) = (u, v, rw (ne_eqb t u (λ e. open-still (inl (same_number (sym c ∙ ap (λ (x : ℕ). current x h) (sym e) ∙ end_was_current t m w h f))))) c)
begun_is_current n (dequeue_started ∷ h) f b open-still = begun_is_current n h (tail_formed dequeue_started h f) b open-still
begun_is_current n (gave_item m w ∷ h) f b open-still = begun_is_current n h (tail_formed (gave_item m w) h f) b open-still
begun_is_current n (gave_empty ∷ h) f b open-still = begun_is_current n h (tail_formed gave_empty h f) b open-still
begun_is_current n [] f b open-still = elim b [ ]
