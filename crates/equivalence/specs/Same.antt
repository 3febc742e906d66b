-- What the test of same calls says: of words, of events, of the events of every thread.
use Rattle.std.specs.Prelude.{◌≡◌, refl, true, List, [], ◌∷◌, ℕ, zero, suc, ◌≤◌, ◌<◌, eqb, get_or}
use Rattle.std.proofs.Common.{sym, ap, ◌∙◌, arith, eqb-true, eq-eqb}
use Rattle.std.proofs.Math.Bool.{and-eq-true_iff}
use Rattle.std.proofs.lemmas.Bool.{false≢true}
use Rattle.std.proofs.Math.Decide.{ℕ_discrete}
use Rattle.history.specs.Lists.{All}
use Rattle.history.specs.Event.{Event, History, enqueue_started, enqueue_ended, dequeue_started, gave_item, gave_empty}
use Rattle.history.specs.Words.{encode}
use Rattle.equivalence.specs.Threads.{thread_of, events_of}
use Rattle.equivalence.specs.Tests.{same_words, same_events, same_below}
use Rattle.equivalence.specs.Statement.{SameCalls}
use Rattle.equivalence.specs.Place.{other_event}

pub words_same : (xs ys : List ℕ) → same_words xs ys ≡ true → xs ≡ ys
words_same [] [] e = refl
words_same [] (y ∷ ys) e = absurd (false≢true e)
words_same (x ∷ xs) [] e = absurd (false≢true e)
words_same (x ∷ xs) (y ∷ ys) e =
    let b = (and-eq-true_iff (eqb x y) (same_words xs ys)).0 e in
    let p = eqb-true x y b.0 in
    let q = words_same xs ys b.1 in
    cc

pub same_words_lem : (xs : List ℕ) → same_words xs xs ≡ true
same_words_lem [] = refl
same_words_lem (x ∷ xs) = (and-eq-true_iff (eqb x x) (same_words xs xs)).1 (eq-eqb x x refl, same_words_lem xs)

-- the event of four words
event_of : List ℕ → Event
event_of ws =
    get_or
    (dequeue_started
    ∷ enqueue_started (get_or ws 1 0) (get_or ws 2 0) (get_or ws 3 0)
    ∷ enqueue_ended (get_or ws 1 0) (get_or ws 2 0) (get_or ws 3 0)
    ∷ dequeue_started
    ∷ gave_item (get_or ws 2 0) (get_or ws 3 0)
    ∷ gave_empty
    ∷ [])
    (get_or ws 0 0)
    dequeue_started

event_of_words : (e : Event) → event_of (encode e) ≡ e
unfolding event_of
event_of_words (enqueue_started t n v) = refl
event_of_words (enqueue_ended t n v) = refl
event_of_words dequeue_started = refl
event_of_words (gave_item n v) = refl
event_of_words gave_empty = refl

-- Events with the same words are the same.
pub encode_tells : (e f : Event) → encode e ≡ encode f → e ≡ f
encode_tells e f w = sym (event_of_words e) ∙ ap event_of w ∙ event_of_words f

events_same : (h g : History) → same_events h g ≡ true → h ≡ g
events_same [] [] e = refl
events_same [] (f ∷ g) e = absurd (false≢true e)
events_same (e ∷ h) [] q = absurd (false≢true q)
events_same (e ∷ h) (f ∷ g) q =
    let b = (and-eq-true_iff (same_words (encode e) (encode f)) (same_events h g)).0 q in
    let p = encode_tells e f (words_same (encode e) (encode f) b.0) in
    let r = events_same h g b.1 in
    cc

same_events_lem : (h : History) → same_events h h ≡ true
same_events_lem [] = refl
same_events_lem (e ∷ h) = (and-eq-true_iff (same_words (encode e) (encode e)) (same_events h h)).1 (same_words_lem (encode e), same_events_lem h)

pub below_same : (n : ℕ) (h g : History) → same_below n h g ≡ true → (t : ℕ) → t < n → events_of t h ≡ events_of t g
below_same zero h g e t l = absurd (omega arith)
below_same (suc n) h g e t l =
    let b = (and-eq-true_iff (same_below n h g) (same_events (events_of n h) (events_of n g))).0 e in
    go (ℕ_discrete t n) (events_same (events_of n h) (events_of n g) b.1) (below_same n h g b.0 t)
  where
    go : Dec (t ≡ n) → events_of n h ≡ events_of n g → (t < n → events_of t h ≡ events_of t g) → events_of t h ≡ events_of t g
    go (yes p) last ih = rw p last
    go (no f) last ih = ih (omega arith)

pub same_below_lem : (n : ℕ) (h g : History) → SameCalls h g → same_below n h g ≡ true
same_below_lem zero h g s = refl
same_below_lem (suc n) h g s =
    (and-eq-true_iff (same_below n h g) (same_events (events_of n h) (events_of n g))).1
    (same_below_lem n h g s, rw (s n) (same_events_lem (events_of n g)))

-- A thread above the others has no event.
pub no_event : (n : ℕ) (h : History) → All (λ e. thread_of e ≤ n) h → (t : ℕ) → n < t → events_of t h ≡ []
no_event n [] p t l = refl
no_event n (e ∷ h) p t l = other_event e h t (λ q. let r = p.0 in omega arith) ∙ no_event n h p.1 t l
