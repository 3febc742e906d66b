-- Tests that two things are the same, for tables of runs: a table that passes its test is as written. (To compare a table that goes another way
-- without a test costs the checker three times what it takes to compute it, and must-fail edits try many such tables.)
use Rattle.std.specs.Prelude.{◌≡◌, refl, Bool, true, false, ◌&&◌, List, [], ◌∷◌, ℕ, eqb, get_or}
use Rattle.std.proofs.Common.{ap, ap₂, sym, ◌∙◌, eqb-true}
use Rattle.history.specs.Event.{Event, enqueue_started, enqueue_ended, dequeue_started, gave_item, gave_empty}
use Rattle.history.specs.Linearization.{Item}
use Rattle.rules.specs.Rule.{Reply, ok, started, going, ended, empty, item, drained, Response, refused, accepted}
use Rattle.rules.specs.Request.{item_words}
use Rattle.rules.specs.Update.{both, true_false}

-- A test passes. (With this the checker computes the test once, with `refl` twice.) Each table is looked at after the one before: where that one goes
-- another way, the others need not be computed.
pub passes : true ≡ true
passes = refl

pub passes_after : {A : Type 0} → A → true ≡ true
passes_after before = refl

-- A test, and that what passes it is the same.
pub record Sameness (A : Type 0) : Type 0 where
  pub test : A → A → Bool
  pub sound : (x y : A) → test x y ≡ true → x ≡ y

unfoldable pub numbers : Sameness ℕ
numbers = record { test = eqb; sound = eqb-true }

-- of lists, one by one
module _ {A : Type 0} (s : Sameness A) where
  abbrev same_lists : List A → List A → Bool
  same_lists [] [] = true
  same_lists [] (y ∷ ys) = false
  same_lists (x ∷ xs) [] = false
  same_lists (x ∷ xs) (y ∷ ys) = s.test x y && same_lists xs ys

  pub same_lists_lem : (xs ys : List A) → same_lists xs ys ≡ true → xs ≡ ys
  same_lists_lem [] [] e = refl
  same_lists_lem [] (y ∷ ys) e = absurd (true_false e refl)
  same_lists_lem (x ∷ xs) [] e = absurd (true_false e refl)
  same_lists_lem (x ∷ xs) (y ∷ ys) e =
      let b = both (s.test x y) (same_lists xs ys) e in
      ap₂ (λ z zs. z ∷ zs) (s.sound x y b.0) (same_lists_lem xs ys b.1)

  unfoldable pub lists : Sameness (List A)
  lists = record { test = same_lists; sound = same_lists_lem }

unfoldable pub word_lists : Sameness (List ℕ)
unfolding lists numbers
word_lists = lists numbers

-- of what is known by its words
unfoldable pub coded : {A : Type 0} (code : A → List ℕ) (from : List ℕ → A) → ((x : A) → from (code x) ≡ x) → Sameness A
unfolding word_lists
coded code from back =
    record {
      test = λ x y. word_lists.test (code x) (code y);
      sound = λ x y e. sym (back x) ∙ ap from (word_lists.sound (code x) (code y) e) ∙ back y;
    }

-- Replies and responses: a number for the kind, and what it carries.
abbrev reply_code : Reply → List ℕ
reply_code ok = 0 ∷ []
reply_code (started n) = 1 ∷ n ∷ []
reply_code going = 2 ∷ []
reply_code ended = 3 ∷ []
reply_code empty = 4 ∷ []
reply_code (item n v) = 5 ∷ n ∷ v ∷ []
reply_code (drained xs) = 6 ∷ item_words xs

abbrev items_from : List ℕ → List Item
items_from [] = []
items_from (n ∷ []) = []
items_from (n ∷ v ∷ l) = record { number = n; value = v } ∷ items_from l

items_from_lem : (xs : List Item) → items_from (item_words xs) ≡ xs
items_from_lem [] = refl
items_from_lem (x ∷ xs) = ap (λ (l : List Item). x ∷ l) (items_from_lem xs)

abbrev reply_from : List ℕ → Reply
reply_from [] = ok
reply_from (k ∷ l) =
    get_or (ok ∷ started (get_or l 0 0) ∷ going ∷ ended ∷ empty ∷ item (get_or l 0 0) (get_or l 1 0) ∷ drained (items_from l) ∷ []) k ok

reply_from_lem : (r : Reply) → reply_from (reply_code r) ≡ r
reply_from_lem ok = refl
reply_from_lem (started n) = refl
reply_from_lem going = refl
reply_from_lem ended = refl
reply_from_lem empty = refl
reply_from_lem (item n v) = refl
reply_from_lem (drained xs) = ap drained (items_from_lem xs)

abbrev response_code : Response → List ℕ
response_code (refused n) = 0 ∷ n ∷ []
response_code (accepted r k) = 1 ∷ k ∷ reply_code r

abbrev response_from : List ℕ → Response
response_from [] = refused 0
response_from (b ∷ []) = refused 0
response_from (b ∷ k ∷ l) = get_or (refused k ∷ accepted (reply_from l) k ∷ []) b (refused 0)

pub response_from_lem : (r : Response) → response_from (response_code r) ≡ r
response_from_lem (refused n) = refl
response_from_lem (accepted r k) = ap (λ (x : Reply). accepted x k) (reply_from_lem r)

unfoldable pub responses : Sameness (List Response)
unfolding lists coded
responses = lists (coded response_code response_from response_from_lem)

-- Events.
abbrev event_code : Event → List ℕ
event_code (enqueue_started t n v) = 0 ∷ t ∷ n ∷ v ∷ []
event_code (enqueue_ended t n v) = 1 ∷ t ∷ n ∷ v ∷ []
event_code dequeue_started = 2 ∷ []
event_code (gave_item n v) = 3 ∷ n ∷ v ∷ []
event_code gave_empty = 4 ∷ []

abbrev event_from : List ℕ → Event
event_from [] = gave_empty
event_from (k ∷ l) =
    get_or
    (enqueue_started (get_or l 0 0) (get_or l 1 0) (get_or l 2 0)
    ∷ enqueue_ended (get_or l 0 0) (get_or l 1 0) (get_or l 2 0)
    ∷ dequeue_started
    ∷ gave_item (get_or l 0 0) (get_or l 1 0)
    ∷ gave_empty
    ∷ [])
    k
    gave_empty

pub event_from_lem : (e : Event) → event_from (event_code e) ≡ e
event_from_lem (enqueue_started t n v) = refl
event_from_lem (enqueue_ended t n v) = refl
event_from_lem dequeue_started = refl
event_from_lem (gave_item n v) = refl
event_from_lem gave_empty = refl

unfoldable pub events : Sameness (List Event)
unfolding lists coded
events = lists (coded event_code event_from event_from_lem)
