-- What reading lets through: which refusals there are, and that a history is well-formed and has few calls.
use Rattle.std.specs.Prelude.{◌≡◌, refl, ◌⊎◌, Bool, true, false, ◌||◌, not, cond, List, [], ◌∷◌, ℕ, ◌+◌, ◌/◌, ◌%◌, ◌≤◌, ◌<◌, eqb, ltb, length}
use Rattle.std.proofs.Common.{inl, inr, arith, length-append, ltb-true, ltb-false}
use Rattle.std.proofs.Math.Option.{Option, none, some}
use Rattle.std.proofs.Math.Decide.{dec_le}
use Rattle.std.proofs.lemmas.List.{length-map}
use Rattle.history.specs.Event.{Event, History, enqueue_started, enqueue_ended, dequeue_started, gave_item, gave_empty, decode}
use Rattle.history.specs.Calls.{calls}
use Rattle.history.specs.Form.{follows, well_formed, most_events, Reading, refused, history, read_event, read_events, read}

-- No reading is both.
pub refused_not_read : (n : ℕ) (h : History) → refused n ≡ history h → ⊥
refused_not_read n h e = let z : ◌≡◌ {A = ℕ} 0 1 = cc in omega arith

-- At most one call is started by an event.
pub calls_few : (h : History) → length (calls h) ≤ length h
calls_few [] = omega arith
calls_few (enqueue_started t n v ∷ h) = rw length-append (omega (arith, calls_few h))
calls_few (enqueue_ended t n v ∷ h) = rw length-map (omega (arith, calls_few h))
calls_few (dequeue_started ∷ h) = rw length-append (omega (arith, calls_few h))
calls_few (gave_item n v ∷ h) = rw length-map (omega (arith, calls_few h))
calls_few (gave_empty ∷ h) = rw length-map (omega (arith, calls_few h))

-- Events are refused by 12 or 13, or are a history that is well-formed, with at most so many of them.
abbrev Formed : (most : ℕ) → Reading → Type 0
Formed most (refused n) = (12 ≤ n) × (n ≤ 13)
Formed most (history h) = (well_formed h ≡ true) × (length h ≤ most)

event_formed :
    (most : ℕ) (o : Option Event) (g : History) (go : History → Reading) → well_formed g ≡ true
    → ((e : Event) → well_formed (e ∷ g) ≡ true → Formed most (go (e ∷ g))) → Formed most (read_event o g go)
event_formed most none g go w rest = (omega arith, omega arith)
event_formed most (some e) g go w rest = next (follows e (calls g)) refl
  where
    next : (b : Bool) → follows e (calls g) ≡ b → Formed most (elim b [ true ↦ go (e ∷ g) | false ↦ refused 13 ])
    next true f = rest e (simp (f, w))
    next false f = (omega arith, omega arith)

events_formed : (g : History) (ws : List ℕ) (most : ℕ) → well_formed g ≡ true → length g + length ws / 4 ≤ most → Formed most (read_events g ws)
events_formed g [] most w l = (w, omega arith)
events_formed g (a ∷ []) most w l = (w, omega arith)
events_formed g (a ∷ b ∷ []) most w l = (w, omega arith)
events_formed g (a ∷ b ∷ c ∷ []) most w l = (w, omega arith)
events_formed g (kind ∷ thread ∷ number ∷ value ∷ ws) most w l =
    event_formed most (decode kind thread number value) g (λ h. read_events h ws) w (λ e v. events_formed (e ∷ g) ws most v (omega arith))

-- Words are refused by 10 to 13, by 11 only where they have more events than there are entries, or are a history: it is well-formed,
-- and has few calls.
pub record Admitted (entries : ℕ) (h : History) : Type 0 where
  pub formed : well_formed h ≡ true
  pub as_many_entries : length (calls h) ≤ entries
  pub few : length (calls h) ≤ most_events

abbrev pub LetThrough : (entries : ℕ) → List ℕ → Reading → Type 0
LetThrough entries words (refused n) = (10 ≤ n) × (n ≤ 13) × (n ≡ 11 → (entries < length words / 4) × (length words / 4 ≤ most_events))
LetThrough entries words (history h) = Admitted entries h

events_let_through :
    (entries : ℕ) (words : List ℕ) (x : Reading) → length words / 4 ≤ entries → length words / 4 ≤ most_events → Formed (length words / 4) x
    → LetThrough entries words x
events_let_through entries words (refused n) k l f = (omega arith, omega arith, λ e. absurd (omega arith))
events_let_through entries words (history h) k l f =
    record { formed = f.0; as_many_entries = omega (arith, calls_few h, f.1); few = omega (arith, calls_few h, f.1) }

pub read_lets_through : (entries : ℕ) (words : List ℕ) → LetThrough entries words (read entries words)
unfolding read
read_lets_through entries words =
    go (not (eqb (length words % 4) 0)) (ltb most_events (length words / 4)) (ltb entries (length words / 4)) refl refl
  where
    go :
        (a b c : Bool) → ltb most_events (length words / 4) ≡ b → ltb entries (length words / 4) ≡ c
        → LetThrough entries words (cond (a || b) (refused 10) (cond c (refused 11) (read_events [] words)))
    go true b c p q = (omega arith, omega arith, λ e. absurd (omega arith))
    go false true c p q = (omega arith, omega arith, λ e. absurd (omega arith))
    go false false true p q = (omega arith, omega arith, λ e. (ltb-true _ _ q, ltb-false _ _ p))
    go false false false p q =
        events_let_through entries words (read_events [] words) (ltb-false _ _ q) (ltb-false _ _ p)
        (events_formed [] words (length words / 4) refl (omega arith))

-- A table with an entry for each of the most events is never too small.
pub largest_table_suffices : (words : List ℕ) → read most_events words ≡ refused 11 → ⊥
largest_table_suffices words e = let l = (rw e at (read_lets_through most_events words)).2 refl in omega arith

-- What is read with some table is read with the largest.
pub read_with_largest : (entries : ℕ) (words : List ℕ) (h : History) → read entries words ≡ history h → read most_events words ≡ history h
unfolding read
read_with_largest entries words h e =
    go (not (eqb (length words % 4) 0)) (ltb most_events (length words / 4)) (ltb entries (length words / 4)) (read_events [] words) e
  where
    go :
        (a b c : Bool) (x : Reading) → cond (a || b) (refused 10) (cond c (refused 11) x) ≡ history h
        → cond (a || b) (refused 10) (cond b (refused 11) x) ≡ history h
    go true b c x e = absurd (refused_not_read 10 h e)
    go false true c x e = absurd (refused_not_read 10 h e)
    go false false true x e = absurd (refused_not_read 11 h e)
    go false false false x e = e

-- The refusals with such a table.
abbrev pub Refusal : ℕ → Type 0
Refusal n = (n ≡ 10) ⊎ ((n ≡ 12) ⊎ (n ≡ 13))

pub refused_by_10_12_or_13 : (words : List ℕ) (n : ℕ) → read most_events words ≡ refused n → Refusal n
refused_by_10_12_or_13 words n refuses = go (dec_le n 10) (dec_le n 11) (dec_le n 12)
  where
    bounds : (10 ≤ n) × (n ≤ 13) × (n ≡ 11 → (most_events < length words / 4) × (length words / 4 ≤ most_events))
    bounds = rw refuses at (read_lets_through most_events words)

    go : Dec (n ≤ 10) → Dec (n ≤ 11) → Dec (n ≤ 12) → Refusal n
    go (yes l) c d = let low = bounds.0 in inl (omega arith)
    go (no f) (yes l) d = absurd (let k = bounds.2 (omega arith) in omega arith)
    go (no f) (no g) (yes l) = inr (inl (omega arith))
    go (no f) (no g) (no k) = let high = bounds.1 in inr (inr (omega arith))
