-- What the judge takes for a history: what is read as one, if the order buffer has a word for each call.
use Rattle.std.specs.Prelude.{◌≡◌, refl, ◌≢◌, Bool, true, false, cond, List, ℕ, ◌≤◌, ltb, length}
use Rattle.std.proofs.Common.{ap, sym, subst, arith, ltb-false, le-ltb}
use Rattle.history.specs.Event.{History}
use Rattle.history.specs.Calls.{calls}
use Rattle.history.specs.Form.{most_events, Reading, refused, history, read}
use Rattle.reading.specs.Admitted.{refused_not_read, Admitted, LetThrough, read_lets_through}
use Rattle.judge.specs.Contract.{admit, judged}

-- What the judge takes for a history is read as one, and the buffer has a word for each call.
pub admitted_was_read : (entries room : ℕ) (words : List ℕ) (h : History) → judged entries room words ≡ history h → (read entries words ≡ history h) × (length (calls h) ≤ room)
admitted_was_read entries room words h e = go (read entries words) e
  where
    go : (x : Reading) → admit room x ≡ history h → (x ≡ history h) × (length (calls h) ≤ room)
    go (refused n) e = absurd (refused_not_read n h e)
    go (history g) e = next (ltb room (length (calls g))) refl e
      where
        next : (b : Bool) → ltb room (length (calls g)) ≡ b → cond b (refused 16) (history g) ≡ history h → (history g ≡ history h) × (length (calls h) ≤ room)
        next true p e = absurd (refused_not_read 16 h e)
        next false p e = let same : g ≡ h = cc in (e, subst (λ f. length (calls f) ≤ room) same (ltb-false _ _ p))

pub judged_admitted : (entries room : ℕ) (words : List ℕ) (h : History) → judged entries room words ≡ history h → Admitted entries h
judged_admitted entries room words h e = rw (admitted_was_read entries room words h e).0 at (read_lets_through entries words)

-- No refusal has number 0.
pub judged_refusal : (entries room : ℕ) (words : List ℕ) (n : ℕ) → judged entries room words ≡ refused n → n ≢ 0
judged_refusal entries room words n e z = go (read entries words) (read_lets_through entries words) e
  where
    go : (x : Reading) → LetThrough entries words x → admit room x ≡ refused n → ⊥
    go (refused k) l e = let same : k ≡ n = cc in omega arith
    go (history h) l e = next (ltb room (length (calls h))) e
      where
        next : (b : Bool) → cond b (refused 16) (history h) ≡ refused n → ⊥
        next true e = let same : 16 ≡ n = cc in omega arith
        next false e = refused_not_read n h (sym e)

-- A buffer with a word for each of the most events is never too short.
pub largest_room_admits : (room : ℕ) → most_events ≤ room → (words : List ℕ) → judged most_events room words ≡ read most_events words
largest_room_admits room most words = go (read most_events words) (read_lets_through most_events words)
  where
    go : (x : Reading) → LetThrough most_events words x → admit room x ≡ x
    go (refused n) l = refl
    go (history h) l = ap (λ b. cond b (refused 16) (history h)) (le-ltb room (length (calls h)) (omega (arith, most, l.few)))
