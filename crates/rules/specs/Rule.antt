-- The effect of a rule, and the words that rules are written in. A refusal has no writes, so a refused call changes nothing.
use Rattle.std.specs.Prelude.{Bool, ◌&&◌, cond, List, ℕ, zero, suc, ◌+◌, ◌-◌, ◌*◌, leb, ltb, eqb}
use Rattle.history.specs.Linearization.{Item}
use Rattle.rules.specs.Sizes.{Sizes}
use Rattle.rules.specs.Cell.{Reader, Write, place, next}

-- What an accepted call replies: *open*, *start dequeue* and *start drain* ok, *start enqueue* its call number, *step* the others. (Drained
-- says how many; the items go into the buffer.)
pub data Reply : Type 0 where
  ok : Reply
  started : (number : ℕ) → Reply
  going : Reply
  ended : Reply
  empty : Reply
  item : (number value : ℕ) → Reply
  drained : (items : List Item) → Reply

-- What any call replies: a refusal with its number, or a reply with the number of accepted steps of its call so far, a step's own
-- included (document 02, U3). An open and a start are no steps: 0.
pub data Response : Type 0 where
  refused : ℕ → Response
  accepted : Reply → (steps : ℕ) → Response

-- A rule's effect: a refusal, or a reply with the writes that go with it.
pub data Effect : Type 0 where
  refuse : ℕ → Effect
  reply : Reply → List Write → Effect

abbrev pub goes : List Write → Effect
goes ws = reply going ws

-- Refusal 9: a needed link is none. A record number is stored plus one; zero is none.
abbrev pub need : ℕ → (ℕ → Effect) → Effect
need zero f = refuse 9
need (suc r) f = f r

-- Refusal 9: a number would leave its range.
abbrev pub up_to : (most x : ℕ) → Effect → Effect
up_to most x a = cond (leb x most) a (refuse 9)

module _ (z : Sizes) (σ : Reader) where
  -- Position p stands at record r's end.
  abbrev pub at_end : (r p : ℕ) → Bool
  at_end r p = eqb p (z.B * σ (place r))

  -- Position p is in record r: B × (place − 1) ≤ p < B × place.
  abbrev pub within : (r p : ℕ) → Bool
  within r p = ltb p (z.B * σ (place r)) && leb (z.B * σ (place r)) (p + z.B)

  -- its index there, p − B × (place − 1)
  abbrev pub index : (r p : ℕ) → ℕ
  index r p = p + z.B - z.B * σ (place r)

  -- Refusal 9: an index leaves the record.
  abbrev pub inside : (r p : ℕ) → (ℕ → Effect) → Effect
  inside r p f = cond (within r p) (f (index r p)) (refuse 9)

  -- From record r to its next, at that one's first position, B × (place − 1).
  abbrev pub cross : (r : ℕ) → (ℕ → ℕ → Effect) → Effect
  cross r f = need (σ (next r)) λ n. need (σ (place n)) λ q. up_to z.M (z.B * q) (f n (z.B * q))
