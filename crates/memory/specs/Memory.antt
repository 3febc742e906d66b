-- The invariant of the records: the chain of linked ones, what producers hold and have claimed, where the consumer stands.
--
-- Why it is inductive. A claim takes a record that is not linked, that no producer has claimed and, if it is retired, that none holds, nor any
-- retired record of greater place; so nothing that anyone can reach changes. A link is made only behind the last record, since only that one has
-- no next. Only the consumer retires: the head record, or one before the tail record whose entries are all handled; either has a next, and keeps
-- its links. So a held record is linked, or retired with a next; and a producer that goes back comes to its position's record, which is listed: from
-- a linked record to the one before it in the list, from a retired one along a trail of retired records to a linked one that is not before it.
use Rattle.std.specs.Prelude.{◌≡◌, Bool, false, ◌⊎◌, ◌≢◌, ℕ, zero, suc, ◌*◌, ◌≤◌, ◌<◌}
use Rattle.std.proofs.Common.{◌∙◌, subst, arith}
use Rattle.rules.specs.Sizes.{Sizes}
use Rattle.rules.specs.Cell.{Reader, producer, part, entry, tail_record, head_record, cursor_record, found_record, place, next, prev, used, state}
use Rattle.memory.specs.Listed.{Listed, Joined}
use Rattle.memory.specs.Chain.{Chain, chain_kept}

-- Where the chain stands: the places of the head, tail and last record, the record of each place, and the places whose records were folded.
pub record ChainShape : Type 0 where
  pub lo : ℕ
  pub tp : ℕ
  pub hi : ℕ
  pub at : ℕ → ℕ
  pub gap : ℕ → Bool

abbrev pub ListedIn : ChainShape → ℕ → Type 0
ListedIn g = Listed g.lo g.hi g.gap

abbrev pub ChainOf : Sizes → Reader → ChainShape → Type 0
ChainOf z σ g = Chain z.N g.lo g.hi g.gap g.at (λ r. σ (place r)) (λ r. σ (next r)) (λ r. σ (prev r)) (λ r. σ (used r))

-- A record that may be held: linked or retired.
abbrev pub Holdable : Reader → ℕ → Type 0
Holdable σ r = (σ (used r) ≡ 2) ⊎ (σ (used r) ≡ 3)

abbrev pub Held : Reader → ℕ → Type 0
Held σ zero = Unit
Held σ (suc r) = Holdable σ r

-- A claimed record: of use 1 and otherwise zero.
pub record Blank (N : ℕ) (σ : Reader) (r : ℕ) : Type 0 where
  pub fits : r < N
  pub claimed_use : σ (used r) ≡ 1
  pub no_place : σ (place r) ≡ 0
  pub no_next : σ (next r) ≡ 0
  pub no_prev : σ (prev r) ≡ 0
  pub no_entry : (i k : ℕ) → σ (entry r i k) ≡ 0

abbrev pub Claimed : (N : ℕ) → Reader → ℕ → Type 0
Claimed N σ zero = Unit
Claimed N σ (suc r) = Blank N σ r

-- The way back from record x to one that is not before position L, in n steps at the most: x is linked and ends past L, or it is retired, its prev
-- is of smaller place, and the way goes on from there.
abbrev pub Ends : (B : ℕ) → Reader → (L x : ℕ) → Type 0
Ends B σ L x = (σ (used x) ≡ 2) × (L < B * σ (place x))

pub record Leads (σ : Reader) (x : ℕ) (Rest : ℕ → Type 0) : Type 0 where
  pub to : ℕ
  pub is_retired : σ (used x) ≡ 3
  pub back : σ (prev x) ≡ suc to
  pub falls : σ (place to) < σ (place x)
  pub rest : Rest to

abbrev pub Trail : (B : ℕ) → Reader → (L n x : ℕ) → Type 0
Trail B σ L zero x = Ends B σ L x
Trail B σ L (suc n) x = Ends B σ L x ⊎ Leads σ x (Trail B σ L n)

-- from a record that may be none
abbrev pub TrailFrom : (B : ℕ) → Reader → (L x : ℕ) → Type 0
TrailFrom B σ L zero = Unit
TrailFrom B σ L (suc x) = (n : ℕ) × Trail B σ L n x

-- A producer's eight words: what it holds and has claimed, and that it does in the phases that need it.
pub record ThreadOk (z : Sizes) (σ : Reader) (row : ℕ → ℕ) : Type 0 where
  pub holding : Held σ (row 4)
  pub claiming : Claimed z.N σ (row 5)
  pub has_held : 3 ≤ row 0 → row 4 ≢ 0
  pub has_claimed : (row 0 ≡ 5) ⊎ (row 0 ≡ 11) → row 5 ≢ 0
  pub trail : row 0 ≡ 7 → TrailFrom z.B σ (row 3) (row 4)

-- the words of producer t
abbrev pub row_of : Reader → ℕ → ℕ → ℕ
row_of σ t k = σ (producer t k)

-- The consumer's record, where it has one, is linked.
abbrev pub Linked : Reader → ℕ → Type 0
Linked σ zero = Unit
Linked σ (suc r) = σ (used r) ≡ 2

-- A retired record has a next, and its place, before the tail record's, is not in the list.
pub record Retired (σ : Reader) (g : ChainShape) (r : ℕ) : Type 0 where
  pub has_next : σ (next r) ≢ 0
  pub before_tail : σ (place r) < g.tp
  pub not_listed : ListedIn g (σ (place r)) → ⊥

pub record Memory (z : Sizes) (σ : Reader) (g : ChainShape) : Type 0 where
  pub head_tail : g.lo ≤ g.tp
  pub tail_last : g.tp ≤ g.hi
  -- the head record was not folded, and no place from the tail record on is a gap
  pub head_in : g.gap g.lo ≡ false
  pub tail_in : (k : ℕ) → g.tp ≤ k → g.gap k ≡ false
  pub chain : ChainOf z σ g
  pub retired : (r : ℕ) → σ (used r) ≡ 3 → Retired σ g r
  pub tail_is : σ tail_record ≡ suc (g.at g.tp)
  pub head_is : σ head_record ≡ suc (g.at g.lo)
  pub threads : (t : ℕ) → ThreadOk z σ (row_of σ t)
  -- no two producers have claimed one record
  pub apart : (t u r : ℕ) → row_of σ t 5 ≡ suc r → row_of σ u 5 ≡ suc r → t ≡ u
  pub cursor : Linked σ (σ cursor_record)
  pub found : Linked σ (σ found_record)
  -- a record that is not linked has no set entry
  pub unset : (r i : ℕ) → r < z.N → i < z.B → (σ (used r) ≡ 2 → ⊥) → σ (state r i) ≡ 1 → ⊥
  -- there are no producers but 1 to P
  pub outside : (t k : ℕ) → ((1 ≤ t) × (t ≤ z.P) → ⊥) → σ (producer t k) ≡ 0

module _ {z : Sizes} {σ : Reader} {g : ChainShape} (m : Memory z σ g) where
  -- the record that producer t has claimed
  pub claimed_is : (t r : ℕ) → row_of σ t 5 ≡ suc r → Blank z.N σ r
  claimed_is t r e = subst (Claimed z.N σ) e (m.threads t).claiming

  -- the record that producer t holds
  pub held_is : (t r : ℕ) → row_of σ t 4 ≡ suc r → Holdable σ r
  held_is t r e = subst (Held σ) e (m.threads t).holding

  -- The head's place, the tail record's and the last one are listed.
  pub head_listed : ListedIn g g.lo
  head_listed = record { from = omega arith; to = omega (arith, m.head_tail, m.tail_last); no_gap = m.head_in }

  pub listed_from_tail : (k : ℕ) → g.tp ≤ k → k ≤ g.hi → ListedIn g k
  listed_from_tail k a b = record { from = omega (arith, m.head_tail); to = b; no_gap = m.tail_in k a }

  pub tail_listed : ListedIn g g.tp
  tail_listed = listed_from_tail g.tp (omega arith) m.tail_last

  pub last_listed : ListedIn g g.hi
  last_listed = listed_from_tail g.hi m.tail_last (omega arith)

  -- From the tail record on each place is joined to the next.
  pub tail_joined : g.tp < g.hi → Joined g.lo g.hi g.gap g.tp (suc g.tp)
  tail_joined more =
      record { left = tail_listed; right = listed_from_tail (suc g.tp) (omega arith) more; rises = omega arith; between = λ i a b. absurd (omega arith) }

  -- The chain stays where the words of linked records outside their entries stay, and none is linked anew.
  pub chain_stays : (σ' : Reader)
      → ((x : ℕ) → σ (used x) ≡ 2 → (k : ℕ) → σ' (part x k) ≡ σ (part x k)) → ((x : ℕ) → σ' (used x) ≡ 2 → σ (used x) ≡ 2) → ChainOf z σ' g
  chain_stays σ' same none =
      chain_kept last_listed m.chain (λ x. σ' (place x)) (λ x. σ' (next x)) (λ x. σ' (prev x)) (λ x. σ' (used x))
      (λ x l. (same x l 0, same x l 1, same x l 2, same x l 3 ∙ l)) none

-- A retired record whose words stay is retired as before.
pub retired_kept : (σ σ' : Reader) (g : ChainShape) (r : ℕ) → ((k : ℕ) → σ' (part r k) ≡ σ (part r k)) → Retired σ g r → Retired σ' g r
retired_kept σ σ' g r e i =
    record {
      has_next = λ q. i.has_next (rw (e 1) at q);
      before_tail = rw (e 0) i.before_tail;
      not_listed = λ l. i.not_listed (rw (e 0) at l);
    }
