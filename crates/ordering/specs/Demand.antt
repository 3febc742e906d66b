-- Demand 3, as document 01 words it ("What demand 3 speaks of"). This module has the statement alone; every name in it is a
-- definition of `history` or `rules`. The proof is `Theorem.demand_3`.
use Rattle.std.specs.Prelude.{◌≡◌, ◌≢◌, true, List, [], ℕ}
use Rattle.history.specs.Lists.{All}
use Rattle.history.specs.Calls.{Call}
use Rattle.history.specs.Form.{well_formed}
use Rattle.history.specs.Linearization.{Linearization, Linearizable, Settled}
use Rattle.rules.specs.Sizes.{Sizes}
use Rattle.rules.specs.Cell.{reader}
use Rattle.rules.specs.Rule.{refused, accepted, ok}
use Rattle.rules.specs.Request.{Invocation, open_store}
use Rattle.rules.specs.Play.{Played, play, items_left}

-- What is owed of the calls made so far on a store of sizes z.
pub record Ordered (z : Sizes) (p : Played) : Type 0 where
  -- The history is linearizable (and well-formed: no event of it would be refused with 13).
  pub formed : well_formed p.history ≡ true
  pub linearizable : Linearizable p.history
  -- If no call is under way, it has a linearization that leaves exactly the items left, in order.
  pub leaves : Settled p.history → (order : List Call) × Linearization p.history order (items_left z (reader z p.words))
  -- No call was answered 3 or 9.
  pub answered : All (λ r. (r ≢ refused 3) × (r ≢ refused 9)) p.replies

-- For sizes z and any words m that an open accepts, whatever they held before; for every list of starts, of drains too, and steps, with any
-- arguments and buffers, refused ones included. Each call gets the store as the one before left it.
abbrev pub Demand3 : Type 0
Demand3 =
    (z : Sizes) (m : List ℕ) (calls : List Invocation)
    → (open_store z m).reply ≡ accepted ok 0
    → Ordered z (play calls (record { words = (open_store z m).words; replies = []; history = [] }))
