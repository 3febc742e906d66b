-- What a phase knows of a slot once it has looked at its case, and the refusals. The link and the position are words of the store.
use mathlib.Core.Path.{◌≡◌, ap, sym}
use mathlib.Core.Bool.{cond}
use mathlib.Core.List.{List}
use Rattle.std.specs.Prelude.{Err}
use Prim.Native.Nat.{ℕ, ◌<◌}
use Rattle.rules.specs.Sizes.{Sizes}
use Rattle.rules.specs.Cell.{Reader, reader}
use Rattle.rules.specs.Rule.{Effect, refuse, need, at_end, within}
use Rattle.rules.specs.Request.{applied}
use Rattle.store.specs.declared.Refusal.TheVariants.{Broken}
use Rattle.store.specs.declared.Slot.{Slot}
use Rattle.store.specs.declared.Slot.TheVariants.{End, At}
use Rattle.store.specs.Outcome.{left, leaves}
use Rattle.store.specs.Slot.{StandsEnd, StandsAt, StandsNowhere, Placed, Outside}

-- the entry of one position is that of an equal one
pub located : {z : Sizes} {σ : Reader} {l p link position r i : ℕ} → link ≡ l → position ≡ p → StandsAt z σ l p r i → StandsAt z σ link position r i
located a b s = rw (a, b) s

module _ {z : Sizes} {m : List ℕ} {l p link position : ℕ} (a : link ≡ l) (b : position ≡ p) where
  pub stands_end : {x : Slot} {r : ℕ} → Placed z m l p x → x ≡ End r → StandsEnd z (reader z m) link position r
  stands_end s e = rw (a, b) (rw e at s.stands)

  pub stands_at : {x : Slot} {r i : ℕ} → Placed z m l p x → x ≡ At r i → StandsAt z (reader z m) link position r i
  stands_at s e = rw (a, b) (rw e at s.stands)

  -- at no index of the record
  pub outside : (f : ℕ → Effect) → Outside z (reader z m) l p
      → left (Err Broken) m ≡ leaves z m (need link (λ r. cond (within z (reader z m) r position) (f r) (refuse 9)))
  unfolding applied
  outside f s = rw (a, b) (ap (leaves z m) (sym (s.refused f)))

  -- neither at the record's end nor in it
  pub nowhere : (f g : ℕ → Effect) → StandsNowhere z (reader z m) l p
      → left (Err Broken) m ≡ leaves z m (need link (λ r. cond (at_end z (reader z m) r position) (f r) (cond (within z (reader z m) r position) (g r) (refuse 9))))
  unfolding applied
  nowhere f g s = rw (a, b) (ap (leaves z m) (sym (s.refused f g)))
