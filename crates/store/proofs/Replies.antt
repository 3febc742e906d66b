-- What a caller knows of a reply that means going.
use mathlib.Core.Path.{◌≡◌, refl}
use mathlib.Core.List.{List}
use Prim.Native.Nat.{ℕ}
use Rattle.rules.specs.Rule.{going}
use Rattle.store.specs.declared.Reply.{Reply}
use Rattle.store.specs.declared.Reply.TheVariants.{Done, Started, Going, Ended, Empty, Item, Drained}
use Rattle.store.specs.Outcome.{reply_in}

-- It is Going, whatever the buffer.
pub only_going : (b : List ℕ) (i : ℕ) (r : Reply) → reply_in b i r ≡ going → r ≡ Going
only_going b i Done e = cc
only_going b i (Started n) e = cc
only_going b i Going e = refl
only_going b i Ended e = cc
only_going b i Empty e = cc
only_going b i (Item n v) e = cc
only_going b i (Drained n) e = cc
