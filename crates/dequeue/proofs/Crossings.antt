-- What a phase leaves where a crossing is refused.
use mathlib.Core.Path.{◌≡◌, ap, sym}
use mathlib.Core.Bool.{cond}
use mathlib.Core.List.{List}
use Prim.Native.Nat.{ℕ, ◌*◌}
use lib.Dec.{leb}
use Rattle.std.specs.Prelude.{Err}
use Rattle.rules.specs.Sizes.{Sizes}
use Rattle.rules.specs.Cell.{reader, next, place}
use Rattle.rules.specs.Rule.{Effect, refuse, need}
use Rattle.rules.specs.Request.{applied}
use Rattle.store.specs.declared.Refusal.TheVariants.{Broken}
use Rattle.store.specs.Outcome.{left, leaves}
use Rattle.dequeue.specs.Crossing.{CrossesNowhere}

pub crosses_nowhere : {z : Sizes} {m : List ℕ} {r : ℕ} (a : ℕ → ℕ → Effect) → CrossesNowhere z (reader z m) r
    → left (Err Broken) m ≡ leaves z m (need (reader z m (next r)) (λ n. need (reader z m (place n)) λ q. cond (leb (z.B * q) z.M) (a n q) (refuse 9)))
unfolding applied
crosses_nowhere {z} {m} a s = ap (leaves z m) (sym (s.refused a))
