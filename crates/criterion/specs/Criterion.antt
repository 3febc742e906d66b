-- The criterion: a well-formed history is explained exactly when it is linearizable, the order that shows it is a function of
-- the history and of the items that are to be left, and the judge's pass computes the verdict.
use Rattle.std.specs.Prelude.{◌≡◌, true, ◌↔◌}
use Rattle.std.proofs.Math.Logic.Iff
use Rattle.history.specs.Event.{History}
use Rattle.history.specs.Form.{well_formed}
use Rattle.history.specs.Linearization.{Queue, Linearization, Linearizable}
use Rattle.criterion.specs.Explained.{Explained, Rest}
use Rattle.criterion.specs.Order.{order, remaining}
use Rattle.criterion.specs.Pass.{explains}
use Rattle.criterion.specs.Sound
use Rattle.criterion.specs.Complete.{complete}
use Rattle.criterion.specs.Remaining.{some_rest}
use Rattle.criterion.specs.Judged.{explains_is}

-- An explained history has a linearization that leaves any order in which its items may be left.
pub sound : (h : History) → well_formed h ≡ true → Explained h → (rest : Queue) → Rest h rest → Linearization h (order h rest) rest
sound = Sound.sound

-- There is always such an order: the ended items that were not taken, by their starts.
pub rest_exists : (h : History) → well_formed h ≡ true → Rest h (remaining h)
rest_exists = some_rest

-- A history is explained exactly when it is linearizable.
pub criterion : (h : History) → well_formed h ≡ true → Explained h ↔ Linearizable h
criterion h formed = (
  λ explained. (order h (remaining h), remaining h, sound h formed explained (remaining h) (rest_exists h formed)),
  complete h formed,
)

-- The judge's pass finds out which.
pub verdict : (h : History) → well_formed h ≡ true → (explains h ≡ true) ↔ Linearizable h
verdict h formed = Iff.trans (explains_is h formed) (criterion h formed)
