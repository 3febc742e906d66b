-- An item's end can move: what is told with the item's end last is well-formed and explained, and so is what was told before, with the
-- dequeue under way. From LateFacts and the criterion.
use Rattle.std.specs.Prelude.{◌≡◌, true, ◌∷◌, ℕ}
use Rattle.history.specs.Event.{History, gave_item}
use Rattle.history.specs.Form.{well_formed}
use Rattle.history.specs.Linearization.{Linearizable}
use Rattle.criterion.specs.Explained.{Explained}
use Rattle.criterion.specs.Growth.{dequeue_may_give}
use Rattle.criterion.specs.Criterion.{criterion}
use Rattle.criterion.specs.Late.{Late}
use Rattle.criterion.specs.LateFacts.{late_dequeuing, late_formed, late_explained, late_may_give}

module _ {n v : ℕ} {g h : History} (late : Late n v g h) (formed : well_formed g ≡ true) where
  pub settled_formed : well_formed (gave_item n v ∷ h) ≡ true
  settled_formed = dequeue_may_give h (late_formed late formed) n v (late_dequeuing late formed)

  pub settled_explained : Explained g → Explained (gave_item n v ∷ h)
  settled_explained explained = (late_may_give late formed explained, late_explained late explained)

  pub late_linearizable : Explained g → Linearizable h
  late_linearizable explained = (criterion h (late_formed late formed)).0 (late_explained late explained)
