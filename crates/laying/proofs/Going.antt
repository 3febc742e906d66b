-- Back along the line: the enqueues from k on are laid before what stood from word p + e on.
use mathlib.Core.Path.{◌≡◌}
use mathlib.Core.Bool.{false}
use mathlib.Core.List.{List, ◌++◌, map}
use Prim.Native.Nat.{ℕ, suc, ◌+◌, ◌≤◌, ◌<◌}
use lib.ListN.{length, get_or, drop}
use lib.Seq.{slice}
use Rattle.criterion.specs.Order.{ended_before}
use Rattle.marking.specs.Marks.{enqueue_at}

-- What has been laid on the way back, so far to k.
pub record Going (m line : List ℕ) (s t p e : ℕ) (before order : List ℕ) (k : ℕ) : Type 0 where
  pub least : t ≤ k
  pub most : k ≤ p
  pub late : (i : ℕ) → k ≤ i → i < p → ended_before s (enqueue_at m (get_or line i 0)) ≡ false
  pub size : length order ≡ length before
  pub words : drop (k + e) order ≡ map suc (slice k p line) ++ drop (p + e) before
