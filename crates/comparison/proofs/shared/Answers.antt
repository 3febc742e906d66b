use Rattle.std.proofs.Common.{sym, ◌∙◌, arith}
use Rattle.comparison.proofs.Sharing.{none_shared, one_shared}
use Rattle.comparison.proofs.shared.Goals as goal

pub loop-k-init : goal.loop-k-init
loop-k-init c = none_shared _ _ _ c.min-events.ensures

pub loop-k-preserved : goal.loop-k-preserved
loop-k-preserved c = one_shared _ _ _ _ c.loop-k.invariant (omega arith) (sym c.same_event.ensures ∙ c.if-not-same_event.false)
