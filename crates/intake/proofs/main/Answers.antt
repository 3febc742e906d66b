-- `intake::main` meets its contract: what was read and what was printed lie within their buffers.
use Rattle.std.proofs.Common.{sym, ℕ, length-take-le}
use lib.ListN.{length-replicate}
use Rattle.text.specs.Laws.{wrote_within}
use Rattle.session.specs.Length.{length_output}
use Rattle.intake.proofs.main.Goals as goal

pub slice_bounds-input-end : goal.slice_bounds-input-end
slice_bounds-input-end c = c.in-Ok.ensures

pub slice_bounds-out-end : goal.slice_bounds-out-end
slice_bounds-out-end c = wrote_within c.run-printed.ensures (length-replicate {A = ℕ} 155679 0) (length_output _)

pub slice_bounds-print-end : goal.slice_bounds-print-end
slice_bounds-print-end c =
    sym (length-take-le _ _ (wrote_within c.run-printed.ensures (length-replicate {A = ℕ} 155679 0) (length_output _)))
