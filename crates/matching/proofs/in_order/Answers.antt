use Rattle.std.proofs.Common.{refl, sym, ◌∙◌, add-one, arith}
use Rattle.matching.specs.Rows.{ordered}
use Rattle.matching.proofs.Ordering.{start_kept, start_latest, end_kept, end_latest}
use Rattle.matching.proofs.in_order.Goals.{then-starts, else-starts}
use Rattle.matching.proofs.in_order.Goals as goal

pub loop-k-init : goal.loop-k-init
unfolding ordered
loop-k-init c = (omega arith, refl, refl)

pub loop-k-preserved : goal.loop-k-preserved
loop-k-preserved c =
    let i = c.loop-k.invariant in
    let ws = c.args.words.now in
    let ps = c.args.places.now in
    let k = c.loop-k.k in
    rw add-one (
      omega arith,
      elim c.if-starts.branch [
        | then-starts w ↦ w.all-is ∙ start_kept ws ps k i.1 i.2 (sym c.starts.ensures ∙ w.if-starts.true)
        | else-starts w ↦ w.all-is ∙ end_kept ws ps k i.1 (sym c.starts.ensures ∙ w.if-starts.false)
      ],
      elim c.if-starts.branch [
        | then-starts w ↦ w.latest-is ∙ start_latest ws ps k i.2 (sym c.starts.ensures ∙ w.if-starts.true)
        | else-starts w ↦ w.latest-is ∙ w.max-latest.ensures ∙ end_latest ws ps k i.2 (sym c.starts.ensures ∙ w.if-starts.false)
      ],
    )
