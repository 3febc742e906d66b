-- `draining::hand_over` meets its contract.
use Rattle.std.proofs.Common.{◌≡◌, refl, ap, ◌∙◌, ℕ, ◌+◌, add-one, arith, length-set}
use lib.Seq.{sets}
use Rattle.store.specs.Shape.{sizes}
use Rattle.draining.specs.Onward.{pair_words, pair_more, pairs_are}
use Rattle.draining.proofs.hand_over.Goals as goal

pub loop-i-init : goal.loop-i-init
loop-i-init c = (refl, refl)

pub bounds-part-i-in-loop-i : goal.bounds-part-i-in-loop-i
bounds-part-i-in-loop-i c = simp length-set (omega arith)

pub loop-i-preserved : goal.loop-i-preserved
loop-i-preserved c =
    let l = c.loop-i in (
      rw (l.invariant.0, add-one l.i) (pair_more c.args.s.now c.args.part.now (c.drain_at.result + 2) l.i),
      simp length-set l.invariant.1,
    )

pub shape_of-part : goal.shape_of-part
shape_of-part c = c.loop-i.invariant.1

pub returns : goal.returns
returns c =
    let a = c.args in
    let e : c.loop-i.i ≡ a.n = omega arith in
    c.loop-i.invariant.0
    ∙ ap (λ (k : ℕ). sets a.part.now 0 (pair_words a.s.now (c.drain_at.result + 2) k)) e
    ∙ ap (sets a.part.now 0) (pairs_are (sizes a.z) a.s.now (c.drain_at.result + 2) a.n (omega arith) c.requires.n_le_most_drained.0)
