use Rattle.std.proofs.Common.{◌≡◌, refl, ap, ◌∙◌, add-one, arith, length, length-set}
use Rattle.records.specs.Bounds.{entry_bounds, length_bounds}
use Rattle.records.proofs.fill_bounds.Goals as goal

pub bounds-b-1 : goal.bounds-b-1
bounds-b-1 c = simp length-set (omega arith)

pub bounds-b-2 : goal.bounds-b-2
bounds-b-2 c = simp length-set (omega arith)

pub bounds-b-3 : goal.bounds-b-3
bounds-b-3 c = simp length-set (omega arith)

pub loop-i-init : goal.loop-i-init
unfolding entry_bounds
loop-i-init c = refl

pub bounds-b-i : goal.bounds-b-i
bounds-b-i c =
    let e : length c.loop-i.b ≡ length c.args.b.now = ap length c.loop-i.invariant ∙ length_bounds _ _ _ ∙ simp length-set in
    omega arith

pub bounds-b-i-in-loop-i : goal.bounds-b-i-in-loop-i
bounds-b-i-in-loop-i c =
    let e : length c.loop-i.b ≡ length c.args.b.now = ap length c.loop-i.invariant ∙ length_bounds _ _ _ ∙ simp length-set in
    simp length-set (omega arith)

pub loop-i-preserved : goal.loop-i-preserved
unfolding entry_bounds
loop-i-preserved c = (rw (add-one c.loop-i.i, c.loop-i.invariant) refl)

pub shape_of-b : goal.shape_of-b
shape_of-b c = ap length c.loop-i.invariant ∙ length_bounds _ _ _ ∙ simp length-set

pub returns : goal.returns
returns c =
    let e : c.loop-i.i ≡ c.args.z.entries = omega arith in
    c.loop-i.invariant ∙ ap (entry_bounds _ c.args.z.starts) e
