use Rattle.std.proofs.Common.{refl, le_antisymm}
use Rattle.rules.specs.Cell.{reader}
use Rattle.store.specs.Shape.{sizes}
use Rattle.free_map.specs.Kept.{none_yet, keeps_more}
use Rattle.free_map.proofs.kept_records.Goals as goal

pub loop-t-init : goal.loop-t-init
loop-t-init c =
    let a = c.args in
    none_yet (sizes a.store.now.shape) (reader (sizes a.store.now.shape) a.store.now.words.now) _ refl refl

pub loop-t-preserved : goal.loop-t-preserved
loop-t-preserved c =
    let a = c.args in
    let p = c.producer-p.ensures in
    keeps_more (sizes a.store.now.shape) (reader (sizes a.store.now.shape) a.store.now.words.now) c.loop-t.invariant p.held p.claimed c.with_link-kept.ensures c.with_link-kept-in-loop-t.ensures

pub returns : goal.returns
returns c = rw (le_antisymm c.loop-t.auto.t-end c.loop-t-test.false) at c.loop-t.invariant
