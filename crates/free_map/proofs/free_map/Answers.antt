-- `free_map::free_map` meets its contract.
use Rattle.std.proofs.Common.{arith}
use Rattle.rules.specs.Cell.{reader}
use Rattle.store.specs.Shape.{sizes}
use Rattle.free_map.specs.Kept.{others_most, free_digits}
use Rattle.free_map.proofs.free_map.Goals as goal

pub overflow_sub-result : goal.overflow_sub-result
overflow_sub-result c =
    let a = c.args in
    let kept = c.kept_records-kept in
    others_most (sizes a.store.now.shape) (reader (sizes a.store.now.shape) a.store.now.words.now) kept.result (omega arith) kept.ensures c.places_below.ensures _ (omega arith)

pub returns : goal.returns
returns c =
    let a = c.args in
    let kept = c.kept_records-kept in
    free_digits (sizes a.store.now.shape) (reader (sizes a.store.now.shape) a.store.now.words.now) kept.result (omega arith) kept.ensures c.places_below.ensures _ (omega arith) c.args.store.now.admitted.ranges
