-- `claim::next_free` meets its contract.
use Rattle.std.proofs.Common.{arith}
use Rattle.rules.specs.Cell.{reader}
use Rattle.store.specs.Shape.{sizes}
use Rattle.claim.specs.Search.{last_least, round}
use Rattle.claim.proofs.next_free.Goals as goal

pub returns : goal.returns
returns c =
    let a = c.args in
    let last = c.last_claimed-last.ensures in
    let least = last_least c.args.store.now.admitted.ranges in
    rw c.or.ensures
    (round (sizes a.store.now.shape) (reader (sizes a.store.now.shape) a.store.now.words.now) c.free_map-map.ensures (omega (arith, last.is)) (omega (arith, last.is)) (omega arith) _ _ c.first_set.ensures c.first_set-2.ensures (omega arith))
