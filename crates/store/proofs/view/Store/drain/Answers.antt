-- `store::view::Store::drain` meets its contract.
use Rattle.std.proofs.Common.{arith}
use Rattle.store.specs.Words.{drain_most}
use Rattle.store.proofs.view.Store.drain.Goals as goal

pub returns : goal.returns
returns c =
    let most = drain_most c.args.self.now.admitted in
    let limit = c.drain_word.ensures.is in
    let count = c.drain_word-2.ensures.is in
    record { limit = limit; count = count; limit_most = omega arith; count_most = omega arith }
