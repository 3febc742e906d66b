-- `store::view::Store::drain_word` meets its contract.
use Rattle.std.proofs.Common.{arith}
use Rattle.rules.specs.Cell.{drain}
use Rattle.store.proofs.view.Store.drain_word.Goals as goal

pub returns : goal.returns
returns c =
    let b = c.args in
    c.word.ensures.reads (drain b.k) c.requires (omega arith)
