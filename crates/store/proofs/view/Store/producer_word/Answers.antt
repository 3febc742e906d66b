-- `store::view::Store::producer_word` meets its contract.
use Rattle.std.proofs.Common.{refl}
use Rattle.rules.specs.Cell.{producer}
use Rattle.store.proofs.view.Store.producer_word.Goals as goal

pub returns : goal.returns
returns c = c.word.ensures.reads (producer c.args.t c.args.k) c.requires refl
