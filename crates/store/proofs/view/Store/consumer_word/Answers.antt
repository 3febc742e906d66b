-- `store::view::Store::consumer_word` meets its contract.
use Rattle.std.proofs.Common.{refl}
use Rattle.rules.specs.Cell.{consumer}
use Rattle.store.proofs.view.Store.consumer_word.Goals as goal

pub returns : goal.returns
returns c = c.word.ensures.reads (consumer c.args.k) c.requires refl
