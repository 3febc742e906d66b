-- `store::view::Store::part` meets its contract.
use Rattle.std.proofs.Common.{refl}
use Rattle.rules.specs.Cell.{part}
use Rattle.store.proofs.view.Store.part.Goals as goal

pub returns : goal.returns
returns c = c.record_word.ensures.reads (part c.args.r c.args.k) c.requires refl
