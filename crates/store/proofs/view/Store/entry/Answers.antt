-- `store::view::Store::entry` meets its contract.
use Rattle.std.proofs.Common.{refl}
use Rattle.rules.specs.Cell.{entry}
use Rattle.store.proofs.view.Store.entry.Goals as goal

pub returns : goal.returns
returns c = c.record_word.ensures.reads (entry c.args.r c.args.i c.args.k) c.requires refl
