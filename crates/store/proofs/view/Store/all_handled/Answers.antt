-- `store::view::Store::all_handled` meets its contract.
use Rattle.std.proofs.Common.{refl}
use Rattle.rules.specs.Cell.{all_handled}
use Rattle.store.proofs.view.Store.all_handled.Goals as goal

pub returns : goal.returns
returns c = c.word.ensures.reads all_handled tt refl
