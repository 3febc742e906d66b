-- `store::view::Store::last_claimed` meets its contract.
use Rattle.std.proofs.Common.{refl}
use Rattle.rules.specs.Cell.{last_claimed}
use Rattle.store.proofs.view.Store.last_claimed.Goals as goal

pub returns : goal.returns
returns c = c.word.ensures.reads last_claimed tt refl
