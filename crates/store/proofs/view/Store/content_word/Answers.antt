-- `store::view::Store::content_word` meets its contract.
use Rattle.std.proofs.Common.{refl}
use Rattle.rules.specs.Cell.{content}
use Rattle.store.proofs.view.Store.content_word.Goals as goal

pub returns : goal.returns
returns c = c.word.ensures.reads (content c.args.k) c.requires refl
