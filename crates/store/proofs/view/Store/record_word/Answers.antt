-- `store::view::Store::record_word` meets its contract.
use Rattle.std.proofs.Common.{mul-le-mul_right, arith}
use Rattle.rules.specs.Sizes.{record_words}
use Rattle.store.specs.Shape.{sizes}
use Rattle.store.proofs.view.Store.record_word.Goals as goal

pub word-requires : goal.word-requires
word-requires c = omega (arith, mul-le-mul_right (record_words (sizes c.args.self.now.shape)) c.requires.0)

pub returns : goal.returns
returns c = rw (← c.record_at.ensures.0) c.word.ensures
