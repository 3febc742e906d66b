-- `store::record_at` meets its contract.
use Rattle.std.proofs.Common.{arith}
use Rattle.rules.specs.Sizes.{record_words}
use Rattle.store.specs.Shape.{sizes}
use Rattle.store.specs.Words.{records_below}
use Rattle.store.proofs.record_at.Goals as goal

pub overflow_mul-result-2 : goal.overflow_mul-result-2
overflow_mul-result-2 c = omega (arith, records_below c.record_words.result c.args.r (omega arith) (omega arith))

pub overflow_add-result-3 : goal.overflow_add-result-3
overflow_add-result-3 c = omega (arith, records_below c.record_words.result c.args.r (omega arith) (omega arith))

pub returns : goal.returns
returns c = rw c.record_words.ensures.0 (omega (arith, records_below (record_words (sizes c.args.z)) c.args.r (omega arith) (omega arith)))
