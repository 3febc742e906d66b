-- `store::put_record_word` meets its contract.
use Rattle.std.proofs.Common.{mul-le-mul_right, arith}
use Rattle.rules.specs.Sizes.{record_words}
use Rattle.store.specs.Shape.{sizes}
use Rattle.store.proofs.put_record_word.Goals as goal

pub put_word-requires : goal.put_word-requires
put_word-requires c = record { room = c.requires.room; at_bound = omega (arith, mul-le-mul_right (record_words (sizes c.args.z)) c.requires.r_lt_records.0) }

pub returns : goal.returns
returns c = rw (← c.record_at.ensures.0) c.put_word.ensures
