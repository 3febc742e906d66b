-- `store::view::Store::record_end` meets its contract.
use Rattle.std.proofs.Common.{ap, ℕ, ◌*◌, arith}
use Rattle.store.specs.Words.{end_below}
use Rattle.store.proofs.view.Store.record_end.Goals as goal

pub overflow_mul-result : goal.overflow_mul-result
overflow_mul-result c = omega (arith, end_below c.args.self.now.shape.entries c.part.result (omega arith) (omega arith))

pub returns : goal.returns
returns c = (
  ap (λ (x : ℕ). c.args.self.now.shape.entries * x) c.part.ensures.is,
  end_below c.args.self.now.shape.entries c.part.result (omega arith) (omega arith),
)
