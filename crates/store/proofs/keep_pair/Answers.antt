-- `store::keep_pair` meets its contract.
use Rattle.std.proofs.Common.{ap₂, ◌∙◌, ℕ, ◌+◌, ◌*◌, arith, set}
use Rattle.rules.specs.Cell.{address, pair_number}
use Rattle.store.specs.Shape.{sizes}
use Rattle.store.proofs.keep_pair.Goals as goal

pub returns : goal.returns
returns c =
    let a = c.args in
    let at = c.drain_at.result + 2 + 2 * a.i in
    c.put_pair.ensures
    ∙ ap₂ (λ (x y : ℕ). set (set a.s.now x a.number) y a.value) {x = at} {y = address (sizes a.z) (pair_number a.i)} (omega arith) (omega arith)
