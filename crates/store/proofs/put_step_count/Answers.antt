-- `store::put_step_count` meets its contract.
use Rattle.store.specs.Shape.{sizes}
use Rattle.store.specs.Words.{step_count_at}
use Rattle.store.proofs.put_step_count.Goals as goal

pub returns : goal.returns
returns c =
    let a = c.args in
    rw (← step_count_at (sizes a.z) a.t) c.put_word.ensures
