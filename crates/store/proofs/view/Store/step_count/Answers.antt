-- `store::view::Store::step_count` meets its contract.
use Rattle.rules.specs.Cell.{step_count}
use Rattle.store.specs.Shape.{sizes}
use Rattle.store.specs.Words.{step_count_there, step_count_at}
use Rattle.store.proofs.view.Store.step_count.Goals as goal

pub returns : goal.returns
returns c =
    let a = c.args in
    let there = step_count_there (sizes a.self.now.shape) a.t c.requires in
    (c.word.ensures.reads (step_count a.t) there (step_count_at (sizes a.self.now.shape) a.t)).is
