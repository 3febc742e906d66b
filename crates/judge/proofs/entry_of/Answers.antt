-- `judge::entry_of` meets its contract. Assumes nothing.
use Rattle.judge.proofs.Filling.{entry_is}
use Rattle.judge.proofs.entry_of.Goals as goal

pub returns : goal.returns
returns c =
    let a = c.args in
    entry_is a.m.now a.j _ _ c.kind_of.ensures c.answer_of.ensures
