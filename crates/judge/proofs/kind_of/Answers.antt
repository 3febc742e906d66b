-- `judge::kind_of` meets its contract. Assumes nothing.
use Rattle.judge.proofs.Filling.{kind_dequeue, kind_enqueue}
use Rattle.judge.proofs.kind_of.Goals as goal

pub returns-then-m-j-eq0 : goal.returns-then-m-j-eq0
returns-then-m-j-eq0 c = kind_dequeue _ _ _ _ _ _ c.if-m-j-eq0.true

pub returns : goal.returns
returns c = kind_enqueue _ _ _ _ _ _ c.if-m-j-eq0.false
