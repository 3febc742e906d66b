-- `marking::pass` meets its contract. Assumes nothing.
use Rattle.marking.proofs.Passing.{on_enqueue, on_under_way, on_empty}
use Rattle.marking.proofs.pass.Goals as goal

pub returns-then-m-j-ne0 : goal.returns-then-m-j-ne0
returns-then-m-j-ne0 c = on_enqueue _ _ _ _ _ _ _ c.requires.2 c.if-m-j-ne0.true

pub returns-then-m-j-eq0 : goal.returns-then-m-j-eq0
returns-then-m-j-eq0 c = on_under_way _ _ _ _ _ _ _ c.requires.2 c.if-m-j-ne0.false c.if-m-j-eq0.true

pub returns-then-m-j-eq0-2 : goal.returns-then-m-j-eq0-2
returns-then-m-j-eq0-2 c =
    on_empty _ _ _ _ _ _ _ _ c.requires.2 c.if-m-j-ne0.false c.if-m-j-eq0.false c.if-m-j-eq0-2.true c.max.ensures
