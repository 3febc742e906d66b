-- `judge::answer_of` meets its contract. Assumes nothing.
use Rattle.judge.proofs.Filling.{answer_enqueue, answer_under_way, answer_ended}
use Rattle.judge.proofs.answer_of.Goals as goal

pub returns-then-m-j-ne0 : goal.returns-then-m-j-ne0
returns-then-m-j-ne0 c = answer_enqueue _ _ _ _ _ _ c.if-m-j-ne0.true

pub returns-then-m-j-eq0 : goal.returns-then-m-j-eq0
returns-then-m-j-eq0 c = answer_under_way _ _ _ _ _ _ c.if-m-j-ne0.false c.if-m-j-eq0.true

pub returns : goal.returns
returns c = answer_ended _ _ _ _ _ _ c.if-m-j-ne0.false c.if-m-j-eq0.false
