-- `reading::begin` meets its contract. Assumes nothing.
use Rattle.reading.specs.Steps.{begun}
use Rattle.reading.proofs.begin.Goals as goal

pub returns : goal.returns
unfolding begun
returns c = rw (c.max-top.ensures, c.mark_of-mark.ensures)
