-- `reading::start` meets its contract. Assumes nothing.
use Rattle.reading.proofs.Starting.{start_busy, start_old, start_good}
use Rattle.reading.proofs.start.Goals as goal

pub returns-then-m-event-ne0 : goal.returns-then-m-event-ne0
returns-then-m-event-ne0 c = let p = c.requires in start_busy _ _ _ _ _ _ p.0 p.2 _ c.if-m-event-ne0.true

pub returns-then-not-fresh : goal.returns-then-not-fresh
returns-then-not-fresh c =
    let p = c.requires in
    start_old _ _ _ _ _ _ p.0 p.2 _ _ c.if-not-fresh.true c.fresh.ensures

pub returns : goal.returns
returns c =
    let p = c.requires in
    start_good _ _ _ _ _ _ p.0 p.2 _ _ c.begin.ensures p.1 c.if-m-event-ne0.false
    c.if-not-fresh.false c.fresh.ensures
