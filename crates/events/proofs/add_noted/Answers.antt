-- `events::add_noted` meets its contract: in each case what the write of that case adds.
use Rattle.history.specs.Event.{enqueue_started, dequeue_started, gave_item, gave_empty}
use Rattle.events.specs.EventLaws.{records_one}
use Rattle.events.proofs.add_noted.Goals as goal

pub returns-in-Started : goal.returns-in-Started
returns-in-Started c =
    let x = c.add_event in
    let y = c.in-Started in
    rw (c.in-Some.is, y.is, x.ensures.1, x.ensures.0) (records_one (enqueue_started y.t y.n y.v) c.requires)

pub returns-in-DequeueStarted : goal.returns-in-DequeueStarted
returns-in-DequeueStarted c =
    let x = c.add_event-in-DequeueStarted in
    let y = c.in-DequeueStarted in
    rw (c.in-Some.is, y.is, x.ensures.1, x.ensures.0) (records_one dequeue_started c.requires)

pub returns-in-Item : goal.returns-in-Item
returns-in-Item c =
    let x = c.add_event-in-Item in
    let y = c.in-Item in
    rw (c.in-Some.is, y.is, x.ensures.1, x.ensures.0) (records_one (gave_item y.n y.v) c.requires)

pub returns-in-Empty : goal.returns-in-Empty
returns-in-Empty c =
    let x = c.add_event-in-Empty in
    let y = c.in-Empty in
    rw (c.in-Some.is, y.is, x.ensures.1, x.ensures.0) (records_one gave_empty c.requires)
