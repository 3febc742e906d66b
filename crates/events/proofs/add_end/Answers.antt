-- `events::add_end` meets its contract: the words of a found start are repeated.
use Rattle.std.proofs.Common.{refl}
use Rattle.events.specs.EventLaws.{records_no_end, records_end}
use Rattle.events.proofs.add_end.Goals as goal

pub returns-in-None : goal.returns-in-None
returns-in-None c = records_no_end _ c.in-None.ensures.found

pub returns-in-Some : goal.returns-in-Some
returns-in-Some c =
    let x = c.add_event in
    rw (x.ensures.1, x.ensures.0) (records_end c.args.t c.in-Some.i _ _ c.in-Some.ensures.found refl refl c.requires)
