-- `two_recordings::print_refused` meets its contract.
use Rattle.two_recordings.specs.Laws.{refused_first, refused_second}
use Rattle.two_recordings.proofs.print_refused.Goals as goal

pub returns-in-First : goal.returns-in-First
returns-in-First c = rw (← c.into-number.ensures, refused_first c.into-number.result c.in-First.is) c.print_numbered.ensures

pub returns-in-Second : goal.returns-in-Second
returns-in-Second c = rw (← c.into-number.ensures, refused_second c.into-number.result c.in-Second.is) c.print_numbered-in-Second.ensures
