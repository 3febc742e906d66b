-- `two_recordings::print_reply` meets its contract: the line of same calls or of other calls.
use Rattle.two_recordings.proofs.print_reply.Goals as goal

pub returns-in-Ok-true : goal.returns-in-Ok-true
returns-in-Ok-true c = let x = c.in-Ok-true in rw (x.is, x.field-0-test) c.write_bytes.ensures

pub returns-in-Ok-false : goal.returns-in-Ok-false
returns-in-Ok-false c = let x = c.in-Ok-false in rw (x.is, x.field-0-test) c.write_bytes-in-Ok-false.ensures
