-- `two_recordings::print_kept` meets its contract.
use Rattle.two_recordings.proofs.print_kept.Goals as goal

pub returns-then-kept : goal.returns-then-kept
returns-then-kept c = rw c.if-kept.true c.write_bytes.ensures

pub returns-else-kept : goal.returns-else-kept
returns-else-kept c = rw c.if-kept.false c.write_bytes-else-kept.ensures
