-- `session::reopen` meets its contract.
use Rattle.std.proofs.Common.{arith}
use Rattle.events.specs.EventLaws.{none_recorded}
use Rattle.session.proofs.reopen.Goals as goal

pub returns-in-Ok : goal.returns-in-Ok
returns-in-Ok c = ((λ b h r. rw c.in-Ok.is (none_recorded b)), omega arith)

pub returns-in-Err : goal.returns-in-Err
returns-in-Err c = ((λ b h r. rw c.in-Err.is r), omega arith)
