-- `threads::row_at_most` meets its contract.
use Rattle.std.proofs.Common.{refl, ◌+◌, leb, get_or}
use mathlib.Core.Bool.{and-true}
use Rattle.threads.proofs.row_at_most.Goals as goal

pub returns : goal.returns
returns c = rw (and-true (leb (get_or c.args.s.now (c.args.at + 7) 0) c.args.g)) refl
