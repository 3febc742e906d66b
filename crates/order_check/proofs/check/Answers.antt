-- `order_check::check` meets its contract. Assumes nothing.
use Rattle.std.proofs.Common.{refl}
use Rattle.std.proofs.lemmas.Result.{err_from_is_err_and}
use Rattle.reading.proofs.Zeros.{no_calls}
use Rattle.order_check.proofs.Keeping.{refuses, few_calls, replies}
use Rattle.order_check.proofs.check.Goals as goal

pub read-requires : goal.read-requires
read-requires c = no_calls 28672 refl

pub returns-in_err-calls : goal.returns-in_err-calls
returns-in_err-calls c = let p = err_from_is_err_and c.from_residual.result c.from_residual.ensures.1 in rw (p.1, p.2) (refuses _ _ _ c.read.ensures _ _ c.in_err-calls.was)

pub invariant_of-listing : goal.invariant_of-listing
invariant_of-listing c = record { few = few_calls _ _ _ c.read.ensures _ c.in_ok-calls.was }

pub returns : goal.returns
returns c = replies _ _ _ c.read.ensures _ c.in_ok-calls.was _ _ c.is_order.ensures
