-- `store::put_pair` meets its contract.
use Rattle.std.proofs.Common.{arith, length-set}
use Rattle.store.proofs.put_pair.Goals as goal

pub bounds-s-i-2 : goal.bounds-s-i-2
bounds-s-i-2 c = simp length-set (omega arith)
