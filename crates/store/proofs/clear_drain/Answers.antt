-- `store::clear_drain` meets its contract.
use Rattle.store.proofs.clear_drain.Goals as goal

pub returns : goal.returns
returns c = rw (← c.drain_at.ensures.0) c.clear.ensures
