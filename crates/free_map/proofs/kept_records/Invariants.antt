-- `free_map::kept_records` meets its contract.
use Rattle.rules.specs.Cell.{reader}
use Rattle.store.specs.Shape.{sizes}
use Rattle.free_map.specs.Kept.{Keeps}
use Rattle.free_map.proofs.kept_records.Given as goal

abbrev pub invariant-loop-t : goal.invariant-loop-t
invariant-loop-t l = Keeps (sizes l.store.shape) (reader (sizes l.store.shape) l.store.words.now) l.t l.kept
