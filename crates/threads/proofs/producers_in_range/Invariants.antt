-- `threads::producers_in_range` meets its contract.
use Rattle.std.proofs.Common.{◌≡◌, suc}
use Rattle.rules.specs.Cell.{reader}
use Rattle.rules.specs.Range.{every, producer_in_range}
use Rattle.store.specs.Shape.{sizes}
use Rattle.threads.proofs.producers_in_range.Given as goal

abbrev pub invariant-loop-t : goal.invariant-loop-t
invariant-loop-t l = every l.t (λ p. producer_in_range (sizes l.z) (reader (sizes l.z) l.s) (suc p)) ≡ l.ok
