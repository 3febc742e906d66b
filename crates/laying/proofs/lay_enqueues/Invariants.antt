-- `laying::lay_enqueues` meets its contract. Assumes nothing.
use Rattle.laying.proofs.Going.{Going}
use Rattle.laying.proofs.lay_enqueues.Given as goal

abbrev pub invariant-loop-k : goal.invariant-loop-k
invariant-loop-k l = Going l.m l.line l.start l.rest.given l.rest.enqueues l.rest.dequeues l.initial.order l.order l.k
