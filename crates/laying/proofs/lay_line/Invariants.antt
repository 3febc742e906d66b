-- `laying::lay_line` meets its contract. Assumes nothing.
use Rattle.std.proofs.Common.{length}
use Rattle.laying.proofs.Standing.{Standing}
use Rattle.laying.proofs.lay_line.Given as goal

abbrev pub invariant-loop-j : goal.invariant-loop-j
invariant-loop-j l =
    Standing l.m l.line l.c (length l.line) l.e l.initial.order l.order l.j l.rest.enqueues l.rest.given l.rest.dequeues
