-- `laying::line_items` meets its contract. Assumes nothing.
use Rattle.laying.specs.Line.{gather_to, item_at, Notes}
use Rattle.laying.proofs.line_items.Given as goal

abbrev pub invariant-loop-j : goal.invariant-loop-j
invariant-loop-j l = Notes l.initial.line l.line l.initial.flags l.flags (gather_to (item_at l.m l.items) l.j)
