use Rattle.std.proofs.Common.{refl, add-one}
use mathlib.Core.Bool.{and-true}
use native.Mathlib.Numerals.{unary_clauses}
use Rattle.records.proofs.entries_in_range.Goals as goal

pub loop-i-preserved : goal.loop-i-preserved
loop-i-preserved c =
    let l = c.loop-i in
    (rw (add-one l.i, l.invariant) (simp (and-true, unary_clauses) refl))
