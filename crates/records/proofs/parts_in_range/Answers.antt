-- `records::parts_in_range` meets its contract.
use Rattle.std.proofs.Common.{refl}
use mathlib.Core.Bool.{and-true}
use native.Mathlib.Numerals.{unary_clauses}
use Rattle.records.proofs.parts_in_range.Goals as goal

pub returns : goal.returns
returns c = simp (and-true, unary_clauses) refl
