-- `text::read_digits` meets its contract. The loop's invariant: reading on from i with the value so far gives the answer.
use Rattle.std.proofs.Common.{◌≡◌, drop}
use Rattle.text.specs.Decimal.{digits_from}
use Rattle.text.proofs.read_digits.Given as goal

abbrev pub invariant-loop-i : goal.invariant-loop-i
invariant-loop-i l = digits_from l.i l.value (drop l.i l.s) ≡ digits_from l.at 0 (drop l.at l.s)
