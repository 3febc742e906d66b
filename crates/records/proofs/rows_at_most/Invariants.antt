-- `records::rows_at_most` meets its contract.
use Rattle.std.proofs.Common.{◌&&◌, ◌≡◌}
use Rattle.rules.specs.Range.{every}
use Rattle.records.specs.Bounds.{word_test}
use Rattle.records.proofs.rows_at_most.Given as goal

abbrev pub invariant-loop-j : goal.invariant-loop-j
invariant-loop-j l = every l.j (λ i. word_test l.s l.b l.at i && word_test l.s l.b l.other i) ≡ l.ok
