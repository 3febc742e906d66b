-- `recording::report` meets its contract: what the parsed lines print.
use Rattle.std.proofs.Common.{refl, ap, ◌∙◌, Err, sym, ℕ, arith, length-take-le}
use lib.ListN.{length-replicate}
use Rattle.lines.specs.Laws.{line_within, numbers_within}
use Rattle.recording.specs.Laws.{reported_is, reported_numbers}
use Rattle.recording.proofs.report.Goals as goal

pub slice_bounds-numbers-end : goal.slice_bounds-numbers-end
slice_bounds-numbers-end c = numbers_within c.in-Ok.ensures refl

pub slice_bounds-print_judged-end : goal.slice_bounds-print_judged-end
slice_bounds-print_judged-end c =
    sym (length-take-le _ _ (numbers_within c.in-Ok.ensures refl))

pub returns-in-Ok : goal.returns-in-Ok
returns-in-Ok c =
    rw (reported_numbers (length-replicate {A = ℕ} 32768 0) c.in-Ok.ensures refl) c.print_judged.ensures

pub overflow_cast-line : goal.overflow_cast-line
overflow_cast-line c =
    let x = c.in-Err-BadLine in
    rw x.field-0-is (omega (arith, line_within c.parse.ensures (x.is ∙ ap Err x.field-0-is), length-replicate {A = ℕ} 32768 0))

pub returns-in-Err-BadLine : goal.returns-in-Err-BadLine
returns-in-Err-BadLine c =
    let x = c.in-Err-BadLine in
    rw (reported_is (length-replicate {A = ℕ} 32768 0) c.parse.ensures (x.is ∙ ap Err x.field-0-is)) (rw x.line-is at c.print_numbered.ensures)

pub returns-in-Err-TooLong : goal.returns-in-Err-TooLong
returns-in-Err-TooLong c =
    let x = c.in-Err-TooLong in
    rw (reported_is (length-replicate {A = ℕ} 32768 0) c.parse.ensures (x.is ∙ ap Err x.field-0-is)) c.write_bytes.ensures
