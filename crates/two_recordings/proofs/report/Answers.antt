-- `two_recordings::report` meets its contract: what the lines before the empty line print, or what follows them.
use Rattle.std.proofs.Common.{refl, ap, ◌∙◌, Err, sym, ℕ, arith, length-take-le}
use lib.ListN.{length-replicate}
use Rattle.lines.specs.Laws.{line_within, numbers_fit, numbers_within}
use Rattle.protocol.specs.Words.{newline}
use Rattle.two_recordings.specs.Laws.{empty_within, first_printed, first_good}
use Rattle.two_recordings.proofs.report.Goals as goal

pub slice_bounds-parse-end : goal.slice_bounds-parse-end
slice_bounds-parse-end c = sym (length-take-le _ _ (rw c.empty_line-end.ensures (empty_within newline c.args.text.now)))

pub slice_bounds-first-end : goal.slice_bounds-first-end
slice_bounds-first-end c = numbers_within c.in-Ok.ensures refl

pub slice_bounds-print_after-end : goal.slice_bounds-print_after-end
slice_bounds-print_after-end c = sym (length-take-le _ _ (numbers_within c.in-Ok.ensures refl))

pub print_after-requires : goal.print_after-requires
print_after-requires c =
    rw (length-take-le _ _ (numbers_within c.in-Ok.ensures refl)) (numbers_fit c.in-Ok.ensures refl, omega arith)

pub returns-in-Ok : goal.returns-in-Ok
returns-in-Ok c = rw (first_good c.args.text.now c.empty_line-end.ensures (length-replicate {A = ℕ} 32768 0) c.in-Ok.ensures refl) c.print_after.ensures

pub overflow_cast-line : goal.overflow_cast-line
overflow_cast-line c =
    let x = c.in-Err-BadLine in
    rw x.field-0-is (omega (arith, line_within c.parse.ensures (x.is ∙ ap Err x.field-0-is), length-replicate {A = ℕ} 32768 0))

pub returns-in-Err-BadLine : goal.returns-in-Err-BadLine
returns-in-Err-BadLine c =
    let x = c.in-Err-BadLine in
    rw (first_printed c.args.text.now c.empty_line-end.ensures (length-replicate {A = ℕ} 32768 0) c.parse.ensures (x.is ∙ ap Err x.field-0-is))
    (rw x.line-is at c.print_numbered.ensures)

pub returns-in-Err-TooLong : goal.returns-in-Err-TooLong
returns-in-Err-TooLong c =
    let x = c.in-Err-TooLong in
    rw (first_printed c.args.text.now c.empty_line-end.ensures (length-replicate {A = ℕ} 32768 0) c.parse.ensures (x.is ∙ ap Err x.field-0-is)) c.write_bytes.ensures
