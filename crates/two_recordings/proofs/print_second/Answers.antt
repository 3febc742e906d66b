-- `two_recordings::print_second` meets its contract: what the parsed lines print.
use Rattle.std.proofs.Common.{refl, ap, ◌∙◌, Err, sym, ℕ, arith, length-take-le}
use lib.ListN.{length-replicate}
use Rattle.lines.specs.Laws.{line_within, numbers_within, numbers_fit}
use Rattle.two_recordings.specs.Laws.{second_printed, second_compared}
use Rattle.two_recordings.proofs.print_second.Goals as goal

pub slice_bounds-second-end : goal.slice_bounds-second-end
slice_bounds-second-end c = numbers_within c.in-Ok.ensures refl

pub slice_bounds-print_comparison-end : goal.slice_bounds-print_comparison-end
slice_bounds-print_comparison-end c = sym (length-take-le _ _ (numbers_within c.in-Ok.ensures refl))

pub print_comparison-requires : goal.print_comparison-requires
print_comparison-requires c =
    rw (length-take-le _ _ (numbers_within c.in-Ok.ensures refl)) (c.requires.0, numbers_fit c.in-Ok.ensures refl, omega arith)

pub returns-in-Ok : goal.returns-in-Ok
returns-in-Ok c = rw (second_compared _ (length-replicate {A = ℕ} 32768 0) c.in-Ok.ensures refl) c.print_comparison.ensures

pub overflow_add-before : goal.overflow_add-before
overflow_add-before c =
    let x = c.in-Err-BadLine in
    rw x.field-0-is
    (omega (arith, line_within c.parse.ensures (x.is ∙ ap Err x.field-0-is), length-replicate {A = ℕ} 32768 0, c.line_after-before.ensures, c.requires.0))

pub overflow_cast-before : goal.overflow_cast-before
overflow_cast-before c =
    let x = c.in-Err-BadLine in
    rw x.field-0-is
    (omega (arith, line_within c.parse.ensures (x.is ∙ ap Err x.field-0-is), length-replicate {A = ℕ} 32768 0, c.line_after-before.ensures, c.requires.0))

pub returns-in-Err-BadLine : goal.returns-in-Err-BadLine
returns-in-Err-BadLine c =
    let x = c.in-Err-BadLine in
    rw (second_printed _ (length-replicate {A = ℕ} 32768 0) c.parse.ensures (x.is ∙ ap Err x.field-0-is), ← c.line_after-before.ensures)
    (rw x.line-is at c.print_numbered.ensures)

pub returns-in-Err-TooLong : goal.returns-in-Err-TooLong
returns-in-Err-TooLong c =
    let x = c.in-Err-TooLong in
    rw (second_printed _ (length-replicate {A = ℕ} 32768 0) c.parse.ensures (x.is ∙ ap Err x.field-0-is)) c.write_bytes.ensures
