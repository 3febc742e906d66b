-- `session::run` meets its contract: the lines from the beginning, and the judge's word on the history that they leave.
use Rattle.std.proofs.Common.{sym, ℕ, arith, length-take-le}
use lib.ListN.{length-replicate}
use Rattle.session.specs.RunLaws.{bad_printed, few_events, short_replies, last_printed}
use Rattle.session.proofs.run.Goals as goal

pub returns-in-Break : goal.returns-in-Break
returns-in-Break c = bad_printed c.run_input.ensures c.in-Break.is (omega arith)

pub overflow_mul-words : goal.overflow_mul-words
overflow_mul-words c =
    let e = few_events c.run_input.ensures c.in-Continue.is in
    omega (arith, e)

pub slice_bounds-history-end : goal.slice_bounds-history-end
slice_bounds-history-end c =
    let e = few_events c.run_input.ensures c.in-Continue.is in
    omega (arith, e, c.run_input.auto.out, length-replicate {A = ℕ} 16384 0)

pub slice_bounds-print_verdict-end : goal.slice_bounds-print_verdict-end
slice_bounds-print_verdict-end c =
    let e = few_events c.run_input.ensures c.in-Continue.is in
    sym (length-take-le _ _ (omega (arith, e, c.run_input.auto.history, length-replicate {A = ℕ} 16384 0)))

pub print_verdict-requires : goal.print_verdict-requires
print_verdict-requires c =
    let e = short_replies c.run_input.ensures c.in-Continue.is in
    omega (arith, e)

pub returns-in-Continue : goal.returns-in-Continue
returns-in-Continue c = last_printed c.run_input.ensures c.in-Continue.is (omega arith) c.print_verdict.ensures
