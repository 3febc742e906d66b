use Rattle.std.proofs.Common.{◌≡◌, Err, refl, sym, ◌∙◌, arith, length-set}
use Rattle.std.proofs.lemmas.Result.{err_from_is_err_and}
use Rattle.lines.specs.declared.ParseError.TheVariants.{BadLine}
use Rattle.lines.specs.Laws.{going_begins, going_ends, too_long, no_number, ends_after, goes_on_lem, bad_separator}
use Rattle.lines.proofs.parse.Goals as goal

pub loop-at-init : goal.loop-at-init
loop-at-init c = (refl, going_begins _ _)

pub returns-then-numbers-count : goal.returns-then-numbers-count
returns-then-numbers-count c = too_long c.loop-at.invariant.1 (omega arith) (omega arith)

pub returns-in_err-number : goal.returns-in_err-number
returns-in_err-number c =
    let p = err_from_is_err_and c.from_residual.result c.from_residual.ensures.1 in
    let none = c.in_err-number.ensures.ok_part in
    let bad = rw none at c.in_err-number.ensures.value in
    let e : c.from_residual.result ≡ Err (BadLine c.line_after-line.result) = cc (p.1, p.2, bad) in
    rw (e, c.line_after-line.ensures) (no_number c.loop-at.invariant.1 (omega arith) (omega arith) (sym c.read_number.ensures ∙ none))

pub returns-in_default : goal.returns-in_default
returns-in_default c =
    rw c.end_after.ensures
    (ends_after c.loop-at.invariant.1 (omega arith) (omega arith) (sym c.read_number.ensures ∙ c.in_ok-number.ensures.ok_part) c.in_default.ensures.lookup.3)

pub returns-then-b-separator_after : goal.returns-then-b-separator_after
returns-then-b-separator_after c =
    rw c.line_after-line.ensures
    (bad_separator c.loop-at.invariant.1 (omega arith) (omega arith) (sym c.read_number.ensures ∙ c.in_ok-number.ensures.ok_part) c.in-Some.ensures.lookup.3.0
    (λ e. c.if-b-separator_after.true (c.in-Some.ensures.lookup.3.1 0 ∙ e ∙ sym c.separator_after.ensures)))

pub loop-at-preserved : goal.loop-at-preserved
loop-at-preserved c = (
  simp length-set c.loop-at.invariant.0,
  goes_on_lem c.loop-at.invariant.1 (omega arith) (omega arith) (sym c.read_number.ensures ∙ c.in_ok-number.ensures.ok_part) c.in-Some.ensures.lookup.3.0
      (sym (c.in-Some.ensures.lookup.3.1 0) ∙ c.if-b-separator_after.false ∙ c.separator_after.ensures),
)

pub returns : goal.returns
returns c = rw c.end_after-2.ensures (going_ends c.loop-at.invariant.1 (omega arith))
