use Rattle.std.proofs.Common.{◌≡◌, ℕ, ◌+◌, ◌-◌, ◌*◌, ap, sym, ◌∙◌, arith, length, get_or, drop_of_length-le}
use Rattle.text.specs.Decimal.{read, digits_from}
use Rattle.text.specs.Laws.{digits_end, digits_over, digits_more}
use Rattle.text.proofs.read_digits.Goals as goal

pub returns-then-not-is_ascii_digit : goal.returns-then-not-is_ascii_digit
returns-then-not-is_ascii_digit c =
    sym (digits_end c.args.s.now c.loop-i.i c.loop-i.value (omega arith) (sym c.if-not-is_ascii_digit.ensures.value))
    ∙ c.loop-i.invariant

pub returns-in_err-checked_mul : goal.returns-in_err-checked_mul
returns-in_err-checked_mul c =
    c.from_residual.ensures
    ∙ sym (digits_over c.args.s.now c.loop-i.i c.loop-i.value (omega arith) (sym c.if-not-is_ascii_digit.ensures.value) (omega (arith, c.in_err-checked_mul.ensures)))
    ∙ c.loop-i.invariant

pub returns-in_err-value : goal.returns-in_err-value
returns-in_err-value c =
    c.from_residual-in_err-value.ensures
    ∙ sym (digits_over c.args.s.now c.loop-i.i c.loop-i.value (omega arith) (sym c.if-not-is_ascii_digit.ensures.value) (omega (arith, c.in_err-value.ensures, c.in_ok-checked_mul.ensures)))
    ∙ c.loop-i.invariant

pub loop-i-preserved : goal.loop-i-preserved
loop-i-preserved c =
    let s = c.args.s.now in
    let e : c.loop-i.value * 10 + (get_or s c.loop-i.i 0 - 48) ≡ c.in_ok-value.value =
    omega (arith, c.in_ok-value.ensures.1, c.in_ok-checked_mul.ensures.1) in
    rw e at
    (sym (digits_more s c.loop-i.i c.loop-i.value (omega arith) (sym c.if-not-is_ascii_digit.ensures.value) (omega (arith, e, c.in_ok-value.ensures.0)))
    ∙ c.loop-i.invariant)

pub returns : goal.returns
unfolding digits_from
returns c =
    let e : length c.args.s.now ≡ c.loop-i.i = omega arith in
    ap (λ (k : ℕ). read c.loop-i.value k) e ∙ rw (drop_of_length-le c.args.s.now c.loop-i-test.false) at c.loop-i.invariant
