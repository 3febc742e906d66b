use Rattle.std.proofs.Common.{arith, ◌∙◌, ne_eqb}
use lib.ListN.{get_or-eq_default}
use Rattle.text.specs.Decimal.{number_at}
use Rattle.text.proofs.read_number.Goals as goal

pub returns-in_err-b : goal.returns-in_err-b
unfolding number_at
returns-in_err-b c =
    c.from_residual.ensures ∙ simp (get_or-eq_default c.args.s.now 0 c.in_err-b.ensures.lookup.3)

pub returns-then-not-is_ascii_digit : goal.returns-then-not-is_ascii_digit
unfolding number_at
returns-then-not-is_ascii_digit c =
    simp (← c.in_ok-b.ensures.lookup.3.1 0, ← c.if-not-is_ascii_digit.ensures.value)

pub returns : goal.returns
unfolding number_at
returns c =
    c.read_digits.ensures
    ∙ simp (← c.in_ok-b.ensures.lookup.3.1 0, ← c.if-not-is_ascii_digit.ensures.value, ne_eqb c.in_ok-b.field-0.now 48 (λ e. omega arith))
