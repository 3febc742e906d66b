use Rattle.std.proofs.Common.{refl, ◌-◌, ◌/◌, ◌%◌, arith}
use Rattle.text.specs.Decimal.{digit}
use Rattle.text.specs.Laws.{digits_none, digits_short, digits_long, length_digits, wrote_append, wrote_byte}
use Rattle.text.proofs.+write_digits.Goals as goal

pub returns-then-k-eq0 : goal.returns-then-k-eq0
returns-then-k-eq0 t c =
    let e = digits_none c.args.k c.args.n c.if-k-eq0.true in
    record { next_is = rw e (omega arith); after_is = rw e refl }

pub returns-then-n-lt10 : goal.returns-then-n-lt10
returns-then-n-lt10 t c =
    let e = digits_short c.args.k c.args.n (omega arith) (omega arith) in
    record { next_is = rw e (omega arith); after_is = rw e refl }

pub bounds-out-next : goal.bounds-out-next
bounds-out-next t c = omega (arith, length_digits (c.args.k - 1) (c.args.n / 10), c.write_digits-next.auto.out)

pub overflow_add-result-2 : goal.overflow_add-result-2
overflow_add-result-2 t c = omega (arith, length_digits (c.args.k - 1) (c.args.n / 10))

pub returns : goal.returns
returns t c =
    let x = c.write_digits-next in
    let e = digits_long c.args.k c.args.n (omega arith) (omega arith) in
    rw e (wrote_append x.ensures (wrote_byte x.new.out x.result (digit (c.args.n % 10))))
