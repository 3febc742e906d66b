-- `reading::fresh` meets its contract. Assumes nothing.
use Rattle.std.proofs.Common.{arith}
use Rattle.reading.proofs.Logic.{true_not_false}
use Rattle.reading.proofs.Starting.{unmarked, fresh_by}
use Rattle.reading.proofs.fresh.Goals as goal

pub returns-then-number-eq0 : goal.returns-then-number-eq0
returns-then-number-eq0 c = record { is_new = λ e z. absurd (z c.if-number-eq0.true); is_old = λ e. absurd (true_not_false e) }

pub returns-then-m-number : goal.returns-then-m-number
returns-then-m-number c =
    let table = c.requires.0 in
    record {
      is_new = λ e z j l p. let h = table.highest j l in let t = c.if-m-number.true in omega arith;
      is_old = λ e. absurd (true_not_false e);
    }

pub returns-then-m-mark_of-eq0 : goal.returns-then-m-mark_of-eq0
returns-then-m-mark_of-eq0 c =
    let mark = c.mark_of.ensures in
    record {
      is_new = λ e z. unmarked _ _ c.requires.0 c.args.number _ (omega arith) c.if-m-mark_of-eq0.true;
      is_old = λ e. absurd (true_not_false e);
    }

pub returns : goal.returns
returns c = fresh_by _ _ _ _ _ c.is_none.ensures c.scan.ensures c.if-number-eq0.false
