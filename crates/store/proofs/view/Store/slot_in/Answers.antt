-- `store::view::Store::slot_in` meets its contract.
use Rattle.std.proofs.Common.{refl, arith}
use Rattle.std.proofs.lemmas.Result.{err_from_is_err_and}
use Rattle.store.specs.Slot.{no_link, past_end, before_first, at_end_lem, at_index}
use Rattle.store.proofs.view.Store.slot_in.Goals as goal

pub returns-in_err-record : goal.returns-in_err-record
returns-in_err-record c =
    let p = err_from_is_err_and c.from_residual.result c.from_residual.ensures.1 in
    rw (p.1, p.2) (no_link c.in_err-record.ensures.0, c.in_err-record.ensures.1)

pub returns-then-p-end : goal.returns-then-p-end
returns-then-p-end c = record { stands = at_end_lem c.record_end-end.result c.in_ok-record.ensures c.record_end-end.ensures.0 c.if-p-end.true (omega arith) }

pub returns-then-end-p : goal.returns-then-end-p
returns-then-end-p c = (past_end c.record_end-end.result c.in_ok-record.ensures c.record_end-end.ensures.0 c.if-end-p.true, refl)

pub returns-then-p-self : goal.returns-then-p-self
returns-then-p-self c = (before_first c.record_end-end.result c.in_ok-record.ensures c.record_end-end.ensures.0 c.if-p-end.false c.if-p-self.true, refl)

pub returns : goal.returns
returns c = record { stands = at_index c.record_end-end.result c.in_ok-record.ensures c.record_end-end.ensures.0 c.if-p-end.false c.if-end-p.false c.if-p-self.false (omega arith) }
