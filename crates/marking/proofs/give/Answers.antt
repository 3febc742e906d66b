-- `marking::give` meets its contract. Assumes nothing.
use Rattle.std.proofs.Common.{arith}
use Rattle.marking.proofs.Passing.{not_found, unfair, is_fair}
use Rattle.marking.proofs.give.Goals as goal

pub returns-in_err-i : goal.returns-in_err-i
returns-in_err-i c =
    let p = c.requires in
    rw c.from_residual.ensures (not_found _ _ p.0 _ _ p.5 p.6 p.7 _ _ c.in_err-i.ensures)

pub returns-then-not-fair : goal.returns-then-not-fair
returns-then-not-fair c =
    let p = c.requires in
    let i = c.in_ok-i.ensures in
    unfair _ _ p.0 _ _ p.5 p.6 p.7 _ i.0 i.1 _ _ _ c.fair.ensures c.if-not-fair.true

pub returns : goal.returns
returns c =
    let p = c.requires in
    let i = c.in_ok-i.ensures in
    is_fair _ _ p.0 _ _ p.5 p.6 p.7 _ i.0 i.1 _ _ _ _ _
    p.1 (omega arith) c.fair.ensures c.if-not-fair.false c.max.ensures c.first_left.ensures
