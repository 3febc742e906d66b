-- `reading::finish` meets its contract. Assumes nothing.
use Rattle.std.proofs.Common.{sym, ◌∙◌, arith}
use Rattle.reading.proofs.Ending.{end_idle, end_other, end_good, its_place}
use Rattle.reading.proofs.finish.Goals as goal

pub returns-then-busy-eq0 : goal.returns-then-busy-eq0
returns-then-busy-eq0 c = let p = c.requires in end_idle _ _ _ _ _ _ p.0 p.2 _ c.if-busy-eq0.true

pub overflow_cast-i : goal.overflow_cast-i
overflow_cast-i c =
    let p = c.requires in
    let b = its_place _ _ _ p.0 p.1 p.2 c.if-busy-eq0.false in
    omega arith

pub repeats-requires : goal.repeats-requires
repeats-requires c =
    let p = c.requires in
    (its_place _ _ _ p.0 p.1 p.2 c.if-busy-eq0.false).1

pub returns-then-not-repeats : goal.returns-then-not-repeats
returns-then-not-repeats c =
    let p = c.requires in
    let b = its_place _ _ _ p.0 p.1 p.2 c.if-busy-eq0.false in
    end_other _ _ _ _ _ _ p.0 p.2 _ _ b.0 (sym c.repeats.ensures ∙ c.if-not-repeats.true)

pub end-requires : goal.end-requires
end-requires c =
    let p = c.requires in
    ((its_place _ _ _ p.0 p.1 p.2 c.if-busy-eq0.false).1, p.2)

pub returns : goal.returns
returns c =
    let p = c.requires in
    let b = its_place _ _ _ p.0 p.1 p.2 c.if-busy-eq0.false in
    end_good _ _ _ _ _ _ p.0 p.2 _ _ c.end.ensures p.1 p.3 b.0
    (sym c.repeats.ensures ∙ c.if-not-repeats.false)
