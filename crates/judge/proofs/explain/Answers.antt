-- `judge::explain` meets its contract, by what the pass and the last test give together (proofs/Answering.antt).
use Rattle.std.proofs.Common.{ℕ, refl, ap, sym, ◌∙◌, arith}
use Rattle.std.proofs.lemmas.List.{length-replicate}
use Rattle.std.specs.Prelude.{Some}
use Rattle.marking.proofs.Zeros.{no_flags}
use Rattle.judge.proofs.Answering.{fails, decided, may_lay, short}
use Rattle.judge.proofs.explain.Goals as goal

pub marks-requires : goal.marks-requires
marks-requires c = let ready = c.requires in (ready.numbered, ready.few, no_flags _ _ 4096 refl, length-replicate {A = ℕ} 4096 0)

pub returns-in_err-mark : goal.returns-in_err-mark
returns-in_err-mark c =
    let failed = fails _ _ _ _ c.requires _ _ _ c.marks.ensures c.in_err-mark.was in
    rw c.from_residual.ensures (record { replies = rw failed; orders = rw failed })

pub all_stay-stays-requires : goal.all_stay-stays-requires
all_stay-stays-requires c = (omega (arith, c.requires.enough_entries), omega (arith, c.requires.few))

pub lay-count-requires : goal.lay-count-requires
lay-count-requires c = may_lay _ _ _ _ c.requires _ _ _ c.marks.ensures _ c.in_ok-mark.was _ c.all_stay-stays.ensures c.if-stays.true

pub overflow_cast-count : goal.overflow_cast-count
overflow_cast-count c =
    omega (arith, c.lay-count.ensures.count, short _ _ _ _ c.requires _ _ _ c.marks.ensures _ c.in_ok-mark.was _ c.all_stay-stays.ensures c.if-stays.true)

pub returns-then-stays : goal.returns-then-stays
returns-then-stays c =
    let laid = c.lay-count.ensures in
    let explained = sym (decided _ _ _ _ c.requires _ _ _ c.marks.ensures _ c.in_ok-mark.was _ c.all_stay-stays.ensures) ∙ c.if-stays.true in
    record { replies = rw explained (ap Some laid.count); orders = rw (explained, laid.laid, laid.count) }

pub returns : goal.returns
returns c =
    let failed = sym (decided _ _ _ _ c.requires _ _ _ c.marks.ensures _ c.in_ok-mark.was _ c.all_stay-stays.ensures) ∙ c.if-stays.false in
    record { replies = rw failed; orders = rw failed }
