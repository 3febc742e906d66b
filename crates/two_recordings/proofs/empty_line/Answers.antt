use Rattle.std.proofs.Common.{◌≡◌, ◌&&◌, false, refl, eqb, get_or, arith, ne_eqb, drop_of_length-le}
use Rattle.protocol.specs.Words.{newline}
use Rattle.two_recordings.specs.Report.{before_empty}
use Rattle.two_recordings.specs.Laws.{empty_here, empty_later}
use Rattle.two_recordings.proofs.empty_line.Goals.{else-last-eq10-via-then-last-eq10+else-byte-eq10, else-last-eq10-via-else-last-eq10}
use Rattle.two_recordings.proofs.empty_line.Goals as goal

pub returns-then-byte-eq10 : goal.returns-then-byte-eq10
returns-then-byte-eq10 c =
    let p = c.if-last-eq10.true in
    let q = c.if-byte-eq10.true in
    omega (arith, empty_here c.args.text.now c.loop-i.last c.loop-i.i (omega arith) (rw (p, q) refl))

pub loop-i-preserved : goal.loop-i-preserved
loop-i-preserved c =
    let s = c.args.text.now in
    let last = c.loop-i.last in
    let i = c.loop-i.i in
    let apart : (eqb last newline && eqb (get_or s i 0) newline) ≡ false =
    elim c.else-last-eq10.branch [
      | else-last-eq10-via-then-last-eq10+else-byte-eq10 w ↦ rw (w.if-last-eq10.true, ne_eqb (get_or s i 0) 10 w.if-byte-eq10.false) refl
      | else-last-eq10-via-else-last-eq10 w ↦ rw (ne_eqb last 10 w.if-last-eq10.false) refl
    ] in
    omega (arith, empty_later s last i (omega arith) apart)

pub returns : goal.returns
unfolding before_empty
returns c =
    let e = drop_of_length-le c.args.text.now c.loop-i-test.false in
    omega (arith, rw e at c.loop-i.invariant)
