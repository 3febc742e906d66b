use Rattle.std.proofs.Common.{◌≡◌, sym, ◌∙◌, arith}
use Rattle.events.specs.Events.{start_found}
use Rattle.events.specs.EventLaws.{found_here, found_before}
use Rattle.events.proofs.find_start.Goals as goal

pub returns-then-history-i-clause-found : goal.returns-then-history-i-clause-found
returns-then-history-i-clause-found c =
    sym (found_here c.args.history.now c.args.t c.loop-i.i (omega arith) c.if-history-i.true) ∙ c.loop-i.invariant

pub loop-i-preserved : goal.loop-i-preserved
loop-i-preserved c =
    sym (found_before c.args.history.now c.args.t c.loop-i.i (omega arith) c.if-history-i.false) ∙ c.loop-i.invariant

pub returns-clause-found : goal.returns-clause-found
unfolding start_found
returns-clause-found c =
    let e : c.loop-i.i ≡ 0 = omega arith in
    rw e at c.loop-i.invariant
