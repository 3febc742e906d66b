use Rattle.std.proofs.Common.{sym, ◌∙◌, refl, length-set, arith}
use Rattle.matching.proofs.Meeting.{none_there, another_there, one_met}
use Rattle.matching.proofs.meet.Goals as goal

pub returns-then-p-events : goal.returns-then-p-events
returns-then-p-events c =
    let i = c.loop-k.invariant in
    none_there c.requires.0 c.requires.1 i.4 i.1 i.2 i.3 (omega arith) _ _ c.thread_of-t.ensures.0 c.thread_of-t.ensures.1 refl c.if-p-events.true

pub returns-then-not-same_event : goal.returns-then-not-same_event
returns-then-not-same_event c =
    let i = c.loop-k.invariant in
    another_there c.requires.0 c.requires.1 i.4 i.1 i.2 i.3 (omega arith) _ _ c.thread_of-t.ensures.0 c.thread_of-t.ensures.1 refl c.if-p-events.false (sym c.same_event.ensures ∙ c.if-not-same_event.true)

pub loop-k-preserved : goal.loop-k-preserved
loop-k-preserved c =
    let i = c.loop-k.invariant in
    (omega arith, simp length-set i.1, simp length-set i.2, one_met c.requires.0 c.requires.1 i.4 i.1 i.2 i.3 (omega arith) _ _ c.thread_of-t.ensures.0 c.thread_of-t.ensures.1 refl c.if-p-events.false (sym c.same_event.ensures ∙ c.if-not-same_event.false), i.4)
