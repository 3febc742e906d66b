-- `starting::begin_drain` meets its contract.
use Rattle.std.proofs.Common.{refl, ◌∙◌, arith, le-leb}
use borrow.Author.Tests.{lt-leb}
use Rattle.rules.specs.Cell.{writes}
use Rattle.rules.specs.Request.{applied, starting_drain}
use Rattle.rules.specs.Sizes.{most_drained}
use Rattle.starting.proofs.begin_drain.Goals as goal

pub returns-then-not-is_idle : goal.returns-then-not-is_idle
unfolding starting_drain applied
returns-then-not-is_idle c = rw (c.is_idle.ensures ∙ c.if-not-is_idle.true) refl

pub returns-then-limit-eq0 : goal.returns-then-limit-eq0
unfolding starting_drain applied
returns-then-limit-eq0 c = rw (c.is_idle.ensures ∙ c.if-not-is_idle.false, c.if-limit-eq0.true) refl

pub returns-then-limit-gt-MOST_DRAINED : goal.returns-then-limit-gt-MOST_DRAINED
unfolding starting_drain applied
returns-then-limit-gt-MOST_DRAINED c = rw (c.is_idle.ensures ∙ c.if-not-is_idle.false, le-leb 1 c.args.limit (omega arith), lt-leb c.args.limit most_drained (omega arith)) refl

pub returns : goal.returns
unfolding starting_drain applied writes
returns c =
    let least = le-leb 1 c.args.limit (omega (arith, c.if-limit-eq0)) in
    let most = le-leb c.args.limit most_drained (omega arith) in
    rw (c.is_idle.ensures ∙ c.if-not-is_idle.false, least, most, c.put_consumer.ensures, c.put_drain.ensures) refl
