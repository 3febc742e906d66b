-- `admission::threads_in_range` meets its contract.
use Rattle.std.proofs.Common.{refl}
use Rattle.admission.proofs.threads_in_range.Goals as goal

pub returns-then-not-contents_in_range : goal.returns-then-not-contents_in_range
returns-then-not-contents_in_range c = rw (c.contents_in_range.ensures, c.if-not-contents_in_range.true) refl

pub returns : goal.returns
returns c = rw (c.contents_in_range.ensures, c.if-not-contents_in_range.false, c.consumer_in_range.ensures, c.producers_in_range.ensures) refl
