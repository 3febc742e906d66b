-- `handled::put_mark` meets its contract.
use Rattle.std.proofs.Common.{refl, add-one, eq-eqb, ne_eqb}
use Rattle.rules.specs.Cell.{writes}
use Rattle.handled.proofs.put_mark.Goals as goal

pub returns-then-front : goal.returns-then-front
unfolding writes
returns-then-front c = rw (c.consumer.ensures.found_position, c.contents-q.ensures.head_position, eq-eqb _ _ c.if-front.true, c.put_content.ensures, c.put_entry.ensures, add-one c.contents-q.result.head_position) refl

pub returns-else-front : goal.returns-else-front
unfolding writes
returns-else-front c = rw (c.consumer.ensures.found_position, c.contents-q.ensures.head_position, ne_eqb _ _ c.if-front.false, c.put_entry.ensures) refl
