-- `dequeue::read_tail` meets its contract.
use Rattle.std.proofs.Common.{refl, suc, add-one, arith, eq-eqb, ne_eqb, le-leb}
use borrow.Author.Tests.{lt-leb}
use Rattle.rules.specs.Cell.{writes}
use Rattle.rules.specs.Consumer.{read_tail}
use Rattle.rules.specs.Request.{applied}
use Rattle.dequeue.proofs.read_tail.Goals as goal

pub returns-then-q : goal.returns-then-q
unfolding read_tail
returns-then-q c =
    let q = c.contents-q.ensures in
    rw (q.tail, q.head_position, eq-eqb _ _ c.if-q.true) c.end_empty.ensures

pub returns-then-z-q : goal.returns-then-z-q
unfolding read_tail applied
returns-then-z-q c =
    let q = c.contents-q.ensures in
    rw (q.tail, q.head_position, ne_eqb _ _ c.if-q.false, lt-leb (suc c.contents-q.result.head_position) c.args.z.starts (omega arith)) refl

pub returns : goal.returns
unfolding read_tail applied writes
returns c =
    let q = c.contents-q.ensures in
    let p = c.contents-q.result.head_position in
    rw (q.tail, q.head_position, q.head_record, ne_eqb _ _ c.if-q.false, le-leb (suc p) c.args.z.starts (omega (arith, c.if-z-q)), c.put_consumer.ensures, c.put_cursor.ensures, add-one p) refl
