-- `dequeue::read_front` meets its contract.
use Rattle.std.proofs.Common.{◌≡◌, refl, sym, ◌∙◌, suc, add-one, arith, eq-eqb, ne_eqb, le-leb}
use borrow.Author.Tests.{lt-leb}
use Rattle.rules.specs.Cell.{writes}
use Rattle.rules.specs.Consumer.{front}
use Rattle.rules.specs.Request.{applied}
use Rattle.store.proofs.Refusals.{handed_on}
use Rattle.store.proofs.Slots.{stands_end, stands_at, nowhere}
use Rattle.store.specs.Branches.{handled}
use Rattle.store.specs.Items.{lent}
use Rattle.dequeue.proofs.read_front.Goals as goal

pub returns-in_err-slot : goal.returns-in_err-slot
unfolding front
returns-in_err-slot c =
    let q = c.contents-q.ensures in
    rw (handed_on c.from_residual.result c.from_residual.ensures.1 c.in_err-slot.ensures.1) (lent (nowhere q.head_record q.head_position _ _ c.in_err-slot.ensures.0) _ _)

pub returns-then-q : goal.returns-then-q
unfolding front
returns-then-q c =
    let q = c.contents-q.ensures in
    let end = stands_end q.head_record q.head_position c.in_ok-slot.ensures c.in-End.is in
    rw (end.link, end.ends, q.tail_record, eq-eqb _ _ (c.if-q.true ∙ sym q.head_record ∙ end.link)) c.end_empty.ensures

pub returns-else-q : goal.returns-else-q
unfolding front
returns-else-q c =
    let q = c.contents-q.ensures in
    let end = stands_end q.head_record q.head_position c.in_ok-slot.ensures c.in-End.is in
    rw (end.link, end.ends, q.tail_record, ne_eqb _ _ (λ e. c.if-q.false (e ∙ sym end.link ∙ q.head_record))) (lent c.move_head.ensures _ _)

pub returns-then-drain-ne0 : goal.returns-then-drain-ne0
unfolding front
returns-then-drain-ne0 c =
    let q = c.contents-q.ensures in
    let at = stands_at q.head_record q.head_position c.in_ok-slot.ensures c.in-At.is in
    rw (at.link, at.before, at.inside, at.is, c.entry-found.ensures.is, c.if-found-eq-EMPTY.true, ne_eqb _ 0 (λ e. c.if-drain-ne0.true (sym c.drain.ensures.count ∙ e))) c.end_empty-then-drain-ne0.ensures

pub returns-then-found-eq-EMPTY : goal.returns-then-found-eq-EMPTY
unfolding front applied writes
returns-then-found-eq-EMPTY c =
    let q = c.contents-q.ensures in
    let at = stands_at q.head_record q.head_position c.in_ok-slot.ensures c.in-At.is in
    let none : c.drain.result.count ≡ 0 = omega (arith, c.if-drain-ne0) in
    rw (at.link, at.before, at.inside, at.is, c.entry-found.ensures.is, c.if-found-eq-EMPTY.true, c.drain.ensures.count, none, c.put_consumer.ensures) refl

pub returns-then-found-eq-SET : goal.returns-then-found-eq-SET
unfolding front applied writes
returns-then-found-eq-SET c =
    let q = c.contents-q.ensures in
    let at = stands_at q.head_record q.head_position c.in_ok-slot.ensures c.in-At.is in
    rw (at.link, at.before, at.inside, at.is, c.entry-found.ensures.is, c.if-found-eq-SET.true, q.head_position, c.put_consumer-then-found-eq-SET.ensures, c.put_found.ensures, ← q.head_record, at.link) refl

pub returns-then-z-q : goal.returns-then-z-q
unfolding front applied
returns-then-z-q c =
    let q = c.contents-q.ensures in
    let at = stands_at q.head_record q.head_position c.in_ok-slot.ensures c.in-At.is in
    rw (at.link, at.before, at.inside, at.is, handled c.entry-found.ensures.is c.if-found-eq-EMPTY.false c.if-found-eq-SET.false, q.head_position, lt-leb (suc c.contents-q.result.head_position) c.args.z.starts (omega arith)) refl

pub returns-else-z-q : goal.returns-else-z-q
unfolding front applied writes
returns-else-z-q c =
    let q = c.contents-q.ensures in
    let at = stands_at q.head_record q.head_position c.in_ok-slot.ensures c.in-At.is in
    let p = c.contents-q.result.head_position in
    rw (at.link, at.before, at.inside, at.is, handled c.entry-found.ensures.is c.if-found-eq-EMPTY.false c.if-found-eq-SET.false, q.head_position, le-leb (suc p) c.args.z.starts (omega (arith, c.if-z-q)), c.put_content.ensures, add-one p) refl
