-- `handled::mark_leads` meets its contract.
use Rattle.std.proofs.Common.{refl, suc, add-one, arith, eq-eqb, le-leb}
use Rattle.handled.proofs.mark_leads.Goals as goal

pub returns-then-drained_at : goal.returns-then-drained_at
returns-then-drained_at c =
    let q = c.contents-q in
    let head = q.result.head_position in
    let fits = le-leb (suc head) c.args.store.now.shape.starts (omega (arith, c.if-store-q)) in
    let drained = rw (add-one head, c.if-drained_at.true) at c.drained_at.ensures in
    record { to = λ r i ws f. rw (c.consumer.ensures.found_position, q.ensures.head_position, eq-eqb _ _ c.if-consumer-q.false, fits, q.ensures.head_record, c.in_ok-head.ensures, drained) refl }

pub returns : goal.returns
returns c =
    let q = c.contents-q in
    let head = q.result.head_position in
    let fits = le-leb (suc head) c.args.store.now.shape.starts (omega (arith, c.if-store-q)) in
    let drained = rw (add-one head, c.if-drained_at.false) at c.drained_at.ensures in
    record { to = λ r i ws f. rw (c.consumer.ensures.found_position, q.ensures.head_position, eq-eqb _ _ c.if-consumer-q.false, fits, q.ensures.head_record, c.in_ok-head.ensures, drained) refl }
