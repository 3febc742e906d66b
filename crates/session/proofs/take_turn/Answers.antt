-- `session::take_turn` meets its contract: in each case the turn of that line.
use Rattle.std.proofs.Common.{◌≡◌, refl, ap, List, [], ℕ}
use Rattle.rules.specs.Request.{Result}
use Rattle.session.proofs.take_turn.Goals as goal

-- a start is lent no buffer
lent_none : {f g : List ℕ → ℕ → Result} → f ≡ g → f [] 0 ≡ g [] 0
lent_none e = ap (λ (h : List ℕ → ℕ → Result). h [] 0) e

pub returns-in_default : goal.returns-in_default
returns-in_default c = record { answered = rw c.in_default.is (refl, refl, c.write_bytes.ensures) }

pub returns-in-Open : goal.returns-in-Open
returns-in-Open c = record { answered = rw (c.in-Some.is, c.in-Open.is) (c.open_turn.ensures c.args.history.now) }

pub returns-in-Enqueue : goal.returns-in-Enqueue
returns-in-Enqueue c = record { answered = rw (c.in-Some.is, c.in-Enqueue.is) (c.finish.ensures.turned _ refl refl _ _ [] (lent_none c.start_enqueue-reply.ensures)) }

pub returns-in-Dequeue : goal.returns-in-Dequeue
returns-in-Dequeue c = record { answered = rw (c.in-Some.is, c.in-Dequeue.is) (c.finish-in-Dequeue.ensures.turned _ refl refl _ _ [] (lent_none c.start_dequeue-reply.ensures)) }

pub returns-in-Ok : goal.returns-in-Ok
returns-in-Ok c = record { answered = rw (c.in-Some.is, c.in-Step.is) (c.finish-in-Ok.ensures.turned _ refl refl _ _ _ (rw c.in-Ok.is at c.step-counted.ensures)) }

pub returns-in-Err : goal.returns-in-Err
returns-in-Err c = record { answered = rw (c.in-Some.is, c.in-Step.is) (c.finish-in-Err.ensures.turned _ refl refl _ _ _ (rw c.in-Err.is at c.step-counted.ensures)) }
