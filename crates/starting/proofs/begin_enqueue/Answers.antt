-- `starting::begin_enqueue` meets its contract.
use Rattle.std.proofs.Common.{refl, arith}
use Rattle.rules.specs.Cell.{reader}
use Rattle.rules.specs.Request.{applied}
use Rattle.store.specs.Shape.{sizes}
use Rattle.starting.specs.Laws.{consumers_thread, past_the_last, under_way, no_start_left, no_position_left, accepted}
use Rattle.starting.proofs.begin_enqueue.Goals as goal

pub returns-then-t-eq0 : goal.returns-then-t-eq0
unfolding applied
returns-then-t-eq0 c =
    let a = c.args in
    rw (consumers_thread a.t a.v (sizes a.z) (reader (sizes a.z) a.s.now) (omega (arith, c.if-t-eq0))) refl

pub returns-then-z-t : goal.returns-then-z-t
unfolding applied
returns-then-z-t c =
    let a = c.args in
    rw (past_the_last a.t a.v (sizes a.z) (reader (sizes a.z) a.s.now) (omega (arith, c.if-z-t))) refl

pub returns-then-producer-ne-IDLE : goal.returns-then-producer-ne-IDLE
unfolding applied
returns-then-producer-ne-IDLE c =
    let a = c.args in
    rw (under_way a.t a.v (sizes a.z) (reader (sizes a.z) a.s.now) (omega (arith, c.if-t-eq0), omega (arith, c.if-z-t)) (λ e. omega (arith, c.producer.ensures.phase, c.if-producer-ne-IDLE))) refl

pub returns-then-q-z : goal.returns-then-q-z
unfolding applied
returns-then-q-z c =
    let a = c.args in
    rw (no_start_left a.t a.v (sizes a.z) (reader (sizes a.z) a.s.now) (omega (arith, c.if-t-eq0), omega (arith, c.if-z-t)) (omega (arith, c.producer.ensures.phase, c.if-producer-ne-IDLE)) (omega (arith, c.contents-q.ensures.starts, c.if-q-z))) refl

pub returns-then-q-z-2 : goal.returns-then-q-z-2
unfolding applied
returns-then-q-z-2 c =
    let a = c.args in
    let q = c.contents-q.ensures in
    rw (no_position_left a.t a.v (sizes a.z) (reader (sizes a.z) a.s.now) (omega (arith, c.if-t-eq0), omega (arith, c.if-z-t)) (omega (arith, c.producer.ensures.phase, c.if-producer-ne-IDLE)) (λ e. omega (arith, q.starts, c.if-q-z)) (omega (arith, q.tail, c.if-q-z-2))) refl

pub place_call-requires : goal.place_call-requires
place_call-requires c =
    let q = c.contents-q.ensures in
    record { admitted = c.requires; le_t = omega (arith, c.if-t-eq0, c.if-z-t); starts_bound = omega (arith, q.starts, q.starts_most, q.tail, q.tail_most, c.if-q-z, c.if-q-z-2) }

pub returns : goal.returns
unfolding applied
returns c =
    let a = c.args in
    let q = c.contents-q.ensures in
    let place = c.place_call.ensures in
    rw (accepted a.t a.v (sizes a.z) (reader (sizes a.z) a.s.now) (omega (arith, c.if-t-eq0), omega (arith, c.if-z-t)) (omega (arith, c.producer.ensures.phase, c.if-producer-ne-IDLE)) (λ e. omega (arith, q.starts, c.if-q-z)) (λ e. omega (arith, q.tail, c.if-q-z-2)), place.0, place.1) refl
