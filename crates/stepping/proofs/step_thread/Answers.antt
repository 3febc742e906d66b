-- `stepping::step_thread` meets its contract.
use Rattle.std.proofs.Common.{ℕ, ◌≤◌, refl, arith}
use Rattle.rules.specs.Request.{applied}
use Rattle.store.specs.Items.{lent}
use Rattle.stepping.specs.Phases.{consumer_idle, consumer_steps, producer_steps, producer_stays, Avoids}
use Rattle.stepping.proofs.step_thread.Goals as goal

-- idle, or in phase 1
avoids : (k : ℕ) → k ≤ 1 → Avoids 1 10 k
avoids k h = ((((((((((tt, λ e. omega arith), λ e. omega arith), λ e. omega arith), λ e. omega arith), λ e. omega arith), λ e. omega arith), λ e. omega arith), λ e. omega arith), λ e. omega arith), λ e. omega arith)

pub returns-in-1 : goal.returns-in-1
returns-in-1 c = rw (consumer_steps c.consumer-phase.ensures c.requires.t_le_producers c.if-t-eq0.true 0 c.in-1.is) c.read_front.ensures

pub returns-in-2 : goal.returns-in-2
returns-in-2 c = rw (consumer_steps c.consumer-phase.ensures c.requires.t_le_producers c.if-t-eq0.true 1 c.in-2.is) c.read_tail.ensures

pub returns-in-3 : goal.returns-in-3
returns-in-3 c = rw (consumer_steps c.consumer-phase.ensures c.requires.t_le_producers c.if-t-eq0.true 2 c.in-3.is) c.scan_on.ensures

pub returns-in-4 : goal.returns-in-4
returns-in-4 c = rw (consumer_steps c.consumer-phase.ensures c.requires.t_le_producers c.if-t-eq0.true 3 c.in-4.is) (lent c.read_entry.ensures _ _)

pub returns-in-5 : goal.returns-in-5
returns-in-5 c = rw (consumer_steps c.consumer-phase.ensures c.requires.t_le_producers c.if-t-eq0.true 4 c.in-5.is) (lent c.rescan_on.ensures _ _)

pub returns-in-6 : goal.returns-in-6
returns-in-6 c = rw (consumer_steps c.consumer-phase.ensures c.requires.t_le_producers c.if-t-eq0.true 5 c.in-6.is) (lent c.read_item.ensures _ _)

pub returns-in-7 : goal.returns-in-7
returns-in-7 c = rw (consumer_steps c.consumer-phase.ensures c.requires.t_le_producers c.if-t-eq0.true 6 c.in-7.is) c.mark_handled.ensures

pub returns-in-8 : goal.returns-in-8
returns-in-8 c = rw (consumer_steps c.consumer-phase.ensures c.requires.t_le_producers c.if-t-eq0.true 7 c.in-8.is) c.retire_head.ensures

pub returns-in-0 : goal.returns-in-0
unfolding applied
returns-in-0 c = rw (consumer_idle c.consumer-phase.ensures c.requires.t_le_producers c.if-t-eq0.true (omega arith)) refl

pub returns-in-0-2 : goal.returns-in-0-2
returns-in-0-2 c = absurd (omega (arith, c.consumer-phase.ensures.phase_most))

pub returns-in-2-phase : goal.returns-in-2-phase
returns-in-2-phase c = rw (producer_steps c.producer-phase.ensures c.requires.t_le_producers c.if-t-eq0.false 1 c.in-2-phase.is) (lent c.load_tail.ensures _ _)

pub returns-in-3-phase : goal.returns-in-3-phase
returns-in-3-phase c = rw (producer_steps c.producer-phase.ensures c.requires.t_le_producers c.if-t-eq0.false 2 c.in-3-phase.is) (lent c.look_next.ensures _ _)

pub returns-in-4-phase : goal.returns-in-4-phase
returns-in-4-phase c = rw (producer_steps c.producer-phase.ensures c.requires.t_le_producers c.if-t-eq0.false 3 c.in-4-phase.is) (lent c.claim_record.ensures _ _)

pub returns-in-5-phase : goal.returns-in-5-phase
returns-in-5-phase c = rw (producer_steps c.producer-phase.ensures c.requires.t_le_producers c.if-t-eq0.false 4 c.in-5-phase.is) (lent c.link_claimed.ensures _ _)

pub returns-in-6-phase : goal.returns-in-6-phase
returns-in-6-phase c = rw (producer_steps c.producer-phase.ensures c.requires.t_le_producers c.if-t-eq0.false 5 c.in-6-phase.is) (lent c.shift_tail.ensures _ _)

pub returns-in-7-phase : goal.returns-in-7-phase
returns-in-7-phase c = rw (producer_steps c.producer-phase.ensures c.requires.t_le_producers c.if-t-eq0.false 6 c.in-7-phase.is) (lent c.go_back.ensures _ _)

pub returns-in-8-phase : goal.returns-in-8-phase
returns-in-8-phase c = rw (producer_steps c.producer-phase.ensures c.requires.t_le_producers c.if-t-eq0.false 7 c.in-8-phase.is) (lent c.write_entry.ensures _ _)

pub returns-in-9 : goal.returns-in-9
returns-in-9 c = rw (producer_steps c.producer-phase.ensures c.requires.t_le_producers c.if-t-eq0.false 8 c.in-9.is) (lent c.set_entry.ensures _ _)

pub returns-in-10 : goal.returns-in-10
returns-in-10 c = rw (producer_steps c.producer-phase.ensures c.requires.t_le_producers c.if-t-eq0.false 9 c.in-10.is) (lent c.claim_ahead.ensures _ _)

pub returns-in-11 : goal.returns-in-11
returns-in-11 c = rw (producer_steps c.producer-phase.ensures c.requires.t_le_producers c.if-t-eq0.false 10 c.in-11.is) (lent c.link_ahead.ensures _ _)

pub returns-in-0-phase : goal.returns-in-0-phase
unfolding applied
returns-in-0-phase c =
    let low : c.producer-phase.result.phase ≤ 1 = omega (arith, c.producer-phase.ensures.phase_most) in
    rw (producer_stays c.producer-phase.ensures c.requires.t_le_producers c.if-t-eq0.false _ refl (avoids _ low)) refl
