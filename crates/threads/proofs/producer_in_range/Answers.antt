-- `threads::producer_in_range` meets its contract.
use Rattle.std.proofs.Common.{refl, ◌∙◌, arith}
use Rattle.rules.specs.Range.{idle_sorts, placed_sorts, linking_sorts, ahead_sorts, linking_ahead_sorts}
use Rattle.store.specs.Shape.{sizes}
use Rattle.threads.specs.Rows.{producer_row, producer_past, producer_out, placed_phase}
use Rattle.threads.proofs.producer_in_range.Goals as goal

pub returns-then-phase-gt-LAST_PRODUCER : goal.returns-then-phase-gt-LAST_PRODUCER
returns-then-phase-gt-LAST_PRODUCER c = producer_past (sizes c.args.z) c.args.s.now (λ j. omega (arith, c.type_inv.s j)) c.args.t c.requires.le_t _ refl c.if-phase-gt-LAST_PRODUCER.true

pub returns-in-0 : goal.returns-in-0
returns-in-0 c = producer_row (sizes c.args.z) c.args.s.now (λ j. omega (arith, c.type_inv.s j)) c.args.t c.requires.le_t 0 idle_sorts c.in-0.is (omega arith) refl refl refl ∙ c.row_at_most.ensures

pub returns-in-1 : goal.returns-in-1
returns-in-1 c = producer_out (sizes c.args.z) c.args.s.now (λ j. omega (arith, c.type_inv.s j)) c.args.t c.requires.le_t c.in-1.is

pub returns-in-5 : goal.returns-in-5
returns-in-5 c = producer_row (sizes c.args.z) c.args.s.now (λ j. omega (arith, c.type_inv.s j)) c.args.t c.requires.le_t 5 linking_sorts c.in-5.is (omega arith) refl refl refl ∙ c.row_at_most-in-5.ensures

pub returns-in-10 : goal.returns-in-10
returns-in-10 c = producer_row (sizes c.args.z) c.args.s.now (λ j. omega (arith, c.type_inv.s j)) c.args.t c.requires.le_t 10 ahead_sorts c.in-10.is (omega arith) refl refl refl ∙ c.row_at_most-in-10.ensures

pub returns-in-11 : goal.returns-in-11
returns-in-11 c = producer_row (sizes c.args.z) c.args.s.now (λ j. omega (arith, c.type_inv.s j)) c.args.t c.requires.le_t 11 linking_ahead_sorts c.in-11.is (omega arith) refl refl refl ∙ c.row_at_most-in-11.ensures

pub returns-in_default : goal.returns-in_default
returns-in_default c =
    let n = c.in_default.in_default-own.rest in
    producer_row (sizes c.args.z) c.args.s.now (λ j. omega (arith, c.type_inv.s j)) c.args.t c.requires.le_t _ placed_sorts refl c.if-phase-gt-LAST_PRODUCER.false
    (placed_phase _ c.if-phase-gt-LAST_PRODUCER.false n.0.0.0.0.1 n.0.0.0.1 n.0.0.1 n.0.1 n.1) refl refl
    ∙ c.row_at_most-in_default.ensures
