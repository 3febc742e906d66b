-- `threads::consumer_in_range` meets its contract.
use Rattle.std.proofs.Common.{refl, ◌∙◌, arith}
use Rattle.rules.specs.Range.{cursor_sorts, rescan_sorts, found_sorts, item_sorts, retiring_sorts}
use Rattle.store.specs.Shape.{sizes}
use Rattle.threads.specs.Rows.{consumer_row, front_row, consumer_past, cursor_phase}
use Rattle.threads.proofs.consumer_in_range.Goals as goal

pub returns-then-phase-gt-LAST_CONSUMER : goal.returns-then-phase-gt-LAST_CONSUMER
returns-then-phase-gt-LAST_CONSUMER c = consumer_past (sizes c.args.z) c.args.s.now (λ j. omega (arith, c.type_inv.s j)) _ refl c.if-phase-gt-LAST_CONSUMER.true

pub returns-then-phase-lt-SCAN : goal.returns-then-phase-lt-SCAN
returns-then-phase-lt-SCAN c = front_row (sizes c.args.z) c.args.s.now (λ j. omega (arith, c.type_inv.s j)) _ refl c.if-phase-lt-SCAN.true ∙ rw c.select-steps.ensures at c.row_at_most.ensures

pub returns-then-phase-lt-RESCAN : goal.returns-then-phase-lt-RESCAN
returns-then-phase-lt-RESCAN c = consumer_row (sizes c.args.z) c.args.s.now (λ j. omega (arith, c.type_inv.s j)) _ cursor_sorts refl c.if-phase-gt-LAST_CONSUMER.false (cursor_phase _ c.if-phase-lt-SCAN.false c.if-phase-lt-RESCAN.true) refl refl ∙ c.row_at_most-then-phase-lt-RESCAN.ensures

pub returns-in-5 : goal.returns-in-5
returns-in-5 c = consumer_row (sizes c.args.z) c.args.s.now (λ j. omega (arith, c.type_inv.s j)) 5 rescan_sorts c.in-5.is (omega arith) refl refl refl ∙ c.row_at_most-in-5.ensures

pub returns-in-6 : goal.returns-in-6
returns-in-6 c = consumer_row (sizes c.args.z) c.args.s.now (λ j. omega (arith, c.type_inv.s j)) 6 found_sorts c.in-6.is (omega arith) refl refl refl ∙ c.row_at_most-in-6.ensures

pub returns-in-7 : goal.returns-in-7
returns-in-7 c = consumer_row (sizes c.args.z) c.args.s.now (λ j. omega (arith, c.type_inv.s j)) 7 item_sorts c.in-7.is (omega arith) refl refl refl ∙ c.row_at_most-in-7.ensures

pub returns-in_default : goal.returns-in_default
returns-in_default c = consumer_row (sizes c.args.z) c.args.s.now (λ j. omega (arith, c.type_inv.s j)) 8 retiring_sorts (omega (arith, c.if-phase-gt-LAST_CONSUMER, c.if-phase-lt-RESCAN, c.in_default.in_default-own.rest)) (omega arith) refl refl refl ∙ c.row_at_most-in_default.ensures
