-- The equations of `Calls` are the contracts of the code: what a caller learns of each function is, as it stands, the equation.
use Rattle.std.specs.Prelude.{◌≡◌, List, [], ℕ}
use Rattle.std.proofs.Common.{ap}
use contract.Lifetimes.{Lfts}
use denote.Triple.Clauses.{AtExit}
use borrow.Fn.Kinds.{ParamKind, ResultKind, Dens, res_t, ended_of, Out}
use Rattle.rules.specs.Request.{start_enqueue, start_dequeue, start_drain, step, lending, Result, open_store}
use Rattle.store.specs.Shape.{sizes}
use Rattle.store.specs.Outcome.{response, response_in, counted_in}
use Rattle.delivery.specs.Export.{Returned, returned}
use Rattle.opening.proofs.open_store.Kinds as open-store-kinds
use Rattle.opening.proofs.open_store.Reads as open_store
use Rattle.engine.proofs.start_enqueue.Kinds as start-enqueue-kinds
use Rattle.engine.proofs.start_enqueue.Reads as start-enqueue
use Rattle.engine.proofs.start_dequeue.Kinds as start-dequeue-kinds
use Rattle.engine.proofs.start_dequeue.Reads as start-dequeue
use Rattle.engine.proofs.start_drain.Kinds as start-drain-kinds
use Rattle.engine.proofs.start_drain.Reads as start-drain
use Rattle.engine.proofs.step.Kinds as step-kinds
use Rattle.engine.proofs.step.Reads as step
use Rattle.engine.proofs.intake_open.Kinds as intake-open-kinds
use Rattle.engine.proofs.intake_open.Reads as intake-open
use Rattle.engine.proofs.intake_start_enqueue.Kinds as intake-start-enqueue-kinds
use Rattle.engine.proofs.intake_start_enqueue.Reads as intake-start-enqueue
use Rattle.engine.proofs.intake_start_dequeue.Kinds as intake-start-dequeue-kinds
use Rattle.engine.proofs.intake_start_dequeue.Reads as intake-start-dequeue
use Rattle.engine.proofs.intake_start_drain.Kinds as intake-start-drain-kinds
use Rattle.engine.proofs.intake_start_drain.Reads as intake-start-drain
use Rattle.engine.proofs.intake_step.Kinds as intake-step-kinds
use Rattle.engine.proofs.intake_step.Reads as intake-step
use Rattle.refinement.specs.Calls.{Meets, Exports}

-- A contract gives the claim, whatever the lifetimes κs, the arguments a, the result r, and e, what was lent as it is at the end.
abbrev pub Gives : (n : ℕ) (ps : List (ParamKind n)) (k : ResultKind n) → Out n ps k → Out n ps k → Type 0
Gives n ps k learnt claim =
    (κs : Lfts n) (a : Dens κs ps) (r : (res_t k κs).Denot) (e : AtExit (ended_of n ps k) κs) → learnt κs a r e → claim κs a r e

pub open_store_contract : Gives 1 open-store-kinds.ps open-store-kinds.r open_store.Learnt
    λ κs a r e. ◌≡◌ {A = Result} (record { reply = response r; words = e.0.now; buffer = [] }) (open_store (sizes a.1.0) a.0.now)
open_store_contract κs a r e h = h

pub start_enqueue_contract : Gives 1 start-enqueue-kinds.ps start-enqueue-kinds.r start-enqueue.Learnt
    λ κs a r e. (b : List ℕ) (i : ℕ)
    → Meets a.0.now (record { call = lending b i (start_enqueue a.1.0 a.1.1.0); response = response_in b i 1 r; words = e.0.now; buffer = b })
start_enqueue_contract κs a r e h b i = ap (λ (f : List ℕ → ℕ → Result). f b i) h

pub start_dequeue_contract : Gives 1 start-dequeue-kinds.ps start-dequeue-kinds.r start-dequeue.Learnt
    λ κs a r e. (b : List ℕ) (i : ℕ)
    → Meets a.0.now (record { call = lending b i start_dequeue; response = response_in b i 0 r; words = e.0.now; buffer = b })
start_dequeue_contract κs a r e h b i = ap (λ (f : List ℕ → ℕ → Result). f b i) h

pub start_drain_contract : Gives 1 start-drain-kinds.ps start-drain-kinds.r start-drain.Learnt
    λ κs a r e. (b : List ℕ) (i : ℕ)
    → Meets a.0.now (record { call = lending b i (start_drain a.1.0); response = response_in b i 0 r; words = e.0.now; buffer = b })
start_drain_contract κs a r e h b i = ap (λ (f : List ℕ → ℕ → Result). f b i) h

pub step_contract : Gives 2 step-kinds.ps step-kinds.r step.Learnt
    λ κs a r e. Meets a.0.now
    (record {
      call = lending a.1.1.0.now a.1.1.1.0 (step a.1.0);
      response = counted_in e.1.1.0.now a.1.1.1.0 r;
      words = e.0.now;
      buffer = e.1.1.0.now;
    })
step_contract κs a r e h = h

pub intake_open_contract : Gives 1 intake-open-kinds.ps intake-open-kinds.r intake-open.Learnt
    λ κs a r e. ◌≡◌ {A = Returned} (record { number = r; store = e.0.now })
    (returned (open_store (record { B = a.1.0; N = a.1.1.0; P = a.1.1.1.0; M = a.1.1.1.1.0 }) a.0.now))
intake_open_contract κs a r e h = h

pub intake_start_enqueue_contract : Gives 2 intake-start-enqueue-kinds.ps intake-start-enqueue-kinds.r intake-start-enqueue.Learnt
    λ κs a r e. (b : List ℕ) (i : ℕ) (after : List ℕ)
    → Exports (start_enqueue a.1.0 a.1.1.0) a.0.now a.1.1.1.0.now b i r e.0.now after e.1.1.1.0.now
intake_start_enqueue_contract κs a r e h b i after = h

pub intake_start_dequeue_contract : Gives 1 intake-start-dequeue-kinds.ps intake-start-dequeue-kinds.r intake-start-dequeue.Learnt
    λ κs a r e. (lent b : List ℕ) (i : ℕ) (after reply : List ℕ) → Exports start_dequeue a.0.now lent b i r e.0.now after reply
intake_start_dequeue_contract κs a r e h lent b i after reply = h

pub intake_start_drain_contract : Gives 1 intake-start-drain-kinds.ps intake-start-drain-kinds.r intake-start-drain.Learnt
    λ κs a r e. (lent b : List ℕ) (i : ℕ) (after reply : List ℕ) → Exports (start_drain a.1.0) a.0.now lent b i r e.0.now after reply
intake_start_drain_contract κs a r e h lent b i after reply = h

pub intake_step_contract : Gives 3 intake-step-kinds.ps intake-step-kinds.r intake-step.Learnt
    λ κs a r e. Exports (step a.1.0) a.0.now a.1.1.1.1.0.now a.1.1.0.now a.1.1.1.0 r e.0.now e.1.1.0.now e.1.1.1.1.0.now
intake_step_contract κs a r e h = h
