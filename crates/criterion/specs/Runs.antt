-- The judge's runs of document 01 that are proved, as one table and one statement.
use Rattle.std.specs.Prelude.{◌≡◌, refl, Bool, true, false, ◌&&◌, List, [], ◌∷◌}
use Rattle.std.proofs.Common.{sym, ◌∙◌, true≢false}
use Rattle.std.specs.Bool.{beq}
use Rattle.std.proofs.Math.Bool.{and-eq-true_iff}
use Rattle.history.specs.Lists.{All}
use Rattle.history.specs.Event.{History, enqueue_started, enqueue_ended, dequeue_started, gave_item, gave_empty}
use Rattle.history.specs.Form.{well_formed}
use Rattle.history.specs.Linearization.{Linearizable}
use Rattle.criterion.specs.Pass.{explains}
use Rattle.criterion.specs.Criterion.{verdict}

pub record JudgeRun : Type 0 where
  pub history : History
  pub explained : Bool

-- The newest event comes first.
abbrev pub judge_runs : List JudgeRun
judge_runs =
    -- the empty history
    record { history = []; explained = true }
    -- enqueue 1 ends, then a dequeue answers empty
    ∷ record { history = gave_empty ∷ dequeue_started ∷ enqueue_ended 1 1 7 ∷ enqueue_started 1 1 7 ∷ []; explained = false }
    -- enqueue 1 still open, a dequeue gives item 1
    ∷ record { history = gave_item 1 7 ∷ dequeue_started ∷ enqueue_started 1 1 7 ∷ []; explained = true }
    -- enqueue 1 ends, enqueue 2 starts, a dequeue gives 2
    ∷ record { history = gave_item 2 8 ∷ dequeue_started ∷ enqueue_started 2 2 8 ∷ enqueue_ended 1 1 7 ∷ enqueue_started 1 1 7 ∷ []; explained = false }
    ∷ []

-- What a verdict says: the history is linearizable, or it is not.
abbrev pub Says : Bool → History → Type 0
Says true h = Linearizable h
Says false h = Linearizable h → ⊥

pub verdict_says : (h : History) → well_formed h ≡ true → (b : Bool) → explains h ≡ b → Says b h
verdict_says h w true e = (verdict h w).0 e
verdict_says h w false e = λ l. true≢false (sym ((verdict h w).1 l) ∙ e)

-- What each run of a table must show, and a test that computes it.
abbrev pub Passes : JudgeRun → Type 0
Passes r = (well_formed r.history ≡ true) × (explains r.history ≡ r.explained) × Says r.explained r.history

test : JudgeRun → Bool
test r = well_formed r.history && beq (explains r.history) r.explained

test_all : List JudgeRun → Bool
test_all [] = true
test_all (r ∷ rs) = test r && test_all rs

same_bool : (a b : Bool) → beq a b ≡ true → a ≡ b
same_bool true true e = refl
same_bool true false e = sym e
same_bool false true e = e
same_bool false false e = refl

tested : (rs : List JudgeRun) → test_all rs ≡ true → All Passes rs
unfolding test test_all
tested [] e = tt
tested (r ∷ rs) e =
    let a = (and-eq-true_iff (test r) (test_all rs)).0 e in
    let b = (and-eq-true_iff (well_formed r.history) (beq (explains r.history) r.explained)).0 a.0 in
    let c = same_bool (explains r.history) r.explained b.1 in
    ((b.0, c, verdict_says r.history b.0 r.explained c), tested rs a.1)

pub judge_runs_hold : All Passes judge_runs
unfolding test test_all explains
judge_runs_hold = tested judge_runs refl
