-- The runs that document 01 marks (P), those of the store and those of the judge, as one table and one statement.
use Rattle.std.specs.Prelude.{◌≡◌, List, [], ◌∷◌, ◌++◌, map}
use Rattle.history.specs.Lists.{All}
use Rattle.rules.specs.Runs.{Trial, replay, table}
use Rattle.rules.proofs.Runs.{runs_as_written}
use Rattle.criterion.specs.Runs.{JudgeRun, judge_runs, Says, Passes, judge_runs_hold}

-- calls on a store with their replies, or a history with the judge's word
pub data Run : Type 0 where
  calls : Trial → Run
  judged : JudgeRun → Run

-- The rules give these replies; the history is linearizable, or it is not.
abbrev pub Holds : Run → Type 0
Holds (calls t) = replay t ≡ t.replies
Holds (judged r) = Says r.explained r.history

abbrev pub marked_runs : List Run
marked_runs = map calls table ++ map judged judge_runs

with_calls : (ts : List Trial) (rs : List Run) → map replay ts ≡ map (λ t. t.replies) ts → All Holds rs → All Holds (map calls ts ++ rs)
with_calls [] rs e a = a
with_calls (t ∷ ts) rs e a =
    let first : replay t ≡ t.replies = cc in
    let others : map replay ts ≡ map (λ t. t.replies) ts = cc in
    (first, with_calls ts rs others a)

with_judged : (js : List JudgeRun) → All Passes js → All Holds (map judged js)
with_judged [] a = tt
with_judged (j ∷ js) a = (a.0.2, with_judged js a.1)

pub marked_runs_hold : All Holds marked_runs
marked_runs_hold = with_calls table (map judged judge_runs) runs_as_written (with_judged judge_runs judge_runs_hold)
