-- The tables of runs of the fold, of its single steps and of claims, computed by the checker.
use Rattle.std.specs.Prelude.{◌≡◌, true, map}
use Rattle.rules.specs.Runs.{replay, quick_replay, replay_is, computed}
use Rattle.rules.proofs.Runs.{runs_as_written}
use Rattle.rules.specs.Single.{sights, seen_of, quick_seen, seen_as, singles_hold}
use Rattle.rules.specs.Sameness.{passes_after, lists, responses, word_lists}
use Rattle.rules.specs.FoldRuns.{fold_runs, singles, claims}

fold_runs_pass : (lists responses).test (map quick_replay fold_runs) (map (λ t. t.replies) fold_runs) ≡ true
unfolding quick_replay lists responses
fold_runs_pass = passes_after runs_as_written

pub fold_runs_as_written : map replay fold_runs ≡ map (λ t. t.replies) fold_runs
fold_runs_as_written = computed responses replay quick_replay (λ t. t.replies) replay_is fold_runs fold_runs_pass

singles_pass : (lists sights).test (map quick_seen singles) (map seen_as singles) ≡ true
unfolding quick_seen lists responses word_lists sights
singles_pass = passes_after fold_runs_as_written

pub singles_as_written : map seen_of singles ≡ map seen_as singles
singles_as_written = singles_hold singles singles_pass

claims_pass : (lists sights).test (map quick_seen claims) (map seen_as claims) ≡ true
unfolding quick_seen lists responses word_lists sights
claims_pass = passes_after singles_as_written

pub claims_as_written : map seen_of claims ≡ map seen_as claims
claims_as_written = singles_hold claims claims_pass
