-- Every run of the table goes as the table says.
use Rattle.std.specs.Prelude.{◌≡◌, true, map}
use Rattle.rules.specs.Sameness.{passes, lists, responses}
use Rattle.rules.specs.Runs.{replay, quick_replay, replay_is, computed, table}

runs_pass : (lists responses).test (map quick_replay table) (map (λ t. t.replies) table) ≡ true
unfolding quick_replay lists responses
runs_pass = passes

pub runs_as_written : map replay table ≡ map (λ t. t.replies) table
runs_as_written = computed responses replay quick_replay (λ t. t.replies) replay_is table runs_pass
