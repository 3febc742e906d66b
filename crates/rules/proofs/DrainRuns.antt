-- The tables of runs with drains, and of drains on stores that the engine did not write, computed by the checker.
use Rattle.std.specs.Prelude.{◌≡◌, true, [], ◌∷◌, map}
use Rattle.rules.proofs.Lengths.{lengths_as_written}
use Rattle.rules.specs.Runs.{computed}
use Rattle.rules.specs.Sameness.{passes_after, lists, responses, events, word_lists}
use Rattle.rules.specs.DrainRuns.{outcome, outcomes, expected, quick_outcome, outcome_is, drain_runs, probed, quick_probed, probed_is, drain_probes}

drain_runs_pass : (lists outcomes).test (map quick_outcome drain_runs) (map expected drain_runs) ≡ true
unfolding quick_outcome lists responses events word_lists outcomes
drain_runs_pass = passes_after lengths_as_written

pub drain_runs_as_written : map outcome drain_runs ≡ map expected drain_runs
drain_runs_as_written = computed outcomes outcome quick_outcome expected outcome_is drain_runs drain_runs_pass

drain_probes_pass : (lists responses).test (map quick_probed drain_probes) (map (λ p. p.reply ∷ []) drain_probes) ≡ true
unfolding quick_probed lists responses
drain_probes_pass = passes_after drain_runs_as_written

pub drain_probes_as_written : map probed drain_probes ≡ map (λ p. p.reply ∷ []) drain_probes
drain_probes_as_written = computed responses probed quick_probed (λ p. p.reply ∷ []) probed_is drain_probes drain_probes_pass
