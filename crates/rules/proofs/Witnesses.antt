-- The tables of further runs, of calls on other stores, of claims and of single starts, computed by the checker.
use Rattle.std.specs.Prelude.{◌≡◌, true, map}
use Rattle.rules.proofs.FoldRuns as fold
use Rattle.rules.specs.Runs.{replay, quick_replay, replay_is, computed}
use Rattle.rules.specs.Single.{sights, seen_of, quick_seen, seen_as, singles_hold}
use Rattle.rules.specs.Sameness.{passes_after, lists, responses, word_lists}
use Rattle.rules.specs.Witnesses.{witnesses, probe, quick_probe, probe_is, probes, claims, starting}

witnesses_pass : (lists responses).test (map quick_replay witnesses) (map (λ t. t.replies) witnesses) ≡ true
unfolding quick_replay lists responses
witnesses_pass = passes_after fold.claims_as_written

pub witnesses_as_written : map replay witnesses ≡ map (λ t. t.replies) witnesses
witnesses_as_written = computed responses replay quick_replay (λ t. t.replies) replay_is witnesses witnesses_pass

probes_pass : (lists responses).test (map quick_probe probes) (map (λ p. p.replies) probes) ≡ true
unfolding quick_probe lists responses
probes_pass = passes_after witnesses_as_written

pub probes_as_written : map probe probes ≡ map (λ p. p.replies) probes
probes_as_written = computed responses probe quick_probe (λ p. p.replies) probe_is probes probes_pass

claims_pass : (lists sights).test (map quick_seen claims) (map seen_as claims) ≡ true
unfolding quick_seen lists responses word_lists sights
claims_pass = passes_after probes_as_written

pub claims_as_written : map seen_of claims ≡ map seen_as claims
claims_as_written = singles_hold claims claims_pass

starting_passes : (lists sights).test (map quick_seen starting) (map seen_as starting) ≡ true
unfolding quick_seen lists responses word_lists sights
starting_passes = passes_after claims_as_written

pub starting_as_written : map seen_of starting ≡ map seen_as starting
starting_as_written = singles_hold starting starting_passes
