-- The table of the steps that enqueues make, computed by the checker.
use Rattle.std.specs.Prelude.{◌≡◌, true, map}
use Rattle.rules.proofs.Witnesses.{starting_as_written}
use Rattle.rules.specs.Runs.{computed}
use Rattle.rules.specs.Sameness.{passes_after, lists, numbers}
use Rattle.rules.specs.Lengths.{accepted_steps, quick_length, length_is, lengths}

lengths_pass : (lists numbers).test (map quick_length lengths) (map (λ l. l.made) lengths) ≡ true
unfolding quick_length lists numbers
lengths_pass = passes_after starting_as_written

pub lengths_as_written : map accepted_steps lengths ≡ map (λ l. l.made) lengths
lengths_as_written = computed numbers accepted_steps quick_length (λ l. l.made) length_is lengths lengths_pass
