-- `recording::print_verdict` meets its contract: the word for the judge's reply is the judge's word.
use Rattle.std.proofs.Common.{ℕ, arith}
use lib.ListN.{length-replicate}
use Rattle.recording.specs.Laws.{judges_word}
use Rattle.recording.proofs.print_verdict.Goals as goal

pub returns : goal.returns
returns c = rw (judges_word (omega (arith, length-replicate {A = ℕ} 4096 0)) c.judge_alone-reply.ensures) c.print_word.ensures
