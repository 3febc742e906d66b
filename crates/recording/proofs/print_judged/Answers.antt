-- `recording::print_judged` meets its contract: the word for the judge's reply, and its order where it says explained.
use Rattle.std.proofs.Common.{ℕ, arith}
use lib.ListN.{length-replicate}
use Rattle.recording.specs.Laws.{refused_alone}
use Rattle.recording.proofs.print_judged.Goals as goal

pub returns-in-Err : goal.returns-in-Err
returns-in-Err c = rw (refused_alone (omega (arith, length-replicate {A = ℕ} 4096 0)) c.judge_alone-reply.ensures c.in-Err.is) c.print_word-next.ensures
