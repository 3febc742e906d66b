-- `two_recordings::print_comparison` meets its contract: what the three writes leave, one after the other.
use Rattle.std.proofs.Common.{arith}
use Rattle.history.specs.Form.{most_events, read}
use Rattle.comparison.specs.Compared.{keeps_to}
use Rattle.comparison.specs.Parts.{reply_of}
use Rattle.text.specs.Laws.{wrote_append}
use Rattle.two_recordings.specs.Laws.{comparison_printed, length_part, length_reply, length_precedence}
use Rattle.two_recordings.proofs.print_comparison.Goals as goal

pub print_precedence-after_precedence-requires : goal.print_precedence-after_precedence-requires
print_precedence-after_precedence-requires c =
    let wrote = c.print_reply-after_reply in
    omega (arith, length_reply (reply_of c.compare-compared.result.reply), wrote.ensures.next_is)

pub print_events-requires : goal.print_events-requires
print_events-requires c =
    let compared = c.compare-compared.result in
    let args = c.args in
    let reply = c.print_reply-after_reply in
    let precedence = c.print_precedence-after_precedence in
    let kept = keeps_to (read most_events args.first.now) (read most_events args.second.now) in
    let short = length_part compared.rest args.first.now args.second.now c.requires.0 c.requires.1 in
    rw c.part-part.ensures
    (omega (arith, short, length_reply (reply_of compared.reply), length_precedence (reply_of compared.reply) kept, reply.ensures.next_is, precedence.ensures.next_is))

pub returns : goal.returns
returns c =
    let args = c.args in
    rw (comparison_printed args.first.now args.second.now c.compare-compared.ensures)
    (wrote_append c.print_reply-after_reply.ensures
    (wrote_append c.print_precedence-after_precedence.ensures (rw c.part-part.ensures at c.print_events.ensures)))
