-- `session::finish` meets its contract: a call that is recorded and printed is a turn.
use Rattle.session.specs.TurnLaws.{call_turned}
use Rattle.session.proofs.finish.Goals as goal

pub returns : goal.returns
returns c =
    let noted = c.note-noted in
    record {
      turned = λ q thread_is value_is store store' buffer does.
          call_turned c.args.reply c.args.steps c.print_reply-bytes.ensures q noted.result buffer does (noted.ensures q thread_is value_is) c.add_noted-events.ensures;
    }
