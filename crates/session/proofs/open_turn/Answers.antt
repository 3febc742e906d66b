-- `session::open_turn` meets its contract: an open whose reply is printed is a turn.
use Rattle.store.specs.Shape.{sizes}
use Rattle.session.specs.TurnLaws.{open_turned}
use Rattle.session.proofs.open_turn.Goals as goal

pub returns : goal.returns
returns c =
    let x = c.reopen-events.ensures in
    λ history. open_turned c.open_store-reply.result 0 c.print_reply-bytes.ensures (sizes c.args.z) c.open_store-reply.ensures x.0 x.1
