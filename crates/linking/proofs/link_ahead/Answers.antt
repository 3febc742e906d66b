-- `linking::link_ahead` meets its contract.
use Rattle.std.proofs.Common.{refl, [], ◌∷◌, ap}
use Rattle.rules.specs.Cell.{clear_producer, writes}
use Rattle.rules.specs.Producer.{link_ahead}
use Rattle.rules.specs.Request.{applied}
use Rattle.store.specs.Outcome.{left}
use Rattle.std.specs.Prelude.{Ok}
use Rattle.store.specs.declared.Reply.TheVariants.{Ended}
use Rattle.store.proofs.Refusals.{handed_on}
use Rattle.linking.specs.Link.{words_then}
use Rattle.linking.proofs.link_ahead.Goals as goal

pub returns-in_err-link : goal.returns-in_err-link
unfolding link_ahead applied
returns-in_err-link c = rw (handed_on c.from_residual.result c.from_residual.ensures.1 c.in_err-link.ensures.1, c.in_err-link.ensures.0.words, c.in_err-link.ensures.0.then) refl

pub returns : goal.returns
unfolding link_ahead applied writes
returns c =
    let made = c.in_ok-link.ensures in
    rw (made.then, c.clear_producer.ensures) (ap (λ m. left (Ok Ended) m) (words_then made (clear_producer c.args.t ∷ [])))
