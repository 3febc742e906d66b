-- `linking::link_claimed` meets its contract.
use Rattle.std.proofs.Common.{refl, [], ◌∷◌, ap}
use Rattle.rules.specs.Cell.{◌:=◌, claimed, phase, writes}
use Rattle.rules.specs.Producer.{link_claimed}
use Rattle.rules.specs.Request.{applied}
use Rattle.store.specs.Outcome.{left}
use Rattle.std.specs.Prelude.{Ok}
use Rattle.store.specs.declared.Reply.TheVariants.{Going}
use Rattle.store.proofs.Refusals.{handed_on}
use Rattle.linking.specs.Link.{words_then}
use Rattle.linking.proofs.link_claimed.Goals as goal

pub returns-in_err-link : goal.returns-in_err-link
unfolding link_claimed applied
returns-in_err-link c = rw (handed_on c.from_residual.result c.from_residual.ensures.1 c.in_err-link.ensures.1, c.in_err-link.ensures.0.words, c.in_err-link.ensures.0.then) refl

pub returns : goal.returns
unfolding link_claimed applied writes
returns c =
    let t = c.args.t in
    let made = c.in_ok-link.ensures in
    rw (made.then, c.put_producer-2.ensures, c.put_producer.ensures) (ap (λ m. left (Ok Going) m) (words_then made (claimed t := 0 ∷ phase t := 6 ∷ [])))
