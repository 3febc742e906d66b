-- `engine::intake_step` meets its contract.
use Rattle.delivery.specs.Delivery.{stepped_of}
use Rattle.engine.proofs.intake_step.Goals as goal

pub returns : goal.returns
returns c =
    let a = c.args in
    let step = c.step in
    stepped_of step.result _ a.from a.reply.now c.deliver.ensures.0 c.deliver.ensures.1 step.ensures
