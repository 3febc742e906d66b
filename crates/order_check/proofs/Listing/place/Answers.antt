-- `order_check::Listing::place` meets its contract. Assumes nothing.
use Rattle.order_check.proofs.Walking.{numbers_in_range, wrong_number, enqueue_placed, wrong_answer, dequeue_placed}
use Rattle.order_check.proofs.Listing.place.Goals as goal

pub returns-then-not-admits : goal.returns-then-not-admits
returns-then-not-admits c = wrong_number _ _ _ _ _ _ c.requires.0 c.args.self.now.few c.requires.1 _ c.admits.ensures c.if-not-admits.true

pub returns-then-self-j-ne0 : goal.returns-then-self-j-ne0
returns-then-self-j-ne0 c =
    enqueue_placed _ _ _ _ _ _ c.requires.0 c.args.self.now.few c.requires.1 _ c.admits.ensures c.if-not-admits.false _ c.call_of-j.ensures.0 _ c.max-latest.ensures c.if-self-j-ne0.true

pub front_of-f-requires : goal.front_of-f-requires
front_of-f-requires c =
    let p = c.requires in
    (p.0.front_within, p.0.within, numbers_in_range _ _ _ _ _ _ p.0 c.args.self.now.few)

pub answers-requires : goal.answers-requires
answers-requires c =
    let p = c.requires in
    (p.0.within, c.call_of-j.ensures.1, numbers_in_range _ _ _ _ _ _ p.0 c.args.self.now.few)

pub returns-then-not-answers : goal.returns-then-not-answers
returns-then-not-answers c =
    wrong_answer _ _ _ _ _ _ c.requires.0 c.args.self.now.few c.requires.1 _ c.admits.ensures c.if-not-admits.false _ c.call_of-j.ensures.0 _ c.max-latest.ensures c.if-self-j-ne0.false _ c.front_of-f.ensures _ c.answers.ensures c.if-not-answers.true

pub returns : goal.returns
returns c =
    dequeue_placed _ _ _ _ _ _ c.requires.0 c.args.self.now.few c.requires.1 _ c.admits.ensures c.if-not-admits.false _ c.call_of-j.ensures.0 _ c.max-latest.ensures c.if-self-j-ne0.false _ c.front_of-f.ensures _ c.answers.ensures c.if-not-answers.false
