-- `order_check::Listing::all_seen` meets its contract. Assumes nothing.
use Rattle.std.proofs.Common.{refl, arith, rules, tests}
use Rattle.std.proofs.lemmas.Iterator.{YieldsList-from_range}
use Rattle.std.proofs.lemmas.Iterator.Search.{all_from_yields_List}
use Rattle.order_check.specs.Walk.{kept_at}
use Rattle.order_check.proofs.Listing.all_seen.Goals as goal

pub returns : goal.returns
returns c =
    let l = c.args.self.now in
    all_from_yields_List (kept_at l.memory.now c.args.seen.now) _ _ _ c.all.ensures.ran (YieldsList-from_range 0 l.calls l.calls refl (omega arith)) (λ x b q k. search (rules, tests))
