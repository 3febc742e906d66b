-- `claim::first_set` meets its contract.
use Rattle.std.proofs.Common.{arith}
use lib.Pow.{shr_le}
use Rattle.claim.specs.Search.{finds_none, finds_lowest}
use Rattle.claim.proofs.first_set.Goals as goal

pub returns-then-rest-eq0 : goal.returns-then-rest-eq0
returns-then-rest-eq0 c = finds_none c.args.map c.args.from (omega (arith, c.if-rest-eq0.true, shr_le c.args.map c.args.from))

pub returns : goal.returns
returns c = finds_lowest c.args.map c.args.from (λ e. omega (arith, c.if-rest-eq0.false))
