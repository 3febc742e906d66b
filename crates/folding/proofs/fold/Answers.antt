-- `folding::fold` meets its contract.
use Rattle.std.proofs.Common.{add-one}
use Rattle.rules.specs.Cell.{writes}
use Rattle.folding.proofs.fold.Goals as goal

pub returns : goal.returns
unfolding writes
returns c = rw (c.put_use.ensures, c.put_part-2.ensures, c.put_part.ensures) (simp add-one)
