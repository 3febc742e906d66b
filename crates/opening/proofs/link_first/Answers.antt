-- `opening::link_first` meets its contract.
use Rattle.std.proofs.Common.{refl}
use Rattle.rules.specs.Cell.{writes}
use Rattle.opening.proofs.link_first.Goals as goal

pub returns : goal.returns
unfolding writes
returns c = rw (c.put_use.ensures, c.put_part.ensures, c.put_last_claimed.ensures, c.put_content-2.ensures, c.put_content.ensures) refl
