-- `marking::position` meets its contract. Assumes nothing.
use Rattle.marking.proofs.Passing.{found_before}
use Rattle.marking.proofs.position.Goals as goal

pub returns-in-Some : goal.returns-in-Some
returns-in-Some c = let f = c.in-Some.ensures in (f.1, f.2)

pub returns-in-None : goal.returns-in-None
returns-in-None c = let p = c.requires in found_before _ _ _ _ _ p.0 c.in-None.ensures c.scan-in-None.ensures
