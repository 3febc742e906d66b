-- `rescan::through_scan` meets its contract.
use Rattle.std.proofs.Common.{◌≡◌, refl, sym, ◌∙◌, Bool, true, false, cond, not}
use mir.Val.{bool_byte}
use Rattle.rescan.proofs.through_scan.Goals as goal

flag : (b : Bool) → cond b 0 1 ≡ bool_byte (not b)
flag true = refl
flag false = refl

pub returns : goal.returns
returns c = rw c.drain.ensures.limit (flag _ ∙ sym c.from.ensures)
