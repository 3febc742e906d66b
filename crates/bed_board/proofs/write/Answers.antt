-- `bed_board::write` meets its contract.
use Rattle.std.proofs.Common.{length, refl, arith, append_assoc, drop-drop}
use Rattle.std.proofs.Math.Nat.{add-sub_cancel_left}
use Rattle.std.proofs.lemmas.List.Edits.{sets-eq}
use Rattle.bed_board.proofs.write.Goals as goal

pub returns : goal.returns
returns c =
    let a = c.args in
    let n = length a.words.now in
    rw c.copy_from_slice.ensures.after
    (rw (sets-eq a.words.now a.board.now a.at (omega (arith, c.requires, c.told-board)), append_assoc, add-sub_cancel_left a.at n, drop-drop n a.at a.board.now) refl)
