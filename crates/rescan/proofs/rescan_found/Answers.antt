-- `rescan::rescan_found` meets its contract.
use Rattle.std.proofs.Common.{[], ◌∷◌}
use Rattle.rules.specs.Cell.{writes, ◌:=◌, found_record, found_position}
use Rattle.rescan.specs.Rescan.{moved}
use Rattle.rescan.proofs.rescan_found.Goals as goal

pub returns : goal.returns
unfolding writes
returns c =
    let k = c.consumer-c.ensures in
    let q = c.contents-q.ensures in
    let r = c.consumer-c.result in
    let h = c.contents-q.result in
    rw (q.head_position, q.head_record, k.cursor_position, k.cursor_record, c.move_cursor.ensures, ← c.through_scan-through.ensures, c.put_found.ensures) (moved _ _ h.head_record h.head_position r.cursor_position (found_record := r.cursor_record ∷ found_position := r.cursor_position ∷ []))
