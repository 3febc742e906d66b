-- `two_recordings::print_after` meets its contract: the second recording's lines follow an empty line, or nothing follows.
use Rattle.std.proofs.Common.{List, ◌≡◌, ℕ, ◌+◌, ◌-◌, arith, length, take, drop, length-drop, take_all}
use Rattle.two_recordings.specs.Laws.{nothing_after, second_after}
use Rattle.two_recordings.proofs.print_after.Goals as goal

pub returns-then-text-end : goal.returns-then-text-end
returns-then-text-end c =
    rw (nothing_after c.args.first.now c.args.text.now c.args.end c.if-text-end.true, ← c.line_after-line.ensures)
    c.print_numbered.ensures

pub returns : goal.returns
returns c =
    let s : List ℕ = c.args.text.now in
    let start : ℕ = c.args.end + 1 in
    let all : take (length s - start) (drop start s) ≡ drop start s = take_all (length s - start) (drop start s) (rw length-drop (omega arith)) in
    rw (second_after c.args.first.now s c.args.end c.if-text-end.false) (rw all at c.print_second.ensures)
