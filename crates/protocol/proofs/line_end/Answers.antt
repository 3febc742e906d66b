use Rattle.std.proofs.Common.{Option, ◌≡◌, ◌≤◌, ◌+◌, ℕ, ap, ◌∙◌, arith, ◌-◌, take_all, length-drop, drop, length, drop_of_length-le, unwrap_or}
use Rattle.protocol.specs.Line.{line_length}
use Rattle.protocol.specs.Laws.{line_length_position}
use Rattle.protocol.proofs.line_end.Goals as goal

pub returns-in-None : goal.returns-in-None
unfolding line_length
returns-in-None c =
    let l : length c.args.s.now ≤ c.args.at = omega (arith, c.in-None.ensures.lookup.0) in
    rw (drop_of_length-le c.args.s.now l) (omega arith)

pub returns-in-Some : goal.returns-in-Some
returns-in-Some c =
    let s = c.args.s.now in
    let at = c.args.at in
    let r : c.in-Some.rest.now ≡ drop at s = c.in-Some.ensures.lookup.0.2 ∙ take_all (length s - at) (drop at s) (rw length-drop (omega arith)) in
    ap (λ (k : ℕ). c.args.at + k)
    (c.unwrap_or.ensures
    ∙ ap (λ (o : Option ℕ). unwrap_or o (length c.in-Some.rest.now)) c.first_newline.ensures
    ∙ line_length_position c.in-Some.rest.now
    ∙ ap line_length r)
