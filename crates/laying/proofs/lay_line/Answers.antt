use Rattle.std.proofs.Common.{◌≡◌, refl, arith}
use Rattle.laying.specs.Line.{answers_at, gives_at}
use Rattle.laying.proofs.Standing.{standing_first, standing_back, standing_last, last_counts, room_left}
use Rattle.laying.proofs.lay_line.Goals as goal

pub loop-j-init : goal.loop-j-init
loop-j-init c =
    let g = c.requires in
    standing_first _ _ _ _ g.lined g.few g.rising _ _ _ _ g.items g.within g.dequeues refl

pub lay_dequeue-rest-requires : goal.lay_dequeue-rest-requires
lay_dequeue-rest-requires c =
    let g = c.requires in
    let v = c.loop-j in
    let s = v.invariant in
    let r = room_left _ _ _ _ g.lined g.few g.rising _ _ _ _ _ _ _ s g.dequeues g.fits in
    let a = last_counts (answers_at c.args.m.now) v.j c.loop-j-test.true in
    let b = last_counts (gives_at c.args.m.now) v.j c.loop-j-test.true in
    (r.0, omega arith, s.least, r.1, λ q. let k = rw q at a in omega arith, λ q. let k = rw q at b in omega arith)

pub loop-j-preserved : goal.loop-j-preserved
loop-j-preserved c =
    let g = c.requires in
    standing_back _ _ _ _ g.lined g.few g.rising _ _ _ _ _ c.loop-j.invariant c.loop-j-test.true _ _ c.lay_dequeue-rest.ensures

pub returns : goal.returns
returns c =
    let g = c.requires in
    let z : c.loop-j.j ≡ 0 = omega arith in
    standing_last _ _ _ _ g.lined g.few g.rising _ _ _ _ _ _ _ z c.loop-j.invariant _ _ c.lay_enqueues.ensures
