use Rattle.std.proofs.Common.{◌≡◌, refl, ap, sym, ◌∙◌, ℕ, ◌+◌, ◌-◌, ◌/◌, add-one, arith}
use Rattle.rules.specs.Cell.{reader}
use Rattle.rules.specs.Range.{every, record_in_range}
use Rattle.store.specs.Shape.{sizes}
use Rattle.records.specs.Bounds.{every_halves}
use Rattle.records.proofs.pairs_in_range.Goals as goal

pub pair_in_range-ok-requires : goal.pair_in_range-ok-requires
pair_in_range-ok-requires c =
    record { room = c.requires.room; r_lt_records = (omega arith, omega arith, c.requires.bounded) }

pub loop-r-preserved : goal.loop-r-preserved
loop-r-preserved c =
    let l = c.loop-r in
    (rw (add-one l.r, l.invariant, c.pair_in_range-ok.ensures) refl)

pub returns : goal.returns
returns c =
    let a = c.args in
    let n = a.z.records in
    let e : c.loop-r.r ≡ n - n / 2 = omega arith in
    ap (λ (k : ℕ). every k (record_in_range (sizes a.z) (reader (sizes a.z) a.s.now))) {x = n} {y = n - n / 2 + n / 2} (omega arith)
    ∙ sym (every_halves (n - n / 2) (n / 2) (omega arith) _)
    ∙ rw e at c.loop-r.invariant
