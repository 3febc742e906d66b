-- `free_map::with_link` meets its contract.
use Rattle.std.proofs.Common.{refl, ◌∙◌, ◌+◌, arith}
use Rattle.rules.specs.Cell.{reader}
use Rattle.store.specs.Branches.{some}
use Rattle.store.specs.Shape.{sizes}
use Rattle.free_map.specs.Kept.{none_named, none_retired, retired_named}
use Rattle.free_map.specs.Walk.{reads_use, reads_place}
use Rattle.free_map.proofs.with_link.Goals as goal

pub returns-then-link-eq0 : goal.returns-then-link-eq0
returns-then-link-eq0 c =
    let a = c.args in
    rw c.if-link-eq0.true (none_named (sizes a.z) (reader (sizes a.z) a.s.now) a.kept)

pub returns-then-s-at-ne-RETIRED : goal.returns-then-s-at-ne-RETIRED
returns-then-s-at-ne-RETIRED c =
    let a = c.args in
    let used = reads_use c.requires.admitted (omega arith) c.record_at-at.ensures.0 (omega (arith, c.type_inv.s (c.record_at-at.result + 3))) in
    none_retired (sizes a.z) (reader (sizes a.z) a.s.now) (some refl c.if-link-eq0.false) a.kept (λ e. omega (arith, used.is, c.if-s-at-ne-RETIRED.true))

pub returns : goal.returns
returns c =
    let a = c.args in
    let at = c.record_at-at in
    let used = reads_use c.requires.admitted (omega arith) at.ensures.0 (omega (arith, c.type_inv.s (at.result + 3))) in
    let place = reads_place c.requires.admitted (omega arith) at.ensures.0 (omega (arith, c.type_inv.s at.result)) in
    retired_named (sizes a.z) (reader (sizes a.z) a.s.now) (some refl c.if-link-eq0.false) a.kept (omega (arith, used.is, c.if-s-at-ne-RETIRED.false)) (omega arith) (omega arith) (c.max.ensures ∙ rw place.is refl)
