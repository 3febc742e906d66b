-- `area::drain_in_range` meets its contract.
use Rattle.std.proofs.Common.{◌&&◌, cond, refl, ap₂, ◌∙◌, ◌+◌, arith, eqb, get_or, le-leb}
use borrow.Author.Tests.{lt-leb}
use Rattle.rules.specs.Sizes.{most_drained}
use Rattle.store.specs.Shape.{sizes}
use Rattle.area.specs.Area.{most, area_words, pairs_test}
use Rattle.area.proofs.drain_in_range.Goals as goal

pub returns-then-select-limit : goal.returns-then-select-limit
returns-then-select-limit c =
    let a = c.args in
    let m = a.s.now in
    let at = c.drain_at-at.result in
    let most-limit = cond (eqb (get_or m 16 0) 0) 0 most_drained in
    let words = area_words (sizes a.z) m at c.drain_at-at.ensures.0 in
    words ∙ rw (lt-leb (get_or m at 0) most-limit (rw c.select.ensures at c.if-select-limit.true)) refl

pub returns-then-limit-count : goal.returns-then-limit-count
returns-then-limit-count c =
    let a = c.args in
    let m = a.s.now in
    let at = c.drain_at-at.result in
    let most-limit = cond (eqb (get_or m 16 0) 0) 0 most_drained in
    let words = area_words (sizes a.z) m at c.drain_at-at.ensures.0 in
    words ∙ rw (le-leb (get_or m at 0) most-limit (rw c.select.ensures at c.if-select-limit.false), lt-leb (get_or m (at + 1) 0) (get_or m at 0) c.if-limit-count.true) refl

pub pairs_marked-pairs-requires : goal.pairs_marked-pairs-requires
pairs_marked-pairs-requires c = omega (arith, most (eqb (get_or c.args.s.now 16 0) 0) c.select.ensures)

pub overflow_sub-marked : goal.overflow_sub-marked
overflow_sub-marked c = omega (arith, most (eqb (get_or c.args.s.now 16 0) 0) c.select.ensures)

pub zero_from-requires : goal.zero_from-requires
zero_from-requires c = omega (arith, most (eqb (get_or c.args.s.now 16 0) 0) c.select.ensures)

pub returns : goal.returns
returns c =
    let a = c.args in
    let m = a.s.now in
    let at = c.drain_at-at.result in
    let most-limit = cond (eqb (get_or m 16 0) 0) 0 most_drained in
    let words = area_words (sizes a.z) m at c.drain_at-at.ensures.0 in
    let l = most (eqb (get_or m 16 0) 0) c.select.ensures in
    words
    ∙ rw (le-leb (get_or m at 0) most-limit (rw c.select.ensures at c.if-select-limit.false), le-leb (get_or m (at + 1) 0) (get_or m at 0) c.if-limit-count.false) refl
    ∙ pairs_test (sizes a.z) m at c.drain_at-at.ensures.0 (get_or m (at + 1) 0) (omega arith)
    ∙ ap₂ ◌&&◌ c.pairs_marked-pairs.ensures c.zero_from.ensures
