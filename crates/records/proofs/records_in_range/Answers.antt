-- `records::records_in_range` meets its contract.
use Rattle.std.proofs.Common.{ap, sym, subst, ◌∙◌, ℕ, ◌+◌, ◌*◌, ◌≤◌, arith, length, replicate}
use lib.ListN.{length-replicate, get_or-replicate}
use Rattle.rules.specs.Sizes.{Sizes}
use Rattle.store.specs.Caps.{most_word}
use Rattle.store.specs.Shape.{sizes}
use Rattle.records.specs.Bounds.{bounds, Bounded, bounded, length_row}
use Rattle.records.proofs.records_in_range.Goals as goal

-- a row that allows any word
allows : (w : ℕ) (z : Sizes) → 3 * z.B + 4 ≤ w → Bounded z (bounds (replicate w most_word) z z.B)
allows w z l = bounded (replicate w most_word) z (omega (arith, length-replicate w most_word)) (λ j k. get_or-replicate w j most_word 0 (omega arith))

pub returns-then-z-le4 : goal.returns-then-z-le4
returns-then-z-le4 c = c.each_in_range.ensures

pub fill_bounds-requires : goal.fill_bounds-requires
fill_bounds-requires c = (omega arith, omega arith)

pub slice_bounds-pairs_in_range-end : goal.slice_bounds-pairs_in_range-end
slice_bounds-pairs_in_range-end c =
    sym (ap length c.fill_bounds.ensures ∙ length_row (replicate 196 most_word) (sizes c.args.z) c.args.z.entries)

pub pairs_in_range-requires : goal.pairs_in_range-requires
pairs_in_range-requires c = record { room = c.requires; bounded = subst (Bounded (sizes c.args.z)) (sym c.fill_bounds.ensures) (allows 196 (sizes c.args.z) (omega arith)) }

pub returns : goal.returns
returns c = c.pairs_in_range.ensures
