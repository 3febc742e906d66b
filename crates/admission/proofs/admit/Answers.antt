-- `admission::admit` meets its contract.
use Rattle.std.proofs.Common.{true, false, ◌∙◌, arith}
use Rattle.store.specs.Shape.{sizes}
use Rattle.admission.specs.Admit.{room_of, sizes_most, refuse_length, refuse_sizes, refuse_short, by_range, admitted_by}
use Rattle.admission.proofs.admit.Goals as goal

pub returns-then-s : goal.returns-then-s
returns-then-s c = refuse_length c.args.s.now c.if-s.true

pub returns-then-not-sizes_in_range : goal.returns-then-not-sizes_in_range
returns-then-not-sizes_in_range c = refuse_sizes c.args.s.now (sizes c.shape_of-z.result) c.shape_of-z.ensures c.if-s.false (c.sizes_in_range.ensures ∙ c.if-not-sizes_in_range.true)

pub store_words-requires : goal.store_words-requires
store_words-requires c = sizes_most (sizes c.shape_of-z.result) (c.sizes_in_range.ensures ∙ c.if-not-sizes_in_range.false)

pub returns-then-s-store_words : goal.returns-then-s-store_words
returns-then-s-store_words c = refuse_short c.args.s.now (sizes c.shape_of-z.result) c.shape_of-z.ensures c.if-s.false (c.sizes_in_range.ensures ∙ c.if-not-sizes_in_range.false) (omega arith)

pub in_range-requires : goal.in_range-requires
in_range-requires c = record { room = room_of (sizes c.shape_of-z.result) c.args.s.now (c.sizes_in_range.ensures ∙ c.if-not-sizes_in_range.false) (omega arith); z_value = c.shape_of-z.ensures }

pub returns-then-not-in_range : goal.returns-then-not-in_range
returns-then-not-in_range c = by_range c.args.s.now (sizes c.shape_of-z.result) c.shape_of-z.ensures c.if-s.false (c.sizes_in_range.ensures ∙ c.if-not-sizes_in_range.false) (omega arith) false (c.in_range.ensures ∙ c.if-not-in_range.true)

pub returns : goal.returns
returns c =
    let none = by_range c.args.s.now (sizes c.shape_of-z.result) c.shape_of-z.ensures c.if-s.false (c.sizes_in_range.ensures ∙ c.if-not-sizes_in_range.false) (omega arith) true (c.in_range.ensures ∙ c.if-not-in_range.false) in
    record { shape = c.shape_of-z.ensures; none = none; admitted = rw c.shape_of-z.ensures (admitted_by c.args.s.now none) }
