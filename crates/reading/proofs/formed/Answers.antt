-- `reading::formed` meets its contract. Assumes nothing.
use Rattle.std.proofs.Common.{inl, inr, sym, ◌∙◌, arith}
use Rattle.reading.proofs.Forms.{kind_1_or_2, kind_3, kind_4, kind_5, no_kind}
use Rattle.reading.proofs.formed.Goals as goal

pub returns-in-1 : goal.returns-in-1
returns-in-1 c = c.of_producer.ensures ∙ sym (kind_1_or_2 c.args.event.kind _ _ _ (omega arith) (omega arith))

pub returns-in-3 : goal.returns-in-3
returns-in-3 c = elim c.in-3.is [
  | inl e ↦ c.of_zeros.ensures ∙ sym (kind_3 _ _ _ _ e)
  | inr e ↦ c.of_zeros.ensures ∙ sym (kind_5 _ _ _ _ e)
]

pub returns-in-4 : goal.returns-in-4
returns-in-4 c = c.of_item.ensures ∙ sym (kind_4 _ _ _ _ c.in-4.is)

pub returns-in_default : goal.returns-in_default
returns-in_default c = sym (no_kind c.args.event.kind _ _ _ (omega arith) (omega arith) (omega arith) (omega arith) (omega arith))

pub returns-in_default-2 : goal.returns-in_default-2
returns-in_default-2 c = sym (no_kind c.args.event.kind _ _ _ (omega arith) (omega arith) (grind arith) (omega arith) (grind arith))
