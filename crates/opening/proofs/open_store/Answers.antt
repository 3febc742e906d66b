-- `opening::open_store` meets its contract.
use Rattle.std.proofs.Common.{◌++◌, sym, ap, ◌∙◌, ℕ, arith, replicate, drop}
use Rattle.rules.specs.Cell.{writes}
use Rattle.rules.specs.Request.{opened}
use Rattle.store.specs.Shape.{sizes}
use Rattle.admission.specs.Admit.{room_of, sizes_most}
use Rattle.opening.specs.Open.{open_out, open_short, open_made, cleared}
use Rattle.opening.proofs.open_store.Goals as goal

pub returns-then-not-sizes_in_range : goal.returns-then-not-sizes_in_range
returns-then-not-sizes_in_range c = open_out (sizes c.args.z) c.args.s.now (c.sizes_in_range.ensures ∙ c.if-not-sizes_in_range.true)

pub store_words-words-requires : goal.store_words-words-requires
store_words-words-requires c = sizes_most (sizes c.args.z) (c.sizes_in_range.ensures ∙ c.if-not-sizes_in_range.false)

pub returns-then-s-words : goal.returns-then-s-words
returns-then-s-words c = open_short (sizes c.args.z) c.args.s.now (c.sizes_in_range.ensures ∙ c.if-not-sizes_in_range.false) (omega arith)

pub write_contents-requires : goal.write_contents-requires
write_contents-requires c = room_of (sizes c.args.z) c.clear.new.s (c.sizes_in_range.ensures ∙ c.if-not-sizes_in_range.false) (omega arith)

pub link_first-requires : goal.link_first-requires
link_first-requires c = room_of (sizes c.args.z) c.write_contents.new.s (c.sizes_in_range.ensures ∙ c.if-not-sizes_in_range.false) (omega arith)

pub returns : goal.returns
unfolding opened writes
returns c =
    let m = c.args.s.now in
    let e = c.clear.ensures ∙ cleared c.store_words-words.result m (omega arith) ∙ ap (λ (n : ℕ). replicate n 0 ++ drop n m) (sym c.store_words-words.ensures.0) in
    rw (c.link_first.ensures, c.write_contents.ensures, e) (open_made (sizes c.args.z) m (c.sizes_in_range.ensures ∙ c.if-not-sizes_in_range.false) (omega arith) (omega arith))
