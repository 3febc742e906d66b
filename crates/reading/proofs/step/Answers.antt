-- `reading::step` meets its contract. Assumes nothing.
use Rattle.std.proofs.Common.{sym, ◌∙◌, arith}
use Rattle.reading.proofs.Forms.{start_formed, end_formed}
use Rattle.reading.proofs.Stepping.{not_formed, starts_one, starts_none, taken_in, turned_down}
use Rattle.reading.proofs.step.Goals as goal

pub returns-then-not-formed : goal.returns-then-not-formed
returns-then-not-formed c = not_formed _ _ _ _ _ (sym c.formed.ensures ∙ c.if-not-formed.true)

pub start-requires : goal.start-requires
start-requires c =
    let p = c.requires in
    let f = start_formed _ _ _ _ (sym c.formed.ensures ∙ c.if-not-formed.false) (sym c.starts.ensures ∙ c.if-starts.true) in
    (p.0, p.1, f.1)

pub returns-then-start : goal.returns-then-start
returns-then-start c =
    let f = start_formed _ _ _ _ (sym c.formed.ensures ∙ c.if-not-formed.false) (sym c.starts.ensures ∙ c.if-starts.true) in
    taken_in _ _ _ _ _ _ _ _ f.0 (starts_one _ _ _ _ f.0 _) c.start.ensures c.if-start.true

pub returns-then-starts : goal.returns-then-starts
returns-then-starts c =
    let f = start_formed _ _ _ _ (sym c.formed.ensures ∙ c.if-not-formed.false) (sym c.starts.ensures ∙ c.if-starts.true) in
    turned_down _ _ _ _ _ _ _ _ f.0 (starts_one _ _ _ _ f.0 _) c.start.ensures c.if-start.false

pub finish-requires : goal.finish-requires
finish-requires c =
    let p = c.requires in
    let f = end_formed _ _ _ _ (sym c.formed.ensures ∙ c.if-not-formed.false) (sym c.starts.ensures ∙ c.if-starts.false) in
    (p.0, omega arith, f.1, p.2)

pub returns-then-finish : goal.returns-then-finish
returns-then-finish c =
    let f = end_formed _ _ _ _ (sym c.formed.ensures ∙ c.if-not-formed.false) (sym c.starts.ensures ∙ c.if-starts.false) in
    taken_in _ _ _ _ _ _ _ _ f.0 (starts_none _ _ _ _ f.0 _) c.finish.ensures c.if-finish.true

pub returns : goal.returns
returns c =
    let f = end_formed _ _ _ _ (sym c.formed.ensures ∙ c.if-not-formed.false) (sym c.starts.ensures ∙ c.if-starts.false) in
    turned_down _ _ _ _ _ _ _ _ f.0 (starts_none _ _ _ _ f.0 _) c.finish.ensures c.if-finish.false
