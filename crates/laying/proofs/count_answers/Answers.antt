-- `laying::count_answers` meets its contract. Assumes nothing.
use Rattle.std.proofs.Common.{◌∙◌, arith, rules, tests}
use Rattle.std.proofs.lemmas.Iterator.{YieldsList-from_range}
use Rattle.std.proofs.lemmas.Iterator.Consumers.{YieldsList-from_filter, count_from_yields_List}
use Rattle.laying.specs.Line.{answers_at}
use Rattle.laying.proofs.Lining.{count_is}
use Rattle.laying.proofs.count_answers.Goals as goal

pub returns : goal.returns
returns c =
    let a = c.args in
    count_from_yields_List c.filter.result _ c.count.ensures.ran
    (YieldsList-from_filter _ (answers_at a.m.now) (YieldsList-from_range 0 a.c a.c (cc) (omega arith)) c.filter.ensures.closure (λ x b q k. search (rules, tests)))
    ∙ count_is (answers_at a.m.now) a.c
