-- `rule_table::rules_in` meets its contract.
use Rattle.std.proofs.Common.{ℕ, List, [], ◌∷◌, ap₂, ◌∙◌, ap, Bor}
use Rattle.census_rules.specs.Table.{row_for}
use Rattle.census_rules.specs.Words.{list_of_four}
use Rattle.rule_table.proofs.rules_in.Goals as goal

pub returns : goal.returns
returns c =
    let each = c.from_fn.ensures.items.each in
    let first = each.3.met in
    let second = each.4.3.met in
    let third = each.4.4.3.met in
    let fourth = each.4.4.4.3.met in
    let for_office : ℕ → Bor (List ℕ) → List ℕ = λ office b. row_for b.now office in
    list_of_four _ [] c.from_fn.ensures.items.long (each.2.1 []) (each.4.2.1 []) (each.4.4.2.1 []) (each.4.4.4.2.1 [])
    ∙ ap₂ ◌∷◌ first.1
    (ap₂ ◌∷◌ (second.1 ∙ ap (for_office 1) first.0)
    (ap₂ ◌∷◌ (third.1 ∙ ap (for_office 2) (second.0 ∙ first.0)) (ap (λ r. r ∷ []) (fourth.1 ∙ ap (for_office 3) (third.0 ∙ second.0 ∙ first.0)))))
