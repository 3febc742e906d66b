-- `bed_board::rules_on` meets its contract.
use Rattle.std.proofs.Common.{ℕ, List, [], ◌∷◌, ap₂, ◌∙◌, ap, Bor}
use Rattle.census_rules.specs.Board.{row_at}
use Rattle.census_rules.specs.Words.{list_of_four}
use Rattle.bed_board.proofs.rules_on.Goals as goal

pub returns : goal.returns
returns c =
    let each = c.from_fn.ensures.items.each in
    let first = each.3.met in
    let second = each.4.3.met in
    let third = each.4.4.3.met in
    let fourth = each.4.4.4.3.met in
    let on : ℕ → Bor (List ℕ) → List ℕ = λ at b. row_at b.now at in
    list_of_four _ [] c.from_fn.ensures.items.long (each.2.1 []) (each.4.2.1 []) (each.4.4.2.1 []) (each.4.4.4.2.1 [])
    ∙ ap₂ ◌∷◌ first.1
    (ap₂ ◌∷◌ (second.1 ∙ ap (on 517) first.0)
    (ap₂ ◌∷◌ (third.1 ∙ ap (on 522) (second.0 ∙ first.0)) (ap (λ r. r ∷ []) (fourth.1 ∙ ap (on 527) (third.0 ∙ second.0 ∙ first.0)))))
