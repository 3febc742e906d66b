-- What the exit of a `?` returns, where the callee says by which refusal it turned the call down.
use mathlib.Core.Path.{◌≡◌, ap, ◌∙◌}
use Rattle.std.specs.Prelude.{Result, Err}
use Rattle.std.specs.Result.{IsErrAnd}
use Rattle.std.proofs.lemmas.Result.{err_from_is_err_and}
use Rattle.store.specs.declared.Refusal.{Refusal}

pub handed_on : {A : Type 0} (r : Result A Refusal) {d e : Refusal} → IsErrAnd r (λ x. x ≡ d) → d ≡ e → r ≡ Err e
handed_on r i s = let p = err_from_is_err_and r i in p.1 ∙ ap Err (p.2 ∙ s)
