-- From what admission gives to the whole call: refusals first, then the call's own rule.
use Rattle.std.specs.Prelude.{◌≡◌, Err}
use Rattle.std.proofs.Math.Path.{refl, ap, subst}
use Rattle.std.proofs.Common.{sym, ◌∙◌}
use mathlib.Core.List.{List}
use Prim.Native.Nat.{ℕ}
use Rattle.rules.specs.Sizes.{Sizes}
use Rattle.rules.specs.Cell.{reader}
use Rattle.rules.specs.Rule.{Effect}
use Rattle.rules.specs.Request.{Request, Result, applied, effect, steps_so_far, result, sizes_of}
use Rattle.store.specs.declared.Refusal.{Refusal}
use Rattle.store.specs.declared.Shape.{Shape}
use Rattle.store.specs.Refusal.{refusal_number, refuses}
use Rattle.store.specs.Shape.{sizes}
use Rattle.store.specs.Outcome.{left}
use Rattle.counting.specs.Answer.{answer}
use Rattle.admission.specs.Refusal.{refusal, Goes}
use Rattle.admission.specs.Admit.{refused_by, goes_on_lem}
use Rattle.engine.specs.Answer.{called}

module _ (q : Request) (m : List ℕ) where
  -- the words are refused
  pub call_refused : (e : Refusal) → refusal m ≡ refusal_number e → left (Err e) m ≡ called q m
  unfolding result applied
  call_refused e h =
      ap {B = List ℕ → ℕ → Result} (λ (a : Effect). λ b i. applied (steps_so_far q (reader (sizes_of m) m)) (sizes_of m) m b i a) (sym (refused_by m (effect q) (refusal_number e) h (refuses e)))

  -- they are admitted, and the call's own rule answers
  pub call_answered : (z : Shape) → Goes m z → answer q z m ≡ called q m
  unfolding result
  call_answered z g =
      subst (λ (y : Sizes). answer q z m ≡ (λ b i. applied (steps_so_far q (reader y m)) y m b i (effect q y (reader y m)))) g.shape refl
      ∙ ap {B = List ℕ → ℕ → Result} (λ (a : Effect). λ b i. applied (steps_so_far q (reader (sizes_of m) m)) (sizes_of m) m b i a) (sym (goes_on_lem m (effect q) g.none))
