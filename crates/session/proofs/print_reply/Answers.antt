-- `session::print_reply` meets its contract: a refusal is printed by its number.
use Rattle.std.specs.Prelude as std
use Rattle.std.specs.Prelude.{Ok, Err}
use Rattle.std.specs.Result.{MatchResult, IsErrAnd}
use Rattle.std.proofs.Common.{◌≡◌, refl, ap, subst, ℕ, rules}
use Rattle.rules.specs.Rule.{Response, refused}
use Rattle.store.specs.declared.Refusal.{Refusal}
use Rattle.store.specs.declared.Reply.{Reply}
use Rattle.store.specs.Refusal.{refusal_number}
use Rattle.store.specs.Outcome.{response_after}
use Rattle.text.specs.Wrote.{Wrote}
use Rattle.protocol.specs.Printed.{printed, answered}
use Rattle.session.proofs.print_reply.Goals as goal

-- with each refusal by its number, an answer is the same response
numbered : {L : Refusal → ℕ → Type 0} (k : ℕ) (r : std.Result Reply Refusal) (x : std.Result Reply ℕ)
    → ((e : Refusal) (n : ℕ) → L e n → n ≡ refusal_number e) → MatchResult r (λ y. x ≡ Ok y) (λ e. IsErrAnd x (L e)) → answered k x ≡ response_after k r
numbered k (Ok y) x f h = ap (answered k) h
numbered k (Err e) (Ok y) f h = absurd h
numbered k (Err e) (Err n) f h = ap refused (f e n h)

pub returns : goal.returns
returns c =
    subst (λ (x : Response). Wrote c.args.out.now c.args.at (printed x) c.print_reply.new.out c.print_reply.result)
    (numbered c.args.steps c.args.reply c.map_err.result (λ e n l. search rules) c.map_err.ensures.cases)
    c.print_reply.ensures
