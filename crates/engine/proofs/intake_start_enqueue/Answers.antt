-- `engine::intake_start_enqueue` meets its contract.
use Rattle.std.specs.Prelude as std
use Rattle.std.specs.Prelude.{Ok, Err}
use Rattle.std.proofs.Common.{◌≡◌, refl, ◌∙◌, ap, List, [], ℕ, rules}
use Rattle.std.specs.Result.{MatchResult, IsOkAnd}
use Rattle.store.specs.declared.Counted.{Counted}
use Rattle.store.specs.declared.Refusal.{Refusal}
use Rattle.store.specs.declared.Reply.{Reply}
use Rattle.store.specs.Items.{lent}
use Rattle.store.specs.Outcome.{left_with, left_after}
use Rattle.delivery.specs.Delivery.{replied_of}
use Rattle.engine.proofs.intake_start_enqueue.Goals as goal

-- the take is the call's first step
abbrev taken : std.Result Reply Refusal → std.Result Counted Refusal
taken (Ok r) = Ok (record { reply = r; steps = 1 })
taken (Err e) = Err e

left_taken : (r : std.Result Reply Refusal) (m : List ℕ) → left_after (taken r) m ≡ left_with 1 r m
left_taken (Ok r) m = refl
left_taken (Err e) m = refl

mapped : {L : Reply → Counted → Type 0} (r : std.Result Reply Refusal) (x : std.Result Counted Refusal)
    → ((y : Reply) (d : Counted) → L y d → d ≡ record { reply = y; steps = 1 }) → MatchResult r (λ y. IsOkAnd x (L y)) (λ e. x ≡ Err e) → x ≡ taken r
mapped (Ok y) (Ok d) f h = ap Ok (f y d h)
mapped (Ok y) (Err e) f h = absurd h
mapped (Err e) x f h = h

pub returns : goal.returns
returns c =
    let started = c.start_enqueue-started in
    let is = mapped started.result c.map.result (λ y d l. search rules) c.map.ensures.cases in
    let same : left_after c.map.result started.new.s ≡ left_with 1 started.result started.new.s = rw is (left_taken started.result started.new.s) in
    replied_of c.map.result c.args.reply.now c.deliver.ensures.0 c.deliver.ensures.1 (lent (same ∙ started.ensures) [] 0)
