-- `counting::full_refusal` meets its contract.
use Rattle.std.specs.Prelude.{Option, None, Some, is_some, not}
use Rattle.std.proofs.Common.{◌≡◌, refl, ap, sym, ◌∙◌, ℕ, true, false, arith}
use Rattle.claim.specs.Search.{link_of}
use Rattle.counting.specs.FullCount.{consumer_full, producer_full, none_free}
use Rattle.counting.proofs.full_refusal.Goals as goal

pub returns-then-t-eq0 : goal.returns-then-t-eq0
returns-then-t-eq0 c =
    let pre = c.requires in
    consumer_full c.args.store.now.admitted pre.0 pre.1 c.if-t-eq0.true

pub returns-else-producer-eq-CLAIM : goal.returns-else-producer-eq-CLAIM
returns-else-producer-eq-CLAIM c =
    let pre = c.requires in
    producer_full c.args.store.now.admitted pre.0 pre.1 c.if-t-eq0.false
    (λ p f. c.if-producer-eq-CLAIM.false (sym c.producer.ensures.phase ∙ p))

-- what the search found
none_named : (x : Option ℕ) → is_some x ≡ false → link_of x ≡ 0
none_named None e = refl
none_named (Some r) e = absurd cc

some_named : (x : Option ℕ) → is_some x ≡ true → link_of x ≡ 0 → ⊥
some_named None e h = absurd cc
some_named (Some r) e h = absurd (omega arith)

pub returns-then-is_none : goal.returns-then-is_none
returns-then-is_none c =
    let pre = c.requires in
    none_free c.args.store.now.admitted pre.0 pre.1 c.if-t-eq0.false
    (c.producer.ensures.phase ∙ c.if-producer-eq-CLAIM.true)
    (c.next_free.ensures.0 ∙ none_named c.next_free.result (c.is_none.ensures ∙ ap not c.if-is_none.true))

pub returns-else-is_none : goal.returns-else-is_none
returns-else-is_none c =
    let pre = c.requires in
    producer_full c.args.store.now.admitted pre.0 pre.1 c.if-t-eq0.false
    (λ p f. some_named c.next_free.result (c.is_none.ensures ∙ ap not c.if-is_none.false) (sym c.next_free.ensures.0 ∙ f))
