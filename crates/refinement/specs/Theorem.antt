-- Calls that meet their contracts do what `play` says, so demand 3 holds of them, and dumps of the same calls are the same. What C gets
-- is in proofs/ForC.antt.
use Rattle.std.specs.Prelude.{◌≡◌, ◌≢◌, false, List, [], ◌∷◌, map, ℕ, suc, ◌+◌, ◌*◌, ◌≤◌, length}
use Rattle.std.proofs.Math.Path.{refl, ap, subst⁻¹}
use Rattle.std.proofs.Common.{sym, ◌∙◌, subst, arith}
use borrow.Author.Tests.{ltb-false}
use Rattle.rules.specs.Sizes.{Sizes}
use Rattle.rules.specs.Cell.{reader}
use Rattle.rules.specs.Rule.{Reply, Response, refused, accepted, ok, started, going, ended, empty, item, drained}
use Rattle.rules.specs.Request.{Request, start_enqueue, start_dequeue, start_drain, step, Invocation, lending, Result, too_short, handed_over, effect, steps_so_far, open_store, sizes_of, admitted, result}
use Rattle.rules.specs.Play.{Played, play_one, play, steps_with, steps_made}
use Rattle.rules.specs.Refusal.{by_applied}
use Rattle.ordering.specs.Theorem.{demand_3}
use Rattle.ordering.specs.Steps.{opened_play, limit_after, most_drain_steps}
use Rattle.ordering.specs.EnqueueEnds.{most_enqueue_steps, fewer_enqueue_steps}
use Rattle.ordering.specs.Counting.{step_counts, drain_ends, enqueue_ends, enqueue_ends_sooner}
use Rattle.ordering.specs.SameWords.{same_words_lem}
use Rattle.store.specs.Outcome.{items_at}
use Rattle.store.specs.Items.{items_at_lem}
use Rattle.refinement.specs.Calls.{Made, Meets, Chain, noted, recorded, fresh, Refines, Opens, Demand3OfCalls, steps_in, StepCountsOfCalls, InTime, limit_in, SameDumps}
use Rattle.refinement.specs.Effects.{kind_of, kind_for, Sound, admitted_sound}

-- One call is the rules' call.
noted_is : (c : Made) (p : Played) → Meets p.words c → noted c p ≡ play_one c.call p
noted_is c p e = ap (λ (r : Result). noted (record { call = c.call; response = r.reply; words = r.words; buffer = r.buffer }) p) e

pub refines : Refines
unfolding recorded play
refines p [] h = refl
refines p (c ∷ cs) h =
    refines (noted c p) cs h.1
    ∙ ap (play (map (λ c. c.call) cs)) (noted_is c p h.0)

-- After an accepted open: it replied ok, and what calls leave is what the rules make of the words that it left.
module _ (z : Sizes) (before m : List ℕ) (o : Opens z before m) where
  pub accepts : (open_store z before).reply ≡ accepted ok 0
  accepts = sym (ap (λ (r : Result). r.reply) o)

  pub after_open : (cs : List Made) → Chain m cs → recorded cs (fresh m) ≡ play (map (λ c. c.call) cs) (fresh (open_store z before).words)
  after_open cs h = refines (fresh m) cs h ∙ ap (λ (r : Result). play (map (λ c. c.call) cs) (fresh r.words)) o

pub demand_3_of_calls : Demand3OfCalls
demand_3_of_calls z before m cs o h =
    rw (after_open z before m o cs h) (demand_3 z before (map (λ c. c.call) cs) (accepts z before m o))

-- The steps counted by the calls are those that `steps_made` counts.
steps_are : (t : ℕ) (p : Played) (cs : List Made) (k : ℕ) → Chain p.words cs → steps_in t cs k ≡ steps_made t (map (λ c. c.call) cs) p k
unfolding steps_made
steps_are t p [] k h = refl
steps_are t p (c ∷ cs) k h =
    steps_are t (noted c p) cs (steps_with t c.call.request c.response k) h.1
    ∙ ap (λ (q : Played). steps_made t (map (λ c. c.call) cs) q (steps_with t c.call.request c.response k)) (noted_is c p h.0)
    ∙ ap (λ (x : Result). steps_made t (map (λ c. c.call) cs) (play_one c.call p) (steps_with t c.call.request x.reply k)) h.0

pub step_counts_of_calls : StepCountsOfCalls
step_counts_of_calls z before m cs c o h e t r k is got =
    let vs : List Invocation = map (λ c. c.call) cs in
    let b : List ℕ = c.call.buffer in
    let i : ℕ = c.call.from in
    let reached : recorded cs (fresh m) ≡ play vs (opened_play z before) = after_open z before m o cs h in
    let answer : (result (lending b i (step t)) (play vs (opened_play z before)).words).reply ≡ accepted r k =
    ap (λ (p : Played). (result (lending b i (step t)) p.words).reply) (sym reached)
    ∙ ap (λ (q : Request). (result (lending b i q) (recorded cs (fresh m)).words).reply) (sym is)
    ∙ sym (ap (λ (x : Result). x.reply) e)
    ∙ got in
    let same : steps_in t cs 0 ≡ steps_made t vs (opened_play z before) 0 =
    steps_are t (fresh m) cs 0 h ∙ ap (λ (x : Result). steps_made t vs (fresh x.words) 0) o in
    let counted : k ≡ suc (steps_made t vs (opened_play z before) 0) = step_counts z before vs (accepts z before m o) t b i r k answer in (
      counted ∙ ap suc (sym same),
      subst⁻¹ (λ (p : Played). InTime z (limit_in z p.words) t k (r ≡ going) (r ≡ ended)) reached
          ((λ none. consumer vs b i (rw none at answer) (rw none at counted)), enqueue vs b i answer counted),
    )
  where
    consumer : (vs : List Invocation) (b : List ℕ) (i : ℕ) → (result (lending b i (step 0)) (play vs (opened_play z before)).words).reply ≡ accepted r k
        → k ≡ suc (steps_made 0 vs (opened_play z before) 0)
        → let most : ℕ = most_drain_steps z (limit_after z before vs) in (k ≤ most) × (k ≡ most → r ≢ going)
    consumer vs b i answer counted =
        let w = drain_ends z before vs (accepts z before m o) b i r k answer in
        (rw counted w.0, λ last. w.1 (sym counted ∙ last))

    enqueue : (vs : List Invocation) (b : List ℕ) (i : ℕ) → (result (lending b i (step t)) (play vs (opened_play z before)).words).reply ≡ accepted r k
        → k ≡ suc (steps_made t vs (opened_play z before) 0)
        → 1 ≤ t → (k ≤ most_enqueue_steps z) × (k ≤ fewer_enqueue_steps z) × (k ≡ fewer_enqueue_steps z → r ≡ ended)
    enqueue vs b i answer counted l =
        let sooner = enqueue_ends_sooner z before vs (accepts z before m o) t b i r k l answer in (
          rw counted (enqueue_ends z before vs (accepts z before m o) t b i r k l answer).0,
          rw counted sooner.0,
          λ last. sooner.1 (sym counted ∙ last),
        )

pub same_dumps : SameDumps
same_dumps z before before' m m' cs cs' o o' h h' e =
    rw (after_open z before m o cs h, after_open z before' m' o' cs' h', e)
    (same_words_lem z before before' (map (λ c. c.call) cs') (accepts z before m o) (accepts z before' m' o'))

-- A start of the consumer has made no step.
abbrev pub StartsAtNone : Request → ℕ → Type 0
StartsAtNone (start_enqueue t v) k = Unit
StartsAtNone start_dequeue k = k ≡ 0
StartsAtNone (start_drain n) k = k ≡ 0
StartsAtNone (step t) k = Unit

-- A response that a call may have.
abbrev pub May : Request → Response → Type 0
May q (refused n) = (1 ≤ n) × (n ≤ 15)
May q (accepted r k) = (kind_of r ≡ kind_for q) × StartsAtNone q k

pub result_may : (v : Invocation) (m : List ℕ) → May v.request (result v m).reply
unfolding result
result_may v m =
    by_applied (λ r. May v.request r.reply) _ (sizes_of m) m v.buffer v.from (admitted m (effect v.request))
    (λ n e. let s = subst (Sound (sizes_of m) v.request) e (admitted_sound v.request m) in omega (arith, s.0, s.1))
    (λ r ws e short. omega arith)
    (λ r ws e long. ((subst (Sound (sizes_of m) v.request) e (admitted_sound v.request m)).0, none v.request))
  where
    none : (q : Request) → StartsAtNone q (steps_so_far q (reader (sizes_of m) m))
    none (start_enqueue t v) = tt
    none start_dequeue = refl
    none (start_drain n) = refl
    none (step t) = tt

-- The items that a drain replies are those that it leaves in the buffer.
abbrev pub Handed : (buffer : List ℕ) (from : ℕ) → Response → Type 0
Handed a i (refused n) = Unit
Handed a i (accepted ok k) = Unit
Handed a i (accepted (started n) k) = Unit
Handed a i (accepted going k) = Unit
Handed a i (accepted ended k) = Unit
Handed a i (accepted empty k) = Unit
Handed a i (accepted (item n v) k) = Unit
Handed a i (accepted (drained xs) k) = items_at a i (length xs) ≡ xs

pub result_handed : (v : Invocation) (m : List ℕ) → Handed (result v m).buffer v.from (result v m).reply
unfolding result
result_handed v m =
    by_applied (λ r. Handed r.buffer v.from r.reply) _ (sizes_of m) m v.buffer v.from (admitted m (effect v.request))
    (λ n e. tt)
    (λ r ws e short. tt)
    (λ r ws e long. go r (steps_so_far v.request (reader (sizes_of m) m)) long)
  where
    go : (r : Reply) (k : ℕ) → too_short v.buffer v.from r ≡ false → Handed (handed_over v.buffer v.from r) v.from (accepted r k)
    go ok k long = tt
    go (started n) k long = tt
    go going k long = tt
    go ended k long = tt
    go empty k long = tt
    go (item n w) k long = tt
    go (drained xs) k long = items_at_lem xs v.buffer v.from (ltb-false (length v.buffer) (v.from + 2 * length xs) long)
