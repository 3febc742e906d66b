-- The counts are those of the list, a call ends within its number, a step is refused only to wait, and every start has its position: proved along
-- every list, beside demand 3.
use Rattle.std.specs.Prelude.{◌≡◌, refl, ◌⊎◌, ◌≢◌, true, List, [], ◌∷◌, map, ℕ, zero, suc, ◌+◌, ◌-◌, ◌*◌, ◌/◌, ◌≤◌, ◌<◌, length}
use Rattle.std.proofs.Common.{ap, ap₂, sym, ◌∙◌, subst, inl, inr, mul_comm, arith, eq-eqb, ltb-true}
use Rattle.std.proofs.Math.Path.{subst⁻¹}
use Rattle.std.proofs.Math.Nat.{mul-div_cancel_left}
use Rattle.std.proofs.Math.Decide.{ℕ_discrete}
use Rattle.rules.specs.Sizes.{Sizes, sizes_in_range}
use Rattle.rules.specs.Cell.{Cell, Reader, Write, reader, thread_phase, phase, step_count, drain_limit}
use Rattle.rules.specs.Update.{after, count_of, count_is, true_false}
use Rattle.rules.specs.Free.{next_free}
use Rattle.rules.specs.Rule.{Effect, Reply, started, going, ended, empty, item, drained, reply, refused, accepted, ok}
use Rattle.rules.specs.Request.{Request, step, Invocation, lending, Result, too_short, applied, effect, stepping, steps_so_far, result, open_store}
use Rattle.rules.specs.Runs.{sized}
use Rattle.rules.specs.Play.{Played, play_one, play, steps_with, steps_made}
use Rattle.rules.specs.Readback.{reader_writes}
use Rattle.rules.specs.Refusal.{accepted_not_refused, by_applied}
use Rattle.simulation.specs.Good.{Refusable}
use Rattle.simulation.specs.Every.{effect_is, next_choice}
use Rattle.simulation.specs.Limits.{limits}
use Rattle.simulation.specs.Opened.{open_reader}
use Rattle.simulation.specs.ProducerSteps.{own_words}
use Rattle.progress.specs.Arithmetic.{triangle, triangle_is, rounds_most}
use Rattle.progress.specs.Measure.{phase_of, item_steps}
use Rattle.progress.specs.Bounds.{most_left, some_left}
use Rattle.progress.specs.Lowers.{OfThread, ItemsFit, enqueue_ended}
use Rattle.progress.specs.Paced.{Keeps, call_keeps, accepted_busy}
use Rattle.ordering.specs.Theorem.{Maintained, refused_number, played, result_is, keeps, opened_kept, opened_cells}
use Rattle.ordering.specs.Steps.{opened_play, steps_with_this, StepCounts, limit_after, most_dequeue_steps, DequeueEnds, most_drain_steps, DrainEnds, RefusedToWait, AllPlaced}
use Rattle.ordering.specs.EnqueueEnds.{most_enqueue_steps, EnqueueEnds, fewer_enqueue_steps, EnqueueEndsSooner, CountBelow}

-- The count of thread t's call, where one is under way, is n.
abbrev Tally : Sizes → Played → (t n : ℕ) → Type 0
Tally z p t n = t ≤ z.P → reader z p.words (phase_of t) ≢ 0 → reader z p.words (count_of t) ≡ n

-- What the rules' effect keeps.
pub effect_keeps : {z : Sizes} {p : Played} (k : Maintained z p) (q : Request) → Keeps z (reader z p.words) k.beside q (effect q z (reader z p.words))
effect_keeps {z} {p} k q =
    let σ : Reader = reader z p.words in
    subst⁻¹ (Keeps z σ k.beside q) (effect_is q z σ)
    (call_keeps z σ k.beside k.good k.paced (next_free z σ) (next_choice z σ k.beside k.good) q)

-- One call.
module _ {z : Sizes} {p : Played} (k : Maintained z p) (v : Invocation) (t n : ℕ) (tally : Tally z p t n) where
  abbrev σ : Reader
  σ = reader z p.words

  abbrev q : Request
  q = v.request

  by_answer : (i : ℕ) (a : Effect) → Keeps z σ k.beside q a
      → let r : Result = applied i z p.words v.buffer v.from a in Tally z (played q p r) t (steps_with t q r.reply n)
  by_answer i a f =
      by_applied (λ r. Tally z (played q p r) t (steps_with t q r.reply n)) i z p.words v.buffer v.from a
      (λ m e. tally)
      (λ r ws e short. tally)
      (λ r ws e long.
      let g = subst (Keeps z σ k.beside q) e f in
      subst⁻¹ (λ (τ : Reader). t ≤ z.P → τ (phase_of t) ≢ 0 → τ (count_of t) ≡ steps_with t q (accepted r i) n)
      (reader_writes z p.words ws k.fits g.goes.there) (λ l busy. g.counts t n l busy (tally l)))

  call_tallied : Tally z (play_one v p) t (steps_with t q (result v p.words).reply n)
  call_tallied =
      subst⁻¹ (λ (r : Result). Tally z (played q p r) t (steps_with t q r.reply n)) (result_is k v)
      (by_answer (steps_so_far q σ) (effect q z σ) (effect_keeps k q))

-- All of them.
record Tallied (z : Sizes) (p : Played) (t n : ℕ) : Type 0 where
  maintained : Maintained z p
  tally : Tally z p t n

counts_along : {z : Sizes} (vs : List Invocation) {p : Played} (t n : ℕ) → Tallied z p t n → Tallied z (play vs p) t (steps_made t vs p n)
unfolding play steps_made
counts_along [] t n c = c
counts_along (v ∷ vs) {p} t n c =
    counts_along vs t (steps_with t v.request (result v p.words).reply n)
    (record { maintained = keeps c.maintained v; tally = call_tallied c.maintained v t n c.tally })

-- two replies with one number
same_steps : {r s : Reply} {j k : ℕ} → accepted r j ≡ accepted s k → (r ≡ s) × (j ≡ k)
same_steps e = (cc, cc)

-- A further step of thread t that was accepted.
module _ {z : Sizes} {p : Played} {t n : ℕ} (c : Tallied z p t n) (b : List ℕ) (i : ℕ) (r : Reply) (k : ℕ)
    (e : (result (lending b i (step t)) p.words).reply ≡ accepted r k) where
  abbrev τ : Reader
  τ = reader z p.words

  abbrev m : Maintained z p
  m = c.maintained

  -- the number of steps that its call has at the most
  abbrev most : ℕ
  most = most_left z (τ drain_limit) t

  -- what it says of the store before it
  record Accepted : Type 0 where
    there : t ≤ z.P
    busy : τ (phase_of t) ≢ 0
    number : k ≡ suc (τ (count_of t))
    of_thread : OfThread t r
    goes_on_lem : r ≡ going → suc (τ (count_of t)) < most

  by_reply : (s : Reply) (ws : List Write) → stepping (next_free z τ) t z τ ≡ reply s ws → Keeps z τ m.beside (step t) (reply s ws)
      → accepted s (suc (τ (step_count t))) ≡ accepted r k → Accepted
  by_reply s ws is f d =
      let by = accepted_busy z τ m.beside m.good m.paced (next_free z τ) (next_choice z τ m.beside m.good) t s ws is in
      record {
        there = by.0;
        busy = by.1;
        of_thread = subst (OfThread t) (same_steps d).0 by.2;
        number = sym (same_steps d).1 ∙ ap (λ (x : Cell). suc (τ x)) (count_is t);
        goes_on_lem =
            λ i.
            let still = f.goes_on_lem ((same_steps d).0 ∙ i) in
            let count : after τ ws (count_of t) ≡ suc (τ (count_of t)) = f.counts t (τ (count_of t)) by.0 still (λ b. refl) ∙ rw (eq-eqb t t refl) refl in
            omega (arith, f.paced t by.0 still, ap (λ (l : ℕ). most_left z l t) (f.same_limit ((same_steps d).0 ∙ i)), some_left z (after τ ws) f.goes.next f.goes.good t by.0 still);
      }

  is_accepted : Accepted
  is_accepted =
      by_applied (λ x. x.reply ≡ accepted r k → Accepted) _ z p.words b i (effect (step t) z τ)
      (λ j a d. absurd (accepted_not_refused (sym d)))
      (λ s ws a short d. absurd (accepted_not_refused (sym d)))
      (λ s ws a long d.
      by_reply s ws (sym (effect_is (step t) z τ) ∙ a) (subst (Keeps z τ m.beside (step t)) a (effect_keeps m (step t))) d)
      (sym (ap (λ (x : Result). x.reply) (result_is m (lending b i (step t)))) ∙ e)

  -- the list's number
  counted_in_list : k ≡ suc n
  counted_in_list = is_accepted.number ∙ ap suc (c.tally is_accepted.there is_accepted.busy)

  within : (suc n ≤ most) × (suc n ≡ most → r ≢ going)
  within =
      let a = is_accepted in
      let is : suc n ≡ suc (τ (count_of t)) = sym counted_in_list ∙ a.number in (
        omega (arith, m.paced t a.there a.busy, some_left z τ m.beside m.good t a.there a.busy),
        λ last i. omega (arith, a.goes_on_lem i),
      )

-- After an open no call is under way.
module _ (z : Sizes) (m : List ℕ) (opens : (open_store z m).reply ≡ accepted ok 0) (t : ℕ) where
  at_open : Tallied z (opened_play z m) t 0
  at_open = record { maintained = opened_kept z m opens; tally = subst⁻¹ (λ (σ : Reader). t ≤ z.P → σ (phase_of t) ≢ 0 → σ (count_of t) ≡ 0) (opened_cells z m opens) (none t) }
    where
      none : (t : ℕ) → t ≤ z.P → open_reader z (phase_of t) ≢ 0 → open_reader z (count_of t) ≡ 0
      none zero l busy = refl
      none (suc x) l busy = refl

  after_list : (calls : List Invocation) → Tallied z (play calls (opened_play z m)) t (steps_made t calls (opened_play z m) 0)
  after_list calls = counts_along calls t 0 at_open

-- The count in a reply is the number of accepted steps in the list.
pub step_counts : StepCounts
step_counts z m calls opens t b i r k e = counted_in_list (after_list z m opens t calls) b i r k e

-- 1 + 2 + .. + n by its formula
triangle_half : (n : ℕ) → triangle n ≡ n * suc n / 2
triangle_half n = sym (mul-div_cancel_left (triangle n) (omega arith)) ∙ ap (λ (x : ℕ). x / 2) (triangle_is n)

most_is : (z : Sizes) (l : ℕ) → most_left z l 0 ≡ most_drain_steps z l
most_is z l =
    ap₂ (λ (x y : ℕ). z.N * (5 * z.B + 3) + 3 * z.B + 1 + x + y) (triangle_half (z.N * suc z.B))
    (mul_comm (item_steps z) (l - 1) ∙ ap (λ (x : ℕ). (l - 1) * (x + z.B + 4)) (mul_comm (suc z.B) z.N))

-- A drain ends within its number, and a dequeue.
pub drain_ends : DrainEnds
drain_ends z m calls opens b i r k e =
    subst (λ (x : ℕ). (steps_with_this z m calls 0 ≤ x) × (steps_with_this z m calls 0 ≡ x → r ≢ going)) (most_is z (limit_after z m calls))
    (within (after_list z m opens 0 calls) b i r k e)

pub dequeue_ends : DequeueEnds
dequeue_ends z m calls opens b i r k e none =
    subst (λ (x : ℕ). (steps_with_this z m calls 0 ≤ x) × (steps_with_this z m calls 0 ≡ x → r ≢ going))
    (ap (most_drain_steps z) none ∙ omega arith)
    (drain_ends z m calls opens b i r k e)

-- An enqueue ends within its number, and so within document 02's.
fewer_is : (z : Sizes) (l t : ℕ) → 1 ≤ t → most_left z l t ≡ fewer_enqueue_steps z
fewer_is z l zero some = absurd (omega arith)
fewer_is z l (suc p) some = omega arith

fewer_within : (z : Sizes) → sizes_in_range z ≡ true → fewer_enqueue_steps z < most_enqueue_steps z
fewer_within z e = let l = limits z e in omega (arith, l.two_records, rounds_most z.B z.P (omega (arith, l.two_entries)))

pub enqueue_ends_sooner : EnqueueEndsSooner
enqueue_ends_sooner z m calls opens t b i r k l e =
    let c = after_list z m opens t calls in
    let w = within c b i r k e in
    let is = fewer_is z (limit_after z m calls) t l in
    (omega (arith, w.0, is), λ last. enqueue_ended t l r (is_accepted c b i r k e).of_thread (w.1 (last ∙ sym is)))

pub enqueue_ends : EnqueueEnds
enqueue_ends z m calls opens t b i r k l e =
    let sooner : steps_with_this z m calls t ≤ fewer_enqueue_steps z = (enqueue_ends_sooner z m calls opens t b i r k l e).0 in
    let less : fewer_enqueue_steps z < most_enqueue_steps z = fewer_within z (after_list z m opens t calls).maintained.good.sizes in
    (omega arith, λ last. absurd (omega arith))

-- Word 7, of a call under way or not.
module _ {z : Sizes} {p : Played} (k : Maintained z p) where
  count_less_than : (t : ℕ) → 1 ≤ t → t ≤ z.P → reader z p.words (step_count t) < fewer_enqueue_steps z
  count_less_than zero l there = absurd (omega arith)
  count_less_than (suc x) l there = go (ℕ_discrete (σ (phase (suc x))) 0)
    where
      σ : Reader
      σ = reader z p.words

      count : σ (step_count (suc x)) ≡ σ (count_of (suc x))
      count = ap σ (count_is (suc x))

      go : Dec (σ (phase (suc x)) ≡ 0) → σ (step_count (suc x)) < fewer_enqueue_steps z
      go (yes idle) = omega (arith, count, (own_words z σ k.beside k.good (suc x) (omega arith, there) 0 idle).steps)
      go (no busy) = omega (arith, count, k.paced (suc x) there busy, some_left z σ k.beside k.good (suc x) there busy, fewer_is z (σ drain_limit) (suc x) l)

pub count_below : CountBelow
count_below z m calls opens t = count_less_than (after_list z m opens t calls).maintained t

-- A step of a call under way is refused only with 8, or with 15.
module _ {z : Sizes} {p : Played} (k : Maintained z p) (t : ℕ) (b : List ℕ) (i n : ℕ) (there : t ≤ z.P) (busy : reader z p.words (thread_phase t) ≢ 0) where
  abbrev κ : Reader
  κ = reader z p.words

  abbrev Waits : Type 0
  Waits = ((n ≡ 8) × (1 ≤ t)) ⊎ ((n ≡ 15) × (t ≡ 0) × (1 ≤ κ drain_limit) × (length b < i + 2 * κ drain_limit))

  -- by the rules
  by_rule : (x : ℕ) → Refusable z κ (step t) x → x ≡ n → Waits
  by_rule x (inl r) q = absurd (omega (arith, r.1))
  by_rule x (inr (inl r)) q = absurd (busy r.1)
  by_rule x (inr (inr r)) q = inl (sym q ∙ r.0, r.1)

  -- by the buffer, which only the end of a drain looks at
  by_buffer : (s : Reply) → OfThread t s → ItemsFit κ s → too_short b i s ≡ true → 15 ≡ n → Waits
  by_buffer (drained xs) of fit short q = inr (sym q, of, fit.0, omega (arith, fit.1, ltb-true (length b) (i + 2 * length xs) short))
  by_buffer ok of fit short q = absurd (true_false short refl)
  by_buffer (started x) of fit short q = absurd (true_false short refl)
  by_buffer going of fit short q = absurd (true_false short refl)
  by_buffer ended of fit short q = absurd (true_false short refl)
  by_buffer empty of fit short q = absurd (true_false short refl)
  by_buffer (item x v) of fit short q = absurd (true_false short refl)

  waits : (result (lending b i (step t)) p.words).reply ≡ refused n → Waits
  waits e =
      by_applied (λ x. x.reply ≡ refused n → Waits) _ z p.words b i (effect (step t) z κ)
      (λ j a d. by_rule j (subst (Keeps z κ k.beside (step t)) a (effect_keeps k (step t))) (refused_number d))
      (λ s ws a short d.
      let by = accepted_busy z κ k.beside k.good k.paced (next_free z κ) (next_choice z κ k.beside k.good) t s ws (sym (effect_is (step t) z κ) ∙ a) in
      by_buffer s by.2 by.3 short (refused_number d))
      (λ s ws a long d. absurd (accepted_not_refused d))
      (sym (ap (λ (x : Result). x.reply) (result_is k (lending b i (step t)))) ∙ e)

pub refused_to_wait : RefusedToWait
refused_to_wait z m calls opens t b i n there busy = waits (after_list z m opens t calls).maintained t b i n there busy

-- Every start has taken its position.
pub all_placed : AllPlaced
all_placed z m calls opens = sym (after_list z m opens 0 calls).maintained.good.model.owners.all_placed

-- The numbers at some sizes: the smallest, the host's, the largest.
abbrev some_sizes : List Sizes
some_sizes = sized 2 2 1 9 ∷ sized 8 64 16 8000 ∷ sized 64 64 16 1000000 ∷ []

pub numbers_as_written : (map most_dequeue_steps some_sizes ≡ 54 ∷ 168953 ∷ 8675745 ∷ [])
    × (map most_enqueue_steps some_sizes ≡ 13 ∷ 150 ∷ 150 ∷ [])
    × (map fewer_enqueue_steps some_sizes ≡ 11 ∷ 76 ∷ 71 ∷ [])
numbers_as_written = (refl, refl, refl)
