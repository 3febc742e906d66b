-- Along every call, the steps that a call has made and those that it has left stay within its number; so no step is refused for its count,
-- and the count is the number of accepted steps that were made.
use Rattle.std.specs.Prelude.{◌≡◌, ◌≢◌, Bool, true, false, ◌||◌, not, cond, List, [], ◌∷◌, ◌++◌, eqb, leb}
use Rattle.std.proofs.Math.Path.{refl, subst, subst⁻¹}
use Rattle.std.proofs.Common.{ap, sym, ◌∙◌, append-nil}
use Prim.Native.Nat.{ℕ, zero, suc, ◌+◌, ◌≤◌, ◌<◌}
use Rattle.std.proofs.Math.Decide.{ℕ_discrete}
use native.Mathlib.Omega.{arith}
use Rattle.std.proofs.Math.Dec.{ltb}
use borrow.Author.Tests.{eq-eqb, ne_eqb, eqb-true, eqb-false, ltb-false, not-false}
use Rattle.rules.specs.Sizes.{Sizes, between, most_steps, most_drained}
use Rattle.rules.specs.Cell.{Cell, Reader, Write, ◌:=◌, consumer, producer, consumer_phase, drain_limit, drain_count, phase, enqueue_steps, tail, starts, step_count}
use Rattle.rules.specs.Update.{after, count_of, count_is, neither}
use Rattle.rules.specs.Rule.{Effect, Reply, refuse, reply, accepted, ok, started, going, ended, empty, item, drained, up_to}
use Rattle.rules.specs.Producer.{producer_step}
use Rattle.rules.specs.Consumer.{consumer_step}
use Rattle.rules.specs.Request.{Request, start_enqueue, start_dequeue, start_drain, step, starting_enqueue, starting_dequeue, starting_drain, start_writes, phase_step, counted, stepping}
use Rattle.rules.specs.Play.{thread_of, one_more, steps_with}
use Rattle.memory.specs.Loose.{LooseChoice}
use Rattle.simulation.specs.View.{Ghost}
use Rattle.simulation.specs.Good.{Good, Refusable, Goes, Fine, Moved, by_cond, by_up_to}
use Rattle.simulation.specs.Every.{effect_taking, phase_fine}
use Rattle.simulation.specs.Starts.{start_enqueue_fine, start_dequeue_fine, start_drain_fine}
use Rattle.simulation.specs.DrainWords.{drain_in}
use Rattle.simulation.specs.ConsumerSteps.{consumer_words, none_counted}
use Rattle.progress.specs.Measure.{phase_of, enqueue_left, consumer_left, steps_left}
use Rattle.progress.specs.Bounds.{most_left, most_fits, some_left, consumer_starts}
use Rattle.progress.specs.Others.{consumer_not_raised, enqueue_not_raised}
use Rattle.progress.specs.Lowers.{OfThread, LimitKept, ItemsFit, Lowers, refused_lowers, lowers_of_thread, lowers_fit}
use Rattle.progress.specs.EnqueueSteps.{start_leaves, enqueue_lowers}
use Rattle.progress.specs.DequeueSteps.{dequeue_lowers}
use Rattle.progress.specs.Counted.{with_count, count_written, goes_counted}

refuse_not_reply : {n : ℕ} {r : Reply} {ws : List Write} → refuse n ≡ reply r ws → ⊥
refuse_not_reply e = let z : ◌≡◌ {A = ℕ} 0 1 = cc in omega arith

-- a reply that was let through
same_reply : (b : Bool) (s : Reply) (vs : List Write) {r : Reply} {ws : List Write} → cond b (reply s vs) (refuse 9) ≡ reply r ws → s ≡ r
same_reply true s vs e = cc
same_reply false s vs e = absurd (refuse_not_reply e)

-- a reply that does not say that the call goes on
abbrev pub OtherThanGoing : Reply → Type 0
OtherThanGoing going = ⊥
OtherThanGoing ok = Unit
OtherThanGoing (started n) = Unit
OtherThanGoing ended = Unit
OtherThanGoing empty = Unit
OtherThanGoing (item n v) = Unit
OtherThanGoing (drained xs) = Unit

-- a step, and no start
abbrev pub IsStep : Request → Type 0
IsStep (start_enqueue t v) = ⊥
IsStep start_dequeue = ⊥
IsStep (start_drain n) = ⊥
IsStep (step t) = Unit

-- The count reads as it was written, and nothing that is left goes by it.
count_read : (τ : Reader) (t n : ℕ) → with_count τ t n (count_of t) ≡ n
count_read τ zero n = refl
count_read τ (suc p) n = rw (eq-eqb (suc p) (suc p) refl) refl

count_busy : (τ : Reader) (t n : ℕ) → τ (phase_of t) ≢ 0 → with_count τ t n (phase_of t) ≢ 0
count_busy τ zero n b = b
count_busy τ (suc p) n b = b

count_leaves : (z : Sizes) (τ : Reader) (t n : ℕ) → steps_left z (with_count τ t n) t ≡ steps_left z τ t
unfolding consumer_left enqueue_left
count_leaves z τ zero n = refl
count_leaves z τ (suc p) n = refl

-- a step that goes on keeps the limit, and so its call's number
limit_stays : {σ τ : Reader} {γ δ : Ghost} (t n : ℕ) → Moved t σ τ γ δ → LimitKept t σ τ → with_count τ t n drain_limit ≡ σ drain_limit
limit_stays zero n moved kept = kept
limit_stays (suc p) n moved kept = moved.others drain_limit (λ e. omega arith)

count_most : (z : Sizes) (σ τ : Reader) (t n : ℕ) → LimitKept t σ τ → most_left z (with_count τ t n drain_limit) t ≡ most_left z (σ drain_limit) t
count_most z σ τ zero n kept = ap (λ (l : ℕ). most_left z l 0) kept
count_most z σ τ (suc p) n kept = refl

-- Of every call under way, the steps made and left are within its number.
abbrev pub Paced : Sizes → Reader → Type 0
Paced z σ = (t : ℕ) → t ≤ z.P → σ (phase_of t) ≢ 0 → σ (count_of t) + steps_left z σ t ≤ most_left z (σ drain_limit) t

-- What an accepted call keeps: what it kept before, the pace, and that the counts are those of the list, one call more.
pub record Paces (z : Sizes) (σ : Reader) (γ : Ghost) (q : Request) (r : Reply) (ws : List Write) : Type 0 where
  pub goes : Goes z σ γ q r ws
  pub paced : Paced z (after σ ws)
  pub counts : (u k : ℕ) → u ≤ z.P → after σ ws (phase_of u) ≢ 0 → (σ (phase_of u) ≢ 0 → σ (count_of u) ≡ k)
      → after σ ws (count_of u) ≡ steps_with u q (accepted r 0) k
  -- a call that goes on is under way, and a drain with its limit; a step that does not leaves its thread idle
  pub goes_on_lem : r ≡ going → after σ ws (phase_of (thread_of q)) ≢ 0
  pub same_limit : r ≡ going → after σ ws drain_limit ≡ σ drain_limit
  pub ends : IsStep q → OtherThanGoing r → after σ ws (phase_of (thread_of q)) ≡ 0

abbrev pub Keeps : (z : Sizes) (σ : Reader) (γ : Ghost) → Request → Effect → Type 0
Keeps z σ γ q (refuse n) = Refusable z σ q n
Keeps z σ γ q (reply r ws) = Paces z σ γ q r ws

-- A call of thread t, seen by thread u.
module _ (z : Sizes) (σ σ' : Reader) (γ γ' : Ghost) (good : Good z σ γ) (good' : Good z σ' γ') (t : ℕ) (moved : Moved t σ σ' γ γ') where
  other_phase : (u : ℕ) → (t ≡ u → ⊥) → σ' (phase_of u) ≡ σ (phase_of u)
  other_phase zero n = moved.others (consumer 0) n
  other_phase (suc p) n = moved.others (producer (suc p) 0) n

  other_count : (u : ℕ) → (t ≡ u → ⊥) → σ' (count_of u) ≡ σ (count_of u)
  other_count zero n = moved.others (consumer 7) n
  other_count (suc p) n = moved.others (producer (suc p) 7) n

  other_left : (u : ℕ) → (t ≡ u → ⊥) → u ≤ z.P → steps_left z σ' u ≤ steps_left z σ u
  other_left zero n l = consumer_not_raised z σ σ' γ γ' good good' t moved (some t n)
    where
      some : (t : ℕ) → (t ≡ 0 → ⊥) → 1 ≤ t
      some zero n = absurd (n refl)
      some (suc t) n = omega arith
  other_left (suc p) n l = enqueue_not_raised z σ σ' γ γ' good good' t moved (suc p) n (omega arith, l)

  other_most : (u : ℕ) → (t ≡ u → ⊥) → most_left z (σ drain_limit) u ≡ most_left z (σ' drain_limit) u
  other_most zero n = ap (λ (l : ℕ). most_left z l 0) (sym (moved.others drain_limit n))
  other_most (suc p) n = refl

  other_paced : Paced z σ → (u : ℕ) → (t ≡ u → ⊥) → u ≤ z.P → σ' (phase_of u) ≢ 0 → σ' (count_of u) + steps_left z σ' u ≤ most_left z (σ' drain_limit) u
  other_paced paced u n l busy =
      omega (arith, other_count u n, other_left u n l, paced u l (λ e. busy (other_phase u n ∙ e)), other_most u n)

module _ (z : Sizes) (σ : Reader) (γ : Ghost) (good : Good z σ γ) (paced : Paced z σ) where
  -- What is left to show of a call: its own thread's part.
  keeps_of : (q : Request) (r : Reply) (ws : List Write) (g : Goes z σ γ q r ws)
      → (thread_of q ≤ z.P → after σ ws (phase_of (thread_of q)) ≢ 0 → after σ ws (count_of (thread_of q)) + steps_left z (after σ ws) (thread_of q) ≤ most_left z (after σ ws drain_limit) (thread_of q))
      → ((k : ℕ) → thread_of q ≤ z.P → after σ ws (phase_of (thread_of q)) ≢ 0 → (σ (phase_of (thread_of q)) ≢ 0 → σ (count_of (thread_of q)) ≡ k)
      → after σ ws (count_of (thread_of q)) ≡ one_more q k)
      → (r ≡ going → (after σ ws (phase_of (thread_of q)) ≢ 0) × (after σ ws drain_limit ≡ σ drain_limit))
      → (IsStep q → OtherThanGoing r → after σ ws (phase_of (thread_of q)) ≡ 0)
      → Paces z σ γ q r ws
  keeps_of q r ws g own-pace own-count still idle =
      record { goes = g; paced = λ u. pace u (ℕ_discrete (thread_of q) u); counts = λ u k. count u k (ℕ_discrete (thread_of q) u); goes_on_lem = λ i. (still i).0; same_limit = λ i. (still i).1; ends = idle }
    where
      σ' : Reader
      σ' = after σ ws

      pace : (u : ℕ) → Dec (thread_of q ≡ u) → u ≤ z.P → σ' (phase_of u) ≢ 0 → σ' (count_of u) + steps_left z σ' u ≤ most_left z (σ' drain_limit) u
      pace u (yes e) = subst (λ (u : ℕ). u ≤ z.P → σ' (phase_of u) ≢ 0 → σ' (count_of u) + steps_left z σ' u ≤ most_left z (σ' drain_limit) u) e own-pace
      pace u (no n) = other_paced z σ σ' γ g.next good g.good (thread_of q) g.moved paced u n

      count : (u k : ℕ) → Dec (thread_of q ≡ u) → u ≤ z.P → σ' (phase_of u) ≢ 0 → (σ (phase_of u) ≢ 0 → σ (count_of u) ≡ k)
          → σ' (count_of u) ≡ steps_with u q (accepted r 0) k
      count u k (yes e) =
          rw (eq-eqb (thread_of q) u e)
          (subst (λ (u : ℕ). u ≤ z.P → σ' (phase_of u) ≢ 0 → (σ (phase_of u) ≢ 0 → σ (count_of u) ≡ k) → σ' (count_of u) ≡ one_more q k) e (own-count k))
      count u k (no n) =
          λ l busy before.
          rw (ne_eqb (thread_of q) u n)
          (other_count z σ σ' γ g.next good g.good (thread_of q) g.moved u n
          ∙ before (λ e. busy (other_phase z σ σ' γ g.next good g.good (thread_of q) g.moved u n ∙ e)))

  -- *Start enqueue*: the take is made, and the others are left.
  begins : (t v : ℕ) → t ≢ 0 → t ≤ z.P → σ (phase t) ≡ 0 → Goes z σ γ (start_enqueue t v) (started (suc (σ starts))) (start_writes σ t v)
      → Paces z σ γ (start_enqueue t v) (started (suc (σ starts))) (start_writes σ t v)
  begins zero v n l e g = absurd (n refl)
  begins (suc p) v n l e g =
      let one : after σ (start_writes σ (suc p) v) (enqueue_steps (suc p)) ≡ 1 = rw (eq-eqb (suc p) (suc p) refl) refl in
      keeps_of (start_enqueue (suc p) v) (started (suc (σ starts))) (start_writes σ (suc p) v) g
      (λ h busy. omega (arith, one, start_leaves z σ γ good p (omega arith, l) v e))
      (λ k h busy before. one)
      (λ i. absurd (subst OtherThanGoing i tt))
      (λ is other. absurd is)

  start_enqueue_keeps : (t v : ℕ) → Keeps z σ γ (start_enqueue t v) (starting_enqueue t v z σ)
  unfolding starting_enqueue
  start_enqueue_keeps t v =
      by_cond P (eqb t 0 || ltb z.P t) _ _ (λ b f. f)
      (λ b.
      let there = neither (eqb t 0) (ltb z.P t) b in
      by_cond P (not (eqb (σ (phase t)) 0)) _ _ (λ c f. f)
      (λ c.
      by_cond P (eqb (σ starts) z.M) _ _ (λ d f. f)
      (λ d.
      by_cond P (eqb (σ tail) z.M) _ _ (λ x f. f)
      (λ x.
      begins t v (eqb-false t 0 there.0) (ltb-false z.P t there.1) (eqb-true (σ (phase t)) 0 (not-false (eqb (σ (phase t)) 0) c))))))
      (start_enqueue_fine z σ γ good t v)
    where
      P : Effect → Type 0
      P a = Fine z σ γ (start_enqueue t v) a → Keeps z σ γ (start_enqueue t v) a

  -- *Start dequeue*, *start drain*: the consumer is then in phase 1, and nothing is marked.
  consumer_begins : (q : Request) (ws : List Write) → thread_of q ≡ 0 → ((k : ℕ) → one_more q k ≡ 0) → σ consumer_phase ≡ 0 → after σ ws consumer_phase ≡ 1 → after σ ws (consumer 7) ≡ σ (consumer 7)
      → after σ ws drain_count ≡ σ drain_count → (IsStep q → ⊥) → Goes z σ γ q ok ws → Paces z σ γ q ok ws
  consumer_begins q ws of zero-made e one count marked no_step g =
      let none : after σ ws (consumer 7) ≡ 0 = count ∙ (consumer_words z σ γ good 0 e).steps in
      let unmarked : after σ ws drain_count ≡ 0 = marked ∙ none_counted z σ γ good ((drain_in z σ good.range.draining).idle e) in
      keeps_of q ok ws g
      (subst⁻¹ (λ (t : ℕ). t ≤ z.P → after σ ws (phase_of t) ≢ 0 → after σ ws (count_of t) + steps_left z (after σ ws) t ≤ most_left z (after σ ws drain_limit) t) of
      (λ h busy. omega (arith, consumer_starts z (after σ ws) g.next g.good one unmarked)))
      (λ k h busy before. subst⁻¹ (λ (t : ℕ). after σ ws (count_of t) ≡ 0) of none ∙ sym (zero-made k))
      (λ i. absurd (subst OtherThanGoing i tt))
      (λ is other. absurd (no_step is))

  start_dequeue_keeps : Keeps z σ γ start_dequeue (starting_dequeue z σ)
  unfolding starting_dequeue
  start_dequeue_keeps =
      by_cond P (not (eqb (σ consumer_phase) 0)) _ _ (λ b f. f)
      (λ b g. consumer_begins start_dequeue (consumer_phase := 1 ∷ []) refl (λ k. refl) (eqb-true (σ consumer_phase) 0 (not-false (eqb (σ consumer_phase) 0) b)) refl refl refl (λ is. is) g)
      (start_dequeue_fine z σ γ good)
    where
      P : Effect → Type 0
      P a = Fine z σ γ start_dequeue a → Keeps z σ γ start_dequeue a

  start_drain_keeps : (n : ℕ) → Keeps z σ γ (start_drain n) (starting_drain n z σ)
  unfolding starting_drain
  start_drain_keeps n =
      by_cond P (not (eqb (σ consumer_phase) 0)) _ _ (λ b f. f)
      (λ b.
      by_cond P (not (between 1 most_drained n)) _ _ (λ c f. f)
      (λ c g.
      consumer_begins (start_drain n) (drain_limit := n ∷ consumer_phase := 1 ∷ []) refl (λ k. refl) (eqb-true (σ consumer_phase) 0 (not-false (eqb (σ consumer_phase) 0) b)) refl refl refl (λ is. is) g))
      (start_drain_fine z σ γ good n)
    where
      P : Effect → Type 0
      P a = Fine z σ γ (start_drain n) a → Keeps z σ γ (start_drain n) a

  -- A step is made by a thread that is there and has a call under way.
  WasBusy : ℕ → Effect → Type 0
  WasBusy t (refuse n) = Unit
  WasBusy t (reply r ws) = (t ≤ z.P) × (σ (phase_of t) ≢ 0)

  busy_of : (t : ℕ) (a : Effect) → t ≤ z.P → σ (phase_of t) ≢ 0 → WasBusy t a
  unfolding WasBusy
  busy_of t (refuse n) l b = tt
  busy_of t (reply r ws) l b = (l, b)

  -- what its phase comes to
  Made : ℕ → Effect → Type 0
  Made t a = Lowers z σ t a × WasBusy t a

  turned_down : (t n : ℕ) → Made t (refuse n)
  unfolding Made WasBusy
  turned_down t n = (refused_lowers z σ t n, tt)

  step_made : (c : ℕ) → LooseChoice z σ c → (t : ℕ) → Made t (phase_step c t z σ)
  unfolding phase_step Made
  step_made c choice zero =
      by_cond (Made 0) (ltb z.P 0) _ _ (λ b. turned_down 0 4)
      (λ b.
      by_cond (Made 0) (eqb (σ consumer_phase) 0) _ _ (λ d. turned_down 0 7)
      (λ d. (dequeue_lowers z σ γ good, busy_of 0 (consumer_step z σ) (omega arith) (eqb-false (σ consumer_phase) 0 d))))
  step_made c choice (suc p) =
      by_cond (Made (suc p)) (ltb z.P (suc p)) _ _ (λ b. turned_down (suc p) 4)
      (λ b.
      by_cond (Made (suc p)) (eqb (suc p) 0) _ _ (λ e. absurd (omega (arith, eqb-true (suc p) 0 e)))
      (λ e.
      by_cond (Made (suc p)) (eqb (σ (phase (suc p))) 0) _ _ (λ d. turned_down (suc p) 7)
      (λ d.
      let there : suc p ≤ z.P = ltb-false z.P (suc p) b in
      (enqueue_lowers z σ γ good p (omega arith, there) c choice, busy_of (suc p) (producer_step c z σ (suc p)) there (eqb-false (σ (phase (suc p))) 0 d)))))

  module _ (t : ℕ) (there : t ≤ z.P) (busy : σ (phase_of t) ≢ 0) where
    -- the number of this step
    abbrev nth : ℕ
    nth = suc (σ (step_count t))

    nth_is : nth ≡ suc (σ (count_of t))
    nth_is = ap (λ (c : Cell). suc (σ c)) (count_is t)

    nth_fits : nth ≤ most_steps
    nth_fits =
        omega (arith, nth_is, paced t there busy, some_left z σ γ good t there busy, most_fits z good.sizes (σ drain_limit) (drain_in z σ good.range.draining).most t)

    -- a step that goes on
    counts_on : (ws : List Write) → Goes z σ γ (step t) going ws → after σ ws (phase_of t) ≢ 0 → steps_left z (after σ ws) t < steps_left z σ t
        → LimitKept t σ (after σ ws)
        → Keeps z σ γ (step t) (up_to most_steps nth (reply going (ws ++ (step_count t := nth ∷ []))))
    counts_on ws g still less kept =
        by_up_to (Keeps z σ γ (step t)) most_steps nth _ nth_fits
        (keeps_of (step t) going (ws ++ (step_count t := nth ∷ [])) (goes_counted z σ γ t nth ws g nth_fits there still)
        (λ l b.
        subst⁻¹ (λ (ρ : Reader). ρ (count_of t) + steps_left z ρ t ≤ most_left z (ρ drain_limit) t) (count_written z σ γ t nth ws)
        (omega (arith, count_read (after σ ws) t nth, count_leaves z (after σ ws) t nth, nth_is, paced t there busy, count_most z σ (after σ ws) t nth kept)))
        (λ k l b before.
        ap (λ (ρ : Reader). ρ (count_of t)) (count_written z σ γ t nth ws) ∙ count_read (after σ ws) t nth ∙ nth_is ∙ ap suc (before busy))
        (λ i. (
          subst⁻¹ (λ (ρ : Reader). ρ (phase_of t) ≢ 0) (count_written z σ γ t nth ws) (count_busy (after σ ws) t nth still),
          ap (λ (ρ : Reader). ρ drain_limit) (count_written z σ γ t nth ws) ∙ limit_stays t nth g.moved kept,
        ))
        (λ is other. absurd other))

    -- one that ends its call
    ends_here : (r : Reply) (ws : List Write) → OtherThanGoing r → Goes z σ γ (step t) r ws → after σ ws (phase_of t) ≡ 0
        → Keeps z σ γ (step t) (up_to most_steps nth (reply r (ws ++ [])))
    ends_here r ws other g idle =
        by_up_to (Keeps z σ γ (step t)) most_steps nth _ nth_fits
        (subst⁻¹ (Paces z σ γ (step t) r) (append-nil ws)
        (keeps_of (step t) r ws g (λ l b. absurd (b idle)) (λ k l b before. absurd (b idle)) (λ i. absurd (subst OtherThanGoing i other)) (λ is o. idle)))

  step_keeps : (c : ℕ) → LooseChoice z σ c → (t : ℕ) → Keeps z σ γ (step t) (stepping c t z σ)
  unfolding stepping counted Lowers WasBusy Made
  step_keeps c choice t = go (phase_step c t z σ) (phase_fine z σ γ good c choice t) (step_made c choice t).0 (step_made c choice t).1
    where
      go : (a : Effect) → Fine z σ γ (step t) a → Lowers z σ t a → WasBusy t a → Keeps z σ γ (step t) (counted (step_count t) (suc (σ (step_count t))) a)
      go (refuse n) f l b = f
      go (reply going ws) g l b = counts_on t b.0 b.1 ws g l.0 l.1 l.2
      go (reply ok ws) g l b = absurd l.0
      go (reply (started n) ws) g l b = absurd l.0
      go (reply ended ws) g l b = ends_here t b.0 b.1 ended ws tt g l.1
      go (reply empty ws) g l b = ends_here t b.0 b.1 empty ws tt g l.1
      go (reply (item n v) ws) g l b = ends_here t b.0 b.1 (item n v) ws tt g l.1
      go (reply (drained xs) ws) g l b = ends_here t b.0 b.1 (drained xs) ws tt g l.0.1

  -- Every call.
  pub call_keeps : (c : ℕ) → LooseChoice z σ c → (q : Request) → Keeps z σ γ q (effect_taking c q z σ)
  call_keeps c choice (start_enqueue t v) = start_enqueue_keeps t v
  call_keeps c choice start_dequeue = start_dequeue_keeps
  call_keeps c choice (start_drain n) = start_drain_keeps n
  call_keeps c choice (step t) = step_keeps c choice t

  -- A step that the rules answer was made by a thread with a call under way, and has a reply of that thread's; a drain's items are within its limit.
  pub accepted_busy : (c : ℕ) → LooseChoice z σ c → (t : ℕ) (r : Reply) (ws : List Write) → stepping c t z σ ≡ reply r ws
      → (t ≤ z.P) × (σ (phase_of t) ≢ 0) × OfThread t r × ItemsFit σ r
  unfolding stepping counted WasBusy Made
  accepted_busy c choice t r ws = go (phase_step c t z σ) (step_made c choice t)
    where
      go : (a : Effect) → Made t a → counted (step_count t) (suc (σ (step_count t))) a ≡ reply r ws → (t ≤ z.P) × (σ (phase_of t) ≢ 0) × OfThread t r × ItemsFit σ r
      go (refuse n) b e = absurd (refuse_not_reply e)
      go (reply s vs) b e =
          let same = same_reply (leb (suc (σ (step_count t))) most_steps) s _ e in
          (b.1.0, b.1.1, subst (OfThread t) same (lowers_of_thread z σ t s vs b.0), subst (ItemsFit σ) same (lowers_fit z σ t s vs b.0))
