-- Calls among which no drain is started: no drain is under way then, and the history is the events of the replies (document 01, "What demand 3
-- speaks of"). The program's calls are such.
use Rattle.std.specs.Prelude.{◌≡◌, refl, ◌||◌, not, List, [], ◌∷◌, ◌++◌, ℕ, zero, suc, eqb}
use Rattle.std.proofs.Common.{ap, sym, ◌∙◌, subst, arith, le-ltb}
use Rattle.std.proofs.Math.Path.{subst⁻¹}
use Rattle.std.proofs.Math.Dec.{ltb}
use Rattle.history.specs.Event.{History}
use Rattle.rules.specs.Sizes.{Sizes}
use Rattle.rules.specs.Cell.{Reader, reader, Write, ◌:=◌, tail, starts, consumer_phase, phase, drain_limit, drain_count}
use Rattle.rules.specs.Update.{after}
use Rattle.rules.specs.Free.{next_free}
use Rattle.rules.specs.Rule.{Effect, Reply, refuse, reply, ok, started, going, ended, empty, item, drained}
use Rattle.rules.specs.Request.{Request, start_enqueue, start_dequeue, start_drain, step, Invocation, Result, starting_enqueue, starting_dequeue, effect, result}
use Rattle.rules.specs.Play.{Played, recorded, history_with, reply_events, events, play_one}
use Rattle.rules.specs.Readback.{reader_writes}
use Rattle.rules.specs.Cell.{writes}
use Rattle.rules.specs.Refusal.{by_applied}
use Rattle.simulation.specs.Good.{by_cond}
use Rattle.simulation.specs.DrainWords.{drain_in}
use Rattle.simulation.specs.Every.{effect_is, next_choice}
use Rattle.progress.specs.Lowers.{ItemsFit}
use Rattle.progress.specs.Paced.{Keeps, accepted_busy}
use Rattle.ordering.specs.Theorem.{Maintained, cells_are, result_is, keeps}
use Rattle.ordering.specs.Counting.{effect_keeps}

-- A call that starts no drain.
abbrev pub NoDrain : Request → Type 0
NoDrain (start_enqueue t v) = Unit
NoDrain start_dequeue = Unit
NoDrain (start_drain n) = ⊥
NoDrain (step t) = Unit

-- No drain is under way.
abbrev pub Undrained : Sizes → Played → Type 0
Undrained z p = reader z p.words drain_limit ≡ 0

same_reply : {r s : Reply} {ws vs : List Write} → reply r ws ≡ reply s vs → r ≡ s
same_reply e = cc

same_writes : {r s : Reply} {ws vs : List Write} → reply r ws ≡ reply s vs → ws ≡ vs
same_writes e = cc

reply_not_refuse : {n : ℕ} {r : Reply} {ws : List Write} → refuse n ≡ reply r ws → ⊥
reply_not_refuse e = let z : ◌≡◌ {A = ℕ} 0 1 = cc in omega arith

module _ {z : Sizes} {p : Played} (k : Maintained z p) (none : Undrained z p) where
  abbrev σ : Reader
  σ = reader z p.words

  -- What such a call replies and writes.
  record Plain (r : Reply) (ws : List Write) : Type 0 where
    still : after σ ws drain_limit ≡ 0
    adds : (q : Request) (τ : Reader) (h : History) → τ drain_count ≡ 0 → recorded q σ τ r h ≡ reply_events q h r ++ h

  -- a reply that hands nothing over, of a drain without a limit
  events_of : (r : Reply) → ItemsFit σ r → (q : Request) (τ : Reader) (h : History) → τ drain_count ≡ 0 → recorded q σ τ r h ≡ reply_events q h r ++ h
  events_of ok fit q τ h zero-after = refl
  events_of (started n) fit q τ h zero-after = refl
  events_of going fit q τ h zero-after = rw (le-ltb (σ drain_count) (τ drain_count) (omega arith)) refl
  events_of ended fit q τ h zero-after = refl
  events_of empty fit q τ h zero-after = refl
  events_of (item n v) fit q τ h zero-after = refl
  events_of (drained xs) fit q τ h zero-after = absurd (omega (arith, fit.0))

  limit_after : (t : ℕ) (r : Reply) (ws : List Write) → Keeps z σ k.beside (step t) (reply r ws) → after σ ws drain_limit ≡ 0
  limit_after zero going ws f = f.same_limit refl ∙ none
  limit_after zero ok ws f = (drain_in z (after σ ws) f.goes.good.range.draining).idle (f.ends tt tt)
  limit_after zero (started n) ws f = (drain_in z (after σ ws) f.goes.good.range.draining).idle (f.ends tt tt)
  limit_after zero ended ws f = (drain_in z (after σ ws) f.goes.good.range.draining).idle (f.ends tt tt)
  limit_after zero empty ws f = (drain_in z (after σ ws) f.goes.good.range.draining).idle (f.ends tt tt)
  limit_after zero (item n v) ws f = (drain_in z (after σ ws) f.goes.good.range.draining).idle (f.ends tt tt)
  limit_after zero (drained xs) ws f = (drain_in z (after σ ws) f.goes.good.range.draining).idle (f.ends tt tt)
  limit_after (suc t) r ws f = f.goes.moved.others drain_limit (λ e. omega arith) ∙ none

  -- what a start replies
  enqueue_starts : (t v : ℕ) (r : Reply) (ws : List Write) → effect (start_enqueue t v) z σ ≡ reply r ws → (n : ℕ) × (started n ≡ r)
  unfolding effect starting_enqueue
  enqueue_starts t v r ws =
      by_cond P (eqb t 0 || ltb z.P t) _ _ (λ b e. absurd (reply_not_refuse e))
      (λ b.
      by_cond P (not (eqb (σ (phase t)) 0)) _ _ (λ c e. absurd (reply_not_refuse e))
      (λ c.
      by_cond P (eqb (σ starts) z.M) _ _ (λ d e. absurd (reply_not_refuse e))
      (λ d.
      by_cond P (eqb (σ tail) z.M) _ _ (λ x e. absurd (reply_not_refuse e))
      (λ x e. (suc (σ starts), same_reply e)))))
    where
      P : Effect → Type 0
      P a = a ≡ reply r ws → (n : ℕ) × (started n ≡ r)

  dequeue_starts : (r : Reply) (ws : List Write) → effect start_dequeue z σ ≡ reply r ws → (ok ≡ r) × ((consumer_phase := 1 ∷ []) ≡ ws)
  unfolding effect starting_dequeue
  dequeue_starts r ws =
      by_cond (λ a. a ≡ reply r ws → (ok ≡ r) × ((consumer_phase := 1 ∷ []) ≡ ws)) (not (eqb (σ consumer_phase) 0)) _ _
      (λ b e. absurd (reply_not_refuse e))
      (λ b e. (same_reply e, same_writes e))

  -- thread 0 is no producer
  nobody : (v : ℕ) (r : Reply) (ws : List Write) → effect (start_enqueue zero v) z σ ≡ reply r ws → ⊥
  unfolding effect starting_enqueue
  nobody v r ws e = reply_not_refuse e

  plain : (q : Request) → NoDrain q → (r : Reply) (ws : List Write) → effect q z σ ≡ reply r ws → Plain r ws
  plain (start_enqueue zero v) starts_none r ws e = absurd (nobody v r ws e)
  plain (start_enqueue (suc t) v) starts_none r ws e =
      record {
        still = (subst (Keeps z σ k.beside (start_enqueue (suc t) v)) e (effect_keeps k (start_enqueue (suc t) v))).goes.moved.others drain_limit (λ x. omega arith) ∙ none;
        adds = events_of r (subst (ItemsFit σ) (enqueue_starts (suc t) v r ws e).1 tt);
      }
  plain start_dequeue starts_none r ws e =
      let is = dequeue_starts r ws e in
      record { still = ap (λ (vs : List Write). after σ vs drain_limit) (sym is.1) ∙ none; adds = events_of r (subst (ItemsFit σ) is.0 tt) }
  plain (start_drain n) starts_none r ws e = absurd starts_none
  plain (step t) starts_none r ws e =
      record {
        still = limit_after t r ws (subst (Keeps z σ k.beside (step t)) e (effect_keeps k (step t)));
        adds =
            events_of r
            (accepted_busy z σ k.beside k.good k.paced (next_free z σ) (next_choice z σ k.beside k.good) t r ws (sym (effect_is (step t) z σ) ∙ e)).3;
      }

  -- One call: no drain is under way after it, and its history is the events of its reply.
  pub still_undrained : (v : Invocation) → NoDrain v.request → Undrained z (play_one v p)
  still_undrained v starts_none =
      subst⁻¹ (λ (r : Result). reader z r.words drain_limit ≡ 0) (result_is k v)
      (by_applied (λ r. reader z r.words drain_limit ≡ 0) _ z p.words v.buffer v.from (effect v.request z σ)
      (λ n e. none)
      (λ r ws e short. none)
      (λ r ws e long.
      ap (λ (τ : Reader). τ drain_limit)
      (reader_writes z p.words ws k.fits (subst (Keeps z σ k.beside v.request) e (effect_keeps k v.request)).goes.there)
      ∙ (plain v.request starts_none r ws e).still))

  pub history_is : (v : Invocation) → NoDrain v.request → (play_one v p).history ≡ events v.request p.history (result v p.words).reply ++ p.history
  history_is v starts_none =
      rw (cells_are z p.words k.good.range, cells_are z (result v p.words).words (keeps k v).good.range)
      (subst⁻¹ Adds (result_is k v)
      (by_applied Adds _ z p.words v.buffer v.from (effect v.request z σ)
      (λ n e t. refl)
      (λ r ws e short t. refl)
      (λ r ws e long t. (plain v.request starts_none r ws e).adds v.request (reader z (writes z p.words ws)) p.history t))
      unmarked)
    where
      Adds : Result → Type 0
      Adds r =
          reader z r.words drain_count ≡ 0
          → history_with v.request σ (reader z r.words) r.reply p.history ≡ events v.request p.history r.reply ++ p.history

      unmarked : reader z (result v p.words).words drain_count ≡ 0
      unmarked = omega (arith, still_undrained v starts_none, (drain_in z (reader z (result v p.words).words) (keeps k v).good.range.draining).counted)
