-- The statements, proved: along every list of calls after an accepted open, what was given is what was received and what a drain under way has
-- marked; and where no call is under way no item is marked.
use Rattle.std.specs.Prelude.{◌≡◌, refl, ◌≢◌, true, List, [], ◌∷◌, ◌++◌, ℕ, zero, suc, eqb}
use Rattle.std.proofs.Common.{ap, sym, ◌∙◌, subst, append-nil, arith, ne_eqb}
use Rattle.std.proofs.Math.Path.{subst⁻¹}
use Rattle.std.proofs.Math.Bool.{and-false}
use Rattle.history.specs.Event.{History, withdrawn}
use Rattle.history.specs.Calls.{deq, end_of, calls}
use Rattle.history.specs.Linearization.{Settled}
use Rattle.criterion.specs.Explained.{dequeuing}
use Rattle.criterion.specs.Members.{all_at}
use Rattle.criterion.specs.Growth.{dequeuing_is_open}
use Rattle.criterion.specs.Late.{Late, marked, then_started, then_ended}
use Rattle.rules.specs.Sizes.{Sizes}
use Rattle.rules.specs.Cell.{Reader, reader, consumer_phase, drain_limit, drain_count, pair_number, pair_value}
use Rattle.rules.specs.Update.{after}
use Rattle.rules.specs.Rule.{Response, accepted, ok}
use Rattle.rules.specs.Consumer.{items_marked}
use Rattle.rules.specs.Request.{Invocation, Result, effect, result, open_store}
use Rattle.rules.specs.Play.{Played, recorded, history_with, play_one, play}
use Rattle.rules.specs.Readback.{reader_writes}
use Rattle.rules.specs.Refusal.{by_applied}
use Rattle.simulation.specs.DrainWords.{drain_in}
use Rattle.progress.specs.Paced.{Keeps}
use Rattle.ordering.specs.Theorem.{Maintained, cells_are, result_is, keeps, opened_kept, opened_cells}
use Rattle.ordering.specs.Steps.{opened_play}
use Rattle.ordering.specs.Counting.{effect_keeps}
use Rattle.receiving.specs.Statement.{items_given, handed, items_received, GivenInOrder, EnteredInOrder, GivenIsReceivedAndKept, ReceivedIsGiven}
use Rattle.receiving.proofs.InOrder
use Rattle.receiving.proofs.Entered
use Rattle.receiving.specs.EveryCall.{call_hands}
use Rattle.receiving.proofs.Recorded.{LastMarked, handed_on}

pub given_in_order : GivenInOrder
given_in_order = InOrder.given_in_order

pub entered_in_order : EnteredInOrder
entered_in_order = Entered.entered_in_order

-- While an item that a drain has marked is not handed over, a dequeue is under way.
kept_dequeuing : {n v : ℕ} {g h : History} → Late n v g h → dequeuing g ≡ true
kept_dequeuing marked = refl
kept_dequeuing (then_started l) = kept_dequeuing l
kept_dequeuing (then_ended l) = kept_dequeuing l

-- What was given, against what these replies handed over and what this store has marked.
abbrev Accounted : Reader → List Response → History → Type 0
Accounted σ rs h = items_given h ≡ items_received rs ++ items_marked σ (σ drain_count)

module _ {z : Sizes} {p : Played} (k : Maintained z p) where
  abbrev σ : Reader
  σ = reader z p.words

  -- a drain that has marked an item tells all that is kept
  all_told : (c : ℕ) → σ drain_count ≡ suc c → k.beside.history ≡ p.history
  all_told c e =
      let some : σ drain_limit ≢ 0 = λ x. omega (arith, (drain_in z σ k.good.range.draining).counted) in
      sym (rw (ne_eqb (σ drain_limit) 0 some, and-false (eqb (σ consumer_phase) 8)) refl) ∙ k.same

  last_marked : LastMarked σ p.history
  last_marked c e = subst (λ (h : History). Late (σ (pair_number c)) (σ (pair_value c)) h (withdrawn h)) (all_told c e) (k.good.pending.of_drain c e)

  -- Where no call is under way no item is marked.
  none_marked : Settled p.history → σ drain_count ≡ 0
  none_marked settled = go (σ drain_count) refl
    where
      go : (c : ℕ) → σ drain_count ≡ c → c ≡ 0
      go zero e = refl
      go (suc c) e =
          let (d, there, open-ended) = dequeuing_is_open p.history (kept_dequeuing (last_marked c e)) in
          absurd (all_at (λ a. end_of a ≢ 0) (calls p.history) settled (deq d) there open-ended)

  -- One call.
  module _ (kept : Accounted σ p.replies p.history) (v : Invocation) where
    abbrev Adds : Result → Type 0
    Adds r = Accounted (reader z r.words) (r.reply ∷ p.replies) (history_with v.request σ (reader z r.words) r.reply p.history)

    refused_adds : items_given p.history ≡ (items_received p.replies ++ []) ++ items_marked σ (σ drain_count)
    refused_adds = rw (append-nil (items_received p.replies)) kept

    call_accounted : Accounted (reader z (play_one v p).words) (play_one v p).replies (play_one v p).history
    call_accounted =
        rw (cells_are z p.words k.good.range, cells_are z (result v p.words).words (keeps k v).good.range)
        (subst⁻¹ Adds (result_is k v)
        (by_applied Adds _ z p.words v.buffer v.from (effect v.request z σ)
        (λ n e. refused_adds)
        (λ r ws e short. refused_adds)
        (λ r ws e long.
        subst⁻¹ (λ (τ : Reader). items_given (recorded v.request σ τ r p.history) ≡ (items_received p.replies ++ handed r) ++ items_marked τ (τ drain_count))
        (reader_writes z p.words ws k.fits (subst (Keeps z σ k.beside v.request) e (effect_keeps k v.request)).goes.there)
        (handed_on σ (after σ ws) p.history (items_received p.replies) kept v.request r (call_hands k v.request r ws e) last_marked))))

-- All of them.
record Along (z : Sizes) (p : Played) : Type 0 where
  maintained : Maintained z p
  accounted : Accounted (reader z p.words) p.replies p.history

plays : {z : Sizes} (vs : List Invocation) {p : Played} → Along z p → Along z (play vs p)
unfolding play
plays [] a = a
plays (v ∷ vs) a =
    plays vs (record { maintained = keeps a.maintained v; accounted = call_accounted a.maintained a.accounted v })

module _ (z : Sizes) (m : List ℕ) (calls : List Invocation) (opens : (open_store z m).reply ≡ accepted ok 0) where
  after_list : Along z (play calls (opened_play z m))
  after_list =
      plays calls
      (record {
        maintained = opened_kept z m opens;
        accounted = subst⁻¹ (λ (σ : Reader). [] ≡ items_marked σ (σ drain_count)) (opened_cells z m opens) refl;
      })

pub given_is_received_and_kept : GivenIsReceivedAndKept
given_is_received_and_kept z m calls opens = (after_list z m calls opens).accounted

pub received_is_given : ReceivedIsGiven
received_is_given z m calls opens settled =
    let a = after_list z m calls opens in
    let σ : Reader = reader z (play calls (opened_play z m)).words in
    sym (a.accounted ∙ ap (λ (n : ℕ). items_received (play calls (opened_play z m)).replies ++ items_marked σ n) (none_marked a.maintained settled) ∙ append-nil _)
