-- Demand 3, proved: along every list of calls from an accepted open the store stays one that only the engine has written, and its history
-- is what was told of the one that is kept.
use Rattle.std.specs.Prelude.{◌≡◌, refl, ◌≢◌, Bool, true, false, cond, List, [], ◌∷◌, ℕ, zero, suc, ◌≤◌, length}
use Rattle.std.proofs.Common.{ap, sym, ◌∙◌, subst, arith}
use Rattle.std.proofs.Math.Path.{ap₂, subst⁻¹}
use Rattle.history.specs.Lists.{All}
use Rattle.history.specs.Event.{History, withdrawn}
use Rattle.history.specs.Calls.{Call, deq, end_of, calls}
use Rattle.history.specs.Form.{well_formed}
use Rattle.history.specs.Linearization.{Queue, Linearization, Linearizable, Settled}
use Rattle.criterion.specs.Explained.{Explained}
use Rattle.criterion.specs.Members.{all_at}
use Rattle.criterion.specs.Growth.{dequeuing_is_open}
use Rattle.criterion.specs.Criterion.{sound, criterion}
use Rattle.criterion.specs.Order.{order}
use Rattle.criterion.specs.Late.{Late}
use Rattle.criterion.specs.LateFacts.{late_formed, late_dequeuing}
use Rattle.criterion.specs.Settle.{late_linearizable}
use Rattle.rules.specs.Sizes.{Sizes, store_words}
use Rattle.rules.specs.Cell.{Reader, reader, Write, writes}
use Rattle.rules.specs.Update.{after}
use Rattle.rules.specs.InRange.{InRange}
use Rattle.rules.specs.Free.{next_free}
use Rattle.rules.specs.Rule.{Effect, Reply, reply, refused, accepted, ok}
use Rattle.rules.specs.Request.{Request, Invocation, Result, handed_over, applied, effect, steps_so_far, result, open_store}
use Rattle.rules.specs.Play.{Played, recorded, history_with, cells_of, play_one, play, items_left}
use Rattle.rules.specs.Readback.{reader_writes, length_writes}
use Rattle.rules.specs.Refusal.{accepted_not_refused, by_applied, by_open}
use Rattle.model.specs.Items.{items, items_rest}
use Rattle.model.specs.State.{State}
use Rattle.simulation.specs.View.{Ghost, view}
use Rattle.simulation.specs.Good.{Good, none_of_3_and_9, untold, told}
use Rattle.memory.specs.Loose.{LooseChoice}
use Rattle.simulation.specs.Every.{effect_taking, effect_is, next_choice}
use Rattle.simulation.specs.Opened.{open_fits, open_reader, open_ghost, open_reads, open_good}
use Rattle.simulation.specs.Left.{items_left_lem}
use Rattle.simulation.specs.Admission.{sizes_are, admitted_is}
use Rattle.progress.specs.Paced.{Paced, Keeps, call_keeps}
use Rattle.ordering.specs.Demand.{Ordered, Demand3}

-- What every call keeps.
pub record Maintained (z : Sizes) (p : Played) : Type 0 where
  pub fits : store_words z ≤ length p.words
  pub beside : Ghost
  pub good : Good z (reader z p.words) beside
  pub same : told (reader z p.words) beside.history ≡ p.history
  pub paced : Paced z (reader z p.words)
  pub answered : All (λ r. (r ≢ refused 3) × (r ≢ refused 9)) p.replies

-- two refusals with one number
pub refused_number : {a b : ℕ} → refused a ≡ refused b → a ≡ b
refused_number e = cc

-- What is owed of a history, where the store holds these items.
record Owed (left : Queue) (h : History) : Type 0 where
  formed : well_formed h ≡ true
  linearizable : Linearizable h
  leaves : Settled h → (order : List Call) × Linearization h order left

module _ (z : Sizes) (σ : Reader) (γ : Ghost) (good : Good z σ γ) where
  explained : Explained γ.history
  explained = good.model.past.explained

  -- The kept history may leave what the position machine holds.
  of_kept : Owed (items_left z σ) γ.history
  of_kept =
      let s : State = view σ γ in
      let left : Linearization γ.history (order γ.history (items s)) (items s) =
      sound γ.history good.formed explained (items s) (items_rest z.B s good.model) in
      record {
        formed = good.formed;
        linearizable = (criterion γ.history good.formed).0 explained;
        leaves = λ settled. (order γ.history (items s), rw (items_left_lem z σ γ good) left);
      }

  -- While an item is not yet told its dequeue is under way. (It is in neither the store nor the history.)
  of_late : {n v : ℕ} → Late n v γ.history (withdrawn γ.history) → Owed (items_left z σ) (withdrawn γ.history)
  of_late late =
      let h : History = withdrawn γ.history in
      let (d, there, open-ended) = dequeuing_is_open h (late_dequeuing late good.formed) in
      record {
        formed = late_formed late good.formed;
        linearizable = late_linearizable late good.formed explained;
        leaves = λ settled. absurd (all_at (λ c. end_of c ≢ 0) (calls h) settled (deq d) there open-ended);
      }

  of_told : Owed (items_left z σ) (told σ γ.history)
  of_told = go (untold σ) refl
    where
      go : (b : Bool) → untold σ ≡ b → Owed (items_left z σ) (cond b (withdrawn γ.history) γ.history)
      go true e = of_late (good.pending.of_dequeue e)
      go false e = of_kept

owed : {z : Sizes} {p : Played} → Maintained z p → Ordered z p
owed {z} {p} k =
    let o : Owed (items_left z (reader z p.words)) p.history =
    subst (Owed (items_left z (reader z p.words))) k.same (of_told z (reader z p.words) k.beside k.good) in
    record { formed = o.formed; linearizable = o.linearizable; leaves = o.leaves; answered = k.answered }

-- What stands after a call with this result, and after one whose claim takes this record (plus one; zero for none).
abbrev pub played : Request → Played → Result → Played
played q p r =
    record {
      words = r.words;
      replies = r.reply ∷ p.replies;
      history = history_with q (cells_of p.words) (cells_of r.words) r.reply p.history;
    }

abbrev pub result_of : Sizes → Played → Invocation → Effect → Result
result_of z p v a = applied (steps_so_far v.request (reader z p.words)) z p.words v.buffer v.from a

abbrev pub play_taking : Sizes → (c : ℕ) → Invocation → Played → Played
play_taking z c v p = played v.request p (result_of z p v (effect_taking c v.request z (reader z p.words)))

-- A store in range has the sizes that it holds, so its cells are those.
pub cells_are : (z : Sizes) (m : List ℕ) → InRange z (reader z m) → cells_of m ≡ reader z m
cells_are z m range = ap (λ (y : Sizes). reader y m) (sizes_are z m range)

-- One call.
module _ {z : Sizes} {p : Played} (k : Maintained z p) (v : Invocation) where
  abbrev q : Request
  q = v.request

  abbrev σ : Reader
  σ = reader z p.words

  pub result_is : result v p.words ≡ result_of z p v (effect q z σ)
  unfolding result
  result_is =
      ap₂ (λ (y : Sizes) (a : Effect). applied (steps_so_far q (reader y p.words)) y p.words v.buffer v.from a) (sizes_are z p.words k.good.range)
      (admitted_is z p.words k.good.range k.good.sizes k.fits (effect q))

  -- The rules' own takes the next free record.
  pub play_is : play_one v p ≡ play_taking z (next_free z σ) v p
  play_is = ap (played q p) (result_is ∙ ap (result_of z p v) (effect_is q z σ))

  -- a refusal by any number but 3 and 9
  turned_down : (n : ℕ) → (n ≢ 3) × (n ≢ 9) → Maintained z (played q p (record { reply = refused n; words = p.words; buffer = v.buffer }))
  turned_down n other =
      record {
        fits = k.fits;
        beside = k.beside;
        good = k.good;
        same = k.same;
        paced = k.paced;
        answered = ((λ e. other.0 (refused_number e), λ e. other.1 (refused_number e)), k.answered);
      }

  goes_on_lem : (n : ℕ) (r : Reply) (ws : List Write) (b : List ℕ) → Keeps z σ k.beside q (reply r ws)
      → Maintained z (played q p (record { reply = accepted r n; words = writes z p.words ws; buffer = b }))
  goes_on_lem n r ws b f =
      let g = f.goes in
      let reads : reader z (writes z p.words ws) ≡ after σ ws = reader_writes z p.words ws k.fits g.there in
      let good : Good z (reader z (writes z p.words ws)) g.next = subst⁻¹ (λ (τ : Reader). Good z τ g.next) reads g.good in
      record {
        fits = rw (length_writes z p.words ws) k.fits;
        beside = g.next;
        good = good;
        same =
            subst⁻¹ (λ (τ : Reader). told τ g.next.history ≡ recorded q σ τ r (told σ k.beside.history)) reads g.grown
            ∙ ap (recorded q σ (reader z (writes z p.words ws)) r) k.same
            ∙ ap₂ (λ (α β : Reader). recorded q α β r p.history) (sym (cells_are z p.words k.good.range)) (sym (cells_are z (writes z p.words ws) good.range));
        paced = subst⁻¹ (Paced z) reads f.paced;
        answered = ((accepted_not_refused, accepted_not_refused), k.answered);
      }

  by_answer : (n : ℕ) (a : Effect) → Keeps z σ k.beside q a → Maintained z (played q p (applied n z p.words v.buffer v.from a))
  by_answer n a f =
      by_applied (λ r. Maintained z (played q p r)) n z p.words v.buffer v.from a
      (λ m e. turned_down m (none_of_3_and_9 z σ q m (subst (Keeps z σ k.beside q) e f)))
      (λ r ws e short. turned_down 15 ((λ x. omega arith), (λ x. omega arith)))
      (λ r ws e long. goes_on_lem n r ws (handed_over v.buffer v.from r) (subst (Keeps z σ k.beside q) e f))

  pub keeps_taking : (c : ℕ) → LooseChoice z σ c → Maintained z (play_taking z c v p)
  keeps_taking c choice = by_answer (steps_so_far q σ) (effect_taking c q z σ) (call_keeps z σ k.beside k.good k.paced c choice q)

  pub keeps : Maintained z (play_one v p)
  keeps = subst⁻¹ (Maintained z) play_is (keeps_taking (next_free z σ) (next_choice z σ k.beside k.good))

-- All of them.
plays : {z : Sizes} (vs : List Invocation) {p : Played} → Maintained z p → Maintained z (play vs p)
unfolding play
plays [] k = k
plays (v ∷ vs) k = plays vs (keeps k v)

-- After an open no call is under way.
open_paced : (z : Sizes) → Paced z (open_reader z)
open_paced z zero l busy = absurd (busy refl)
open_paced z (suc p) l busy = absurd (busy refl)

-- An accepted open, whatever the words held before.
module _ (z : Sizes) (m : List ℕ) where
  pub opened_kept : (open_store z m).reply ≡ accepted ok 0 → Maintained z (record { words = (open_store z m).words; replies = []; history = [] })
  opened_kept =
      by_open (λ r. r.reply ≡ accepted ok 0 → Maintained z (record { words = r.words; replies = []; history = [] })) z m
      (λ n h r. absurd (accepted_not_refused (sym r)))
      (λ e l r.
      record {
        fits = open_fits z m;
        beside = open_ghost;
        good = subst⁻¹ (λ (τ : Reader). Good z τ open_ghost) (open_reads z e m) (open_good z e);
        same = ap (λ (τ : Reader). told τ []) (open_reads z e m);
        paced = subst⁻¹ (Paced z) (open_reads z e m) (open_paced z);
        answered = tt;
      })

  pub opened_cells : (open_store z m).reply ≡ accepted ok 0 → reader z (open_store z m).words ≡ open_reader z
  opened_cells =
      by_open (λ r. r.reply ≡ accepted ok 0 → reader z r.words ≡ open_reader z) z m
      (λ n h r. absurd (accepted_not_refused (sym r)))
      (λ e l r. open_reads z e m)

-- Demand 3.
pub demand_3 : Demand3
demand_3 z m calls opens = owed (plays calls (opened_kept z m opens))
