-- What holds of a store that only the engine has written: its words are in range, its records are in order, and the position
-- machine that it stands for keeps its invariant over the history that is kept.
--
-- Kept and told. In phase 8 of a dequeue an item is marked and not yet told. The kept history has its end, and a dequeue opened there; what
-- was told has neither. Everywhere else they are the same: a drain's item ends at its mark, and the next dequeue begins there.
use Rattle.std.specs.Prelude.{◌≡◌, refl, ◌⊎◌, ◌≢◌, Bool, true, false, ◌&&◌, cond, List, ℕ, zero, suc, ◌+◌, ◌*◌, ◌≤◌, ◌<◌, eqb}
use Rattle.std.proofs.Common.{sym, ◌∙◌, inl, inr, arith, le-leb}
use Rattle.std.proofs.Math.Path.{subst⁻¹}
use Rattle.history.specs.Lists.{All}
use Rattle.history.specs.Event.{History, withdrawn}
use Rattle.history.specs.Form.{well_formed}
use Rattle.criterion.specs.Late.{Late}
use Rattle.rules.specs.Sizes.{Sizes, sizes_in_range}
use Rattle.rules.specs.Cell.{Cell, Reader, Write, tail, head_position, all_handled, consumer_phase, thread_phase, item_number, item_value, drain_limit, drain_count, pair_number, pair_value, place}
use Rattle.rules.specs.Update.{area_of, after}
use Rattle.rules.specs.Rule.{Effect, refuse, reply, need, up_to}
use Rattle.rules.specs.Request.{Request, start_enqueue, start_dequeue, start_drain, step}
use Rattle.rules.specs.Play.{thread_of, recorded}
use Rattle.rules.specs.Readback.{WriteThere}
use Rattle.rules.specs.InRange.{InSort, OtherThread, others_untouched, InRange}
use Rattle.model.specs.State.{Entry, gone, Consumer, resting, front, reading, scanning, looking, rescanning, found, holding, retiring}
use Rattle.model.specs.Invariant.{Invariant}
use Rattle.memory.specs.Memory.{row_of, Memory}
use Rattle.simulation.specs.View.{Ghost, places_of, place_of, consumer_of, view, AgreesWith}

-- an item is marked and not yet told
abbrev pub untold : Reader → Bool
untold σ = eqb (σ consumer_phase) 8 && eqb (σ drain_limit) 0

-- What was told, of the kept history g.
abbrev pub told : Reader → History → History
told σ g = cond (untold σ) (withdrawn g) g

-- What is pending: the item that is not yet told, and the last one that a drain has marked. It is the last one given in the kept history,
-- where a dequeue was opened after it, and since then there were enqueue events alone.
pub record Pending (σ : Reader) (g : History) : Type 0 where
  pub of_dequeue : untold σ ≡ true → Late (σ item_number) (σ item_value) g (withdrawn g)
  pub of_drain : (c : ℕ) → σ drain_count ≡ suc c → Late (σ (pair_number c)) (σ (pair_value c)) g (withdrawn g)
  -- a drain ends where its limit is reached, at the mark or in phase 8, which a mark leads to
  pub below : σ drain_limit ≢ 0 → σ consumer_phase ≢ 8 → σ drain_count < σ drain_limit
  pub some : σ drain_limit ≢ 0 → σ consumer_phase ≡ 8 → σ drain_count ≢ 0

-- What word 12 says: every position of the cursor's record before the cursor is handled.
abbrev pub Read : (B : ℕ) (entry : ℕ → Entry) → Consumer → Type 0
Read B entry resting = Unit
Read B entry front = Unit
Read B entry reading = Unit
Read B entry (scanning c k) = (p : ℕ) → B * k ≤ p + B → p < c → entry p ≡ gone
Read B entry (looking c k) = (p : ℕ) → B * k ≤ p + B → p < c → entry p ≡ gone
Read B entry (rescanning c k f g) = Unit
Read B entry (found f g) = Unit
Read B entry (holding f g x) = Unit
Read B entry retiring = Unit

-- handled is final
pub read_kept : (B : ℕ) (entry entry' : ℕ → Entry) (x : Consumer) → ((p : ℕ) → entry p ≡ gone → entry' p ≡ gone) → Read B entry x → Read B entry' x
read_kept B entry entry' resting f r = r
read_kept B entry entry' front f r = r
read_kept B entry entry' reading f r = r
read_kept B entry entry' (scanning c k) f r = λ p l h. f p (r p l h)
read_kept B entry entry' (looking c k) f r = λ p l h. f p (r p l h)
read_kept B entry entry' (rescanning c k g j) f r = r
read_kept B entry entry' (found g j) f r = r
read_kept B entry entry' (holding g j x) f r = r
read_kept B entry entry' retiring f r = r

abbrev pub ReadOf : Sizes → Reader → (ℕ → Entry) → Type 0
ReadOf z σ entry = σ all_handled ≡ 1 → Read z.B entry (consumer_of σ)

pub record Good (z : Sizes) (σ : Reader) (γ : Ghost) : Type 0 where
  pub sizes : sizes_in_range z ≡ true
  pub range : InRange z σ
  pub memory : Memory z σ γ.shape
  pub agrees : AgreesWith z.B σ γ
  pub model : Invariant z.B (view σ γ)
  pub formed : well_formed γ.history ≡ true
  pub pending : Pending σ γ.history
  pub read : ReadOf z σ γ.entry

-- What the scan has read stays so in a producer's step.
pub read_still : (z : Sizes) (σ : Reader) (γ : Ghost) → Good z σ γ → (t : ℕ) → 1 ≤ t → (ws : List Write) (entry : ℕ → Entry) → All (InSort z t) ws
    → consumer_of (after σ ws) ≡ consumer_of σ → ((p : ℕ) → γ.entry p ≡ gone → entry p ≡ gone) → ReadOf z (after σ ws) entry
read_still z σ γ good t l ws entry in_sort seen still e =
    subst⁻¹ (Read z.B entry) seen
    (read_kept z.B γ.entry entry (consumer_of σ) still
    (good.read (sym (others_untouched z t σ ws in_sort all_handled (λ q. omega arith)) ∙ e)))

-- The record that another thread holds has the place that it had.
abbrev pub PlacesKept : ℕ → Reader → Reader → Type 0
PlacesKept t σ σ' = (u : ℕ) → (t ≡ u → ⊥) → place_of (places_of σ') (row_of σ u 4) ≡ place_of (places_of σ) (row_of σ u 4)

-- What the consumer sees of a producer's call: the head, the gaps and the records of the places up to the last one stay, and no entry is newly
-- handled.
pub record Behind (σ σ' : Reader) (γ γ' : Ghost) : Type 0 where
  pub same_head : σ' head_position ≡ σ head_position
  pub same_first : γ'.shape.lo ≡ γ.shape.lo
  pub same_gaps : (k : ℕ) → γ'.shape.gap k ≡ γ.shape.gap k
  pub same_records : (k : ℕ) → k ≤ γ.shape.hi → γ'.shape.at k ≡ γ.shape.at k
  pub was_gone : (p : ℕ) → γ'.entry p ≡ gone → γ.entry p ≡ gone

-- What a call of thread t moves: other threads' words stay; tail, the place of the tail record and the last place only grow; a
-- record with a place up to the old last one had it before.
pub record Moved (t : ℕ) (σ σ' : Reader) (γ γ' : Ghost) : Type 0 where
  pub others : (d : Cell) → OtherThread t (area_of d) → σ' d ≡ σ d
  pub tail_grows : σ tail ≤ σ' tail
  pub shifts_on : γ.shape.tp ≤ γ'.shape.tp
  pub last_grows : γ.shape.hi ≤ γ'.shape.hi
  pub had_place : (r : ℕ) → 1 ≤ σ' (place r) → σ' (place r) ≤ γ.shape.hi → σ (place r) ≡ σ' (place r)
  pub held_places : PlacesKept t σ σ'
  pub behind : 1 ≤ t → Behind σ σ' γ γ'

-- Writes in range that write no place.
pub places_stay : (z : Sizes) (t : ℕ) (σ : Reader) (γ γ' : Ghost) (ws : List Write) → All (InSort z t) ws → ((r : ℕ) → after σ ws (place r) ≡ σ (place r))
    → σ tail ≤ after σ ws tail → γ.shape.tp ≤ γ'.shape.tp → γ.shape.hi ≤ γ'.shape.hi → (1 ≤ t → Behind σ (after σ ws) γ γ')
    → Moved t σ (after σ ws) γ γ'
places_stay z t σ γ γ' ws in_sort places a b c behind =
    record {
      others = others_untouched z t σ ws in_sort;
      tail_grows = a;
      shifts_on = b;
      last_grows = c;
      had_place = λ r l h. sym (places r);
      held_places = λ u n. held (row_of σ u 4);
      behind = behind;
    }
  where
    held : (x : ℕ) → place_of (places_of (after σ ws)) x ≡ place_of (places_of σ) x
    held zero = refl
    held (suc r) = places r

-- What a call says: what was told is then the history with its reply.
pub record Tells (σ σ' : Reader) (q : Request) (r : Rattle.rules.specs.Rule.Reply) (g g' : History) : Type 0 where
  pub pending : Pending σ' g'
  pub grown : told σ' g' ≡ recorded q σ σ' r (told σ g)

-- The refusals that are left on such a store: of a start 4 to 6, and 14; of a step 4 for a thread that is not there, 7 for an idle one, and 8 for an
-- enqueue.
abbrev pub Refusable : Sizes → Reader → Request → ℕ → Type 0
Refusable z σ (start_enqueue t v) n = (4 ≤ n) × (n ≤ 6)
Refusable z σ start_dequeue n = n ≡ 5
Refusable z σ (start_drain l) n = (n ≡ 5) ⊎ (n ≡ 14)
Refusable z σ (step t) n = ((n ≡ 4) × (z.P < t)) ⊎ (((n ≡ 7) × (σ (thread_phase t) ≡ 0)) ⊎ ((n ≡ 8) × (1 ≤ t)))

-- none of them is 3 or 9
pub none_of_3_and_9 : (z : Sizes) (σ : Reader) (q : Request) (n : ℕ) → Refusable z σ q n → (n ≢ 3) × (n ≢ 9)
none_of_3_and_9 z σ (start_enqueue t v) n r = ((λ e. omega arith), (λ e. omega arith))
none_of_3_and_9 z σ start_dequeue n r = ((λ e. omega arith), (λ e. omega arith))
none_of_3_and_9 z σ (start_drain l) n (inl r) = ((λ e. omega arith), (λ e. omega arith))
none_of_3_and_9 z σ (start_drain l) n (inr r) = ((λ e. omega arith), (λ e. omega arith))
none_of_3_and_9 z σ (step t) n (inl r) = ((λ e. omega arith), (λ e. omega arith))
none_of_3_and_9 z σ (step t) n (inr (inl r)) = ((λ e. omega arith), (λ e. omega arith))
none_of_3_and_9 z σ (step t) n (inr (inr r)) = ((λ e. omega arith), (λ e. omega arith))

-- An answer to request q that goes on so: a refusal is one of these, and a reply leaves such a store, with what it tells.
pub record Goes (z : Sizes) (σ : Reader) (γ : Ghost) (q : Request) (r : Rattle.rules.specs.Rule.Reply) (ws : List Write) : Type 0 where
  pub there : All (WriteThere z) ws
  pub next : Ghost
  pub good : Good z (after σ ws) next
  pub grown : told (after σ ws) next.history ≡ recorded q σ (after σ ws) r (told σ γ.history)
  pub moved : Moved (thread_of q) σ (after σ ws) γ next

abbrev pub Fine : (z : Sizes) (σ : Reader) (γ : Ghost) → Request → Effect → Type 0
Fine z σ γ q (refuse n) = Refusable z σ q n
Fine z σ γ q (reply r ws) = Goes z σ γ q r ws

-- To show something of a rule's answer, show it at each leaf.
module _ (P : Effect → Type 0) where
  pub by_need : (x : ℕ) (f : ℕ → Effect) → (x ≡ 0 → ⊥) → ((r : ℕ) → x ≡ suc r → P (f r)) → P (need x f)
  by_need zero f some each = absurd (some refl)
  by_need (suc r) f some each = each r refl

  pub by_cond : (b : Bool) (a c : Effect) → (b ≡ true → P a) → (b ≡ false → P c) → P (cond b a c)
  by_cond true a c f g = f refl
  by_cond false a c f g = g refl

  pub by_up_to : (most x : ℕ) (a : Effect) → x ≤ most → P a → P (up_to most x a)
  by_up_to most x a h f = rw (le-leb x most h) f
