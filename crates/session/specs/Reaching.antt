-- The history that any lines leave is well-formed, explained and linearizable, by demand 3, and its enqueues have a producer's thread
-- and a call number.
use Rattle.std.specs.Prelude.{Option, Some, None, ◌≡◌, refl, Bool, true, false, ◌||◌, not, cond, ℕ, zero, suc, ◌≤◌, leb, eqb, length, get_or}
use Rattle.std.proofs.Common.{ap, sym, ◌∙◌, subst, arith, le-ltb, le-leb, ltb-false}
use Rattle.std.proofs.Math.Path.{subst⁻¹}
use mathlib.Core.List.{List, [], ◌∷◌, ◌++◌, map}
use Rattle.std.proofs.Math.Dec.{ltb}
use Rattle.std.proofs.lemmas.List.{length-replicate}
use Rattle.std.proofs.lemmas.Bool.{eqb-false, not-false}
use Rattle.history.specs.Event.{History, is_producer, enqueue_started, enqueue_ended, dequeue_started, gave_item, gave_empty}
use Rattle.history.specs.Form.{well_formed}
use Rattle.history.specs.Linearization.{Linearizable}
use Rattle.criterion.specs.Explained.{Explained}
use Rattle.criterion.specs.Criterion.{criterion}
use Rattle.rules.specs.Sizes.{Sizes, sizes_in_range, store_words}
use Rattle.rules.specs.Cell.{Reader, reader, tail, starts, phase, drain_limit}
use Rattle.rules.specs.Update.{neither}
use Rattle.rules.specs.Range.{in_range}
use Rattle.rules.specs.Rule.{Effect, refuse, Response, refused, accepted, ok, started, going, ended, empty, item, drained}
use Rattle.rules.specs.Refusal.{accepted_not_refused}
use Rattle.rules.specs.Request.{Result, Request, start_enqueue, start_dequeue, start_drain, step, applied, open_store, opened, starting_enqueue, effect, sizes_of, admitted, result}
use Rattle.rules.specs.Play.{Played, events, end_of_enqueue, play_one, play, thread_of}
use Rattle.simulation.specs.Good.{by_cond}
use Rattle.simulation.specs.Limits.{limits}
use Rattle.rules.specs.Runs.{plain}
use Rattle.ordering.specs.Theorem.{Maintained, keeps, opened_kept, opened_cells, demand_3}
use Rattle.ordering.specs.NoDrain.{NoDrain, Undrained, still_undrained, history_is}
use Rattle.protocol.specs.declared.Line.{Line}
use Rattle.protocol.specs.declared.Line.TheVariants.{Open, Enqueue, Dequeue, Step}
use Rattle.protocol.specs.Line.{parse_line}
use Rattle.refinement.specs.Theorem.{May, result_may}
use Rattle.session.specs.Session.{blank, Session, start, reopened, open_turn, call_turn, opening, calling, call_of, run_line, run_lines}
use Rattle.session.specs.Reading.{Names, Named}

-- an opened store, and what stands after some calls on it
abbrev from : Sizes → List ℕ → Played
from z m = record { words = (open_store z m).words; replies = []; history = [] }

abbrev after : Sizes → List ℕ → List Request → Played
after z m qs = play (map plain qs) (from z m)

-- What stands: nothing was opened yet, or some calls followed an accepted open.
data Reachable : Session → Type 0 where
  unopened : {x : Session} → x.words ≡ blank → x.history ≡ [] → Reachable x
  played : {x : Session} (z : Sizes) (m : List ℕ) (qs : List Request) → (open_store z m).reply ≡ accepted ok 0 → Maintained z (after z m qs) → Undrained z (after z m qs)
      → x.words ≡ (after z m qs).words → x.history ≡ (after z m qs).history → Reachable x

-- one call more
play_more : (qs : List Request) (q : Request) (p : Played) → play (map plain (qs ++ (q ∷ []))) p ≡ play_one (plain q) (play (map plain qs) p)
unfolding play
play_more [] q p = refl
play_more (r ∷ qs) q p = play_more qs q (play_one (plain r) p)

-- words that no open wrote
unopened_refused : (q : Request) (m : List ℕ) → 16 ≤ length m → get_or m 0 0 ≡ 0 → result (plain q) m ≡ record { reply = refused 3; words = m; buffer = [] }
unfolding result admitted applied
unopened_refused q m l e = simp (le-ltb (length m) 16 l, e)

blank_length : 16 ≤ length blank
unfolding blank
blank_length = rw length-replicate (omega arith)

blank_first : get_or blank 0 0 ≡ 0
unfolding blank
blank_first = refl

call_reachable : (q : Request) → NoDrain q → (x : Session) → Reachable x → Reachable (calling q x).session
unfolding calling
call_reachable q none x (unopened w e) =
    let f = unopened_refused q x.words (rw w blank_length) (rw w blank_first) in
    subst (λ (r : Result). Reachable (call_turn q r x.history).session) (sym f) (unopened w e)
call_reachable q none x (played z m qs o k u w e) =
    let f = play_more qs q (from z m) in
    played {x = (calling q x).session} z m (qs ++ (q ∷ [])) o
    (subst⁻¹ (Maintained z) f (keeps k (plain q)))
    (subst⁻¹ (Undrained z) f (still_undrained k u (plain q) none))
    (ap (λ (y : List ℕ). (result (plain q) y).words) w ∙ ap (λ (p : Played). p.words) (sym f))
    (rw (w, e) (sym (history_is k u (plain q) none) ∙ ap (λ (p : Played). p.history) (sym f)))

open_reachable : (z : Sizes) (x : Session) → Reachable x → Reachable (opening z x).session
unfolding opening open_store play
open_reachable z x p = go (sizes_in_range z) refl (ltb (length x.words) 16 || ltb (length x.words) (store_words z)) refl
  where
    answered : Bool → Bool → Result
    answered a b =
        cond (not a) (record { reply = refused 1; words = x.words; buffer = [] })
        (cond b (record { reply = refused 2; words = x.words; buffer = [] }) (record { reply = accepted ok 0; words = opened z x.words; buffer = [] }))

    go : (a : Bool) → sizes_in_range z ≡ a → (b : Bool) → (ltb (length x.words) 16 || ltb (length x.words) (store_words z)) ≡ b → Reachable (open_turn (answered a b) x.history).session
    go false e b f = p
    go true e true f = p
    go true e false f =
        let o : open_store z x.words ≡ record { reply = accepted ok 0; words = opened z x.words; buffer = [] } = rw (e, f) in
        let opens : (open_store z x.words).reply ≡ accepted ok 0 = ap (λ (r : Result). r.reply) o in
        played z x.words [] opens (opened_kept z x.words opens) (ap (λ (σ : Reader). σ drain_limit) (opened_cells z x.words opens))
        (sym (ap (λ (r : Result). r.words) o))
        refl

-- What every call keeps holds after any lines, if it held before them.
module _ (P : Session → Type 0) (opens : (z : Sizes) (x : Session) → P x → P (opening z x).session) (calls : (q : Request) → NoDrain q → (x : Session) → P x → P (calling q x).session) where
  after_lines : (ls : List (List ℕ)) (x : Session) → P x → P (run_lines ls x).session
  unfolding run_lines
  after_lines [] x h = h
  after_lines (l ∷ ls) x h = go (parse_line l) (λ y. after_lines ls y)
    where
      go : (k : Option Line) → ((y : Session) → P y → P (run_lines ls y).session) → P (run_line (call_of k) x (run_lines ls)).session
      go (Some (Open b n p m)) f = let z : Sizes = record { B = b; N = n; P = p; M = m } in f (opening z x).session (opens z x h)
      go (Some (Enqueue t v)) f = f (calling (start_enqueue t v) x).session (calls (start_enqueue t v) tt x h)
      go (Some Dequeue) f = f (calling start_dequeue x).session (calls start_dequeue tt x h)
      go (Some (Step t)) f = f (calling (step t) x).session (calls (step t) tt x h)
      go None f = h

-- Demand 3.
reachable_formed : (x : Session) → Reachable x → (well_formed x.history ≡ true) × Explained x.history
reachable_formed x (unopened w e) = rw e (refl, tt)
reachable_formed x (played z m qs o k u w e) =
    let d = demand_3 z m (map plain qs) o in
    rw e (d.formed, (criterion (after z m qs).history d.formed).1 d.linearizable)

pub lines_formed : (ls : List (List ℕ)) → (well_formed (run_lines ls start).session.history ≡ true) × Explained (run_lines ls start).session.history
lines_formed ls = reachable_formed (run_lines ls start).session (after_lines Reachable open_reachable call_reachable ls start (unopened refl refl))

-- The history that the lines leave is linearizable.
pub lines_linearizable : (ls : List (List ℕ)) → Linearizable (run_lines ls start).session.history
lines_linearizable ls = let f = lines_formed ls in (criterion (run_lines ls start).session.history f.0).0 f.1

positive : (t : ℕ) → (t ≡ 0 → ⊥) → 1 ≤ t
positive zero f = absurd (f refl)
positive (suc t) f = omega arith

-- An accepted start enqueue has a producer's thread, and gives a call number.
module _ (t v n k : ℕ) (m : List ℕ) where
  abbrev z : Sizes
  z = sizes_of m

  abbrev σ : Reader
  σ = reader z m

  abbrev P : Effect → Type 0
  P a = (applied 1 z m [] 0 a).reply ≡ accepted (started n) k → Names t n

  no : {j : ℕ} → refused j ≡ accepted (started n) k → Names t n
  no e = absurd (accepted_not_refused (sym e))

  producer : sizes_in_range z ≡ true → (eqb t 0 ≡ false) × (ltb z.P t ≡ false) → is_producer t ≡ true
  producer s b =
      let l = (limits z s).most_producers in
      let g = ltb-false z.P t b.1 in
      simp (le-leb 1 t (positive t (eqb-false t 0 b.0)), le-leb t 16 (omega arith))

  number : {j : ℕ} → accepted (started (suc j)) 1 ≡ accepted (started n) k → leb 1 n ≡ true
  number {j} e = let q : n ≡ suc j = cc in le-leb 1 n (omega arith)

  started_names : (result (plain (start_enqueue t v)) m).reply ≡ accepted (started n) k → Names t n
  unfolding result admitted effect starting_enqueue applied
  started_names =
      by_cond P (ltb (length m) 16) (refuse 2) _ (λ _. no) λ _. by_cond P (not (sizes_in_range z)) (refuse 3) _ (λ _. no) λ s.
      by_cond P (ltb (length m) (store_words z)) (refuse 2) _ (λ _. no) λ _. by_cond P (not (in_range z σ)) (refuse 3) _ (λ _. no) λ _.
      by_cond P (eqb t 0 || ltb z.P t) (refuse 4) _ (λ _. no) λ b. by_cond P (not (eqb (σ (phase t)) 0)) (refuse 5) _ (λ _. no) λ _.
      by_cond P (eqb (σ starts) z.M) (refuse 6) _ (λ _. no) λ _. by_cond P (eqb (σ tail) z.M) (refuse 9) _ (λ _. no) λ _ e.
      (producer (not-false (sizes_in_range z) s) (neither (eqb t 0) (ltb z.P t) b), number e)

-- the end of an enqueue repeats its start's words
end_named : (t : ℕ) (h g : History) → Named h → Named g → Named (end_of_enqueue t h ++ g)
end_named t [] g a b = b
end_named t (enqueue_started u n v ∷ h) g a b = go (eqb u t) (end_named t h g a.1 b)
  where
    go : (x : Bool) → Named (end_of_enqueue t h ++ g) → Named (elim x [ true ↦ enqueue_ended u n v ∷ [] | false ↦ end_of_enqueue t h ] ++ g)
    go true i = (a.0, b)
    go false i = i
end_named t (enqueue_ended u n v ∷ h) g a b = end_named t h g a.1 b
end_named t (dequeue_started ∷ h) g a b = end_named t h g a b
end_named t (gave_item n v ∷ h) g a b = end_named t h g a b
end_named t (gave_empty ∷ h) g a b = end_named t h g a b

call_named : (q : Request) → NoDrain q → (x : Session) → Named x.history → Named (calling q x).session.history
unfolding calling
call_named q none x a = go (result (plain q) x.words).reply refl (result_may (plain q) x.words)
  where
    names : (q : Request) (n k : ℕ) → (result (plain q) x.words).reply ≡ accepted (started n) k → May q (accepted (started n) k) → Names (thread_of q) n
    names (start_enqueue t v) n k e m = started_names t v n k x.words e
    names start_dequeue n k e m = absurd (omega arith)
    names (start_drain l) n k e m = absurd (omega arith)
    names (step t) n k e m = absurd (omega arith)

    go : (r : Response) → (result (plain q) x.words).reply ≡ r → May q r → Named (events q x.history r ++ x.history)
    go (refused n) e m = a
    go (accepted ok k) e m = a
    go (accepted (started n) k) e m = (names q n k e m, a)
    go (accepted going k) e m = a
    go (accepted ended k) e m = end_named (thread_of q) x.history x.history a a
    go (accepted empty k) e m = a
    go (accepted (item n w) k) e m = a
    go (accepted (drained xs) k) e m = a

open_named : (z : Sizes) (x : Session) → Named x.history → Named (opening z x).session.history
unfolding opening
open_named z x a = go (open_store z x.words).reply
  where
    go : (r : Response) → Named (reopened r x.history)
    go (refused n) = a
    go (accepted r k) = tt

pub lines_named : (ls : List (List ℕ)) → Named (run_lines ls start).session.history
lines_named ls = after_lines (λ x. Named x.history) open_named call_named ls start tt
