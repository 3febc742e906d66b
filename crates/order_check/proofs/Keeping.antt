-- The whole check from its parts: the walk begins with nothing listed, the flags that it leaves tell whether all ended calls are kept,
-- and the reply follows.
use mathlib.Core.Path.{◌≡◌, refl, sym, ap, ◌∙◌}
use mathlib.Core.Bool.{Bool, true, false, ◌&&◌, ◌||◌, and-true, and_assoc}
use mathlib.Core.List.{List, [], ◌∷◌, ◌++◌, map}
use Prim.Native.Nat.{ℕ, zero, suc, ◌+◌, ◌/◌, ◌≤◌}
use native.Mathlib.Omega.{arith}
use native.Mathlib.Numerals.{add-one}
use lib.Dec.{eqb, leb-zero}
use lib.ListN.{length, get_or, replicate, length-replicate, get_or-replicate, get_or-eq_default}
use mathlib.Core.Logic.{inl, inr}
use Rattle.std.specs.Prelude.{Result, Ok, Err}
use Rattle.std.specs.List.{list_all, range_with_len}
use Rattle.std.proofs.lemmas.List.Folds.{list_all-append, list_all-map}
use Rattle.std.proofs.lemmas.List.FromFn.{map-range_with_len_more}
use Rattle.history.specs.Event.{History}
use Rattle.history.specs.Calls.{Call, end_of, calls}
use Rattle.history.specs.Form.{Reading, refused, history, most_events, read}
use Rattle.reading.specs.declared.Refusal.{Refusal}
use Rattle.reading.specs.Refusal.{refusal_number, numbered}
use Rattle.reading.specs.Table.{end_at, thread_at, call_at, calls_in}
use Rattle.reading.specs.Steps.{entered, Read}
use Rattle.reading.proofs.Builds.{build_snoc, length_build}
use Rattle.reading.proofs.Logic.{at_most_or_above}
use Rattle.reading.specs.Admitted.{Admitted, read_lets_through}
use Rattle.order_check.specs.Check.{has, orderly, keeps, is_order, checked}
use Rattle.order_check.specs.Walk.{Seen, Walked, Walks, kept_at, all_seen}
use Rattle.order_check.proofs.Performing.{end_is}

none_at : (n i : ℕ) → get_or (replicate n false) i false ≡ false
none_at n i = elim (at_most_or_above n i) [
  | inl l ↦ get_or-eq_default (replicate n false) false (rw length-replicate l)
  | inr l ↦ get_or-replicate n i false false l
]

pub nothing_walked : (m ns : List ℕ) (c n : ℕ) → n ≡ 4096 → Walked m ns (replicate n false) c (record { latest = 0; front = 0 }) 0
unfolding orderly
nothing_walked m ns c n e = record {
  within = omega arith;
  so_far = refl;
  seen_are = record { size = length-replicate n false ∙ e; flagged = λ j l. sym (none_at n j) };
  latest_is = λ t. sym (leb-zero t);
  front_within = omega arith;
  queue_is = refl;
}

-- one call more
keeps_last :
    (k i : ℕ) (cs : List Call) (x : Call) (ns : List ℕ) → k + length cs ≡ i
    → keeps k (cs ++ (x ∷ [])) ns ≡ (keeps k cs ns && (eqb (end_of x) 0 || has i ns))
keeps_last k i [] x ns e =
    let z : k ≡ i = omega arith in
    and-true (eqb (end_of x) 0 || has k ns) ∙ ap (λ j. eqb (end_of x) 0 || has j ns) z
keeps_last k i (c ∷ cs) x ns e =
    ap (λ b. (eqb (end_of c) 0 || has k ns) && b) (keeps_last (suc k) i cs x ns (omega arith))
    ∙ sym (and_assoc (eqb (end_of c) 0 || has k ns) (keeps (suc k) cs ns) (eqb (end_of x) 0 || has i ns))

all_seen_more : (m : List ℕ) (seen : List Bool) (i : ℕ) → all_seen m seen (suc i) ≡ (all_seen m seen i && kept_at m seen i)
all_seen_more m seen i =
    let f = kept_at m seen in
    let one = and-true (f i) in
    sym (list_all-map (λ b. b) f (range_with_len 0 (suc i)))
    ∙ ap (λ n. list_all (λ b. b) (map f (range_with_len 0 n))) (sym (add-one i))
    ∙ ap (list_all (λ b. b)) (map-range_with_len_more f 0 i i (omega arith))
    ∙ list_all-append (λ b. b) (map f (range_with_len 0 i)) (f i ∷ [])
    ∙ ap (λ b. list_all (λ b. b) (map f (range_with_len 0 i)) && b) one
    ∙ ap (λ b. b && f i) (list_all-map (λ b. b) f (range_with_len 0 i))

keeps_seen : (m : List ℕ) (seen : List Bool) (ns : List ℕ) (c : ℕ) → Seen c seen ns → (i : ℕ) → i ≤ c → keeps 1 (calls_in m i) ns ≡ all_seen m seen i
keeps_seen m seen ns c s zero l = refl
keeps_seen m seen ns c s (suc i) l =
    ap (λ cs. keeps 1 cs ns) (build_snoc (call_at m) i)
    ∙ keeps_last 1 (suc i) (calls_in m i) (call_at m i) ns (ap (λ x. 1 + x) (length_build (call_at m) i) ∙ omega arith)
    ∙ ap (λ b. b && (eqb (end_of (call_at m i)) 0 || has (suc i) ns)) (keeps_seen m seen ns c s i (omega arith))
    ∙ ap (λ e. all_seen m seen i && (eqb e 0 || has (suc i) ns)) (end_is _ _ _ _ _ (thread_at m i))
    ∙ ap (λ b. all_seen m seen i && (eqb (end_at m i) 0 || b)) (s.flagged i l)
    ∙ sym (all_seen_more m seen i)

module _ (m ns : List ℕ) (seen : List Bool) (c : ℕ) (r : Bool) (walks : Walks m ns seen c r) where
  abbrev tests : Bool
  tests = orderly (calls_in m c) ns && keeps 1 (calls_in m c) ns

  pub flags_decide : r ≡ true → (all : Bool) → all ≡ all_seen m seen c → all ≡ tests
  flags_decide t all e =
      e
      ∙ sym (keeps_seen m seen ns c (walks.seen_are t) c (omega arith))
      ∙ ap (λ b. b && keeps 1 (calls_in m c) ns) (sym t ∙ walks.decides)

-- The reply, from what reading gives and what the tests say.
module _ (words m : List ℕ) (e : Result ℕ Refusal) (reads : Read (read most_events words) (length words / 4) m e) where
  pub refuses : (ns : List ℕ) (refusal : Refusal) → e ≡ Err refusal → Err (refusal_number refusal) ≡ checked (read most_events words) ns
  refuses ns refusal i = go (read most_events words) refl
    where
      go : (x : Reading) → read most_events words ≡ x → Err (refusal_number refusal) ≡ checked (read most_events words) ns
      go (refused k) f =
          let z : ◌≡◌ {A = Result ℕ ℕ} (Err (refusal_number refusal)) (Err k) = ap numbered (sym i) ∙ reads.replies ∙ ap entered f in
          ap Err (cc) ∙ sym (ap (λ x. checked x ns) f)
      go (history h) f =
          let z : Err (refusal_number refusal) ≡ Ok (length (calls h)) = ap numbered (sym i) ∙ reads.replies ∙ ap entered f in
          cc

  module _ (c : ℕ) (i : e ≡ Ok c) where
    -- the history that was read
    as_history : (h : History) × (read most_events words ≡ history h) × (c ≡ length (calls h))
    as_history = go (read most_events words) refl
      where
        go : (x : Reading) → read most_events words ≡ x → (h : History) × (read most_events words ≡ history h) × (c ≡ length (calls h))
        go (refused k) f = let z : Ok c ≡ Err k = ap numbered (sym i) ∙ reads.replies ∙ ap entered f in cc
        go (history h) f =
            let z : ◌≡◌ {A = Result ℕ ℕ} (Ok c) (Ok (length (calls h))) = ap numbered (sym i) ∙ reads.replies ∙ ap entered f in
            (h, f, cc)

    pub few_calls : c ≤ 4096
    few_calls =
        let a = as_history in
        let l : Admitted most_events a.0 = rw a.1 at (read_lets_through most_events words) in
        rw a.2 l.few

    pub replies : (ns : List ℕ) (r : Bool) → r ≡ (orderly (calls_in m c) ns && keeps 1 (calls_in m c) ns) → Ok r ≡ checked (read most_events words) ns
    unfolding is_order
    replies ns r t =
        let a = as_history in
        let z : calls_in m c ≡ calls a.0 = ap (calls_in m) a.2 ∙ (reads.holds a.0 a.1).are_calls in
        ap Ok (t ∙ ap (λ cs. orderly cs ns && keeps 1 cs ns) z) ∙ sym (ap (λ x. checked x ns) a.1)
