-- What the judge's parts give together: the pass over the calls and the last test decide, and where the calls are explained their order
-- may be laid.
use mathlib.Core.Path.{◌≡◌, refl, ap, sym, ◌∙◌}
use mathlib.Core.Bool.{Bool, true, false}
use mathlib.Core.List.{List, []}
use mathlib.Core.Option as math
use mathlib.Core.Option.{none, some}
use Prim.Native.Nat.{ℕ, zero, suc, ◌≤◌, ◌<◌}
use native.Mathlib.Omega.{arith}
use lib.ListN.{length}
use Rattle.std.specs.Prelude.{Option, None, Some}
use Rattle.history.specs.Lists.{All, Pairwise}
use Rattle.history.specs.Calls as history
use Rattle.history.specs.Calls.{start_of, calls}
use Rattle.criterion.specs.Pass.{passes, explains}
use Rattle.criterion.specs.Apart.{starts_rise}
use Rattle.criterion.specs.Order.{order_numbers}
use Rattle.criterion.specs.Shown.{order_fits}
use Rattle.reading.specs.Build.{build}
use Rattle.reading.specs.Table.{start_at, end_at, answer_at, thread_at, number_at, value_at, call_of, call_at, calls_in}
use Rattle.reading.proofs.Builds.{length_build}
use Rattle.marking.specs.Pass.{State, at_first, passed, last_test}
use Rattle.marking.specs.Marks.{Flagged, marked, Marks}
use Rattle.marking.proofs.Passing.{passes_is}
use Rattle.laying.specs.Laying.{Laying}
use Rattle.judge.specs.declared.Call.{Call}
use Rattle.judge.specs.Working.{Ready, all_stay}
use Rattle.judge.proofs.Staying.{all_stay_as}

-- The starts of the calls in the memory rise with those of the history.
start_of_lem : (t n v s e a : ℕ) → start_of (call_of t n v s e a) ≡ s
start_of_lem zero n v s e a = refl
start_of_lem (suc t) n v s e a = refl

module _ {A : Type 0} where
  all_built : (P : A → Type 0) (f : ℕ → A) (c j : ℕ) → j < c → All P (build f c) → P (f j)
  all_built P f zero j l p = absurd (omega arith)
  all_built P f (suc c) zero l p = p.0
  all_built P f (suc c) (suc j) l p = all_built P (λ k. f (suc k)) c j (omega arith) p.1

  pairwise_built : (R : A → A → Type 0) (f : ℕ → A) (c i j : ℕ) → i < j → j < c → Pairwise R (build f c) → R (f i) (f j)
  pairwise_built R f zero i j k l p = absurd (omega arith)
  pairwise_built R f (suc c) i zero k l p = absurd (omega arith)
  pairwise_built R f (suc c) zero (suc j) k l p = all_built (R (f 0)) (λ n. f (suc n)) c j (omega arith) p.0
  pairwise_built R f (suc c) (suc i) (suc j) k l p = pairwise_built R (λ n. f (suc n)) c i j (omega arith) (omega arith) p.1

starts_in : (m : List ℕ) (j : ℕ) → start_of (call_at m j) ≡ start_at m j
starts_in m j = start_of_lem (thread_at m j) (number_at m j) (value_at m j) (start_at m j) (end_at m j) (answer_at m j)

starts_rising :
    (m : List ℕ) (c : ℕ) → Pairwise (λ a b. start_of a < start_of b) (calls_in m c) → (i j : ℕ) → i < j → j < c → start_at m i < start_at m j
starts_rising m c p i j k l = omega (arith, pairwise_built (λ a b. start_of a < start_of b) (call_at m) c i j k l p, starts_in m i, starts_in m j)

-- The verdict on the calls, from the mark that the pass leaves and the last test.
module _ (m : List ℕ) (table : List Call) (c room : ℕ) (ready : Ready m table c room) (flags : List Bool) (items : List ℕ) (r : Option ℕ)
    (marks : Marks m c flags items r) where
  abbrev cs : List history.Call
  cs = calls_in m c

  by_pass : passes cs cs 0 [] ≡ last_test cs (passed cs)
  by_pass = passes_is cs cs at_first

  pub fails : r ≡ None → passes cs cs 0 [] ≡ false
  fails is = by_pass ∙ go (passed cs) (sym is ∙ marks.replies)
    where
      go : (o : math.Option State) → None ≡ marked o → last_test cs o ≡ false
      go none e = refl
      go (some s) e = absurd (cc)

  module _ (mark : ℕ) (is : r ≡ Some mark) (stays : Bool) (test : stays ≡ all_stay table flags mark c) where
    pub decided : stays ≡ passes cs cs 0 []
    decided = test ∙ go (passed cs) (sym is ∙ marks.replies) marks.flags_then ∙ sym by_pass
      where
        go : (o : math.Option State) → Some mark ≡ marked o → Flagged m c flags o → all_stay table flags mark c ≡ last_test cs o
        go none e g = absurd (cc)
        go (some s) e g =
            let same : mark ≡ s.mark = cc in
            rw same (all_stay_as m c flags s.given g s.mark table ready.entries c (omega arith))

    fits : stays ≡ true → length (order_numbers cs) ≤ c
    unfolding explains
    fits holds =
        let explained : passes (calls ready.judged) (calls ready.judged) 0 [] ≡ true = rw ready.are_calls at (sym decided ∙ holds) in
        let few = order_fits ready.judged ready.formed explained in
        rw ready.are_calls (omega (arith, few, ap length ready.are_calls, length_build (call_at m) c))

    pub may_lay : stays ≡ true → Laying m items c room
    may_lay holds = record {
      few = ready.few;
      numbered = ready.numbered;
      located = marks.located mark is;
      rising = starts_rising m c (rw ready.are_calls (starts_rise ready.judged ready.formed));
      fits = omega (arith, fits holds, ready.enough_room);
    }

    pub short : stays ≡ true → length (order_numbers cs) ≤ 4096
    short holds = omega (arith, fits holds, ready.few)
