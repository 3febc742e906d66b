-- The last test over the filled table is that of the verdict's pass.
use mathlib.Core.Path.{◌≡◌, refl, ap, sym, ◌∙◌}
use mathlib.Core.Bool.{Bool, true, false, ◌&&◌, ◌||◌, and_assoc}
use mathlib.Core.List.{List, [], ◌∷◌, ◌++◌}
use Prim.Native.Nat.{ℕ, zero, suc, ◌≤◌, ◌<◌}
use native.Mathlib.Omega.{arith}
use lib.Dec.{eqb, leb}
use lib.ListN.{get_or}
use Rattle.history.specs.Calls as history
use Rattle.history.specs.Calls.{enq, deq, row}
use Rattle.criterion.specs.Pass.{has, past, leaves}
use Rattle.reading.specs.Table.{start_at, end_at, answer_at, thread_at, number_at, value_at, call_of, call_at, calls_in}
use Rattle.reading.proofs.Builds.{build_snoc}
use Rattle.marking.specs.Marks.{Given}
use Rattle.judge.specs.declared.Call.{Call}
use Rattle.judge.specs.Contract.{entry}
use Rattle.judge.specs.Working.{no_call, entry_in, stays_at, all_stay}

and_true : (b : Bool) → (b && true) ≡ b
and_true true = refl
and_true false = refl

leaves_snoc :
    (mark : ℕ) (given : List ℕ) (cs : List history.Call) (c : history.Call)
    → leaves mark given (cs ++ (c ∷ [])) ≡ (leaves mark given cs && leaves mark given (c ∷ []))
leaves_snoc mark given [] c = refl
leaves_snoc mark given (enq x ∷ cs) c =
    rw (leaves_snoc mark given cs c) (sym (and_assoc (has x.number given || past mark x) (leaves mark given cs) (leaves mark given (c ∷ []))))
leaves_snoc mark given (deq d ∷ cs) c = leaves_snoc mark given cs c

-- on one entry
stays_as :
    (mark : ℕ) (given : List ℕ) (flag : Bool) (t n v s e a : ℕ) → has n given ≡ flag
    → stays_at (entry (row (call_of t n v s e a))) flag mark ≡ leaves mark given (call_of t n v s e a ∷ [])
stays_as mark given flag zero n v s e a f = refl
stays_as mark given flag (suc t) n v s e a f = rw f (sym (and_true (flag || (eqb e 0 || leb mark e))))

module _ (m : List ℕ) (c : ℕ) (flags : List Bool) (given : List ℕ) (known : Given m c flags given) (mark : ℕ) (table : List Call)
    (entries : (j : ℕ) → j < c → get_or table j no_call ≡ entry_in m j) where
  pub all_stay_as : (n : ℕ) → n ≤ c → all_stay table flags mark n ≡ leaves mark given (calls_in m n)
  all_stay_as zero l = refl
  all_stay_as (suc n) l =
      let here = stays_as mark given (get_or flags n false) (thread_at m n) (number_at m n) (value_at m n) (start_at m n) (end_at m n) (answer_at m n) (known.flagged n l) in
      rw (all_stay_as n (omega arith), entries n l, here)
      (sym (leaves_snoc mark given (calls_in m n) (call_at m n)) ∙ ap (leaves mark given) (sym (build_snoc (call_at m) n)))
