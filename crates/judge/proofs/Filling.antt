-- The working table, entry by entry.
use mathlib.Core.Path.{◌≡◌, refl, ap, sym, ◌∙◌}
use mathlib.Core.Logic.{◌≢◌}
use mathlib.Core.List.{List, [], ◌∷◌, ◌++◌, append_assoc}
use Prim.Native.Nat.{ℕ, zero, suc, ◌≤◌, ◌<◌}
use native.Mathlib.Omega.{arith}
use lib.ListN.{length, drop, set, length-append, length-drop, get_or, get_or-append}
use lib.Seq.{drop-cons, set_at}
use Rattle.history.specs.Calls.{row}
use Rattle.judge.specs.declared.Call.{Call}
use Rattle.reading.specs.Build.{build}
use Rattle.reading.specs.Table.{start_at, end_at, answer_at, thread_at, number_at, value_at, call_of, call_at}
use Rattle.judge.specs.Working.{no_call, entry_in, filled}
use Rattle.reading.proofs.Builds.{build_snoc, length_build, get_d_build}

pub kind_dequeue : (t n v s e a : ℕ) → t ≡ 0 → 3 ≡ (row (call_of t n v s e a)).kind
kind_dequeue t n v s e a p = rw p

pub kind_enqueue : (t n v s e a : ℕ) → t ≢ 0 → 1 ≡ (row (call_of t n v s e a)).kind
kind_enqueue zero n v s e a d = absurd (d refl)
kind_enqueue (suc t) n v s e a d = refl

pub answer_enqueue : (t n v s e a : ℕ) → t ≢ 0 → 0 ≡ (row (call_of t n v s e a)).answer
answer_enqueue zero n v s e a d = absurd (d refl)
answer_enqueue (suc t) n v s e a d = refl

pub answer_under_way : (t n v s e a : ℕ) → t ≡ 0 → e ≡ 0 → 0 ≡ (row (call_of t n v s e a)).answer
answer_under_way t n v s e a p q = rw (p, q)

pub answer_ended : (t n v s e a : ℕ) → t ≡ 0 → e ≢ 0 → a ≡ (row (call_of t n v s e a)).answer
answer_ended t n v s zero a p d = absurd (d refl)
answer_ended t n v s (suc e) zero p d = rw p
answer_ended t n v s (suc e) (suc a) p d = rw p

start_of_lem : (t n v s e a : ℕ) → s ≡ (row (call_of t n v s e a)).start
start_of_lem zero n v s e a = refl
start_of_lem (suc t) n v s e a = refl

end_of : (t n v s e a : ℕ) → e ≡ (row (call_of t n v s e a)).end
end_of zero n v s e a = refl
end_of (suc t) n v s e a = refl

-- the entry of call j, field by field
pub entry_is :
    (m : List ℕ) (j kind answer : ℕ) → kind ≡ (row (call_at m j)).kind → answer ≡ (row (call_at m j)).answer
    → ◌≡◌ {A = Call} (record { kind = kind; start = start_at m j; end = end_at m j; answer = answer }) (entry_in m j)
entry_is m j kind answer k a =
    let s = start_of_lem (thread_at m j) (number_at m j) (value_at m j) (start_at m j) (end_at m j) (answer_at m j) in
    let e = end_of (thread_at m j) (number_at m j) (value_at m j) (start_at m j) (end_at m j) (answer_at m j) in
    λ i. record { kind = k i; start = s i; end = e i; answer = a i }

module _ (m : List ℕ) (table : List Call) where
  pub length_filled : (j : ℕ) → j ≤ length table → length (filled m j table) ≡ length table
  length_filled j l =
      let a = length-append (build (entry_in m) j) (drop j table) in
      let b = length_build (entry_in m) j in
      let c = length-drop j table in
      omega arith

  pub one_more : (j : ℕ) → j < length table → set (filled m j table) j (entry_in m j) ≡ filled m (suc j) table
  one_more j l =
      let x = entry_in m j in
      ap (λ t. set (build (entry_in m) j ++ t) j x) (drop-cons table j x l)
      ∙ set_at (build (entry_in m) j) _ (drop (suc j) table) x j (length_build (entry_in m) j)
      ∙ sym (append_assoc (build (entry_in m) j) (x ∷ []) (drop (suc j) table))
      ∙ ap (λ l. l ++ drop (suc j) table) (sym (build_snoc (entry_in m) j))

pub entry_there : (m : List ℕ) (c : ℕ) (table : List Call) (j : ℕ) → j < c → get_or (filled m c table) j no_call ≡ entry_in m j
entry_there m c table j l =
    get_or-append (build (entry_in m) c) (drop c table) no_call j (rw (length_build (entry_in m) c) l) ∙ get_d_build (entry_in m) c j no_call l
