-- Words past the store are never written (document 01, "Store"): no call, *open* included, changes one of them, and none changes how many
-- words there are.
use Rattle.std.specs.Prelude.{◌≡◌, refl, true, ◌&&◌, List, ◌++◌, ℕ, ◌+◌, ◌-◌, ◌≤◌, leb, length, get_or, drop, replicate}
use Rattle.std.proofs.Common.{ap, sym, ◌∙◌, subst, arith, length-append, length-drop, get_or-drop, drop_at, leb-true}
use Rattle.std.proofs.lemmas.List.{length-replicate}
use Rattle.history.specs.Lists.{All}
use Rattle.rules.specs.Sizes.{Sizes, between, sizes_in_range, store_words}
use Rattle.rules.specs.Cell.{reader}
use Rattle.rules.specs.Rule.{Effect}
use Rattle.rules.specs.Request.{Request, Invocation, applied, open_writes, opened, open_store, effect, steps_so_far, sizes_of, admitted, result}
use Rattle.rules.specs.Update.{both}
use Rattle.rules.specs.Readback.{WriteThere, length_writes, drop_writes}
use Rattle.rules.specs.Refusal.{by_applied, by_open}
use Rattle.refinement.specs.Effects.{Sound, admitted_sound}

-- The words after a call on a store of sizes z: as many as before, and past the store the same.
pub record Beyond (z : Sizes) (before after : List ℕ) : Type 0 where
  pub as_many : length after ≡ length before
  pub same : (k : ℕ) → store_words z ≤ k → get_or after k 0 ≡ get_or before k 0

unchanged : (z : Sizes) (m : List ℕ) → Beyond z m m
unchanged z m = record { as_many = refl; same = λ k h. refl }

-- what stands from the store's end on is the same
behind : (z : Sizes) (m n : List ℕ) → length n ≡ length m → drop (store_words z) n ≡ drop (store_words z) m → Beyond z m n
behind z m n l e = record { as_many = l; same = same }
  where
    at : (w : List ℕ) (k : ℕ) → store_words z ≤ k → get_or (drop (store_words z) w) (k - store_words z) 0 ≡ get_or w k 0
    at w k h =
        let p : store_words z + (k - store_words z) ≡ k = omega arith in
        get_or-drop (store_words z) w (k - store_words z) 0 ∙ ap (λ (j : ℕ). get_or w j 0) p

    same : (k : ℕ) → store_words z ≤ k → get_or n k 0 ≡ get_or m k 0
    same k h = sym (at n k h) ∙ ap (λ (w : List ℕ). get_or w (k - store_words z) 0) e ∙ at m k h

applied_beyond : (k : ℕ) (z : Sizes) (q : Request) (m b : List ℕ) (i : ℕ) (a : Effect) → Sound z q a → Beyond z m (applied k z m b i a).words
applied_beyond k z q m b i a s =
    by_applied (λ r. Beyond z m r.words) k z m b i a
    (λ n e. unchanged z m)
    (λ r ws e short. unchanged z m)
    (λ r ws e long. behind z m _ (length_writes z m ws) (drop_writes z m ws (subst (Sound z q) e s).1))

two_records : (z : Sizes) → sizes_in_range z ≡ true → 2 ≤ z.N
two_records z e =
    let p = both (between 2 64 z.B && between 2 64 z.N && between 1 16 z.P) (between 1 1000000 z.M) e in
    let q = both (between 2 64 z.B && between 2 64 z.N) (between 1 16 z.P) p.0 in
    let r = both (between 2 64 z.B) (between 2 64 z.N) q.0 in
    leb-true 2 z.N (both (leb 2 z.N) (leb z.N 64) r.1).0

opened_beyond : (z : Sizes) (m : List ℕ) → sizes_in_range z ≡ true → store_words z ≤ length m → Beyond z m (opened z m)
unfolding opened
opened_beyond z m e l =
    let n = store_words z in
    let o = replicate n 0 ++ drop n m in
    let there : All (WriteThere z) (open_writes z) = omega (arith, two_records z e) in
    behind z m _
    (length_writes z o (open_writes z) ∙ simp (length-append, length-replicate, length-drop) (omega arith))
    (drop_writes z o (open_writes z) there ∙ drop_at (replicate n 0) (drop n m) n (length-replicate n 0))

-- Every call, on any words m.
pub words_beyond : (m : List ℕ)
    → ((z : Sizes) → Beyond z m (open_store z m).words) × ((v : Invocation) → Beyond (sizes_of m) m (result v m).words)
unfolding result
words_beyond m = (
  (λ z. by_open (λ r. Beyond z m r.words) z m (λ n h. unchanged z m) (opened_beyond z m)),
  (λ v.
      applied_beyond (steps_so_far v.request (reader (sizes_of m) m)) (sizes_of m) v.request m v.buffer v.from (admitted m (effect v.request))
      (admitted_sound v.request m)),
)
