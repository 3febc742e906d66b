-- The same calls, quicker to compute: the drain area is tested along the words. (`Range` tests it cell by cell, and looks each of its 128 words
-- up from the store's first word.) For the tables of runs.
use Rattle.std.specs.Prelude.{◌≡◌, refl, Bool, true, false, ◌&&◌, not, cond, List, [], ◌∷◌, ℕ, zero, suc, ◌+◌, ◌*◌, ◌<◌, leb, ltb, eqb, length, get_or, drop}
use Rattle.std.proofs.Common.{ap, ap₂, sym, ◌∙◌, arith, get_or-drop}
use Rattle.std.proofs.Math.Seq.{drop-nil}
use Rattle.rules.specs.Sizes.{Sizes, sizes_in_range, most_drained, first_drain, store_words}
use Rattle.rules.specs.Cell.{Reader, reader, pair, consumer_phase, drain_limit, drain_count}
use Rattle.rules.specs.Range.{of_sorts, every, pair_sorts, no_pair_sorts, pair_in_range, threads_in_range, records_in_range, in_range}
use Rattle.rules.specs.Rule.{Effect, refuse}
use Rattle.rules.specs.Request.{Invocation, Result, applied, effect, sizes_of, admitted, steps_so_far, result}
use Rattle.rules.specs.Play.{Played, history_with, cells_of, play_one, play, steps_with, steps_made}
use Rattle.rules.specs.Address.{there_is}

-- a pair of words in range
abbrev pair_test : Sizes → (c i x y : ℕ) → Bool
pair_test z c i x y = of_sorts z (λ k. cond (eqb k 0) x y) 0 (cond (ltb i c) pair_sorts no_pair_sorts)

-- n pairs along the words, from pair i on
abbrev pub along : Sizes → (c i n : ℕ) → List ℕ → Bool
along z c i zero ws = true
along z c i (suc n) ws = pair_test z c i (get_or ws 0 0) (get_or ws 1 0) && along z c (suc i) n (drop 2 ws)

-- the test passes at i, i + 1, .., n of them
abbrev from : (i n : ℕ) → (ℕ → Bool) → Bool
from i zero p = true
from i (suc n) p = p i && from (suc i) n p

and_true_right : (a : Bool) → (a && true) ≡ a
and_true_right true = refl
and_true_right false = refl

and_assoc : (a b c : Bool) → (a && (b && c)) ≡ (a && b && c)
and_assoc true b c = refl
and_assoc false b c = refl

from_last : (n i : ℕ) (p : ℕ → Bool) → from i (suc n) p ≡ (from i n p && p (i + n))
from_last zero i p = and_true_right (p i) ∙ ap p (omega arith)
from_last (suc n) i p =
    ap (λ (b : Bool). p i && b) (from_last n (suc i) p)
    ∙ and_assoc (p i) (from (suc i) n p) (p (suc i + n))
    ∙ ap (λ (k : ℕ). p i && from (suc i) n p && p k) (omega arith)

every_is : (n : ℕ) (p : ℕ → Bool) → every n p ≡ from 0 n p
every_is zero p = refl
every_is (suc n) p = ap₂ (λ (b : Bool) (k : ℕ). b && p k) (every_is n p) (omega arith) ∙ sym (from_last n 0 p)

from_same : (n i : ℕ) (p q : ℕ → Bool) → ((j : ℕ) → j < i + n → p j ≡ q j) → from i n p ≡ from i n q
from_same zero i p q h = refl
from_same (suc n) i p q h = ap₂ (λ (a b : Bool). a && b) (h i (omega arith)) (from_same n (suc i) p q (λ j l. h j (omega arith)))

drop_more : (k n : ℕ) (l : List ℕ) → drop k (drop n l) ≡ drop (n + k) l
drop_more k zero l = let e : k ≡ 0 + k = omega arith in ap (λ (x : ℕ). drop x l) e
drop_more k (suc n) [] = drop-nil k ∙ sym (drop-nil (suc n + k))
drop_more k (suc n) (x ∷ l) =
    let e : suc (n + k) ≡ suc n + k = omega arith in
    drop_more k n l ∙ ap (λ (j : ℕ). drop j (x ∷ l)) e

module _ (z : Sizes) (m : List ℕ) (s c : ℕ) where
  -- pair j of the area whose pairs begin at word s
  abbrev test : ℕ → Bool
  test j = pair_test z c j (get_or m (s + 2 * j) 0) (get_or m (s + 2 * j + 1) 0)

  along_is : (n i : ℕ) → along z c i n (drop (s + 2 * i) m) ≡ from i n test
  along_is zero i = refl
  along_is (suc n) i =
      let here : s + 2 * i + 0 ≡ s + 2 * i = omega arith in
      let next : s + 2 * i + 2 ≡ s + 2 * suc i = omega arith in
      ap₂ (λ (a b : Bool). a && b)
      (ap₂ (pair_test z c i) (get_or-drop (s + 2 * i) m 0 0 ∙ ap (λ (k : ℕ). get_or m k 0) here) (get_or-drop (s + 2 * i) m 1 0))
      (ap (along z c (suc i) n) (drop_more 2 (s + 2 * i) m ∙ ap (λ (k : ℕ). drop k m) next) ∙ along_is n (suc i))

-- one pair, cell by cell
pair_is : (z : Sizes) (m : List ℕ) (c j : ℕ) → j < most_drained
    → pair_in_range z c (λ i k. reader z m (pair i k)) j ≡ test z m (first_drain z + 2) c j
unfolding reader
pair_is z m c j h =
    go (ltb j c) (λ k. reader z m (pair j k)) _ _
    (rw (there_is z (pair j 0) (h, omega arith)) (ap (λ (k : ℕ). get_or m k 0) (omega arith)))
    (rw (there_is z (pair j 1) (h, omega arith)) (ap (λ (k : ℕ). get_or m k 0) (omega arith)))
  where
    go : (b : Bool) (row : ℕ → ℕ) (x y : ℕ) → row 0 ≡ x → row 1 ≡ y
        → of_sorts z row 0 (cond b pair_sorts no_pair_sorts) ≡ of_sorts z (λ k. cond (eqb k 0) x y) 0 (cond b pair_sorts no_pair_sorts)
    go true row x y e f = rw e refl
    go false row x y e f = rw (e, f) refl

-- the whole range
abbrev pub quick_range : Sizes → List ℕ → Bool
quick_range z m =
    let σ = reader z m in
    threads_in_range z σ
    && records_in_range z σ
    && (leb (σ drain_limit) (cond (eqb (σ consumer_phase) 0) 0 most_drained)
    && (leb (σ drain_count) (σ drain_limit) && along z (σ drain_count) 0 most_drained (drop (first_drain z + 2) m)))

range_is : (z : Sizes) (m : List ℕ) → in_range z (reader z m) ≡ quick_range z m
unfolding in_range
range_is z m =
    let σ : Reader = reader z m in
    let c : ℕ = σ drain_count in
    let first : first_drain z + 2 + 2 * 0 ≡ first_drain z + 2 = omega arith in
    ap
    (λ (b : Bool). threads_in_range z σ && records_in_range z σ && (leb (σ drain_limit) (cond (eqb (σ consumer_phase) 0) 0 most_drained) && (leb c (σ drain_limit) && b)))
    (every_is most_drained (pair_in_range z c (λ i k. σ (pair i k)))
    ∙ from_same most_drained 0 _ _ (λ j h. pair_is z m c j (omega arith))
    ∙ sym (along_is z m (first_drain z + 2) c most_drained 0)
    ∙ ap (λ (k : ℕ). along z c 0 most_drained (drop k m)) first)

abbrev pub quick_admitted : List ℕ → (Sizes → Reader → Effect) → Effect
quick_admitted m f =
    cond (ltb (length m) 16) (refuse 2)
    (cond (not (sizes_in_range (sizes_of m))) (refuse 3)
    (cond (ltb (length m) (store_words (sizes_of m))) (refuse 2)
    (cond (not (quick_range (sizes_of m) m)) (refuse 3) (f (sizes_of m) (reader (sizes_of m) m)))))

abbrev pub quick_result : Invocation → List ℕ → Result
quick_result v m =
    applied (steps_so_far v.request (reader (sizes_of m) m)) (sizes_of m) m v.buffer v.from (quick_admitted m (effect v.request))

pub result_is : (v : Invocation) (m : List ℕ) → result v m ≡ quick_result v m
unfolding result admitted
result_is v m =
    ap
    (λ (b : Bool).
    applied (steps_so_far v.request (reader (sizes_of m) m)) (sizes_of m) m v.buffer v.from
    (cond (ltb (length m) 16) (refuse 2)
    (cond (not (sizes_in_range (sizes_of m))) (refuse 3)
    (cond (ltb (length m) (store_words (sizes_of m))) (refuse 2)
    (cond (not b) (refuse 3) (effect v.request (sizes_of m) (reader (sizes_of m) m)))))))
    (range_is (sizes_of m) m)

-- one call, and lists of them
abbrev pub with_result : Invocation → Played → Result → Played
with_result v p r =
    record {
      words = r.words;
      replies = r.reply ∷ p.replies;
      history = history_with v.request (cells_of p.words) (cells_of r.words) r.reply p.history;
    }

abbrev pub quick_play : List Invocation → Played → Played
quick_play [] p = p
quick_play (v ∷ vs) p = quick_play vs (with_result v p (quick_result v p.words))

pub play_is : (vs : List Invocation) (p : Played) → play vs p ≡ quick_play vs p
unfolding play
play_is [] p = refl
play_is (v ∷ vs) p = play_is vs (play_one v p) ∙ ap (λ (r : Result). quick_play vs (with_result v p r)) (result_is v p.words)

abbrev pub quick_steps : (t : ℕ) → List Invocation → Played → (k : ℕ) → ℕ
quick_steps t [] p k = k
quick_steps t (v ∷ vs) p k =
    let r = quick_result v p.words in
    quick_steps t vs (with_result v p r) (steps_with t v.request r.reply k)

pub steps_are : (t : ℕ) (vs : List Invocation) (p : Played) (k : ℕ) → steps_made t vs p k ≡ quick_steps t vs p k
unfolding steps_made
steps_are t [] p k = refl
steps_are t (v ∷ vs) p k =
    steps_are t vs (play_one v p) (steps_with t v.request (result v p.words).reply k)
    ∙ ap (λ (r : Result). quick_steps t vs (with_result v p r) (steps_with t v.request r.reply k)) (result_is v p.words)
