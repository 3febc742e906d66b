-- A line that grows and flags that are set, one call at a time.
use mathlib.Core.Path.{◌≡◌, refl, sym, ap, ◌∙◌}
use mathlib.Core.Logic.{◌⊎◌, inl, inr, ◌≢◌}
use mathlib.Core.Bool.{Bool, true, false, ◌&&◌, ◌||◌, not, cond, or_assoc, false≢true}
use mathlib.Core.List.{List, [], ◌∷◌, ◌++◌, append-nil, append_assoc}
use Prim.Native.Nat.{ℕ, ◌+◌, ◌≤◌, ◌<◌}
use native.Mathlib.Omega.{arith}
use native.Mathlib.Numerals.{add-one}
use lib.Dec.{eqb}
use lib.ListN.{length, get_or, set, length-set, length-append}
use lib.Seq.{get_or-set_same, get_or-set_other}
use borrow.Author.Tests.{eqb-true, eqb-false, eq-eqb, ne_eqb}
use Rattle.criterion.specs.Pass.{has}
use Rattle.reading.specs.Table.{end_at, answer_at, thread_at}
use Rattle.reading.proofs.Logic.{same_or_not}
use Rattle.laying.specs.Line.{gather_to, gives_at, item_at, is_left, left_at, Flags, Notes}
use Rattle.laying.proofs.Lining.{has_append, short_gather}

or_false : (b : Bool) → b ≡ (b || false)
or_false true = refl
or_false false = refl

or_true : (b : Bool) → true ≡ (b || true)
or_true true = refl
or_true false = refl

-- none is flagged, one is, and some and then some more
flags_none : (flags : List Bool) → Flags flags flags []
flags_none flags = record { size = refl; flagged = λ i l. or_false (get_or flags i false) }

flags_one : (flags : List Bool) (i : ℕ) → length flags ≡ 4096 → Flags flags (set flags i true) (i ∷ [])
flags_one flags i e = record { size = length-set flags i true; flagged = λ k l. go k l (same_or_not k i) }
  where
    go : (k : ℕ) → k < 4096 → (k ≡ i) ⊎ (k ≢ i) → get_or (set flags i true) k false ≡ (get_or flags k false || (eqb i k || false))
    go k l (inl q) =
        let a = get_or-set_same flags i true false (omega arith) in
        let b = eq-eqb i i refl in
        rw (q, a, b) (or_true (get_or flags i false))
    go k l (inr d) =
        let a = get_or-set_other flags i k true false d in
        let b = ne_eqb i k (λ z. d (sym z)) in
        rw (a, b) (or_false (get_or flags k false))

flags_more : (flags flags' flags'' : List Bool) (xs ys : List ℕ) → Flags flags flags' xs → Flags flags' flags'' ys → Flags flags flags'' (xs ++ ys)
flags_more flags flags' flags'' xs ys a b = record {
  size = b.size ∙ a.size;
  flagged = λ i l.
      b.flagged i l
      ∙ ap (λ z. z || has i ys) (a.flagged i l)
      ∙ or_assoc (get_or flags i false) (has i xs) (has i ys)
      ∙ ap (λ z. get_or flags i false || z) (sym (has_append i xs ys));
}

-- one call more: its item goes into the line, or it gave none
module _ (m items line line' : List ℕ) (flags flags' : List Bool) (j : ℕ) (was : Notes line line' flags flags' (gather_to (item_at m items) j)) where
  pub notes_item :
      (next : List ℕ) (marked : List Bool) → length flags ≡ 4096 → gives_at m j ≡ true → next ≡ line' ++ get_or items j 0 ∷ []
      → marked ≡ set flags' (get_or items j 0) true → Notes line next flags marked (gather_to (item_at m items) (j + 1))
  notes_item next marked size gives e f =
      let i = get_or items j 0 in
      let xs = gather_to (item_at m items) j in
      rw (add-one j, gives, e, f)
      (record {
        lined = ap (λ z. z ++ i ∷ []) was.lined ∙ append_assoc line xs (i ∷ []);
        noted = flags_more flags flags' (set flags' i true) xs (i ∷ []) was.noted (flags_one flags' i (was.noted.size ∙ size));
      })

  pub notes_same : gives_at m j ≡ false → Notes line line' flags flags' (gather_to (item_at m items) (j + 1))
  notes_same gives = rw (add-one j, gives, append-nil (gather_to (item_at m items) j)) was

-- the same of a call that is left, or is not
module _ (m line line' : List ℕ) (flags : List Bool) (i : ℕ) (was : line' ≡ line ++ gather_to (left_at m flags) i) where
  pub left_more : (next : List ℕ) → is_left m flags i ≡ true → next ≡ line' ++ i ∷ [] → next ≡ line ++ gather_to (left_at m flags) (i + 1)
  left_more next left e = rw (add-one i, left) (e ∙ ap (λ z. z ++ i ∷ []) was ∙ append_assoc line (gather_to (left_at m flags) i) (i ∷ []))

  pub left_same : is_left m flags i ≡ false → line' ≡ line ++ gather_to (left_at m flags) (i + 1)
  left_same left = rw (add-one i, left, append-nil (gather_to (left_at m flags) i)) was

-- what a call gives, by the test
module _ (m items : List ℕ) (flags : List Bool) (j : ℕ) where
  pub gives_means : gives_at m j ≡ true → (thread_at m j ≡ 0) × (end_at m j ≢ 0) × (answer_at m j ≢ 0)
  gives_means d = go (eqb (thread_at m j) 0) (eqb (end_at m j) 0) (eqb (answer_at m j) 0) refl refl refl d
    where
      go :
          (a b c : Bool) → eqb (thread_at m j) 0 ≡ a → eqb (end_at m j) 0 ≡ b → eqb (answer_at m j) 0 ≡ c
          → (a && not b && not c) ≡ true → (thread_at m j ≡ 0) × (end_at m j ≢ 0) × (answer_at m j ≢ 0)
      go true false false p q r d = (eqb-true _ _ p, eqb-false _ _ q, eqb-false _ _ r)
      go true false true p q r d = absurd (false≢true d)
      go true true c p q r d = absurd (false≢true d)
      go false b c p q r d = absurd (false≢true d)

  item_short : length (item_at m items j) ≤ 1
  item_short = go (gives_at m j)
    where
      go : (b : Bool) → length (cond b (get_or items j 0 ∷ []) []) ≤ 1
      go true = omega arith
      go false = omega arith

  left_short : length (left_at m flags j) ≤ 1
  left_short = go (is_left m flags j)
    where
      go : (b : Bool) → length (cond b (j ∷ []) []) ≤ 1
      go true = omega arith
      go false = omega arith

-- how long the line is, after some calls
pub items_short :
    (m items line line' : List ℕ) (n : ℕ) → line' ≡ line ++ gather_to (item_at m items) n → length line' ≤ length line + n
items_short m items line line' n e =
    let s = short_gather (item_at m items) (item_short m items []) n in
    let l = length-append line (gather_to (item_at m items) n) in
    rw e (omega arith)

pub lefts_short :
    (m line line' : List ℕ) (flags : List Bool) (n : ℕ) → line' ≡ line ++ gather_to (left_at m flags) n → length line' ≤ length line + n
lefts_short m line line' flags n e =
    let s = short_gather (left_at m flags) (left_short m [] flags) n in
    let l = length-append line (gather_to (left_at m flags) n) in
    rw e (omega arith)
