-- Laws of `build`, the list of a function's first values.
use mathlib.Core.Path.{◌≡◌, refl, ap}
use mathlib.Core.Bool.{Bool, true, false, ◌||◌}
use mathlib.Core.List.{[], ◌∷◌, ◌++◌, map}
use Prim.Native.Nat.{ℕ, zero, suc, ◌<◌, suc-le-suc}
use native.Mathlib.Omega.{arith}
use lib.ListN.{length, get_or, drop}
use Rattle.history.specs.Calls.{Call}
use Rattle.history.specs.Form.{any}
use Rattle.reading.specs.Build.{build}

module _ {A : Type 0} where
  pub build_same : (f g : ℕ → A) (n : ℕ) → ((j : ℕ) → j < n → f j ≡ g j) → build f n ≡ build g n
  build_same f g zero h = refl
  build_same f g (suc n) h =
      let head = h 0 (omega arith) in
      let tail = build_same (λ j. f (suc j)) (λ j. g (suc j)) n (λ j l. h (suc j) (suc-le-suc l)) in
      cc

  pub build_snoc : (f : ℕ → A) (n : ℕ) → build f (suc n) ≡ build f n ++ (f n ∷ [])
  build_snoc f zero = refl
  build_snoc f (suc n) = ap (λ l. f 0 ∷ l) (build_snoc (λ j. f (suc j)) n)

  pub length_build : (f : ℕ → A) (n : ℕ) → length (build f n) ≡ n
  length_build f zero = refl
  length_build f (suc n) = ap suc (length_build (λ j. f (suc j)) n)

  pub get_d_build : (f : ℕ → A) (n i : ℕ) (d : A) → i < n → get_or (build f n) i d ≡ f i
  get_d_build f zero i d l = absurd (omega arith)
  get_d_build f (suc n) zero d l = refl
  get_d_build f (suc n) (suc i) d l = get_d_build (λ j. f (suc j)) n i d (omega arith)

  pub drop_build : (f : ℕ → A) (n i : ℕ) → i < n → drop i (build f n) ≡ f i ∷ drop (suc i) (build f n)
  drop_build f zero i l = absurd (omega arith)
  drop_build f (suc n) zero l = refl
  drop_build f (suc n) (suc i) l = drop_build (λ j. f (suc j)) n i (omega arith)

  pub drop_built : (f : ℕ → A) (n : ℕ) → drop n (build f n) ≡ []
  drop_built f zero = refl
  drop_built f (suc n) = drop_built (λ j. f (suc j)) n

module _ {A B : Type 0} where
  pub map_build : (g : A → B) (f : ℕ → A) (n : ℕ) → map g (build f n) ≡ build (λ j. g (f j)) n
  map_build g f zero = refl
  map_build g f (suc n) = ap (λ l. g (f 0) ∷ l) (map_build g (λ j. f (suc j)) n)

or_true : (b : Bool) → (b || true) ≡ true
or_true true = refl
or_true false = refl

pub none_of : (p : Call → Bool) (f : ℕ → Call) (n : ℕ) → ((j : ℕ) → j < n → p (f j) ≡ false) → any p (build f n) ≡ false
none_of p f zero h = refl
none_of p f (suc n) h = rw (h 0 (omega arith)) (none_of p (λ j. f (suc j)) n (λ j l. h (suc j) (suc-le-suc l)))

pub one_of : (p : Call → Bool) (f : ℕ → Call) (n i : ℕ) → i < n → p (f i) ≡ true → any p (build f n) ≡ true
one_of p f zero i l e = absurd (omega arith)
one_of p f (suc n) zero l e = rw e
one_of p f (suc n) (suc i) l e = rw (one_of p (λ j. f (suc j)) n i (omega arith) e) (or_true (p (f 0)))
