-- A store in range is admitted: a call on it is answered by its own rules.
use Rattle.std.specs.Prelude.{◌≡◌, refl, Bool, true, false, not, List, ℕ, ◌≤◌, ltb, length}
use Rattle.std.proofs.Math.Path.{ap}
use Rattle.std.proofs.Common.{◌∙◌, arith, le-ltb}
use Rattle.std.proofs.Math.Bool.{cond}
use Rattle.rules.specs.Sizes.{Sizes, sizes_in_range, store_words}
use Rattle.rules.specs.Cell.{Reader, reader, content}
use Rattle.rules.specs.Range.{in_range, exactly}
use Rattle.rules.specs.Rule.{Effect, refuse}
use Rattle.rules.specs.Request.{sizes_of, admitted}
use Rattle.rules.specs.InRange.{InRange, range_of}
use Rattle.simulation.specs.Rows.{has_sort}

module _ (z : Sizes) (m : List ℕ) (range : InRange z (reader z m)) where
  pub sizes_are : sizes_of m ≡ z
  unfolding reader
  sizes_are =
      λ i. record {
        B = has_sort z (exactly z.B) (reader z m (content 0)) (range.words (content 0) (omega arith)) i;
        N = has_sort z (exactly z.N) (reader z m (content 1)) (range.words (content 1) (omega arith)) i;
        P = has_sort z (exactly z.P) (reader z m (content 2)) (range.words (content 2) (omega arith)) i;
        M = has_sort z (exactly z.M) (reader z m (content 3)) (range.words (content 3) (omega arith)) i;
      }

  pub admitted_is : sizes_in_range z ≡ true → store_words z ≤ length m → (f : Sizes → Reader → Effect) → admitted m f ≡ f z (reader z m)
  unfolding admitted
  admitted_is sizes fits f =
      ap by-sizes sizes_are
      ∙ passed (ltb (length m) 16) (sizes_in_range z) (ltb (length m) (store_words z)) (in_range z (reader z m)) (f z (reader z m))
      (le-ltb (length m) 16 (omega arith))
      sizes
      (le-ltb (length m) (store_words z) fits)
      (range_of z (reader z m) range)
    where
      by-sizes : Sizes → Effect
      by-sizes y =
          cond (ltb (length m) 16) (refuse 2)
          (cond (not (sizes_in_range y)) (refuse 3)
          (cond (ltb (length m) (store_words y)) (refuse 2)
          (cond (not (in_range y (reader y m))) (refuse 3) (f y (reader y m)))))

      passed : (a b c d : Bool) (x : Effect) → a ≡ false → b ≡ true → c ≡ false → d ≡ true
          → cond a (refuse 2) (cond (not b) (refuse 3) (cond c (refuse 2) (cond (not d) (refuse 3) x))) ≡ x
      passed a b c d x ea eb ec ed = rw (ea, eb, ec, ed) refl
