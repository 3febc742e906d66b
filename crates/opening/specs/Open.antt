-- *Open* by its tests, and zeros from word 0 on.
use Rattle.std.specs.Prelude.{◌≡◌, true, false, List, [], ◌++◌, ℕ, ◌≤◌, ◌<◌, length, drop, replicate, Ok, Err}
use Rattle.std.proofs.Math.Path.{refl}
use Rattle.std.proofs.Common.{◌∙◌, zero-add, arith}
use Rattle.std.proofs.Math.Bool.{or-true}
use Rattle.std.proofs.lemmas.List.{length-replicate}
use Rattle.std.proofs.lemmas.List.Edits.{sets, sets-eq}
use borrow.Author.Tests.{lt-ltb, le-ltb}
use Rattle.rules.specs.Sizes.{Sizes, sizes_in_range, store_words}
use Rattle.rules.specs.Request.{opened, open_store}
use Rattle.store.specs.declared.Refusal.TheVariants as refusal
use Rattle.store.specs.declared.Reply.TheVariants.{Done}
use Rattle.store.specs.Outcome.{left}

module _ (z : Sizes) (m : List ℕ) where
  pub open_out : sizes_in_range z ≡ false → left (Err refusal.Sizes) m [] 0 ≡ open_store z m
  unfolding open_store
  open_out e = rw e refl

  pub open_short : sizes_in_range z ≡ true → length m < store_words z → left (Err refusal.Short) m [] 0 ≡ open_store z m
  unfolding open_store
  open_short e h = rw (e, lt-ltb (length m) (store_words z) h, or-true) refl

  pub open_made : sizes_in_range z ≡ true → store_words z ≤ length m → 16 ≤ length m → left (Ok Done) (opened z m) [] 0 ≡ open_store z m
  unfolding open_store
  open_made e h l = rw (e, le-ltb (length m) 16 l, le-ltb (length m) (store_words z) h) refl

pub cleared : (n : ℕ) (m : List ℕ) → n ≤ length m → sets m 0 (replicate n 0) ≡ replicate n 0 ++ drop n m
cleared n m h = sets-eq (replicate n 0) m 0 (simp length-replicate (omega arith)) ∙ rw (length-replicate, zero-add) refl
